-- Replies to calls that nothing refuses, or nothing but want of memory and a fault of the disk.
use Rattle.std.proofs.Common.{◌≡◌, ◌≢◌, refl, sym, ◌∙◌, subst, true, false, ◌⊎◌, inl, inr, None, [], ◌∷◌}
use Rattle.disk_trait.specs.declared.disk.Disk.{Ghosts as DiskOf}
use Rattle.object_graph.specs.declared.calls.Call.{Call}
use Rattle.object_graph.specs.declared.calls.Call.TheVariants.{Reopen}
use Rattle.object_graph.specs.declared.calls.Reply.{Reply}
use Rattle.object_graph.specs.declared.calls.Reply.TheVariants.{Refused}
use Rattle.object_graph.specs.declared.calls.Refusal.{Refusal}
use Rattle.object_graph.specs.declared.calls.Refusal.TheVariants.{Memory, DiskFault}
use Rattle.store_model.specs.Worlds.{World, Note}
use Rattle.store_model.specs.Causes.{first_refusal}
use Rattle.store_model.specs.Replies.{AllowsReply, Answers, is_free, may_lack_memory, may_fail}
use Rattle.store_model.specs.Steps.{after_reply, after_answer}
use Rattle.store_model.specs.Histories.{is_refused}
use Rattle.cut_core.specs.Seen.{Seen}
use Rattle.store_machine.specs.Acts.{Answered}
use Rattle.generator.specs.Rounds.{caller_entry}
use Rattle.generator.specs.Between.{IsNeverRefused, IsOnlyStopped}
use Rattle.generator.specs.Making.{MadeEntries, Replied, why_of}
use Rattle.generator.specs.declared.asking.Stop.{Stop}
use Rattle.generator.proofs.Alone.{free_alone}
use Rattle.generator.proofs.Joins.{Happened, happened, made_once}

-- ---- calls without a cause to refuse them

pub never_free : (call : Call) (why : Refusal) → may_lack_memory call ≡ false → may_fail call ≡ false → is_free call why ≡ true → ⊥
never_free call Memory m f h = cc
never_free call DiskFault m f h = cc
never_free call _ m f h = cc

pub never_refused : (w : World) (call : Call) → may_lack_memory call ≡ false → may_fail call ≡ false → ((note : Note) → first_refusal w call note ≡ None) → IsNeverRefused w call
never_refused w call m f none note why may = never_free call why m f (free_alone w call note why (none note) may)

free_stops : (call : Call) (why : Refusal) → is_free call why ≡ true → (why ≡ Memory) ⊎ (why ≡ DiskFault)
free_stops call Memory h = inl refl
free_stops call DiskFault h = inr refl
free_stops call _ h = cc

pub only_stopped : (w : World) (call : Call) → ((note : Note) → first_refusal w call note ≡ None) → IsOnlyStopped w call
only_stopped w call none note why present may = free_stops call why (free_alone w call note why (none note) may)

-- ---- replies

-- a reply that is no refusal is the call's answer
record IsAnswer (w : World) (call : Call) (note : Note) (reply : Reply) : Type 0 where
  unrefused : is_refused reply ≡ false
  answers : Answers w call note reply
  is : after_reply w call note reply ≡ after_answer w call note reply

is_answer : (w : World) (call : Call) (note : Note) (reply : Reply) → ((why : Refusal) → reply ≡ Refused why → ⊥) → AllowsReply w call note reply → IsAnswer w call note reply
is_answer w call note (Refused why) not may = absurd (not why refl)
is_answer w call note reply not may = record { unrefused = refl; answers = may.1; is = refl }

module _ {D : Type 0} (disks : DiskOf D) where
  replied : (old new : Seen D) (call : Call) (reply : Reply) → (a : Answered disks old new call reply) → Happened old.world call reply a.note new.world
      → ((why : Refusal) → reply ≡ Refused why → ⊥) → Replied disks old new call reply
  replied old new call reply a h not =
      let answer = is_answer old.world call a.note reply not h.allowed.1 in
      record { made = made_once disks old new call reply a h; unrefused = answer.unrefused; note = a.note; answers = answer.answers; is = h.is ∙ answer.is }

  pub told : (old new : Seen D) (call : Call) (reply : Reply) → call ≢ Reopen → IsNeverRefused old.world call → Answered disks old new call reply → Replied disks old new call reply
  told old new call reply other never a =
      let h = happened _ old.world new.world call reply a.note other a.acts.runs in
      replied old new call reply a h (λ why e. never a.note why (subst (λ (r : Reply). AllowsReply old.world call a.note r) e h.allowed.1))

  pub asked : (old new : Seen D) (call : Call) (reply : Reply) → call ≢ Reopen → ((why : Refusal) → reply ≡ Refused why → ⊥) → Answered disks old new call reply
      → Replied disks old new call reply
  asked old new call reply other not a = replied old new call reply a (happened _ old.world new.world call reply a.note other a.acts.runs) not

  pub stopped : (old new : Seen D) (call : Call) (why : Refusal) (stop : Stop) → call ≢ Reopen → Answered disks old new call (Refused why) → why_of stop ≡ why
      → MadeEntries disks old new (caller_entry call (Refused (why_of stop)) ∷ [])
  stopped old new call why stop other a e =
      subst (λ (r : Refusal). MadeEntries disks old new (caller_entry call (Refused r) ∷ [])) (sym e)
      (made_once disks old new call (Refused why) a (happened _ old.world new.world call (Refused why) a.note other a.acts.runs))

  pub stops : (old new : Seen D) (call : Call) (why : Refusal) → call ≢ Reopen → IsOnlyStopped old.world call → Answered disks old new call (Refused why) → (why ≡ Memory) ⊎ (why ≡ DiskFault)
  stops old new call why other only a =
      let h = happened _ old.world new.world call (Refused why) a.note other a.acts.runs in
      only a.note why h.marks h.allowed.1
