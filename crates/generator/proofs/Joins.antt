-- Entries made one after the other.
use Rattle.std.proofs.Common.{◌≡◌, ◌≢◌, refl, sym, ap, ◌∙◌, subst, Bool, inl, inr, List, [], ◌∷◌, ◌++◌}
use Rattle.disk_trait.specs.declared.disk.Disk.{Ghosts as DiskOf}
use Rattle.object_graph.specs.declared.calls.Call.{Call}
use Rattle.object_graph.specs.declared.calls.Call.TheVariants.{Reopen}
use Rattle.object_graph.specs.declared.calls.Reply.{Reply}
use Rattle.object_graph.specs.declared.calls.Entry.{Entry}
use Rattle.store_model.specs.Worlds.{World, Event, Note}
use Rattle.store_model.specs.Replies.{Allows}
use Rattle.store_model.specs.Steps.{next}
use Rattle.store_model.specs.Histories.{after, IsLegal, IsScriptRun, HasPresentMarks}
use Rattle.store_model.proofs.Parts.{after-append, IsLegal-append, IsRun-append}
use Rattle.cut_core.specs.Seen.{Seen}
use Rattle.store_machine.specs.Acts.{Acts, Answered, IsLegalRun, RunsTo, event_with}
use Rattle.store_machine.proofs.Acting.{acts_join}
use Rattle.generator.specs.Rounds.{caller_entry, entries_of}
use Rattle.generator.specs.Making.{MadeEntries}
use Rattle.generator.proofs.Rounds.{entries_join}

-- a run in two parts
legal_join : (w mid last : World) (history part : List Event) → IsLegalRun w history mid → IsLegalRun mid part last → IsLegalRun w (history ++ part) last
legal_join w mid last history part x y = record {
  legal = IsLegal-append w history part x.legal (subst (λ (v : World). IsLegal v part) x.last_is y.legal);
  is_run = IsRun-append w history part x.is_run (subst (λ (v : World). IsScriptRun v part) x.last_is y.is_run);
  last_is = y.last_is ∙ (ap (λ v. after v part) x.last_is ∙ sym (after-append w history part));
}

-- what a call that isn't a reopening did
pub record Happened (w : World) (call : Call) (reply : Reply) (note : Note) (last : World) : Type 0 where
  pub marks : HasPresentMarks w call note
  pub allowed : Allows w (event_with call reply note)
  pub is : last ≡ next w (event_with call reply note)

pub happened : (told : Bool) (w last : World) (call : Call) (reply : Reply) (note : Note) → call ≢ Reopen → RunsTo told w (event_with call reply note ∷ []) last
    → Happened w call reply note last
happened told w last call reply note other r = elim r.1.is [
  | inl h ↦ record { marks = r.1.marks; allowed = h.0; is = r.2 ∙ h.1 }
  | inr h ↦ absurd (other h.1.call)
]

happened_legal : (w last : World) (call : Call) (reply : Reply) (note : Note) → Happened w call reply note last → IsLegalRun w (event_with call reply note ∷ []) last
happened_legal w last call reply note h = record { legal = (h.allowed, tt); is_run = record { lane = (refl, tt); marks = (h.marks, tt) }; last_is = h.is }

module _ {D : Type 0} (disks : DiskOf D) where
  pub made_join : (a b c : Seen D) (es fs : List Entry) → MadeEntries disks a b es → MadeEntries disks b c fs → MadeEntries disks a c (es ++ fs)
  made_join a b c es fs x y = record {
    history = x.history ++ y.history;
    acts = acts_join disks a b c x.history y.history x.acts y.acts;
    legal = legal_join a.world b.world c.world x.history y.history x.legal y.legal;
    are = entries_join x.history y.history ∙ (ap (λ h. h ++ entries_of y.history) x.are ∙ ap (λ h. es ++ h) y.are);
  }

  pub made_none : (s : Seen D) → Acts disks s s [] → MadeEntries disks s s []
  made_none s acts = record { history = []; acts = acts; legal = record { legal = tt; is_run = record { lane = tt; marks = tt }; last_is = refl }; are = refl }

  pub made_once : (old new : Seen D) (call : Call) (reply : Reply) → (a : Answered disks old new call reply) → Happened old.world call reply a.note new.world
      → MadeEntries disks old new (caller_entry call reply ∷ [])
  made_once old new call reply a h =
      record { history = event_with call reply a.note ∷ []; acts = a.acts; legal = happened_legal old.world new.world call reply a.note h; are = refl }
