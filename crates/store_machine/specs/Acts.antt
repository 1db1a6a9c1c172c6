-- What the calls of a history did to a store and to its disk.
use Rattle.std.specs.Prelude.{◌≡◌, ◌⊎◌, ℕ, Bool, false, List, [], ◌∷◌, ◌++◌, None, IfSome, is_some, IsTrue}
use Rattle.disk_trait.specs.declared.disk.Disk.{Ghosts as DiskOf}
use Rattle.disk_trait.specs.Causes.{Rose}
use Rattle.disk_trait.specs.DiskFacts.{LeavesOnly, KeepsDisk}
use Rattle.object_graph.specs.declared.calls.Call.{Call}
use Rattle.object_graph.specs.declared.calls.Call.TheVariants.{Reopen}
use Rattle.object_graph.specs.declared.calls.Reply.{Reply}
use Rattle.object_graph.specs.declared.calls.Reply.TheVariants.{Reopened, Refused}
use Rattle.store_model.specs.Worlds.{World, Event, Note}
use Rattle.store_model.specs.Faults.{FaultsAscend}
use Rattle.store_model.specs.Replies.{Allows}
use Rattle.store_model.specs.Steps.{next}
use Rattle.store_model.specs.Histories.{after, IsLegal, IsScriptRun, HasPresentMarks}
use Rattle.image_model.specs.Stands.{StandsForWorld}
use Rattle.cut_core.specs.Reopening.{IsOpenedAnew}
use Rattle.cut_core.specs.Seen.{Seen}
use Rattle.store_machine.specs.Faults.{NoneFailed}

-- ---- how a store goes on

-- What a reopening finds on a disk that doesn't tell what it holds: some world, just opened, or none, and then all is
-- as before.
abbrev pub FindsAnew : World → Reply → World → Type 0
FindsAnew w (Reopened commits) found = IsOpenedAnew w commits found
FindsAnew w (Refused why) found = found ≡ w
FindsAnew w reply found = ⊥

pub record ReopensAnew (w : World) (e : Event) (found : World) : Type 0 where
  pub call : e.entry.call ≡ Reopen
  pub finds : FindsAnew w e.entry.reply found

-- An event of a run, in the world before it, and the world after it: by the model, but for a reopening over a disk
-- that doesn't tell.
pub record StepsTo (told : Bool) (w : World) (e : Event) (to : World) : Type 0 where
  pub lane : e.entry.lane ≡ 1
  pub marks : HasPresentMarks w e.entry.call e.note
  pub is : (Allows w e × (to ≡ next w e)) ⊎ ((told ≡ false) × ReopensAnew w e to)

-- the events one after the other lead from the one world to the other
abbrev pub RunsTo : Bool → World → List Event → World → Type 0
RunsTo told w [] last = last ≡ w
RunsTo told w (e ∷ events) last = (to : World) × StepsTo told w e to × RunsTo told to events last

-- the history is legal from the world, and this is the world after it
pub record IsLegalRun (w : World) (history : List Event) (last : World) : Type 0 where
  pub legal : IsLegal w history
  pub is_run : IsScriptRun w history
  pub last_is : last ≡ after w history

-- ---- what a crash leaves

-- the file stands for the world after some first events of the history
pub record StandsForFront (w : World) (history : List Event) (file : List ℕ) : Type 0 where
  pub done : List Event
  pub later : List Event
  pub split : history ≡ done ++ later
  pub stands : StandsForWorld file (after w done)

-- ---- the whole

-- the store made this history, and each crash leaves the world after some first events of it
pub record Acts {D : Type 0} (disks : DiskOf D) (old new : Seen D) (history : List Event) : Type 0 where
  pub runs : RunsTo (is_some (disks.content old.disk)) old.world history new.world
  pub keeps : KeepsDisk disks old.disk new.disk
  pub any_moment : IfSome (disks.content old.disk)
      (λ _. LeavesOnly disks old.disk new.disk (StandsForFront old.world history))
  pub now : IfSome (disks.content new.disk) (λ _. (file : List ℕ) → disks.may_leave new.disk file
      → StandsForWorld file new.world)
  pub faults : FaultsAscend (disks.fault_count old.disk) (disks.fault_count new.disk) history
  pub calm : NoneFailed history → disks.fault_count new.disk ≡ disks.fault_count old.disk
  pub cause : old.world.broken ≡ None → IsTrue (is_some new.world.broken)
      → Rose (disks.fault_count old.disk) (disks.fault_count new.disk)

-- a call of the one caller with its reply, and what the reply doesn't tell
abbrev pub event_with : Call → Reply → Note → Event
event_with call reply note = record { entry = record { lane = 1; call = call; reply = reply }; note = note }

-- the store answered one call
pub record Answered {D : Type 0} (disks : DiskOf D) (old new : Seen D) (call : Call) (reply : Reply) : Type 0 where
  pub note : Note
  pub acts : Acts disks old new (event_with call reply note ∷ [])
