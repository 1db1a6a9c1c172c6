-- What one event does to a core.
use Rattle.std.specs.Prelude.{◌≡◌, ◌≢◌, ℕ, List, [], ◌∷◌, None, IfSome, is_some, IsTrue}
use Rattle.object_graph.specs.NameParts.{NameParts}
use Rattle.object_graph.specs.declared.calls.Call.TheVariants.{Reopen}
use Rattle.object_graph.specs.declared.calls.Reply.{Reply}
use Rattle.object_graph.specs.declared.calls.Reply.TheVariants.{Refused}
use Rattle.object_graph.specs.declared.calls.Refusal.TheVariants.{DiskFault}
use Rattle.disk_trait.specs.declared.disk.Disk.{Ghosts as DiskOf}
use Rattle.disk_trait.specs.Causes.{Rose}
use Rattle.disk_trait.specs.DiskFacts.{LeavesOnly, KeepsDisk}
use Rattle.store_model.specs.Worlds.{World, Event as Happening, found}
use Rattle.store_model.specs.Faults.{FaultsAscend}
use Rattle.store_model.specs.Replies.{Allows}
use Rattle.store_model.specs.Steps.{next}
use Rattle.image_model.specs.Stands.{StandsForWorld}
use Rattle.cut_model.specs.CutPages.{CutPage}
use Rattle.cut_builder.specs.CutParts.{ClosedParts}
use Rattle.cut_core.specs.Given.{HasGiven}
use Rattle.cut_core.specs.Seen.{Seen, StandsForEither}
use Rattle.store_desk.specs.Chronicles.{IsKnown, KeepsCut}
use Rattle.store_desk.specs.Events.{entry, told, Keeps}
use Rattle.store_desk.specs.declared.event.Event.{Event}

-- the core did what the event says, and each crash left the world before or the world after
pub record Happened {D : Type 0} (disks : DiskOf D) (old new : Seen D) (e : Event) : Type 0 where
  pub allowed : IsKnown (disks.content old.disk) (told e ∷ []) → Allows old.world (told e)
  pub is : IsKnown (disks.content old.disk) (told e ∷ []) → new.world ≡ next old.world (told e)
  pub pages : new.world.pages ≡ old.world.pages
  pub cut : KeepsCut old.world e.note
  pub given : (number : ℕ) (pages : List CutPage) → HasGiven old.world old.beside number pages
      → HasGiven new.world new.beside number pages
  pub gives : (cut : ClosedParts) → Keeps e.note cut → HasGiven new.world new.beside cut.number cut.pages
  pub keeps : KeepsDisk disks old.disk new.disk
  pub any_moment : IfSome (disks.content old.disk)
      (λ _. LeavesOnly disks old.disk new.disk (StandsForEither old.world new.world))
  pub now : IfSome (disks.content new.disk) (λ _. (file : List ℕ) → disks.may_leave new.disk file
      → StandsForWorld file new.world)
  pub faults : FaultsAscend (disks.fault_count old.disk) (disks.fault_count new.disk) (told e ∷ [])
  pub calm : e.entry.reply ≢ Refused DiskFault → disks.fault_count new.disk ≡ disks.fault_count old.disk
  pub cause : old.world.broken ≡ None → IsTrue (is_some new.world.broken)
      → Rose (disks.fault_count old.disk) (disks.fault_count new.disk)

-- a reopening that found these names freed
abbrev pub reopening : Reply → List NameParts → Happening
reopening reply names = record { entry = entry 1 Reopen reply; note = found names }

-- with these names the reopening is one that the model allows
pub record FindsFreed (old new : World) (reply : Reply) (names : List NameParts) : Type 0 where
  pub allowed : Allows old (reopening reply names)
  pub is : new ≡ next old (reopening reply names)
