-- What a reopening finds, and what it leaves.
use Rattle.std.specs.Prelude.{◌≡◌, ℕ, Bool, true, false, List, length, None}
use Rattle.object_graph.specs.NameParts.{NameParts}
use Rattle.object_graph.specs.SlotParts.{SlotParts}
use Rattle.object_graph.specs.declared.calls.Call.{Call}
use Rattle.object_graph.specs.declared.calls.Refusal.{Refusal}
use Rattle.object_graph.specs.declared.calls.Refusal.TheVariants.{DiskFault, NotAStore, Damaged, Memory}
use Rattle.object_graph.specs.declared.calls.Reply.{Reply}
use Rattle.object_graph.specs.declared.calls.Reply.TheVariants.{Reopened, Refused}
use Rattle.store_model.specs.FromImages.{world_of}
use Rattle.store_model.specs.Images.{all_shown}
use Rattle.store_model.specs.Worlds.{World, Note, nothing, faults, found}
use Rattle.store_model.specs.Replies.{Allows, MayReopen}
use Rattle.store_model.specs.Steps.{next, reopened}
use Rattle.image_model.specs.Opening.{StoreParts, store_images}
use Rattle.image_model.specs.Stands.{world_held}
use Rattle.recovery.specs.declared.faults.OpenFault.{OpenFault}
use Rattle.recovery.specs.declared.faults.OpenFault.TheVariants as faulty

-- numbers of cuts go on through a reopening
abbrev pub with_last_cut : ℕ → World → World
with_last_cut number w = record w { last_cut = number }

-- the names that a reopening of this world found freed, which then shows what the store holds
pub record FindsNames (w : World) (held : StoreParts) : Type 0 where
  pub names : List NameParts
  pub may : MayReopen w w.doubt held.commits names
  pub shows : store_images held ≡ all_shown (reopened w held.commits names)

-- the world after it: by what was found, where the disk tells; else the one that the store opens to
pub record IsFound (told : Bool) (w : World) (held : StoreParts) (next : World) : Type 0 where
  pub known : told ≡ true → (f : FindsNames w held) × (next ≡ reopened w held.commits f.names)
  pub other : told ≡ false → next ≡ with_last_cut w.last_cut (world_held held)

-- the world after a reopening that the model allows
pub record IsReopened (w : World) (commits : ℕ) (after : World) : Type 0 where
  pub names : List NameParts
  pub may : MayReopen w w.doubt commits names
  pub is : after ≡ reopened w commits names

-- a world of as many pages and so many commits, just opened again
pub record IsOpenedAnew (w : World) (commits : ℕ) (after : World) : Type 0 where
  pub images : List (List SlotParts)
  pub pages : length images ≡ w.pages
  pub is : after ≡ with_last_cut w.last_cut (world_of commits images)

-- as many pages, no cut, and the number of the last one stays
pub record HasNoCut (w after : World) : Type 0 where
  pub pages : after.pages ≡ w.pages
  pub last : after.last_cut ≡ w.last_cut
  pub cut : after.cut ≡ None

-- why a store isn't opened, as a refusal
abbrev pub refusal_of : OpenFault → Refusal
refusal_of faulty.DiskFault = DiskFault
refusal_of faulty.NotAStore = NotAStore
refusal_of (faulty.Damaged at) = Damaged at
refusal_of faulty.Memory = Memory

-- the note that a reply may have: for a disk fault the disk's count, for a reopening the names found freed
abbrev pub IsNoteOf : Reply → ℕ → Note → Type 0
IsNoteOf (Refused DiskFault) count note = note ≡ faults count
IsNoteOf (Reopened commits) count note = (names : List NameParts) × (note ≡ found names)
IsNoteOf reply count note = note ≡ nothing

-- it is the reply to a reopening: so many commits were found, or it is refused
abbrev pub IsOfReopening : Reply → Type 0
IsOfReopening (Reopened commits) = Unit {0}
IsOfReopening (Refused why) = Unit {0}
IsOfReopening reply = ⊥

-- the reply is allowed under such a note, and this is the next world
pub record Happens (w : World) (call : Call) (reply : Reply) (count : ℕ) (after : World) : Type 0 where
  pub note : Note
  pub is_note : IsNoteOf reply count note
  pub allowed : Allows w (record { entry = record { lane = 1; call = call; reply = reply }; note = note })
  pub is : after ≡ next w (record { entry = record { lane = 1; call = call; reply = reply }; note = note })
