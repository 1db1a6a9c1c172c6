-- Which replies are allowed in a world.
use Rattle.std.specs.Prelude.{◌≡◌, ℕ, ◌+◌, Bool, true, false, not, ◌&&◌, ◌==◌, ◌⊎◌, Option, Some, None, List, [], length, map, filter, IsTrue, MatchOption}
use Rattle.std.specs.List.{list_all, AllByRecursion}
use Rattle.object_graph.specs.NameParts.{NameParts}
use Rattle.object_graph.specs.Slots.{has_slot, slots_in}
use Rattle.object_graph.specs.declared.calls.Call.{Call}
use Rattle.object_graph.specs.declared.calls.Call.TheVariants.{Begin, Get, Number, Set, Put, New, Commit, Abort, OpenCut, Copy, HandIn, Close, Mark, Sweep, EndCut, DropCut, Reopen}
use Rattle.object_graph.specs.declared.calls.Reply.{Reply}
use Rattle.object_graph.specs.declared.calls.Reply.TheVariants.{Done, Ref, Num, Made, Committed, Cut, Freed, Reopened, Refused}
use Rattle.object_graph.specs.declared.calls.Refusal.{Refusal}
use Rattle.object_graph.specs.declared.calls.Refusal.TheVariants.{DiskFault, Memory}
use Rattle.object_graph.specs.Graphs.{has_name, objects_at}
use Rattle.store_model.specs.Worlds.{World, Opening, Doubt, no_doubt, commit_in_doubt, sweep_in_doubt, Note, nothing, faults, images, marks, found, Event, is_freed, is_unfreed, unfreed, is_old, IsOutOfReach, IsLost}
use Rattle.store_model.specs.Causes.{first_refusal, field_seen, number_seen, new_name}

-- the names that go where these slots of a page are freed
abbrev pub names_in : World → ℕ → ℕ → List NameParts
names_in w page slots = map (λ o. o.name) (filter (λ o. (o.name.page == page)
    && has_slot slots o.name.slot) (unfreed w))

-- the name was there as the cut opened, and nothing leads to it now
pub record IsGarbage (w : World) (opening : Opening) (name : NameParts) : Type 0 where
  pub old : IsTrue (is_old opening name)
  pub out : IsOutOfReach w name

-- a sweep of the page may free this set of slots
pub record MayFree (w : World) (opening : Opening) (page slots : ℕ) : Type 0 where
  pub one_each : IsTrue (list_all (λ slot. length (filter (is_unfreed w.freed) (objects_at w.graph page slot)) == 1)
      (slots_in slots))
  pub safe : AllByRecursion (IsGarbage w opening) (names_in w page slots)
  pub complete : (name : NameParts) → IsLost opening name → name.page ≡ page → IsTrue (not (is_freed w name))
      → IsTrue (has_name (names_in w page slots) name)

-- with no cut nothing may be freed
abbrev pub MayFreeNow : World → ℕ → ℕ → Type 0
MayFreeNow w page slots = MatchOption w.cut ⊥ (λ cut. MayFree w cut.opening page slots)

-- the names found freed after a reopening
abbrev pub found_in : Note → List NameParts
found_in (found names) = names
found_in _ = []

-- what a sweep in doubt may have freed
abbrev pub MayBeFound : World → ℕ → List NameParts → Type 0
MayBeFound w page names = (names ≡ []) ⊎ ((slots : ℕ) × MayFreeNow w page slots × (names ≡ names_in w page slots))

-- a reopening may find this commit number and these names freed
abbrev pub MayReopen : World → Doubt → ℕ → List NameParts → Type 0
MayReopen w no_doubt commits names = (commits ≡ w.commits) × (names ≡ [])
MayReopen w (commit_in_doubt t) commits names = ((commits ≡ w.commits) ⊎ (commits ≡ w.commits + 1)) × (names ≡ [])
MayReopen w (sweep_in_doubt page) commits names = (commits ≡ w.commits) × MayBeFound w page names

-- the answer to a sweep, and to a reopening
abbrev pub AnswersSweep : World → ℕ → Reply → Type 0
AnswersSweep w page (Freed slots) = MayFreeNow w page slots
AnswersSweep w page _ = ⊥

abbrev pub AnswersReopen : World → Note → Reply → Type 0
AnswersReopen w note (Reopened commits) = MayReopen w w.doubt commits (found_in note)
AnswersReopen w note _ = ⊥

-- the answer to a call for a new object: its name, where there is one
abbrev pub AnswersNew : Option NameParts → Reply → Type 0
AnswersNew None reply = ⊥
AnswersNew (Some name) reply = reply ≡ Made name

-- the answers to a call that isn't refused
abbrev pub Answers : World → Call → Note → Reply → Type 0
Answers w (Begin t) note reply = reply ≡ Done
Answers w (Get t name field) note reply = reply ≡ Ref (field_seen w t name field)
Answers w (Number t name) note reply = reply ≡ Num (number_seen w t name)
Answers w (Set t name field target) note reply = reply ≡ Done
Answers w (Put t name value) note reply = reply ≡ Done
Answers w (New t page) note reply = AnswersNew (new_name w t page) reply
Answers w (Commit t) note reply = reply ≡ Committed (w.commits + 1)
Answers w (Abort t) note reply = reply ≡ Done
Answers w OpenCut note reply = reply ≡ Cut (w.last_cut + 1)
Answers w (Copy page) note reply = reply ≡ Done
Answers w (HandIn page number seen) note reply = reply ≡ Done
Answers w Close note reply = reply ≡ Done
Answers w (Mark workers) note reply = reply ≡ Done
Answers w (Sweep page) note reply = AnswersSweep w page reply
Answers w EndCut note reply = reply ≡ Done
Answers w DropCut note reply = reply ≡ Done
Answers w Reopen note reply = AnswersReopen w note reply

-- a refusal that may come where no cause is met
abbrev pub may_lack_memory : Call → Bool
may_lack_memory (Begin t) = true
may_lack_memory OpenCut = true
may_lack_memory Reopen = true
may_lack_memory _ = false

abbrev pub may_fail : Call → Bool
may_fail (Commit t) = true
may_fail (Sweep page) = true
may_fail Reopen = true
may_fail _ = false

abbrev pub is_free : Call → Refusal → Bool
is_free call Memory = may_lack_memory call
is_free call DiskFault = may_fail call
is_free call _ = false

-- the refusal is the first whose cause is met; where none is, a free one
abbrev pub Refuses : World → Call → Note → Refusal → Type 0
Refuses w call note why = MatchOption (first_refusal w call note) (IsTrue (is_free call why)) (λ first. why ≡ first)

-- the reply to a call may be this
abbrev pub AllowsReply : World → Call → Note → Reply → Type 0
AllowsReply w call note (Refused why) = Refuses w call note why
AllowsReply w call note reply = (first_refusal w call note ≡ None) × Answers w call note reply

-- a note of the kind that goes with a call and its reply
abbrev pub has_note : Call → Reply → Note → Bool
has_note call (Refused DiskFault) (faults count) = true
has_note Close Done images = true
has_note (Mark workers) reply (marks number) = true
has_note Reopen (Reopened commits) (found names) = true
has_note call (Refused DiskFault) note = false
has_note Close Done note = false
has_note (Mark workers) reply note = false
has_note Reopen (Reopened commits) note = false
has_note call reply nothing = true
has_note call reply note = false

-- the event is allowed in the world
abbrev pub Allows : World → Event → Type 0
Allows w e = IsTrue (has_note e.entry.call e.entry.reply e.note) × AllowsReply w e.entry.call e.note e.entry.reply
