-- Worked scripts with their replies, as histories; the last ones are no histories of the store.
use Rattle.std.specs.Prelude.{ℕ, ◌++◌, Some, None, List, [], ◌∷◌, map}
use Rattle.object_graph.specs.NameParts.{NameParts}
use Rattle.object_graph.specs.declared.calls.Phase.TheVariants.{Closed}
use Rattle.object_graph.specs.declared.calls.Call.{Call}
use Rattle.object_graph.specs.declared.calls.Call.TheVariants.{Begin, Get, Number, Set, Put, New, Commit, Abort, OpenCut, Copy, HandIn, Close, Mark, Sweep, EndCut, DropCut, Reopen}
use Rattle.object_graph.specs.declared.calls.Reply.{Reply}
use Rattle.object_graph.specs.declared.calls.Reply.TheVariants.{Done, Ref, Num, Made, Committed, Cut, Freed, Reopened, Refused}
use Rattle.object_graph.specs.declared.calls.Refusal.{Refusal}
use Rattle.object_graph.specs.declared.calls.Refusal.TheVariants.{NotOpen, Stranger, BadField, NoPage, Busy, PageFull, AlreadyOpen, TooMany, CutThere, NoCut, WrongPhase, AlreadyCopied, Uncopied, AlreadySwept, Unswept, DiskFault, Broken, OtherCut, Memory}
use Rattle.object_graph.specs.declared.limits.TheConstants.{MOST_OPEN}
use Rattle.object_graph.specs.Slots.{below}
use Rattle.store_model.specs.Worlds.{Note, nothing, faults, images, marks, found, Event}

-- ---- words of the scripts

abbrev pub name_of : ℕ → ℕ → ℕ → NameParts
name_of page slot generation = record { page = page; slot = slot; generation = generation }

abbrev pub root : NameParts
root = name_of 0 0 1

abbrev pub noted : Note → Call → Reply → Event
noted note call reply = record { entry = record { lane = 1; call = call; reply = reply }; note = note }

abbrev pub said : Call → Reply → Event
said call reply = noted nothing call reply

abbrev pub refused : Call → Refusal → Event
refused call why = said call (Refused why)

-- a cut that closes, and whose marks are given
abbrev pub closing : List Event
closing = noted images Close Done ∷ noted (marks (Some 1)) (Mark 1) Done ∷ []

-- ---- transactions

abbrev pub a_number_is_put : List Event
a_number_is_put =
    said (Begin 1) Done ∷ said (Number 1 root) (Num 0) ∷ said (Put 1 root 7) Done ∷ said (Number 1 root) (Num 7)
    ∷ said (Commit 1) (Committed 1)
    ∷ said (Begin 2) Done ∷ said (Number 2 root) (Num 7) ∷ []

abbrev pub a_transaction_opens_once : List Event
a_transaction_opens_once =
    refused (Number 1 root) NotOpen ∷ said (Begin 1) Done ∷ refused (Begin 1) AlreadyOpen
    ∷ refused (Number 1 (name_of 1 0 1)) Stranger ∷ refused (Commit 2) NotOpen
    ∷ said (Commit 1) (Committed 1) ∷ []

-- as many transactions as may be open at once, and one more
abbrev pub too_many_begin : List Event
too_many_begin = map (λ number. said (Begin number) Done) (below MOST_OPEN) ++ refused (Begin MOST_OPEN) TooMany ∷ []

-- the first four events of two transactions that read the root
abbrev pub two_readers : List Event
two_readers = said (Begin 1) Done ∷ said (Begin 2) Done ∷ said (Number 1 root) (Num 0) ∷ said (Number 2 root) (Num 0)
    ∷ []

abbrev pub a_lock_conflict_is_busy : List Event
a_lock_conflict_is_busy =
    two_readers ++ refused (Put 2 root 5) (Busy 1) ∷ said (Abort 1) Done ∷ said (Put 2 root 5) Done
    ∷ said (Commit 2) (Committed 1) ∷ []

abbrev pub twenty_new : List Event
twenty_new =
    said (New 1 1) (Made (name_of 1 0 1)) ∷ said (New 1 1) (Made (name_of 1 1 1))
    ∷ said (New 1 1) (Made (name_of 1 2 1)) ∷ said (New 1 1) (Made (name_of 1 3 1))
    ∷ said (New 1 1) (Made (name_of 1 4 1)) ∷ said (New 1 1) (Made (name_of 1 5 1))
    ∷ said (New 1 1) (Made (name_of 1 6 1)) ∷ said (New 1 1) (Made (name_of 1 7 1))
    ∷ said (New 1 1) (Made (name_of 1 8 1)) ∷ said (New 1 1) (Made (name_of 1 9 1))
    ∷ said (New 1 1) (Made (name_of 1 10 1)) ∷ said (New 1 1) (Made (name_of 1 11 1))
    ∷ said (New 1 1) (Made (name_of 1 12 1)) ∷ said (New 1 1) (Made (name_of 1 13 1))
    ∷ said (New 1 1) (Made (name_of 1 14 1)) ∷ said (New 1 1) (Made (name_of 1 15 1))
    ∷ said (New 1 1) (Made (name_of 1 16 1)) ∷ said (New 1 1) (Made (name_of 1 17 1))
    ∷ said (New 1 1) (Made (name_of 1 18 1)) ∷ said (New 1 1) (Made (name_of 1 19 1)) ∷ []

abbrev pub a_page_fills : List Event
a_page_fills =
    said (Begin 1) Done ∷ (twenty_new ++ refused (New 1 1) (PageFull 1) ∷ said (Commit 1) (Committed 1)
    ∷ said (Begin 2) Done ∷ refused (New 2 1) (PageFull 1)
    ∷ said (Begin 3) Done ∷ refused (New 3 1) (PageFull 1) ∷ [])

abbrev pub refusals_come_in_order : List Event
refusals_come_in_order =
    said (Begin 1) Done ∷ said (New 1 1) (Made (name_of 1 0 1)) ∷ said (Commit 1) (Committed 1) ∷ said (Begin 2) Done
    ∷ refused (Number 2 (name_of 1 0 1)) Stranger
    ∷ refused (Get 2 root 4) BadField ∷ refused (New 2 2) NoPage ∷ refused (Number 9 root) NotOpen ∷ []

-- ---- cuts

-- a chain of three objects is made, and unlinked from the root
abbrev pub a_chain_is_unlinked : List Event
a_chain_is_unlinked =
    said (Begin 1) Done ∷ said (New 1 1) (Made (name_of 1 0 1)) ∷ said (New 1 1) (Made (name_of 1 1 1))
    ∷ said (New 1 1) (Made (name_of 1 2 1))
    ∷ said (Set 1 (name_of 1 0 1) 0 (Some (name_of 1 1 1))) Done
    ∷ said (Set 1 (name_of 1 1 1) 0 (Some (name_of 1 2 1))) Done ∷ said (Set 1 root 0 (Some (name_of 1 0 1))) Done
    ∷ said (Commit 1) (Committed 1) ∷ said (Begin 2) Done ∷ said (Set 2 root 0 None) Done
    ∷ said (Commit 2) (Committed 2) ∷ []

-- a cut is opened, copied, closed and marked
abbrev pub a_cut_is_marked : List Event
a_cut_is_marked = said OpenCut (Cut 1) ∷ said (Copy 0) Done ∷ said (Copy 1) Done ∷ closing

abbrev pub a_chain_unlinked_is_collected : List Event
a_chain_unlinked_is_collected =
    a_chain_is_unlinked ++ (a_cut_is_marked ++ said (Sweep 0) (Freed 0) ∷ said (Sweep 1) (Freed 7) ∷ said EndCut Done
    ∷ said (Begin 3) Done
    ∷ said (New 3 1) (Made (name_of 1 0 2)) ∷ [])

abbrev pub a_moved_pointer_is_seen : List Event
a_moved_pointer_is_seen =
    said (Begin 1) Done ∷ said (New 1 1) (Made (name_of 1 0 1)) ∷ said (New 1 2) (Made (name_of 2 0 1))
    ∷ said (Set 1 root 0 (Some (name_of 1 0 1))) Done
    ∷ said (Set 1 (name_of 1 0 1) 0 (Some (name_of 2 0 1))) Done ∷ said (Commit 1) (Committed 1)
    ∷ said OpenCut (Cut 1) ∷ said (Copy 0) Done ∷ said (Begin 2) Done
    ∷ said (Get 2 root 0) (Ref (Some (name_of 1 0 1))) ∷ said (Get 2 (name_of 1 0 1) 0) (Ref (Some (name_of 2 0 1)))
    ∷ said (Set 2 root 1 (Some (name_of 2 0 1))) Done
    ∷ said (Set 2 (name_of 1 0 1) 0 None) Done ∷ said (Commit 2) (Committed 2) ∷ said (Copy 1) Done ∷ said (Copy 2) Done
    ∷ (closing ++ said (Sweep 0) (Freed 0) ∷ said (Sweep 1) (Freed 0) ∷ said (Sweep 2) (Freed 0) ∷ said EndCut Done
    ∷ [])

abbrev pub a_dirty_copy_outlives_an_abort : List Event
a_dirty_copy_outlives_an_abort =
    said (Begin 1) Done ∷ said (New 1 1) (Made (name_of 1 0 1)) ∷ said (Set 1 root 0 (Some (name_of 1 0 1))) Done
    ∷ said (Commit 1) (Committed 1) ∷ said OpenCut (Cut 1)
    ∷ said (Begin 2) Done ∷ said (Set 2 root 0 None) Done ∷ said (Copy 0) Done ∷ said (Abort 2) Done
    ∷ said (Copy 1) Done
    ∷ noted images Close Done ∷ noted (marks (Some 1)) (Mark 2) Done ∷ said (Sweep 0) (Freed 0)
    ∷ said (Sweep 1) (Freed 0) ∷ said EndCut Done ∷ []

-- an object is made and unlinked while a cut is open
abbrev pub born_in_a_cut : List Event
born_in_a_cut =
    said OpenCut (Cut 1) ∷ said (Begin 2) Done ∷ said (New 2 1) (Made (name_of 1 0 1))
    ∷ said (Set 2 root 0 (Some (name_of 1 0 1))) Done ∷ said (Commit 2) (Committed 1)
    ∷ said (Begin 3) Done ∷ said (Set 3 root 0 None) Done ∷ said (Commit 3) (Committed 2) ∷ said (Copy 0) Done
    ∷ said (Copy 1) Done
    ∷ (closing ++ said (Sweep 0) (Freed 0) ∷ [])

abbrev pub what_is_born_in_a_cut_outlives_it : List Event
what_is_born_in_a_cut_outlives_it =
    born_in_a_cut ++ said (Sweep 1) (Freed 0) ∷ said EndCut Done
    ∷ said OpenCut (Cut 2) ∷ said (Copy 0) Done ∷ said (Copy 1) Done ∷ noted images Close Done
    ∷ noted (marks (Some 2)) (Mark 1) Done ∷ said (Sweep 0) (Freed 0)
    ∷ said (Sweep 1) (Freed 1) ∷ said EndCut Done ∷ []

-- the root refers to an object
abbrev pub an_object_is_linked : List Event
an_object_is_linked = said (Begin 1) Done ∷ said (New 1 1) (Made (name_of 1 0 1))
    ∷ said (Set 1 root 0 (Some (name_of 1 0 1))) Done ∷ said (Commit 1) (Committed 1) ∷ []

-- it is unlinked after the root's page was copied: the next cut frees it
abbrev pub what_is_unlinked_after_its_copy_outlives_the_cut : List Event
what_is_unlinked_after_its_copy_outlives_the_cut =
    an_object_is_linked ++ said OpenCut (Cut 1) ∷ said (Copy 0) Done ∷ said (Begin 2) Done
    ∷ said (Set 2 root 0 None) Done ∷ said (Commit 2) (Committed 2) ∷ said (Copy 1) Done
    ∷ (closing ++ said (Sweep 0) (Freed 0) ∷ said (Sweep 1) (Freed 0) ∷ said EndCut Done
    ∷ said OpenCut (Cut 2) ∷ said (Copy 0) Done ∷ said (Copy 1) Done ∷ noted images Close Done
    ∷ noted (marks (Some 2)) (Mark 1) Done ∷ said (Sweep 0) (Freed 0)
    ∷ said (Sweep 1) (Freed 1) ∷ said EndCut Done ∷ [])

abbrev pub a_locked_page_is_swept : List Event
a_locked_page_is_swept =
    said (Begin 1) Done ∷ said (New 1 1) (Made (name_of 1 0 1)) ∷ said (Commit 1) (Committed 1)
    ∷ (a_cut_is_marked ++ said (Begin 2) Done ∷ said (New 2 1) (Made (name_of 1 1 1)) ∷ said (Sweep 0) (Freed 0)
    ∷ said (Sweep 1) (Freed 1) ∷ said (Abort 2) Done
    ∷ said EndCut Done ∷ said (Begin 3) Done ∷ said (New 3 1) (Made (name_of 1 0 2)) ∷ [])

abbrev pub phases_come_in_order : List Event
phases_come_in_order =
    refused (Copy 0) NoCut ∷ said OpenCut (Cut 1) ∷ refused OpenCut (CutThere 1) ∷ said (Copy 0) Done
    ∷ refused (Copy 0) (AlreadyCopied 0) ∷ said (Copy 1) Done
    ∷ said (Copy 2) Done ∷ refused Close (Uncopied 3) ∷ said (Copy 3) Done ∷ noted images Close Done
    ∷ refused (Sweep 0) (WrongPhase Closed)
    ∷ noted (marks (Some 1)) (Mark 1) Done ∷ refused EndCut (Unswept 0) ∷ said (Sweep 0) (Freed 0)
    ∷ refused (Sweep 0) (AlreadySwept 0) ∷ said DropCut Done
    ∷ refused DropCut NoCut ∷ []

-- a line that collects, in a store with nothing to collect
abbrev pub nothing_is_collected : List Event
nothing_is_collected =
    said OpenCut (Cut 1) ∷ said (Copy 0) Done ∷ said (Copy 1) Done ∷ noted images Close Done
    ∷ noted (marks (Some 1)) (Mark 2) Done ∷ said (Sweep 0) (Freed 0)
    ∷ said (Sweep 1) (Freed 0) ∷ said EndCut Done ∷ []

-- the same line while a cut is there: it stops after its first call
abbrev pub a_collection_stops_at_a_refusal : List Event
a_collection_stops_at_a_refusal = said OpenCut (Cut 1) ∷ refused OpenCut (CutThere 1) ∷ said DropCut Done ∷ []

-- ---- disk faults

-- a commit meets a disk fault
abbrev pub a_commit_in_doubt : List Event
a_commit_in_doubt = said (Begin 1) Done ∷ said (Put 1 root 5) Done ∷ noted (faults 1) (Commit 1) (Refused DiskFault)
    ∷ refused (Begin 2) (Broken 1) ∷ []

abbrev pub a_commit_in_doubt_may_be_lost : List Event
a_commit_in_doubt_may_be_lost = a_commit_in_doubt ++ noted (found []) Reopen (Reopened 0) ∷ said (Begin 2) Done
    ∷ said (Number 2 root) (Num 0) ∷ []

abbrev pub a_commit_in_doubt_may_be_done : List Event
a_commit_in_doubt_may_be_done = a_commit_in_doubt ++ noted (found []) Reopen (Reopened 1) ∷ said (Begin 2) Done
    ∷ said (Number 2 root) (Num 5) ∷ []

-- a sweep that met a disk fault is found done: the names that it freed stand in the order in which they were made
abbrev pub a_sweep_in_doubt_may_be_done : List Event
a_sweep_in_doubt_may_be_done =
    a_chain_is_unlinked ++ (a_cut_is_marked ++ said (Sweep 0) (Freed 0)
    ∷ noted (faults 1) (Sweep 1) (Refused DiskFault) ∷ refused EndCut (Broken 1)
    ∷ noted (found (name_of 1 0 1 ∷ name_of 1 1 1 ∷ name_of 1 2 1 ∷ [])) Reopen (Reopened 2) ∷ said (Begin 3) Done
    ∷ said (New 3 1) (Made (name_of 1 0 2)) ∷ [])

-- a reopening drops the cut, and the cuts are counted on
abbrev pub a_reopening_drops_the_cut : List Event
a_reopening_drops_the_cut = said OpenCut (Cut 1) ∷ noted (found []) Reopen (Reopened 0) ∷ refused (Copy 0) NoCut
    ∷ said OpenCut (Cut 2) ∷ []

-- a second fault leaves the first one's doubt
abbrev pub a_fault_in_a_reopening_keeps_the_doubt : List Event
a_fault_in_a_reopening_keeps_the_doubt =
    said (Begin 1) Done ∷ said (Put 1 root 5) Done ∷ noted (faults 1) (Commit 1) (Refused DiskFault)
    ∷ noted (faults 2) Reopen (Refused DiskFault)
    ∷ refused (Begin 2) (Broken 2) ∷ noted (found []) Reopen (Reopened 1) ∷ said (Begin 2) Done
    ∷ said (Number 2 root) (Num 5) ∷ []

abbrev pub an_aborted_name_is_given_again : List Event
an_aborted_name_is_given_again =
    said (Begin 1) Done ∷ said (New 1 1) (Made (name_of 1 0 1)) ∷ said (Abort 1) Done ∷ said (Begin 2) Done
    ∷ said (New 2 1) (Made (name_of 1 0 1)) ∷ []

-- copies and marks of an earlier cut, and marks for which there was no memory
abbrev pub another_cut_is_told : List Event
another_cut_is_told =
    said OpenCut (Cut 1) ∷ said DropCut Done ∷ said OpenCut (Cut 2) ∷ refused (HandIn 0 1 0) (OtherCut 2)
    ∷ said (HandIn 0 2 0) Done ∷ said (Copy 1) Done ∷ noted images Close Done
    ∷ noted (marks (Some 1)) (Mark 1) (Refused (OtherCut 2)) ∷ noted (marks None) (Mark 1) (Refused Memory)
    ∷ noted (marks (Some 2)) (Mark 1) Done ∷ []

-- ---- no histories

-- the holder is the reader, not the caller
abbrev pub busy_with_the_wrong_holder : List Event
busy_with_the_wrong_holder = two_readers ++ refused (Put 2 root 5) (Busy 2) ∷ []

-- what was born since the opening is no candidate
abbrev pub a_born_object_is_freed : List Event
a_born_object_is_freed = born_in_a_cut ++ said (Sweep 1) (Freed 1) ∷ []

-- the last object of the chain was out of reach as the cut opened
abbrev pub a_lost_object_is_left : List Event
a_lost_object_is_left = a_chain_is_unlinked ++ (a_cut_is_marked ++ said (Sweep 1) (Freed 3) ∷ [])

-- it is the first commit
abbrev pub a_commit_is_counted_twice : List Event
a_commit_is_counted_twice = said (Begin 1) Done ∷ said (Commit 1) (Committed 2) ∷ []

-- the name is a stranger's before the field is bad
abbrev pub a_refusal_out_of_order : List Event
a_refusal_out_of_order = said (Begin 1) Done ∷ refused (Get 1 (name_of 1 0 1) 4) BadField ∷ []

-- the root refers to it
abbrev pub a_reached_object_is_freed : List Event
a_reached_object_is_freed = an_object_is_linked ++ (a_cut_is_marked ++ said (Sweep 1) (Freed 1) ∷ [])

-- the other transaction still holds its lock
abbrev pub a_conflict_is_overlooked : List Event
a_conflict_is_overlooked = two_readers ++ said (Put 2 root 5) Done ∷ []
