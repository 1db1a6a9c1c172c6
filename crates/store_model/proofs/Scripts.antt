-- The worked scripts are legal, by the test; the spoiled ones are not.
use Rattle.std.proofs.Common.{◌≡◌, true, false, [], ◌∷◌, ◌++◌, refl}
use Rattle.object_graph.specs.declared.calls.Call.TheVariants.{Sweep}
use Rattle.object_graph.specs.declared.calls.Reply.TheVariants.{Committed, Freed}
use Rattle.object_graph.specs.declared.calls.Refusal.TheVariants.{Stranger, BadField, Busy}
use Rattle.store_model.specs.Worlds.{fresh_world}
use Rattle.store_model.specs.Histories.{after, IsLegal, Follows, collection}
use Rattle.store_model.specs.Examples.{a_reopening_drops_the_cut, a_fault_in_a_reopening_keeps_the_doubt, an_aborted_name_is_given_again, another_cut_is_told, an_object_is_linked, a_reached_object_is_freed, a_conflict_is_overlooked, what_is_unlinked_after_its_copy_outlives_the_cut, root, name_of, said, born_in_a_cut, a_chain_is_unlinked, a_cut_is_marked, busy_with_the_wrong_holder, a_born_object_is_freed, a_lost_object_is_left, a_commit_is_counted_twice, a_refusal_out_of_order, a_number_is_put, a_transaction_opens_once, too_many_begin, a_lock_conflict_is_busy, a_page_fills, refusals_come_in_order, a_chain_unlinked_is_collected, a_moved_pointer_is_seen, a_dirty_copy_outlives_an_abort, what_is_born_in_a_cut_outlives_it, a_locked_page_is_swept, phases_come_in_order, a_commit_in_doubt_may_be_lost, a_commit_in_doubt_may_be_done, nothing_is_collected, a_collection_stops_at_a_refusal, a_sweep_in_doubt_may_be_done}
use Rattle.store_model.proofs.Parts.{IsLegal-parts}
use Rattle.store_model.proofs.Rounds.{out_of_reach}
use Rattle.store_model.proofs.Tests.{legal_by_test}

pub a_number_is_put_legal : IsLegal (fresh_world 16) a_number_is_put
a_number_is_put_legal = legal_by_test (fresh_world 16) a_number_is_put refl

pub a_transaction_opens_once_legal : IsLegal (fresh_world 16) a_transaction_opens_once
a_transaction_opens_once_legal = legal_by_test (fresh_world 16) a_transaction_opens_once refl

pub too_many_begin_legal : IsLegal (fresh_world 16) too_many_begin
too_many_begin_legal = legal_by_test (fresh_world 16) too_many_begin refl

pub a_lock_conflict_is_busy_legal : IsLegal (fresh_world 2) a_lock_conflict_is_busy
a_lock_conflict_is_busy_legal = legal_by_test (fresh_world 2) a_lock_conflict_is_busy refl

pub a_page_fills_legal : IsLegal (fresh_world 2) a_page_fills
a_page_fills_legal = legal_by_test (fresh_world 2) a_page_fills refl

pub refusals_come_in_order_legal : IsLegal (fresh_world 2) refusals_come_in_order
refusals_come_in_order_legal = legal_by_test (fresh_world 2) refusals_come_in_order refl

pub a_chain_unlinked_is_collected_legal : IsLegal (fresh_world 2) a_chain_unlinked_is_collected
a_chain_unlinked_is_collected_legal = legal_by_test (fresh_world 2) a_chain_unlinked_is_collected refl

pub a_moved_pointer_is_seen_legal : IsLegal (fresh_world 3) a_moved_pointer_is_seen
a_moved_pointer_is_seen_legal = legal_by_test (fresh_world 3) a_moved_pointer_is_seen refl

pub a_dirty_copy_outlives_an_abort_legal : IsLegal (fresh_world 2) a_dirty_copy_outlives_an_abort
a_dirty_copy_outlives_an_abort_legal = legal_by_test (fresh_world 2) a_dirty_copy_outlives_an_abort refl

pub what_is_born_in_a_cut_outlives_it_legal : IsLegal (fresh_world 2) what_is_born_in_a_cut_outlives_it
what_is_born_in_a_cut_outlives_it_legal = legal_by_test (fresh_world 2) what_is_born_in_a_cut_outlives_it refl

pub a_locked_page_is_swept_legal : IsLegal (fresh_world 2) a_locked_page_is_swept
a_locked_page_is_swept_legal = legal_by_test (fresh_world 2) a_locked_page_is_swept refl

pub phases_come_in_order_legal : IsLegal (fresh_world 4) phases_come_in_order
phases_come_in_order_legal = legal_by_test (fresh_world 4) phases_come_in_order refl

pub a_commit_in_doubt_may_be_lost_legal : IsLegal (fresh_world 2) a_commit_in_doubt_may_be_lost
a_commit_in_doubt_may_be_lost_legal = legal_by_test (fresh_world 2) a_commit_in_doubt_may_be_lost refl

pub a_commit_in_doubt_may_be_done_legal : IsLegal (fresh_world 2) a_commit_in_doubt_may_be_done
a_commit_in_doubt_may_be_done_legal = legal_by_test (fresh_world 2) a_commit_in_doubt_may_be_done refl

pub nothing_is_collected_legal : IsLegal (fresh_world 2) nothing_is_collected
nothing_is_collected_legal = legal_by_test (fresh_world 2) nothing_is_collected refl

pub nothing_is_collected_follows : Follows (collection 2 2 ∷ []) nothing_is_collected
nothing_is_collected_follows = ([], (refl, (refl, (refl, (refl, (refl, (refl, (refl, (refl, refl)))))))), refl)

pub a_collection_stops_at_a_refusal_legal : IsLegal (fresh_world 2) a_collection_stops_at_a_refusal
a_collection_stops_at_a_refusal_legal = legal_by_test (fresh_world 2) a_collection_stops_at_a_refusal refl

pub a_sweep_in_doubt_may_be_done_legal : IsLegal (fresh_world 2) a_sweep_in_doubt_may_be_done
a_sweep_in_doubt_may_be_done_legal = legal_by_test (fresh_world 2) a_sweep_in_doubt_may_be_done refl

-- ---- no histories

pub busy_with_the_wrong_holder_illegal : ¬ IsLegal (fresh_world 2) busy_with_the_wrong_holder
busy_with_the_wrong_holder_illegal = λ legal.
    let reply : Busy 2 ≡ Busy 1 = legal.1.1.1.1.0.1 in cc

pub a_born_object_is_freed_illegal : ¬ IsLegal (fresh_world 2) a_born_object_is_freed
a_born_object_is_freed_illegal = λ legal.
    let sweep = (IsLegal-parts (fresh_world 2) born_in_a_cut (said (Sweep 1) (Freed 1) ∷ []) legal).1.0.1 in
    let old : false ≡ true = sweep.1.safe.0.old in cc

pub a_lost_object_is_left_illegal : ¬ IsLegal (fresh_world 2) a_lost_object_is_left
a_lost_object_is_left_illegal = λ legal.
    let cut = (IsLegal-parts (fresh_world 2) a_chain_is_unlinked (a_cut_is_marked ++ said (Sweep 1) (Freed 3) ∷ []) legal).1 in
    let sweep = (IsLegal-parts (after (fresh_world 2) a_chain_is_unlinked) a_cut_is_marked (said (Sweep 1) (Freed 3) ∷ []) cut).1.0.1 in
    let freed : false ≡ true = sweep.1.complete (name_of 1 2 1) (record { old = refl; unreached = out_of_reach (after (fresh_world 2) a_chain_is_unlinked).graph (root ∷ []) (name_of 1 2 1) refl }) refl refl in cc

pub a_commit_is_counted_twice_illegal : ¬ IsLegal (fresh_world 2) a_commit_is_counted_twice
a_commit_is_counted_twice_illegal = λ legal.
    let reply : Committed 2 ≡ Committed 1 = legal.1.0.1.1 in cc

pub a_refusal_out_of_order_illegal : ¬ IsLegal (fresh_world 2) a_refusal_out_of_order
a_refusal_out_of_order_illegal = λ legal.
    let reply : BadField ≡ Stranger = legal.1.0.1 in cc

pub unlinked_legal : IsLegal (fresh_world 2) what_is_unlinked_after_its_copy_outlives_the_cut
unlinked_legal = legal_by_test (fresh_world 2) what_is_unlinked_after_its_copy_outlives_the_cut refl

pub a_reached_object_is_freed_illegal : ¬ IsLegal (fresh_world 2) a_reached_object_is_freed
a_reached_object_is_freed_illegal = λ legal.
    let cut = (IsLegal-parts (fresh_world 2) an_object_is_linked (a_cut_is_marked ++ said (Sweep 1) (Freed 1) ∷ []) legal).1 in
    let sweep = (IsLegal-parts (after (fresh_world 2) an_object_is_linked) a_cut_is_marked (said (Sweep 1) (Freed 1) ∷ []) cut).1.0.1 in
    sweep.1.safe.0.out.0 (root, refl, (name_of 1 0 1 ∷ [], (refl, refl, (refl, refl))))

pub a_conflict_is_overlooked_illegal : ¬ IsLegal (fresh_world 2) a_conflict_is_overlooked
a_conflict_is_overlooked_illegal = λ legal. let none = legal.1.1.1.1.0.1.0 in cc

pub a_reopening_drops_the_cut_legal : IsLegal (fresh_world 2) a_reopening_drops_the_cut
a_reopening_drops_the_cut_legal = legal_by_test (fresh_world 2) a_reopening_drops_the_cut refl

pub a_fault_in_a_reopening_keeps_the_doubt_legal : IsLegal (fresh_world 2) a_fault_in_a_reopening_keeps_the_doubt
a_fault_in_a_reopening_keeps_the_doubt_legal = legal_by_test (fresh_world 2) a_fault_in_a_reopening_keeps_the_doubt refl

pub an_aborted_name_is_given_again_legal : IsLegal (fresh_world 2) an_aborted_name_is_given_again
an_aborted_name_is_given_again_legal = legal_by_test (fresh_world 2) an_aborted_name_is_given_again refl

pub another_cut_is_told_legal : IsLegal (fresh_world 2) another_cut_is_told
another_cut_is_told_legal = legal_by_test (fresh_world 2) another_cut_is_told refl
