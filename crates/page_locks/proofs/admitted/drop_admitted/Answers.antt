use Rattle.std.proofs.Common.{◌≡◌, List, filter, not, ◌==◌, false, slice_get, IsSomeAnd, remove, sym, subst, ◌∙◌}
use Rattle.page_locks.specs.Sets.{is_among}
use Rattle.page_locks.specs.Places.{numbers_in}
use Rattle.page_locks.specs.declared.admitted.Admitted.{Admitted}
use Rattle.page_locks.proofs.Order.{others_stay, remove_is_filter, found_at}
use Rattle.page_locks.proofs.admitted.drop_admitted.Goals as goal

pub returns-in-Some-clause-kept : goal.returns-in-Some-clause-kept
returns-in-Some-clause-kept c =
    let items = c.args.admitted.now.items in
    let d : Admitted = c.remove.result in
    let at = found_at items c.in-Some.at c.args.txn d
    (subst (λ (held : List Admitted). IsSomeAnd (slice_get held c.in-Some.at) (λ a. a.txn ≡ c.args.txn)) c.deref.ensures.value c.in-Some.ensures.some) in
    c.remove.ensures.items
    ∙ subst (λ n. remove items c.in-Some.at ≡ filter (λ (a : Admitted). not (a.txn == n)) items) at.1 (remove_is_filter items c.in-Some.at d at.0 c.requires.distinct)

pub returns-in_default-clause-kept : goal.returns-in_default-clause-kept
returns-in_default-clause-kept c =
    sym (others_stay c.args.admitted.now.items c.args.txn (subst (λ (held : List Admitted). is_among (numbers_in held) c.args.txn ≡ false) c.deref.ensures.value c.in_default.ensures.none))
