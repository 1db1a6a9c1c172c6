use Rattle.std.proofs.Common.{◌≡◌, ℕ, false, Result, MatchResult, subst, ◌∙◌, List, nat_cmp}
use Rattle.std.specs.List.Sorted.{IsBinarySearchResult}
use Rattle.store_model.specs.Causes.{has_page}
use Rattle.transactions.specs.Tables.{IsPlaceFor}
use Rattle.transactions.proofs.Written.{place_found}
use Rattle.transactions.proofs.open.Open.place_for.Goals as goal

abbrev IsAnswer : List ℕ → ℕ → Result ℕ ℕ → Type 0
IsAnswer pages page r = MatchResult r (λ i. ⊥) (λ i. IsPlaceFor page i pages)

pub returns-in-Ok : goal.returns-in-Ok
returns-in-Ok c =
    let position : IsBinarySearchResult (λ y. nat_cmp y c.args.page) c.self.inside.written.items c.binary_search.result =
    subst (λ (ps : List ℕ). IsBinarySearchResult (λ y. nat_cmp y c.args.page) ps c.binary_search.result) c.deref.ensures.value c.binary_search.ensures.position in
    let absent : has_page c.self.inside.written.items c.args.page ≡ false = (λ i. has_page ((c.self.view_is i).written) c.args.page) ∙ c.requires in
    let found = place_found c.self.inside.written.items c.args.page c.binary_search.result c.self.invariant.0 position absent in
    absurd (subst (IsAnswer c.self.inside.written.items c.args.page) c.in-Ok.is found)

pub returns-in-Err : goal.returns-in-Err
returns-in-Err c =
    let position : IsBinarySearchResult (λ y. nat_cmp y c.args.page) c.self.inside.written.items c.binary_search.result =
    subst (λ (ps : List ℕ). IsBinarySearchResult (λ y. nat_cmp y c.args.page) ps c.binary_search.result) c.deref.ensures.value c.binary_search.ensures.position in
    let absent : has_page c.self.inside.written.items c.args.page ≡ false = (λ i. has_page ((c.self.view_is i).written) c.args.page) ∙ c.requires in
    let found = place_found c.self.inside.written.items c.args.page c.binary_search.result c.self.invariant.0 position absent in
    let place = subst (IsAnswer c.self.inside.written.items c.args.page) c.in-Err.is found in
    subst (λ (ps : List ℕ). IsPlaceFor c.args.page c.in-Err.at ps) (λ i. (c.self.view_is i).written) place
