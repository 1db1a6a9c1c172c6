use Rattle.std.proofs.Common.{◌≡◌, ℕ, true, false, Result, MatchResult, subst, ◌∙◌, List, nat_cmp}
use Rattle.std.specs.List.Sorted.{IsBinarySearchResult}
use Rattle.store_model.specs.Causes.{has_page}
use Rattle.transactions.proofs.Written.{is_there}
use Rattle.transactions.proofs.open.Open.has_written.Goals as goal

abbrev Tells : List ℕ → ℕ → Result ℕ ℕ → Type 0
Tells pages page r = MatchResult r (λ i. true ≡ has_page pages page) (λ i. false ≡ has_page pages page)

pub returns-in-Ok : goal.returns-in-Ok
returns-in-Ok c =
    let position : IsBinarySearchResult (λ y. nat_cmp y c.args.page) c.self.inside.written.items c.binary_search.result =
    subst (λ (ps : List ℕ). IsBinarySearchResult (λ y. nat_cmp y c.args.page) ps c.binary_search.result) c.deref.ensures.value c.binary_search.ensures.position in
    let told = is_there c.self.inside.written.items c.args.page c.binary_search.result c.self.invariant.0 position in
    subst (Tells c.self.inside.written.items c.args.page) c.in-Ok.is told ∙ (λ i. has_page ((c.self.view_is i).written) c.args.page)

pub returns-in-Err : goal.returns-in-Err
returns-in-Err c =
    let position : IsBinarySearchResult (λ y. nat_cmp y c.args.page) c.self.inside.written.items c.binary_search.result =
    subst (λ (ps : List ℕ). IsBinarySearchResult (λ y. nat_cmp y c.args.page) ps c.binary_search.result) c.deref.ensures.value c.binary_search.ensures.position in
    let told = is_there c.self.inside.written.items c.args.page c.binary_search.result c.self.invariant.0 position in
    subst (Tells c.self.inside.written.items c.args.page) c.in-Err.is told ∙ (λ i. has_page ((c.self.view_is i).written) c.args.page)
