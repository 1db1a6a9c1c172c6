-- The states of a world.
use Rattle.std.proofs.Common.{◌≡◌, ℕ, ◌+◌, ◌==◌, Bool, cond, List, [], ◌∷◌, ◌++◌, Option, None, Some, refl, sym, ◌∙◌, ap, subst, arith, ◌⊎◌, inl, inr}
use Rattle.std.specs.List.{AllByRecursion}
use Rattle.std.specs.Option.{MatchOption}
use Rattle.std.proofs.lemmas.Bool.{eq-eqb, ne_eqb}
use Rattle.object_graph.specs.NameParts.{NameParts}
use Rattle.object_graph.specs.ObjectParts.{ObjectParts}
use Rattle.store_model.specs.Worlds.{World, OpenedCut, Opening, Doubt, no_doubt, commit_in_doubt, sweep_in_doubt, transaction, slots_of, fields_of}
use Rattle.store_model.specs.Replies.{MayReopen, MayFree, MayFreeNow, IsGarbage, names_in}
use Rattle.store_model.specs.Steps.{reopened, graph_in_doubt, swept}
use Rattle.store_model.specs.States.{State, IsStateOf, state_of, state_after}

-- a state with this graph, so many commits and what was found freed
abbrev state_with : World → List ObjectParts → ℕ → List NameParts → State
state_with w graph commits names = record { slots = slots_of w; fields = fields_of w; graph = graph; commits = commits; freed = names ++ w.freed }

-- where no commit is found done the graph is as it was
kept_state : (w : World) (names : List NameParts) → state_of (reopened w w.commits names) ≡ state_with w w.graph w.commits names
kept_state w names = ap (λ (b : Bool). state_with w (cond b w.graph (graph_in_doubt w w.doubt)) w.commits names) (eq-eqb w.commits w.commits refl)

later_state : (w : World) (names : List NameParts) → state_of (reopened w (w.commits + 1) names) ≡ state_with w (graph_in_doubt w w.doubt) (w.commits + 1) names
later_state w names =
    ap (λ (b : Bool). state_with w (cond b w.graph (graph_in_doubt w w.doubt)) (w.commits + 1) names)
    (ne_eqb (w.commits + 1) w.commits (λ same. let z : ⊥ = omega (arith, same) in z))

commit_state : (w : World) (number : ℕ) → w.doubt ≡ commit_in_doubt number → state_of (reopened w (w.commits + 1) []) ≡ state_after w (transaction w number)
commit_state w number e = later_state w [] ∙ ap (λ (d : Doubt). state_with w (graph_in_doubt w d) (w.commits + 1) []) e

nothing_found : (w : World) (doubt : Doubt) → MayReopen w doubt w.commits []
nothing_found w no_doubt = (refl, refl)
nothing_found w (commit_in_doubt t) = (inl refl, refl)
nothing_found w (sweep_in_doubt page) = (refl, inl refl)

pub always_a_state : (w : World) → IsStateOf w (state_of w)
always_a_state w = record { commits_found = w.commits; names_found = []; may = nothing_found w w.doubt; is = sym (kept_state w []) }

pub done_by_commit : (w : World) (number : ℕ) → w.doubt ≡ commit_in_doubt number → IsStateOf w (state_after w (transaction w number))
done_by_commit w number e = record {
  commits_found = w.commits + 1;
  names_found = [];
  may = subst (λ (d : Doubt). MayReopen w d (w.commits + 1) []) (sym e) (inr refl, refl);
  is = sym (commit_state w number e);
}

pub done_by_sweep : (w : World) (page slots : ℕ) → w.doubt ≡ sweep_in_doubt page → MayFreeNow w page slots → IsStateOf w (state_of (swept w page slots))
done_by_sweep w page slots e may = record {
  commits_found = w.commits;
  names_found = names_in w page slots;
  may = subst (λ (d : Doubt). MayReopen w d w.commits (names_in w page slots)) (sym e) (refl, inr (slots, may, refl));
  is = sym (kept_state w (names_in w page slots));
}

-- what is found, as a state
found_is : (w : World) (s : State) (commits m : ℕ) (names ns : List NameParts) → commits ≡ m → names ≡ ns → s ≡ state_of (reopened w commits names) → s ≡ state_of (reopened w m ns)
found_is w s commits m names ns c n is = is ∙ (ap (λ (k : ℕ). state_of (reopened w k names)) c ∙ ap (λ (ks : List NameParts). state_of (reopened w m ks)) n)

pub only_state : (w : World) (s : State) → w.doubt ≡ no_doubt → IsStateOf w s → s ≡ state_of w
only_state w s e h =
    let may : MayReopen w no_doubt h.commits_found h.names_found = subst (λ (d : Doubt). MayReopen w d h.commits_found h.names_found) e h.may in
    found_is w s h.commits_found w.commits h.names_found [] may.0 may.1 h.is ∙ kept_state w []

pub states_by_commit : (w : World) (number : ℕ) (s : State) → w.doubt ≡ commit_in_doubt number → IsStateOf w s → (s ≡ state_of w) ⊎ (s ≡ state_after w (transaction w number))
states_by_commit w number s e h =
    let may : MayReopen w (commit_in_doubt number) h.commits_found h.names_found = subst (λ (d : Doubt). MayReopen w d h.commits_found h.names_found) e h.may in
    elim may.0 [
      | inl same ↦ inl (found_is w s h.commits_found w.commits h.names_found [] same may.1 h.is ∙ kept_state w [])
      | inr more ↦ inr (found_is w s h.commits_found (w.commits + 1) h.names_found [] more may.1 h.is ∙ commit_state w number e)
    ]

pub states_by_sweep : (w : World) (page : ℕ) (s : State) → w.doubt ≡ sweep_in_doubt page → IsStateOf w s
    → (s ≡ state_of w) ⊎ ((slots : ℕ) × MayFreeNow w page slots × (s ≡ state_of (swept w page slots)))
states_by_sweep w page s e h =
    let may : MayReopen w (sweep_in_doubt page) h.commits_found h.names_found = subst (λ (d : Doubt). MayReopen w d h.commits_found h.names_found) e h.may in
    elim may.1 [
      | inl none ↦ inl (found_is w s h.commits_found w.commits h.names_found [] may.0 none h.is ∙ kept_state w [])
      | inr some ↦
          inr (some.0, some.1, found_is w s h.commits_found w.commits h.names_found (names_in w page some.0) may.0 some.2 h.is ∙ kept_state w (names_in w page some.0))
    ]

-- ---- a further fault

abbrev with_break : World → ℕ → World
with_break w count = record w { broken = Some count }

graph_still : (w : World) (count : ℕ) (d : Doubt) → graph_in_doubt (with_break w count) d ≡ graph_in_doubt w d
graph_still w count no_doubt = refl
graph_still w count (commit_in_doubt t) = refl
graph_still w count (sweep_in_doubt p) = refl

garbage_still : (w : World) (count : ℕ) (opening : Opening) (names : List NameParts) → AllByRecursion (IsGarbage w opening) names → AllByRecursion (IsGarbage (with_break w count) opening) names
garbage_still w count opening [] h = tt
garbage_still w count opening (n ∷ ns) h = (record { old = h.0.old; out = h.0.out }, garbage_still w count opening ns h.1)

free_still : (w : World) (count page slots : ℕ) (o : Option OpenedCut) → MatchOption o ⊥ (λ cut. MayFree w cut.opening page slots)
    → MatchOption o ⊥ (λ cut. MayFree (with_break w count) cut.opening page slots)
free_still w count page slots None h = h
free_still w count page slots (Some cut) h = record { one_each = h.one_each; safe = garbage_still w count cut.opening (names_in w page slots) h.safe; complete = h.complete }

may_still : (w : World) (count : ℕ) (d : Doubt) (commits : ℕ) (names : List NameParts) → MayReopen w d commits names → MayReopen (with_break w count) d commits names
may_still w count no_doubt commits names h = h
may_still w count (commit_in_doubt t) commits names h = h
may_still w count (sweep_in_doubt page) commits names h =
    (h.0, elim h.1 [ inl none ↦ inl none | inr some ↦ inr (some.0, free_still w count page some.0 w.cut some.1, some.2) ])

pub states_still : (w : World) (count : ℕ) (s : State) → IsStateOf w s → IsStateOf (with_break w count) s
states_still w count s h = record {
  commits_found = h.commits_found;
  names_found = h.names_found;
  may = may_still w count w.doubt h.commits_found h.names_found h.may;
  is = h.is ∙ ap (λ (g : List ObjectParts). state_with w (cond (h.commits_found == w.commits) w.graph g) h.commits_found h.names_found) (sym (graph_still w count w.doubt));
}
