use Rattle.std.proofs.Common.{◌≡◌, ℕ, refl, sym, ap, subst}
use Rattle.store_model.specs.Replies.{found_in, MayReopen}
use Rattle.store_model.specs.States.{State, state_of}
use Rattle.store_model.specs.Steps.{reopened}
use Rattle.store_model.proofs.states.a_reopening_finds_a_state.Goals as goal

pub returns-clause-finds : goal.returns-clause-finds
returns-clause-finds c = λ w note commits may. record { commits_found = commits; names_found = found_in note; may = may.1; is = refl }

pub returns-clause-may_be_found : goal.returns-clause-may_be_found
returns-clause-may_be_found c = λ w s h.
    let same : h.commits_found ≡ s.commits = sym (ap (λ (x : State). x.commits) h.is) in (
      h.names_found,
      (refl, subst (λ (n : ℕ). MayReopen w w.doubt n h.names_found) same h.may),
      subst (λ (n : ℕ). s ≡ state_of (reopened w n h.names_found)) same h.is,
    )
