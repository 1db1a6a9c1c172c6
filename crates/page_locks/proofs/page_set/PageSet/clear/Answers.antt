use Rattle.std.proofs.Common.{◌≡◌, ℕ, ◌++◌, List, length, take, drop, get_or, cond, ap, sym, subst, ◌∙◌, arith}
use Rattle.std.proofs.lemmas.Grind.{common_steps}
use Rattle.page_locks.specs.Sets.{is_among, AreUsed}
use Rattle.page_locks.proofs.Used.{none_used, all_cleared}
use Rattle.page_locks.proofs.page_set.PageSet.clear.Goals as goal

pub invariant_of-self : goal.invariant_of-self
invariant_of-self c =
    let words = c.self.inside.words.items in
    let used = c.self.inside.used.items in
    let new = c.clear_words.new.words in
    let long : length new ≡ length words = c.clear_words.ensures.length ∙ ap length c.deref_mut.ensures.value in
    let written : new ≡ take c.self.inside.words.len (new ++ drop (length new) words) = grind (arith, common_steps, long) in
    let blank : (at : ℕ) → get_or new at 0 ≡ 0 = λ at.
    c.clear_words.ensures.cleared at
    ∙ (ap (λ (us : List ℕ). cond (is_among us at) 0 (get_or c.deref_mut.result.now at 0)) c.deref.ensures.value
    ∙ (ap (λ (ws : List ℕ). cond (is_among used at) 0 (get_or ws at 0)) c.deref_mut.ensures.value ∙ all_cleared words used at c.self.invariant.1)) in
    let room = c.self.invariant.0 in
    let capacity = c.clear.ensures.capacity in
    let same = ap length written in (
      omega (arith, room, capacity, same, long),
      subst (λ (ws : List ℕ). AreUsed ws c.clear.new.self.items) written
          (subst (λ (us : List ℕ). AreUsed new us) (sym c.clear.ensures.items) (none_used new blank)),
    )
