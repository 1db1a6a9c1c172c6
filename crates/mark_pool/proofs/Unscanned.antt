-- A place that was scanned leaves one fewer.
use Rattle.std.proofs.Common.{◌≡◌, ℕ, zero, suc, ◌<◌, ◌≤◌, cond, List, ap, eq-eqb, ne_eqb, arith}
use mathlib.Core.Logic.{dite}
use native.Mathlib.Decide.{ℕ_discrete}
use Rattle.object_graph.specs.declared.limits.TheConstants.{MOST_SLOTS}
use Rattle.mark_pool.specs.declared.place.Place.{Place}
use Rattle.mark_pool.specs.Marks.{times}
use Rattle.mark_pool.specs.Unscanned.{is_unscanned, unscanned_slots, unscanned}

-- what was scanned is scanned
abbrev Stay : List Place → List Place → Type 0
Stay before after = (page slot : ℕ) → 0 < times page slot before → 0 < times page slot after

one_none : (n : ℕ) → n ≡ 0 → is_unscanned n ≡ 1
one_none n z = ap (λ b. cond b 1 0) (eq-eqb n 0 z)

one_some : (n : ℕ) → 0 < n → is_unscanned n ≡ 0
one_some n h = ap (λ b. cond b 1 0) (ne_eqb n 0 (λ z. omega (arith, z, h)))

one_less : (a b : ℕ) → (0 < a → 0 < b) → is_unscanned b ≤ is_unscanned a
one_less a b more = dite (ℕ_discrete a 0)
    (λ z. let p = one_none a z in dite (ℕ_discrete b 0) (λ y. let q = one_none b y in omega (arith, p, q)) (λ y. let q = one_some b (omega (arith, y)) in omega (arith, p, q)))
    (λ z. let h : 0 < a = omega (arith, z) in let p = one_some a h in let q = one_some b (more h) in omega (arith, p, q))

slots_less : (before after : List Place) (page k : ℕ) → Stay before after → unscanned_slots after page k ≤ unscanned_slots before page k
slots_less before after page zero stay = omega arith
slots_less before after page (suc k) stay =
    let h = slots_less before after page k stay in
    let o = one_less (times page k before) (times page k after) (stay page k) in omega (arith, h, o)

slots_fewer : (before after : List Place) (page k slot : ℕ) → Stay before after → slot < k → times page slot before ≡ 0 → 0 < times page slot after
    → unscanned_slots after page k < unscanned_slots before page k
slots_fewer before after page zero slot stay low was is = absurd (omega (arith, low))
slots_fewer before after page (suc k) slot stay low was is = dite (ℕ_discrete slot k)
    (λ e.
    let h = slots_less before after page k stay in
    let w : times page k before ≡ 0 = (let q = ap (λ j. times page j before) e in omega (arith, q, was)) in
    let i : 0 < times page k after = (let q = ap (λ j. times page j after) e in omega (arith, q, is)) in
    let p = one_none (times page k before) w in
    let q = one_some (times page k after) i in omega (arith, h, p, q))
    (λ n.
    let h = slots_fewer before after page k slot stay (omega (arith, low, n)) was is in
    let o = one_less (times page k before) (times page k after) (stay page k) in omega (arith, h, o))

pub less : (n : ℕ) (before after : List Place) → Stay before after → unscanned n after ≤ unscanned n before
less zero before after stay = omega arith
less (suc n) before after stay =
    let h = less n before after stay in
    let k = slots_less before after n MOST_SLOTS stay in omega (arith, h, k)

pub fewer : (n page slot : ℕ) (before after : List Place) → Stay before after → page < n → slot < MOST_SLOTS → times page slot before ≡ 0 → 0 < times page slot after
    → unscanned n after < unscanned n before
fewer zero page slot before after stay low thin was is = absurd (omega (arith, low))
fewer (suc n) page slot before after stay low thin was is = dite (ℕ_discrete page n)
    (λ e.
    let h = less n before after stay in
    let w : times n slot before ≡ 0 = (let q = ap (λ j. times j slot before) e in omega (arith, q, was)) in
    let i : 0 < times n slot after = (let q = ap (λ j. times j slot after) e in omega (arith, q, is)) in
    let k = slots_fewer before after n MOST_SLOTS slot stay thin w i in omega (arith, h, k))
    (λ m.
    let h = fewer n page slot before after stay (omega (arith, low, m)) thin was is in
    let k = slots_less before after n MOST_SLOTS stay in omega (arith, h, k))
