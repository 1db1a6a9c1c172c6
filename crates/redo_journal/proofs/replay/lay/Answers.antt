use Rattle.std.proofs.Common.{◌≡◌, inl, inr, ℕ, ◌<◌, ◌≤◌, get_or, length, List, [], ◌∷◌, arith, subst, sym, ◌∙◌, ap}
use Rattle.std.proofs.lemmas.Bool.{cases_eq}
use Rattle.std.proofs.lemmas.List.{get_or-map}
use Rattle.page_image.specs.Pages.{PageParts}
use Rattle.redo_journal.specs.Record.{numbers_of}
use Rattle.redo_journal.specs.Replays.{AreLatest, IsLaidOver}
use Rattle.redo_journal.proofs.Laying.{inserted, replaced}
use Rattle.redo_journal.proofs.replay.lay.Goals as goal
use Rattle.redo_journal.proofs.replay.lay.Goals.{else-at-len-via-then-at-len+else-number, else-at-len-via-else-at-len}

before : (xs ys : List PageParts) (n m at : ℕ) → ys ≡ xs → n ≡ m → ((i : ℕ) → i < at → get_or (numbers_of ys) i 0 < n) → (i : ℕ) → i < at → get_or (numbers_of xs) i 0 < m
before xs ys n m at same is h i lt = omega (arith, is, h i lt, ap (λ (zs : List PageParts). get_or (numbers_of zs) i 0) same)

numbered : (xs : List PageParts) (at : ℕ) (p : PageParts) → at < length xs → p ≡ get_or xs at p → get_or (numbers_of xs) at 0 ≡ p.number
numbered xs at p lt is = get_or-map (λ (q : PageParts). q.number) xs at p 0 lt ∙ ap (λ (q : PageParts). q.number) (sym is)

pub returns-then-number-clause-kept : goal.returns-then-number-clause-kept
returns-then-number-clause-kept c =
    let xs = c.args.images.now.items in
    let inside : c.place_of-at.result < length xs = omega (arith, c.if-at-len.true, c.len.ensures) in
    let same : get_or (numbers_of xs) c.place_of-at.result 0 ≡ c.args.image.number =
    numbered xs c.place_of-at.result c.index.result.now inside c.index.ensures ∙ sym c.number-then-at-len.ensures.value ∙ c.if-number.true ∙ c.number-then-at-len-2.ensures.value in
    (replaced c.args.pages xs c.args.image c.place_of-at.result c.requires.kept c.requires.below (omega (arith, inside)) (before xs c.deref.result.now c.number.result c.args.image.number c.place_of-at.result c.deref.ensures.value c.number.ensures.value c.place_of-at.ensures.before) inside same).0

pub returns-then-number-clause-laid : goal.returns-then-number-clause-laid
returns-then-number-clause-laid c =
    let xs = c.args.images.now.items in
    let inside : c.place_of-at.result < length xs = omega (arith, c.if-at-len.true, c.len.ensures) in
    let same : get_or (numbers_of xs) c.place_of-at.result 0 ≡ c.args.image.number =
    numbered xs c.place_of-at.result c.index.result.now inside c.index.ensures ∙ sym c.number-then-at-len.ensures.value ∙ c.if-number.true ∙ c.number-then-at-len-2.ensures.value in
    (replaced c.args.pages xs c.args.image c.place_of-at.result c.requires.kept c.requires.below (omega (arith, inside)) (before xs c.deref.result.now c.number.result c.args.image.number c.place_of-at.result c.deref.ensures.value c.number.ensures.value c.place_of-at.ensures.before) inside same).1

above : (xs ys : List PageParts) (at n m : ℕ) → ys ≡ xs → n ≡ m → (at < length ys → n ≤ get_or (numbers_of ys) at 0) → (at < length xs → get_or (numbers_of xs) at 0 ≡ m → ⊥) → at < length xs → m < get_or (numbers_of xs) at 0
above xs ys at n m same is from other lt =
    let le = from (omega (arith, lt, ap (λ (zs : List PageParts). length zs) same)) in
    elim (cases_eq (get_or (numbers_of xs) at 0) m) [
      | inl hit ↦ absurd (other lt hit)
      | inr apart ↦ omega (arith, le, is, apart, ap (λ (zs : List PageParts). get_or (numbers_of zs) at 0) same)
    ]

pub returns-clause-kept : goal.returns-clause-kept
returns-clause-kept c =
    let xs = c.args.images.now.items in
    let at = c.place_of-at.result in
    let fits : at ≤ length xs = omega (arith, c.place_of-at.ensures.bound, ap length c.deref.ensures.value) in
    let other : at < length xs → get_or (numbers_of xs) at 0 ≡ c.args.image.number → ⊥ =
    elim c.else-at-len.branch [
      | else-at-len-via-then-at-len+else-number w ↦ λ lt hit. w.if-number.false (w.number-then-at-len.ensures.value ∙ sym (numbered xs at w.index.result.now lt w.index.ensures) ∙ hit ∙ sym w.number-then-at-len-2.ensures.value)
      | else-at-len-via-else-at-len w ↦ λ lt hit. absurd (omega (arith, lt, w.if-at-len.false, c.len.ensures))
    ] in
    let higher = above xs c.deref.result.now at c.number.result c.args.image.number c.deref.ensures.value c.number.ensures.value c.place_of-at.ensures.from other in
    subst (λ (ys : List PageParts). AreLatest c.args.pages ys) (sym c.in_ok-insert.ensures.items)
    (inserted c.args.pages xs c.args.image at c.requires.kept c.requires.below fits (before xs c.deref.result.now c.number.result c.args.image.number at c.deref.ensures.value c.number.ensures.value c.place_of-at.ensures.before) higher).0

pub returns-clause-laid : goal.returns-clause-laid
returns-clause-laid c =
    let xs = c.args.images.now.items in
    let at = c.place_of-at.result in
    let fits : at ≤ length xs = omega (arith, c.place_of-at.ensures.bound, ap length c.deref.ensures.value) in
    let other : at < length xs → get_or (numbers_of xs) at 0 ≡ c.args.image.number → ⊥ =
    elim c.else-at-len.branch [
      | else-at-len-via-then-at-len+else-number w ↦ λ lt hit. w.if-number.false (w.number-then-at-len.ensures.value ∙ sym (numbered xs at w.index.result.now lt w.index.ensures) ∙ hit ∙ sym w.number-then-at-len-2.ensures.value)
      | else-at-len-via-else-at-len w ↦ λ lt hit. absurd (omega (arith, lt, w.if-at-len.false, c.len.ensures))
    ] in
    let higher = above xs c.deref.result.now at c.number.result c.args.image.number c.deref.ensures.value c.number.ensures.value c.place_of-at.ensures.from other in
    subst (λ (ys : List PageParts). IsLaidOver (c.args.image ∷ []) xs ys) (sym c.in_ok-insert.ensures.items)
    (inserted c.args.pages xs c.args.image at c.requires.kept c.requires.below fits (before xs c.deref.result.now c.number.result c.args.image.number at c.deref.ensures.value c.number.ensures.value c.place_of-at.ensures.before) higher).1
