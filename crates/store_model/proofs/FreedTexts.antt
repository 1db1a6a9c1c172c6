-- No two replies have one text, those that tell which slots were freed among them.
use Rattle.std.proofs.Common.{◌≡◌, ℕ, ◌<◌, ◌^◌, ◌==◌, true, not, List, [], ◌∷◌, ◌++◌, length, get_or, refl, sym, subst, ap, ◌∙◌, ◌⊎◌, inl, inr, arith}
use Rattle.std.specs.Prelude.{codes, decimal, flat_map}
use Rattle.std.proofs.lemmas.Fmt.{decimal_injective}
use Rattle.std.proofs.lemmas.List.{append_cancel_left}
use Rattle.object_graph.specs.declared.limits.TheConstants.{MOST_SLOTS}
use Rattle.std.specs.Prelude.{Option, Some, None}
use Rattle.object_graph.specs.NameParts.{NameParts}
use Rattle.object_graph.specs.declared.calls.Phase.TheVariants.{Copying, Closed, Sweeping}
use Rattle.object_graph.specs.declared.calls.Reply.{Reply}
use Rattle.object_graph.specs.declared.calls.Reply.TheVariants.{Freed, Refused, Ref}
use Rattle.object_graph.specs.declared.calls.Refusal.{Refusal}
use Rattle.object_graph.specs.declared.calls.Refusal.TheVariants.{WrongPhase}
use Rattle.object_graph.specs.Slots.{has_slot, below, slots_in}
use Rattle.object_graph.proofs.Members.{In, each_from, in_filter, filter_in}
use Rattle.object_graph.proofs.Sets.{same_slots}
use Rattle.store_model.specs.Texts.{AreShort, FreesSlots, slots_text, reply_text, reply_numbers, is_freeing}
use Rattle.store_model.proofs.Cuts.{below_bound}
use Rattle.store_model.proofs.Given.{same_tests}
use Rattle.store_model.proofs.Lists.{in_below}
use Rattle.store_model.proofs.RefusalTexts.{refusal_kind}
use Rattle.store_model.proofs.ReplyTexts.{reply_words, reply_kind, kind_in_reply, reply_spelled, reply_texts_differ, first_digit}
use Rattle.store_model.proofs.Spelled.{StartsLow, decimal_digits, digits_then}

-- ---- slots, each after a space

abbrev spaced : List ℕ → List ℕ
spaced ns = flat_map (λ s. 32 ∷ decimal s) ns

spaced_low : (ns : List ℕ) → StartsLow (spaced ns)
spaced_low [] = tt
spaced_low (n ∷ ns) = omega arith

spaced_same : (ms ns : List ℕ) → AreShort ms → AreShort ns → spaced ms ≡ spaced ns → ms ≡ ns
spaced_same [] [] p q e = refl
spaced_same [] (n ∷ ns) p q e = cc
spaced_same (m ∷ ms) [] p q e = cc
spaced_same (m ∷ ms) (n ∷ ns) p q e =
    let rest : decimal m ++ spaced ms ≡ decimal n ++ spaced ns = cc in
    let r = digits_then (decimal m) (decimal n) (spaced ms) (spaced ns) (decimal_digits m p.0) (decimal_digits n q.0) (spaced_low ms) (spaced_low ns) rest in
    ap (λ k. k ∷ ms) (decimal_injective m n p.0 q.0 r.0) ∙ ap (λ ks. n ∷ ks) (spaced_same ms ns p.1 q.1 r.1)

-- a slot isn't the word for none
not_none : (n : ℕ) (rest : List ℕ) → n < 2 ^ 64 → codes " none" ≡ 32 ∷ (decimal n ++ rest) → ⊥
not_none n rest small e =
    let tail : codes "none" ≡ decimal n ++ rest = cc in
    let off = first_digit n 110 rest small (omega arith) in
    let on : (get_or (decimal n ++ rest) 0 0 == 110) ≡ true = ap (λ (text : List ℕ). get_or text 0 0 == 110) (sym tail) in
    cc

slots_same : (ms ns : List ℕ) → AreShort ms → AreShort ns → slots_text ms ≡ slots_text ns → ms ≡ ns
slots_same [] [] p q e = refl
slots_same [] (n ∷ ns) p q e = absurd (not_none n (spaced ns) q.0 e)
slots_same (m ∷ ms) [] p q e = absurd (not_none m (spaced ms) p.0 (sym e))
slots_same (m ∷ ms) (n ∷ ns) p q e = spaced_same (m ∷ ms) (n ∷ ns) p q e

-- ---- sets

slots_short : (set : ℕ) → AreShort (slots_in set)
slots_short set = each_from (λ n. n < 2 ^ 64) (slots_in set) (λ s m.
    let low = below_bound MOST_SLOTS s (in_filter (has_slot set) (below MOST_SLOTS) s m).0 in
    omega (arith, low))

one_way : (a b s : ℕ) → slots_in a ≡ slots_in b → s < MOST_SLOTS → has_slot a s ≡ true → has_slot b s ≡ true
one_way a b s e low h = (in_filter (has_slot b) (below MOST_SLOTS) s (subst (λ ns. In s ns) e (filter_in (has_slot a) (below MOST_SLOTS) s (in_below MOST_SLOTS s low) h))).1

same_sets : (a b : ℕ) → a < 2 ^ MOST_SLOTS → b < 2 ^ MOST_SLOTS → slots_in a ≡ slots_in b → a ≡ b
same_sets a b p q e = same_slots a b p q (λ s low. same_tests (has_slot a s) (has_slot b s) (one_way a b s e low) (one_way b a s (sym e) low))

freed_same : (a b : ℕ) → a < 2 ^ MOST_SLOTS → b < 2 ^ MOST_SLOTS → reply_text (Freed a) ≡ reply_text (Freed b) → Freed a ≡ Freed b
freed_same a b p q e =
    let rest = append_cancel_left (codes "freed") (slots_text (slots_in a)) (slots_text (slots_in b)) e in
    ap (λ (n : ℕ). Freed n) (same_sets a b p q (slots_same (slots_in a) (slots_in b) (slots_short a) (slots_short b) rest))

-- ---- all replies

refusal_known : (why : Refusal) → refusal_kind why < 26
refusal_known (WrongPhase Copying) = omega arith
refusal_known (WrongPhase Closed) = omega arith
refusal_known (WrongPhase Sweeping) = omega arith
refusal_known _ = omega arith

kind_known : (reply : Reply) → not (is_freeing reply) ≡ true → reply_kind reply < length reply_words
kind_known (Freed slots) h = cc
kind_known (Refused why) h = let low = refusal_known why in omega (arith, low)
kind_known (Ref target) h = by_target target
  where
    by_target : (target : Option NameParts) → reply_kind (Ref target) < length reply_words
    by_target None = omega arith
    by_target (Some name) = omega arith
kind_known _ h = omega arith

freed_unknown : (slots : ℕ) → kind_in_reply (reply_text (Freed slots)) ≡ length reply_words
freed_unknown slots = refl

freed_alone : (slots : ℕ) (b : Reply) → not (is_freeing b) ≡ true → AreShort (reply_numbers b) → reply_text (Freed slots) ≡ reply_text b → ⊥
freed_alone slots b h short e =
    let s = reply_spelled b h short in
    let same : reply_kind b ≡ length reply_words = sym s.told ∙ (ap kind_in_reply (sym e) ∙ freed_unknown slots) in
    let low = kind_known b h in
    omega (arith, same, low)

freeing : (reply : Reply) → ((slots : ℕ) × (reply ≡ Freed slots)) ⊎ (not (is_freeing reply) ≡ true)
freeing (Freed slots) = inl (slots, refl)
freeing _ = inr refl

pub all_reply_texts_differ : (a b : Reply) → FreesSlots a → FreesSlots b → AreShort (reply_numbers a) → AreShort (reply_numbers b) → reply_text a ≡ reply_text b → a ≡ b
all_reply_texts_differ a b x y p q e = elim (freeing a) [
  | inl f ↦ elim (freeing b) [
    | inl g ↦
        f.1 ∙ (freed_same f.0 g.0 (subst FreesSlots f.1 x) (subst FreesSlots g.1 y) (sym (ap reply_text f.1) ∙ (e ∙ ap reply_text g.1)) ∙ sym g.1)
    | inr k ↦ absurd (freed_alone f.0 b k q (sym (ap reply_text f.1) ∙ e))
  ]
  | inr h ↦ elim (freeing b) [
    | inl g ↦ absurd (freed_alone g.0 a h p (sym (ap reply_text g.1) ∙ sym e))
    | inr k ↦ reply_texts_differ a b h k p q e
  ]
]
