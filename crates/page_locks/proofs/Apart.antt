-- One who holds a page exclusive is alone with it.
use Rattle.std.proofs.Common.{◌≡◌, ◌≢◌, ℕ, Bool, true, false, ◌||◌, ◌&&◌, ◌==◌, not, List, refl, ap, sym, subst, ◌∙◌, inl, inr}
use Rattle.std.proofs.lemmas.Bool.{and_parts, or_cases, cases_Bool, cases_eq, eq-eqb, eqb-true, ne_eqb}
use Rattle.page_locks.specs.Holding.{Held, shares, excludes, is_in_way, IsNobody, HaveSameLocks, AddsShared, AddsExclusive, Releases, KeepsApart}

pub or_parts : (a b : Bool) → (a || b) ≡ false → (a ≡ false) × (b ≡ false)
or_parts true b h = cc
or_parts false b h = (refl, h)

both_false : (a b : Bool) → a ≡ false → b ≡ false → (a || b) ≡ false
both_false true b p q = cc
both_false false b p q = q

and_left : (a b : Bool) → (a && b) ≡ true → a ≡ true
and_left true b h = refl
and_left false b h = h

false_and : (a b : Bool) → a ≡ false → (a && b) ≡ false
false_and true b h = cc
false_and false b h = refl

no_way_by : (s a : Bool) → s ≡ true → (s && a) ≡ false → a ≡ false
no_way_by true a e h = h
no_way_by false a e h = cc

-- another, in whose way nobody is, holds nothing that is in the way
no_way : (to_write : Bool) (held : List Held) (by at other : ℕ) → IsNobody (is_in_way to_write held by at) → other ≢ by
    → ((to_write && shares held other at) ≡ false) × (excludes held other at ≡ false)
no_way to_write held by at other nobody ne =
    or_parts (to_write && shares held other at) (excludes held other at)
    (no_way_by (not (other == by)) ((to_write && shares held other at) || excludes held other at) (ap not (ne_eqb other by ne)) (nobody other))

pub apart_same : (old new : List Held) → HaveSameLocks old new → KeepsApart old → KeepsApart new
apart_same old new h apart = λ one other page e ne.
    let k = apart one other page (sym (h.exclusive one page) ∙ e) ne in
    (h.shared other page ∙ k.0, h.exclusive other page ∙ k.1)

-- the lock that was added isn't the other's
not_added : (by at other page : ℕ) → (by ≡ other → page ≡ at → ⊥) → ((by == other) && (page == at)) ≡ false
not_added by at other page never = elim (cases_Bool ((by == other) && (page == at))) [
  | inl added ↦ let p = and_parts (by == other) (page == at) added in absurd (never (eqb-true by other p.0) (eqb-true page at p.1))
  | inr away ↦ away
]

-- one who excludes a page is in the way of another who wants it
in_the_way : (to_write : Bool) (held : List Held) (by at one other page : ℕ) → IsNobody (is_in_way to_write held by at) → one ≢ other
    → excludes held one page ≡ true → by ≡ other → page ≡ at → ⊥
in_the_way to_write held by at one other page nobody ne e same here =
    let none = no_way to_write held by at one nobody (λ z. ne (z ∙ same)) in
    let there : excludes held one at ≡ true = subst (λ p. excludes held one p ≡ true) here e in
    let clash : true ≡ false = sym there ∙ none.1 in cc

pub apart_shared : (old new : List Held) (by at : ℕ) → AddsShared old new by at → IsNobody (is_in_way false old by at) → KeepsApart old → KeepsApart new
apart_shared old new by at h nobody apart = λ one other page e ne.
    let e' : excludes old one page ≡ true = sym (h.exclusive one page) ∙ e in
    let k = apart one other page e' ne in (
      h.shared other page ∙ both_false (shares old other page) ((by == other) && (page == at)) k.0
          (not_added by at other page (in_the_way false old by at one other page nobody ne e')),
      h.exclusive other page ∙ k.1,
    )

pub apart_exclusive : (old new : List Held) (by at : ℕ) → AddsExclusive old new by at → IsNobody (is_in_way true old by at) → KeepsApart old → KeepsApart new
apart_exclusive old new by at h nobody apart = λ one other page e ne.
    elim (or_cases (excludes old one page) ((by == one) && (page == at)) (sym (h.exclusive one page) ∙ e)) [
      | inl o ↦
          let k = apart one other page o ne in (
            h.shared other page ∙ k.0,
            h.exclusive other page ∙ both_false (excludes old other page) ((by == other) && (page == at)) k.1
                (not_added by at other page (in_the_way true old by at one other page nobody ne o)),
          )
      | inr added ↦
          let p = and_parts (by == one) (page == at) added in
          let same : by ≡ one = eqb-true by one p.0 in
          let here : page ≡ at = eqb-true page at p.1 in
          let none = no_way true old by at other nobody (λ z. ne (sym same ∙ sym z)) in (
            h.shared other page ∙ subst (λ q. shares old other q ≡ false) (sym here) none.0,
            h.exclusive other page ∙ both_false (excludes old other page) ((by == other) && (page == at))
                (subst (λ q. excludes old other q ≡ false) (sym here) none.1)
                (not_added by at other page (λ s t. ne (sym same ∙ s))),
          )
    ]

pub apart_released : (old new : List Held) (gone : ℕ) → Releases old new gone → KeepsApart old → KeepsApart new
apart_released old new gone h apart = λ one other page e ne.
    let k = apart one other page (and_left (excludes old one page) (not (one == gone)) (sym (h.exclusive one page) ∙ e)) ne in (
      h.shared other page ∙ false_and (shares old other page) (not (other == gone)) k.0,
      h.exclusive other page ∙ false_and (excludes old other page) (not (other == gone)) k.1,
    )

-- ---- what is held is given

own_way : (other txn : ℕ) (b : Bool) → (other ≢ txn → b ≡ false) → (not (other == txn) && b) ≡ false
own_way other txn b h = elim (cases_eq other txn) [
  | inl same ↦ false_and (not (other == txn)) b (ap not (eq-eqb other txn same))
  | inr ne ↦ ap (λ c. not (other == txn) && c) (h ne) ∙ and_nothing (not (other == txn))
]
  where
    and_nothing : (a : Bool) → (a && false) ≡ false
    and_nothing true = refl
    and_nothing false = refl

pub shared_is_given : (held : List Held) → KeepsApart held → (txn page : ℕ) → (shares held txn page || excludes held txn page) ≡ true
    → IsNobody (is_in_way false held txn page)
shared_is_given held apart txn page own = λ other.
    own_way other txn (excludes held other page) (λ ne. elim (cases_Bool (excludes held other page)) [
      | inl e ↦
          let k = apart other txn page e ne in
          let none : (shares held txn page || excludes held txn page) ≡ false = both_false (shares held txn page) (excludes held txn page) k.0 k.1 in
          let clash : true ≡ false = sym own ∙ none in cc
      | inr free ↦ free
    ])

pub exclusive_is_given : (held : List Held) → KeepsApart held → (txn page : ℕ) → excludes held txn page ≡ true → IsNobody (is_in_way true held txn page)
exclusive_is_given held apart txn page own = λ other.
    own_way other txn (shares held other page || excludes held other page) (λ ne.
    let k = apart txn other page own (λ z. ne (sym z)) in
    both_false (shares held other page) (excludes held other page) k.0 k.1)
