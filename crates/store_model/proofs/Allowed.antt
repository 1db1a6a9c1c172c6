-- What an allowed answer says of the world: no cause is met.
use Rattle.std.proofs.Common.{◌≡◌, ◌≢◌, ℕ, Bool, true, false, ◌&&◌, ◌||◌, ◌==◌, not, cond, List, [], ◌∷◌, map, Option, Some, None, refl, subst, ap, ◌⊎◌, inl, inr}
use Rattle.std.specs.List.{filter}
use Rattle.std.specs.Option.{option_map, is_none}
use Rattle.std.proofs.lemmas.Bool.{and_from, or_cases, cases_Bool, eqb-true, not-false, ne_eqb}
use Rattle.object_graph.specs.NameParts.{NameParts}
use Rattle.object_graph.specs.declared.calls.Call.TheVariants.{Put}
use Rattle.object_graph.specs.declared.calls.Refusal.{Refusal}
use Rattle.object_graph.specs.declared.calls.Refusal.TheVariants.{Busy}
use Rattle.object_graph.specs.Graphs.{has_name}
use Rattle.object_graph.specs.Slots.{least, least_with}
use Rattle.store_model.specs.Worlds.{World, Transaction, Note, assign, find_transaction, transaction}
use Rattle.store_model.specs.Causes.{first_met, first_refusal, when, holder, busy_to_write, not_open, stranger, too_wide, broken, has_page}
use Rattle.store_model.specs.Steps.{with_page, writes}
use Rattle.object_graph.proofs.Members.{In, filter_in, map_in}
use Rattle.store_model.specs.Lawful.{IsApart}

-- where no cause is met, the first isn't, nor any after it
pub first_met_none : (cause : Option Refusal) (causes : List (Option Refusal)) → first_met (cause ∷ causes) ≡ None → (cause ≡ None) × (first_met causes ≡ None)
first_met_none None causes h = (refl, h)
first_met_none (Some why) causes h = cc

pub when_none : (b : Bool) (why : Refusal) → when b why ≡ None → b ≡ false
when_none true why h = cc
when_none false why h = refl

some_least : (n : ℕ) (o : Option ℕ) → least_with n o ≡ None → ⊥
some_least n None h = cc
some_least n (Some m) h = cc

none_left : (ns : List ℕ) → least ns ≡ None → ns ≡ []
none_left [] h = refl
none_left (n ∷ ns) h = absurd (some_least n (least ns) h)

pub mapped_none : (o : Option ℕ) → option_map (λ h. Busy h) o ≡ None → o ≡ None
mapped_none None h = refl
mapped_none (Some n) h = cc

-- with no holder, no other open transaction passes the test
pub nobody_holds : (w : World) (number : ℕ) (test : Transaction → Bool) (u : Transaction) → holder w number test ≡ None
    → In u w.transactions → u.number ≢ number → test u ≡ false
nobody_holds w number test u h m other =
    let picks : Transaction → Bool = λ t. not (t.number == number) && test t in
    let none : map (λ t. t.number) (filter picks w.transactions) ≡ [] = none_left (map (λ t. t.number) (filter picks w.transactions)) h in
    let off : (u.number == number) ≡ false = ne_eqb u.number number other in
    elim (cases_Bool (test u)) [
      | inr f ↦ f
      | inl t ↦
          let passes : picks u ≡ true = and_from (not (u.number == number)) (test u) (ap not off) t in
          let there : In u.number (map (λ (t : Transaction). t.number) (filter picks w.transactions)) =
          map_in (λ (t : Transaction). t.number) (filter picks w.transactions) u (filter_in picks w.transactions u m passes) in
          absurd (subst (λ ns. In u.number ns) none there)
    ]

-- a write that is allowed: it is of a known name of an open transaction, and nobody else read or wrote the page
pub record MayWrite (w : World) (number : ℕ) (name : NameParts) : Type 0 where
  pub is_open : is_none (find_transaction w number) ≡ false
  pub known : has_name (transaction w number).known name ≡ true
  pub alone : (u : Transaction) → In u w.transactions → u.number ≢ number → (has_page u.pages_read name.page || has_page u.pages_written name.page) ≡ false

pub put_is_allowed : (w : World) (number : ℕ) (name : NameParts) (value : ℕ) (note : Note) → first_refusal w (Put number name value) note ≡ None → MayWrite w number name
put_is_allowed w number name value note h =
    let a = first_met_none (broken w) (not_open w number ∷ stranger w number name ∷ busy_to_write w number name.page ∷ too_wide w number name.page ∷ []) h in
    let b = first_met_none (not_open w number) (stranger w number name ∷ busy_to_write w number name.page ∷ too_wide w number name.page ∷ []) a.1 in
    let c = first_met_none (stranger w number name) (busy_to_write w number name.page ∷ too_wide w number name.page ∷ []) b.1 in
    let d = first_met_none (busy_to_write w number name.page) (too_wide w number name.page ∷ []) c.1 in
    record {
      is_open = when_none (is_none (find_transaction w number)) _ b.0;
      known = not-false (has_name (transaction w number).known name) (when_none (not (has_name (transaction w number).known name)) _ c.0);
      alone = λ u m other. nobody_holds w number (λ t. has_page t.pages_read name.page || has_page t.pages_written name.page) u
          (mapped_none (holder w number (λ t. has_page t.pages_read name.page || has_page t.pages_written name.page)) d.0) m other;
    }

-- one more page in a list
pub with_page_cases : (page other : ℕ) (pages : List ℕ) → has_page (with_page page pages) other ≡ true → (page ≡ other) ⊎ (has_page pages other ≡ true)
with_page_cases page other pages h = elim (cases_Bool (has_page pages page)) [
  | inl e ↦ inr (subst (λ (ps : List ℕ). has_page ps other ≡ true) (ap (λ b. cond b pages (page ∷ pages)) e) h)
  | inr e ↦
      let k : ((page == other) || has_page pages other) ≡ true = subst (λ (ps : List ℕ). has_page ps other ≡ true) (ap (λ b. cond b pages (page ∷ pages)) e) h in
      elim (or_cases (page == other) (has_page pages other) k) [ inl p ↦ inl (eqb-true page other p) | inr q ↦ inr q ]
]

-- after an allowed write the transaction stays apart from each other one
pub write_keeps_apart : (w : World) (t u : Transaction) (name : NameParts) (value : ℕ) → MayWrite w t.number name
    → In u w.transactions → u.number ≢ t.number → IsApart t u → IsApart (writes (assign name value) name.page t) u
write_keeps_apart w t u name value may m other apart = λ page used.
    elim (cases_Bool (has_page (with_page name.page t.pages_written) page)) [
      | inr f ↦ f
      | inl e ↦ elim (with_page_cases name.page page t.pages_written e) [
        | inl same ↦
            let z : (has_page u.pages_read page || has_page u.pages_written page) ≡ false =
            subst (λ p. (has_page u.pages_read p || has_page u.pages_written p) ≡ false) same (may.alone u m other) in cc
        | inr before ↦ let z = apart page used in cc
      ]
    ]
