-- The locks after a step of a transaction.
use Rattle.std.proofs.Common.{◌≡◌, ◌≢◌, ℕ, ◌||◌, ◌&&◌, ◌==◌, List, Some, refl, sym, ap, ◌∙◌, inl, inr}
use Rattle.std.specs.Option.{unwrap_or}
use Rattle.std.proofs.lemmas.Bool.{cases_eq, eq-eqb, ne_eqb}
use Rattle.store_model.specs.Worlds.{World, Transaction, find_transaction, transaction, fresh_transaction}
use Rattle.store_model.specs.Causes.{has_page}
use Rattle.store_model.specs.Steps.{with_page, with_transaction}
use Rattle.page_locks.specs.Holding.{LockTable, AddsShared, AddsExclusive}
use Rattle.transactions.specs.Standing.{AreLocks}
use Rattle.transactions.proofs.Numbers.{KeepsNumber, transaction_found, find-with_same, find-with_other}
use Rattle.transactions.proofs.Entries.{or_false, has_page-with_page, numbers-with_transaction}

-- ---- transactions after a change

pub at_same : (w : World) (txn : ℕ) (change : Transaction → Transaction) (t : Transaction) → KeepsNumber change → find_transaction w txn ≡ Some t
    → transaction (with_transaction w txn change) txn ≡ change t
at_same w txn change t kept found = transaction_found (with_transaction w txn change) txn (change t) (find-with_same w txn change t kept found)

pub at_other : (w : World) (txn u : ℕ) (change : Transaction → Transaction) → KeepsNumber change → u ≢ txn
    → transaction (with_transaction w txn change) u ≡ transaction w u
at_other w txn u change kept ne = ap (λ o. unwrap_or o (fresh_transaction u)) (find-with_other w txn u change kept ne)

-- ---- the pages that transactions read, or wrote

eqb_sym : (a b : ℕ) → (a == b) ≡ (b == a)
eqb_sym a b = elim (cases_eq a b) [
  | inl e ↦ eq-eqb a b e ∙ sym (eq-eqb b a (sym e))
  | inr ne ↦ ne_eqb a b ne ∙ sym (ne_eqb b a (λ f. ne (sym f)))
]

-- a list of pages stays with all transactions
stays : (w : World) (txn u p : ℕ) (change : Transaction → Transaction) (t : Transaction) (pages : Transaction → List ℕ) → find_transaction w txn ≡ Some t → KeepsNumber change
    → pages (change t) ≡ pages t → has_page (pages (transaction w u)) p ≡ has_page (pages (transaction (with_transaction w txn change) u)) p
stays w txn u p change t pages found kept same = elim (cases_eq u txn) [
  | inl here ↦
      ap (λ v. has_page (pages (transaction w v)) p) here
      ∙ (ap (λ x. has_page (pages x) p) (transaction_found w txn t found)
      ∙ (ap (λ ps. has_page ps p) (sym same)
      ∙ (ap (λ x. has_page (pages x) p) (sym (at_same w txn change t kept found))
      ∙ ap (λ v. has_page (pages (transaction (with_transaction w txn change) v)) p) (sym here))))
  | inr ne ↦ ap (λ x. has_page (pages x) p) (sym (at_other w txn u change kept ne))
]

-- one transaction has one page more
grows : (w : World) (txn u page p : ℕ) (change : Transaction → Transaction) (t : Transaction) (pages : Transaction → List ℕ) → find_transaction w txn ≡ Some t → KeepsNumber change
    → pages (change t) ≡ with_page page (pages t)
    → (has_page (pages (transaction w u)) p || ((txn == u) && (p == page))) ≡ has_page (pages (transaction (with_transaction w txn change) u)) p
grows w txn u page p change t pages found kept more = elim (cases_eq u txn) [
  | inl same ↦
      ap (λ v. has_page (pages (transaction w v)) p || ((txn == v) && (p == page))) same
      ∙ (ap (λ x. has_page (pages x) p || ((txn == txn) && (p == page))) (transaction_found w txn t found)
      ∙ (ap (λ b. has_page (pages t) p || (b && (p == page))) (eq-eqb txn txn refl)
      ∙ (ap (λ b. has_page (pages t) p || b) (eqb_sym p page)
      ∙ (sym (has_page-with_page page p (pages t))
      ∙ (ap (λ ps. has_page ps p) (sym more)
      ∙ (ap (λ x. has_page (pages x) p) (sym (at_same w txn change t kept found))
      ∙ ap (λ v. has_page (pages (transaction (with_transaction w txn change) v)) p) (sym same)))))))
  | inr ne ↦
      ap (λ b. has_page (pages (transaction w u)) p || (b && (p == page))) (ne_eqb txn u (λ f. ne (sym f)))
      ∙ (or_false (has_page (pages (transaction w u)) p) ∙ ap (λ x. has_page (pages x) p) (sym (at_other w txn u change kept ne)))
]

-- ---- the locks

-- one more exclusive lock
pub locks_exclude : (w : World) (old new : LockTable) (txn page : ℕ) (change : Transaction → Transaction) (t : Transaction) → AreLocks w old
    → find_transaction w txn ≡ Some t → KeepsNumber change → (change t).pages_written ≡ with_page page t.pages_written → (change t).pages_read ≡ t.pages_read
    → new.pages ≡ old.pages → AddsExclusive old.held new.held txn page → AreLocks (with_transaction w txn change) new
locks_exclude w old new txn page change t h found kept written read pages adds = record {
  pages = pages ∙ h.pages;
  admitted = adds.admitted ∙ (h.admitted ∙ sym (numbers-with_transaction w txn change kept));
  shared = λ u p. adds.shared u p ∙ (h.shared u p ∙ stays w txn u p change t (λ x. x.pages_read) found kept read);
  exclusive = λ u p. adds.exclusive u p ∙ (ap (λ b. b || ((txn == u) && (p == page))) (h.exclusive u p) ∙ grows w txn u page p change t (λ x. x.pages_written) found kept written);
}

-- one more shared lock
pub locks_share : (w : World) (old new : LockTable) (txn page : ℕ) (change : Transaction → Transaction) (t : Transaction) → AreLocks w old
    → find_transaction w txn ≡ Some t → KeepsNumber change → (change t).pages_read ≡ with_page page t.pages_read → (change t).pages_written ≡ t.pages_written
    → new.pages ≡ old.pages → AddsShared old.held new.held txn page → AreLocks (with_transaction w txn change) new
locks_share w old new txn page change t h found kept read written pages adds = record {
  pages = pages ∙ h.pages;
  admitted = adds.admitted ∙ (h.admitted ∙ sym (numbers-with_transaction w txn change kept));
  shared = λ u p. adds.shared u p ∙ (ap (λ b. b || ((txn == u) && (p == page))) (h.shared u p) ∙ grows w txn u page p change t (λ x. x.pages_read) found kept read);
  exclusive = λ u p. adds.exclusive u p ∙ (h.exclusive u p ∙ stays w txn u p change t (λ x. x.pages_written) found kept written);
}
