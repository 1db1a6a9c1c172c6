-- Who holds which locks.
use Rattle.std.specs.Prelude.{◌≡◌, ◌≢◌, ℕ, ◌≤◌, Bool, true, false, not, ◌&&◌, ◌||◌, ◌==◌, List, map, filter, slice_index_or}
use Rattle.std.specs.List.{list_any}

-- the locks of a transaction: by page, whether it holds it shared, and exclusive
pub record Held : Type 0 where
  pub txn : ℕ
  pub shared : List Bool
  pub exclusive : List Bool

abbrev pub is_in : List Bool → ℕ → Bool
is_in pages page = slice_index_or pages page false

-- the count of pages, and the locks of each transaction admitted, in the order of their admission
pub record LockTable : Type 0 where
  pub pages : ℕ
  pub held : List Held

-- the transactions admitted
abbrev pub numbers : List Held → List ℕ
numbers held = map (λ h. h.txn) held

abbrev pub is_admitted : List Held → ℕ → Bool
is_admitted held txn = list_any (λ h. h.txn == txn) held

-- the transaction holds the page shared, or exclusive
abbrev pub shares : List Held → ℕ → ℕ → Bool
shares held txn page = list_any (λ h. (h.txn == txn) && is_in h.shared page) held

abbrev pub excludes : List Held → ℕ → ℕ → Bool
excludes held txn page = list_any (λ h. (h.txn == txn) && is_in h.exclusive page) held

-- the other is in the way of a transaction that wants the page: shared, or exclusive (`to_write`)
abbrev pub is_in_way : Bool → List Held → ℕ → ℕ → ℕ → Bool
is_in_way to_write held txn page other =
    not (other == txn) && ((to_write && shares held other page) || excludes held other page)

-- nobody passes a test
abbrev pub IsNobody : (ℕ → Bool) → Type 0
IsNobody test = (other : ℕ) → test other ≡ false

-- the least that passes a test
pub record IsLeast (test : ℕ → Bool) (n : ℕ) : Type 0 where
  pub passes : test n ≡ true
  pub least : (other : ℕ) → test other ≡ true → n ≤ other

-- the other holds nothing of a page that one holds exclusive
abbrev pub KeepsApart : List Held → Type 0
KeepsApart held = (one other page : ℕ) → excludes held one page ≡ true → one ≢ other
    → (shares held other page ≡ false) × (excludes held other page ≡ false)

-- the same locks
pub record HaveSameLocks (old new : List Held) : Type 0 where
  pub shared : (txn page : ℕ) → shares new txn page ≡ shares old txn page
  pub exclusive : (txn page : ℕ) → excludes new txn page ≡ excludes old txn page

-- one more shared lock
pub record AddsShared (old new : List Held) (by at : ℕ) : Type 0 where
  pub admitted : numbers new ≡ numbers old
  pub shared : (txn page : ℕ) → shares new txn page ≡ (shares old txn page || ((by == txn) && (page == at)))
  pub exclusive : (txn page : ℕ) → excludes new txn page ≡ excludes old txn page

-- one more exclusive lock
pub record AddsExclusive (old new : List Held) (by at : ℕ) : Type 0 where
  pub admitted : numbers new ≡ numbers old
  pub shared : (txn page : ℕ) → shares new txn page ≡ shares old txn page
  pub exclusive : (txn page : ℕ) → excludes new txn page ≡ (excludes old txn page || ((by == txn) && (page == at)))

-- one transaction's locks and its admission are gone, and nothing else
pub record Releases (old new : List Held) (gone : ℕ) : Type 0 where
  pub admitted : numbers new ≡ filter (λ n. not (n == gone)) (numbers old)
  pub shared : (txn page : ℕ) → shares new txn page ≡ (shares old txn page && not (txn == gone))
  pub exclusive : (txn page : ℕ) → excludes new txn page ≡ (excludes old txn page && not (txn == gone))
