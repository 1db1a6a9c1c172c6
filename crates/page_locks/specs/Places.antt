-- The places of transactions, and the locks that they make.
use Rattle.std.specs.Prelude.{◌≡◌, ℕ, ◌+◌, ◌<◌, ◌≤◌, Bool, true, false, not, ◌&&◌, ◌==◌, Option, Some, None, List, [], length, map, nat_eq, nat_lt, if◌then◌else◌, slice_index_or}
use Rattle.std.specs.List.{sum_by, All, IsDistinct}
use Rattle.object_graph.specs.declared.limits.TheConstants.{MOST_OPEN}
use Rattle.page_locks.specs.Sets.{has_bit, in_set, is_among, HasRoom}
use Rattle.page_locks.specs.Words.{word_of, holders_at, is_held, conflicts}
use Rattle.page_locks.specs.Holding.{Held, KeepsApart, AddsShared, AddsExclusive}
use Rattle.page_locks.specs.declared.holders.Holders.{Holders}
use Rattle.page_locks.specs.declared.holders.Mode.{Mode}
use Rattle.page_locks.specs.declared.holders.Mode.TheVariants.{Shared, Exclusive}
use Rattle.page_locks.specs.declared.seats.Seat.{Seat}
use Rattle.page_locks.specs.declared.admitted.Admitted.{Admitted}

abbrev pub free_seat : Seat
free_seat = record { txn = None; pages = [] }

abbrev pub seat_at : List Seat → ℕ → Seat
seat_at seats place = slice_index_or seats place free_seat

-- the number of the transaction at a place
abbrev pub transaction_at : List Seat → ℕ → Option ℕ
transaction_at seats place = (seat_at seats place).txn

-- the pages that the place may hold
abbrev pub may_hold : List Seat → ℕ → ℕ → Bool
may_hold seats place page = in_set (seat_at seats place).pages page

abbrev pub free_or_not : Option ℕ → ℕ
free_or_not None = 1
free_or_not (Some n) = 0

-- how many places are free
abbrev pub count_free : List Seat → ℕ
count_free seats = sum_by (λ s. free_or_not s.txn) seats

-- by page, whether the place holds it so
abbrev pub pages_of : Mode → List Holders → ℕ → List Bool
pages_of mode holders place = map (λ h. has_bit (word_of mode h) place) holders

-- the locks of those admitted
abbrev pub locks_of : List Holders → List Admitted → List Held
locks_of holders admitted =
    map (λ a. record {
      txn = a.txn;
      shared = pages_of Shared holders a.place;
      exclusive = pages_of Exclusive holders
          a.place;
    }) admitted

abbrev pub numbers_in : List Admitted → List ℕ
numbers_in admitted = map (λ a. a.txn) admitted

-- all places are free, and have room for the pages below a count
pub record AreFresh (pages : ℕ) (seats : List Seat) : Type 0 where
  pub count : length seats ≡ MOST_OPEN
  pub free : All (λ s. s.txn ≡ None) seats
  pub empty : All (λ s. (page : ℕ) → in_set s.pages page ≡ false) seats
  pub room : All (λ s. HasRoom pages s.pages) seats

-- each that is admitted has a place, and each place that isn't free one that is admitted
pub record AreSeated (held : List Admitted) (seats : List Seat) : Type 0 where
  pub count : length seats ≡ MOST_OPEN
  pub seated : All (λ a. (a.place < MOST_OPEN) × (transaction_at seats a.place ≡ Some a.txn)) held
  pub admitted : (place n : ℕ) → transaction_at seats place ≡ Some n → is_among (numbers_in held) n ≡ true
  pub single : (one other n : ℕ) → transaction_at seats one ≡ Some n → transaction_at seats other ≡ Some n → one ≡ other
  pub distinct : IsDistinct nat_eq (numbers_in held)
  pub free : length held + count_free seats ≡ MOST_OPEN

-- what a place holds is among the pages that it may hold, and a free place holds none
pub record AreCovered (pages : ℕ) (holders : List Holders) (seats : List Seat) : Type 0 where
  pub count : length holders ≡ pages
  pub covered : (mode : Mode) (page place : ℕ) → place < MOST_OPEN → is_held mode holders page place ≡ true
      → may_hold seats place page ≡ true
  pub empty : (place page : ℕ) → transaction_at seats place ≡ None → may_hold seats place page ≡ false
  pub room : (place : ℕ) → place < MOST_OPEN → HasRoom pages (seat_at seats place).pages

pub record IsLockTable (pages : ℕ) (holders : List Holders) (admitted : List Admitted)
    (seats : List Seat) : Type 0 where
  pub seated : AreSeated admitted seats
  pub covered : AreCovered pages holders seats
  pub apart : KeepsApart (locks_of holders admitted)

-- ---- the least number at some places

-- the number is that of one of the first places that are in the set
pub record IsAtMarkedPlace (seats : List Seat) (places count n : ℕ) : Type 0 where
  pub place : ℕ
  pub below : place < count
  pub marked : has_bit places place ≡ true
  pub number : transaction_at seats place ≡ Some n

-- none, or the least of these numbers
abbrev pub IsLeastMarked : List Seat → ℕ → ℕ → Option ℕ → Type 0
IsLeastMarked seats places count None = (n : ℕ) → IsAtMarkedPlace seats places count n → ⊥
IsLeastMarked seats places count (Some least) =
    IsAtMarkedPlace seats places count least × ((n : ℕ) → IsAtMarkedPlace seats places count n → least ≤ n)

-- the smaller of two numbers
abbrev pub smaller_of : Option ℕ → Option ℕ → Option ℕ
smaller_of None other = other
smaller_of (Some n) None = Some n
smaller_of (Some n) (Some least) = if nat_lt least n then Some least else Some n

-- ---- what a lock of a mode is

-- the least number that is in the way of the one at a place, if any is
pub record IsLeastInWay (holders : List Holders) (seats : List Seat) (place page : ℕ) (mode : Mode)
    (least : Option ℕ) : Type 0 where
  pub places : ℕ
  pub each : (q : ℕ) → q < MOST_OPEN
      → has_bit places q ≡ (not (q == place) && conflicts mode (holders_at holders page) q)
  pub is_least : IsLeastMarked seats places MOST_OPEN least

-- one more lock
abbrev pub AddsLock : Mode → List Held → List Held → ℕ → ℕ → Type 0
AddsLock Shared = AddsShared
AddsLock Exclusive = AddsExclusive
