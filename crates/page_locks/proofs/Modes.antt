-- Shared and exclusive.
use Rattle.std.proofs.Common.{◌≡◌, ℕ, ◌==◌, Bool, false, ◌&&◌, ◌||◌, List, [], ◌∷◌, get_or, refl, ap, sym, ◌∙◌}
use Rattle.std.specs.List.{list_any}
use Rattle.std.proofs.Math.ListN.{get_or-map}
use Rattle.page_locks.specs.Sets.{has_bit, is_among}
use Rattle.page_locks.specs.Words.{word_of, nobody, is_held}
use Rattle.page_locks.specs.Holding.{Held, is_in, shares, excludes, numbers, is_admitted}
use Rattle.page_locks.specs.Places.{pages_of, locks_of, numbers_in}
use Rattle.page_locks.specs.declared.admitted.Admitted.{Admitted}
use Rattle.page_locks.specs.declared.holders.Holders.{Holders}
use Rattle.page_locks.specs.declared.holders.Mode.{Mode}
use Rattle.page_locks.specs.declared.holders.Mode.TheVariants.{Shared, Exclusive}
use Rattle.page_locks.proofs.Bits.{has_none}

pub each_mode : (P : Mode → Type 0) → P Shared → P Exclusive → (m : Mode) → P m
each_mode P s e Shared = s
each_mode P s e Exclusive = e

-- the transaction holds the page so
abbrev pub has_lock : Mode → List Held → ℕ → ℕ → Bool
has_lock Shared = shares
has_lock Exclusive = excludes

pub held_by_nobody : (m : Mode) (place : ℕ) → has_bit (word_of m nobody) place ≡ false
held_by_nobody Shared place = has_none place
held_by_nobody Exclusive place = has_none place

flag : (m : Mode) (holders : List Holders) (place page : ℕ) → is_in (pages_of m holders place) page ≡ is_held m holders page place
flag m holders place page =
    ap (λ b. get_or (pages_of m holders place) page b) (sym (held_by_nobody m place))
    ∙ get_or-map (λ h. has_bit (word_of m h) place) holders page nobody

-- the locks are the bits of those admitted
pub has_lock-locks_of : (m : Mode) (holders : List Holders) (held : List Admitted) (n page : ℕ)
    → has_lock m (locks_of holders held) n page ≡ list_any (λ a. (a.txn == n) && is_held m holders page a.place) held
has_lock-locks_of Shared holders [] n page = refl
has_lock-locks_of Exclusive holders [] n page = refl
has_lock-locks_of Shared holders (a ∷ others) n page =
    ap (λ b. ((a.txn == n) && b) || shares (locks_of holders others) n page) (flag Shared holders a.place page)
    ∙ ap (λ b. ((a.txn == n) && is_held Shared holders page a.place) || b) (has_lock-locks_of Shared holders others n page)
has_lock-locks_of Exclusive holders (a ∷ others) n page =
    ap (λ b. ((a.txn == n) && b) || excludes (locks_of holders others) n page) (flag Exclusive holders a.place page)
    ∙ ap (λ b. ((a.txn == n) && is_held Exclusive holders page a.place) || b) (has_lock-locks_of Exclusive holders others n page)

pub numbers-locks_of : (holders : List Holders) (held : List Admitted) → numbers (locks_of holders held) ≡ numbers_in held
numbers-locks_of holders [] = refl
numbers-locks_of holders (a ∷ others) = ap (λ ns. a.txn ∷ ns) (numbers-locks_of holders others)

pub admitted-locks_of : (holders : List Holders) (held : List Admitted) (n : ℕ) → is_admitted (locks_of holders held) n ≡ is_among (numbers_in held) n
admitted-locks_of holders [] n = refl
admitted-locks_of holders (a ∷ others) n = ap (λ b. (a.txn == n) || b) (admitted-locks_of holders others n)
