-- Who holds a page, as words of places.
use Rattle.std.specs.Prelude.{ℕ, Bool, true, false, ◌&&◌, ◌||◌, List, slice_index_or}
use Rattle.page_locks.specs.Sets.{has_bit}
use Rattle.page_locks.specs.declared.holders.Holders.{Holders}
use Rattle.page_locks.specs.declared.holders.Mode.{Mode}
use Rattle.page_locks.specs.declared.holders.Mode.TheVariants.{Shared, Exclusive}

-- the places of those who hold the page so
abbrev pub word_of : Mode → Holders → ℕ
word_of Shared h = h.shared
word_of Exclusive h = h.exclusive

abbrev pub is_mode : Mode → Mode → Bool
is_mode Shared Shared = true
is_mode Shared Exclusive = false
is_mode Exclusive Shared = false
is_mode Exclusive Exclusive = true

-- a lock of this mode is to write
abbrev pub to_write : Mode → Bool
to_write Shared = false
to_write Exclusive = true

-- what the place holds and a lock of this mode exclude each other
abbrev pub conflicts : Mode → Holders → ℕ → Bool
conflicts mode h place = (to_write mode && has_bit h.shared place) || has_bit h.exclusive place

abbrev pub nobody : Holders
nobody = record { shared = 0; exclusive = 0 }

abbrev pub holders_at : List Holders → ℕ → Holders
holders_at holders page = slice_index_or holders page nobody

-- the place has the page so
abbrev pub is_held : Mode → List Holders → ℕ → ℕ → Bool
is_held mode holders page place = has_bit (word_of mode (holders_at holders page)) place
