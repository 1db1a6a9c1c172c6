-- The numbers that a run of the generator draws, and what a round takes from one.
use Rattle.std.specs.Prelude.{ℕ, zero, suc, ◌+◌, ◌*◌, ◌/◌, ◌%◌, ◌^◌}
use Rattle.object_graph.specs.declared.names.TheConstants.{OBJECT_FIELDS}

-- the number after another
abbrev pub next_draw : ℕ → ℕ
next_draw x = (x * 6364136223846793005 + 1442695040888963407) % 2 ^ 64

-- the number after so many draws
abbrev pub drawn : ℕ → ℕ → ℕ
drawn from zero = from
drawn from (suc n) = next_draw (drawn from n)

-- the page on which a round makes its object
abbrev pub page_drawn : ℕ → ℕ
page_drawn x = (x / 2 ^ 33) % 16

-- the field of the root that it changes
abbrev pub field_drawn : ℕ → ℕ
field_drawn x = (x / 2 ^ 40) % OBJECT_FIELDS

-- 1 where the new object keeps what stood in that field
abbrev pub keep_drawn : ℕ → ℕ
keep_drawn x = (x / 2 ^ 50) % 2
