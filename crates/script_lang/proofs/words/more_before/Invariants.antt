use Rattle.std.proofs.Common.{◌≡◌, ◌+◌, ◌≤◌, length}
use Rattle.script_lang.specs.Reading.{part_at, digits_below}
use Rattle.script_lang.proofs.words.more_before.Given as goal

abbrev pub invariant-digits : goal.invariant-digits
invariant-digits l =
    (l.number ≤ l.most)
    × (digits_below (l.most + 1) l.number (part_at l.end l.rest).0 ≡ digits_below (l.most + 1) l.fn.first (part_at l.end l.fn.bytes).0)
    × ((part_at l.end l.rest).1 ≡ (part_at l.end l.fn.bytes).1)

abbrev pub decreases-digits : goal.decreases-digits
decreases-digits l = length l.rest
