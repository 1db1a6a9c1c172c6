-- An area of which a base and a closed gate were written holds no record.
use Rattle.std.proofs.Common.{◌≡◌, ℕ, ◌+◌, ◌-◌, ◌≤◌, false, List, [], ◌++◌, length, take, drop, Ok, Option, Some, refl, sym, ◌∙◌, ap, subst, arith, nat_lt}
use Rattle.std.specs.Prelude.{IsSomeAnd}
use Rattle.std.proofs.lemmas.Bool.{le-ltb}
use Rattle.std.proofs.lemmas.Nat.{from_be_bytes-to_be_bytes_8}
use Rattle.disk_trait.specs.Disk.{written}
use Rattle.disk_trait.specs.NoteLaws.{length-written}
use Rattle.redo_journal.specs.Area.{AreaHolds, read_area, area_of, area_start, base_in, first_gate}
use Rattle.redo_journal.specs.Journals.{JournalParts, HoldsFor}
use Rattle.redo_journal.specs.Record.{grammar}
use Rattle.redo_journal.specs.Sending.{empty_area}
use Rattle.redo_journal.specs.Walk.{Grammar}
use Rattle.redo_journal.proofs.FileLaws.{drop-written}
use Rattle.redo_journal.specs.declared.sizes.TheConstants.{AREA_SIZE}
use Rattle.object_graph.specs.declared.limits.TheConstants.{MOST_COUNTED}

-- what the bytes say
pub empty_reads : {R : Type 0} (g : Grammar R) (start base : ℕ) (rest : List ℕ) → base ≤ MOST_COUNTED → read_area g start (empty_area base ++ rest) ≡ Ok (record { base = base; records = [] })
empty_reads g start base rest small =
    let is : base_in (empty_area base ++ rest) ≡ base = from_be_bytes-to_be_bytes_8 base (omega (arith, small)) in
    let low : nat_lt MOST_COUNTED base ≡ false = le-ltb MOST_COUNTED base small in
    rw (is, low) refl

empty_front : (base : ℕ) (rest : List ℕ) → take AREA_SIZE (empty_area base ++ rest) ≡ empty_area base ++ take (AREA_SIZE - 9) rest
empty_front base rest = refl

empty_holds : {R : Type 0} (g : Grammar R) (area base : ℕ) (file : List ℕ) → base ≤ MOST_COUNTED → area_start area + AREA_SIZE ≤ length file
    → AreaHolds g area base [] (written (area_start area) (empty_area base) file)
empty_holds g area base file small long =
    let start = area_start area in
    let rest = drop (start + length (empty_area base)) file in
    let is : area_of area (written start (empty_area base) file) ≡ empty_area base ++ take (AREA_SIZE - 9) rest =
    ap (λ (l : List ℕ). take AREA_SIZE l) (drop-written start (empty_area base) file (omega (arith, long))) ∙ empty_front base rest in
    record {
      long = omega (arith, long, length-written start (empty_area base) file (omega (arith, long)));
      reads = ap (read_area g start) is ∙ empty_reads g start base (take (AREA_SIZE - 9) rest) small;
    }

-- a journal stands for an empty area with its base
pub empty_stands_for : (journal : JournalParts) (at : ℕ) (content : Option (List ℕ)) (file : List ℕ) → journal.base ≤ MOST_COUNTED → journal.commits ≡ 0 → journal.end ≡ first_gate → journal.places ≡ []
    → at ≡ area_start journal.area → area_start journal.area + AREA_SIZE ≤ length file → content ≡ Some (written at (empty_area journal.base) file) → IsSomeAnd content (HoldsFor journal [])
empty_stands_for journal at content file small none end no_places at_is long is =
    subst (λ (o : Option (List ℕ)). IsSomeAnd o (HoldsFor journal [])) (sym (is ∙ ap (λ (a : ℕ). Some (written a (empty_area journal.base) file)) at_is)) (record {
      holds = empty_holds (grammar journal.pages) journal.area journal.base file small long;
      end = end;
      commits = none;
      places = no_places;
    })
