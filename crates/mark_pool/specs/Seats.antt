-- What contracts see of a mark table and of its seats.
use Rattle.std.specs.Prelude.{◌≡◌, ℕ, ◌+◌, ◌-◌, Option, Some, Bool, List, [], ◌∷◌, ◌++◌, if◌then◌else◌}
use Rattle.atomic_table.specs.Seated.{TableId}
use Rattle.cut_builder.specs.CutParts.{ClosedParts}
use Rattle.mark_pool.specs.declared.place.Place.{Place}
use Rattle.mark_pool.specs.declared.view.View.{View}
use Rattle.mark_pool.specs.Edges.{place}
use Rattle.mark_pool.specs.Marks.{all_parts}

-- a table: which one it is, and the cut that is marked
pub record Made : Type 0 where
  pub table : TableId
  pub cut : ClosedParts

-- a seat: its table, the cut that is marked there, the places that it saw marked, those that it marked, those that it
-- took to scan, those that it
-- knows to be scanned, and its parts
pub record Known : Type 0 where
  pub table : TableId
  pub cut : Option ClosedParts
  pub seen : List Place
  pub claims : List Place
  pub takes : List Place
  pub scans : List Place
  pub parts : ℕ

abbrev pub known : TableId → View → Known
known table v = record {
  table = table;
  cut = v.cut;
  seen = v.seen;
  claims = v.claims;
  takes = v.takes;
  scans =
      v.scans;
  parts = v.parts;
}

-- the seat is this table's
abbrev pub IsSeatOf : Made → Known → Type 0
IsSeatOf t s = (s.table ≡ t.table) × (s.cut ≡ Some t.cut)

-- the first seat of a table has all parts
abbrev pub first_seat : Made → Known
first_seat t = record {
  table = t.table;
  cut = Some t.cut;
  seen = [];
  claims = [];
  takes = [];
  scans = [];
  parts =
      all_parts;
}

-- a seat that saw a place marked, and marked it where it was new
abbrev pub with_claim : Known → ℕ → ℕ → Bool → Known
with_claim s page slot new = record s {
  seen = place page slot
      ∷ s.seen;
  claims = (if new then place page slot ∷ s.claims else s.claims);
}

-- a seat that took a place to scan, where it was new
abbrev pub with_take : Known → ℕ → ℕ → Bool → Known
with_take s page slot new = record s { takes = (if new then place page slot ∷ s.takes else s.takes) }

-- a seat that scanned a place
abbrev pub with_scan : Known → ℕ → ℕ → Known
with_scan s page slot = record s { scans = place page slot ∷ s.scans }

-- a seat that saw these places marked
abbrev pub with_seen : Known → List Place → Known
with_seen s places = record s { seen = places ++ s.seen }

-- a seat that gave one part away, and the seat that got it
abbrev pub less_one_part : Known → Known
less_one_part s = record s { parts = s.parts - 1 }

abbrev pub split_off : Known → Known
split_off s = record s { claims = []; takes = []; parts = 1 }

-- two seats in one
abbrev pub joined_seats : Known → Known → Known
joined_seats s other = record s {
  seen = s.seen ++ other.seen;
  claims = s.claims ++ other.claims;
  takes = s.takes
      ++ other.takes;
  scans = s.scans ++ other.scans;
  parts = s.parts + other.parts;
}
