-- What the walks of marking keep and give.
use Rattle.std.specs.Prelude.{◌≡◌, ℕ, ◌<◌, ◌==◌, Bool, true, false, Option, Some, None, List, ◌∷◌, length}
use Rattle.std.specs.List.{list_any}
use Rattle.object_graph.specs.declared.limits.TheConstants.{MOST_SLOTS}
use Rattle.object_graph.specs.NameParts.{NameParts}
use Rattle.object_graph.specs.Names.{root_name}
use Rattle.object_graph.specs.SlotParts.{SlotParts}
use Rattle.object_graph.specs.Slots.{has_slot}
use Rattle.object_graph.specs.Graphs.{is_to, has_object}
use Rattle.page_image.specs.Pages.{slot_at, page_has_name}
use Rattle.cut_model.specs.CutPages.{cut_graph}
use Rattle.cut_builder.specs.CutParts.{ClosedParts, page_in_cut, marks_of, image_of, as_page}
use Rattle.mark_pool.specs.declared.place.Place.{Place}
use Rattle.mark_pool.specs.Edges.{place, IsMarkAt, IsEdge}
use Rattle.mark_pool.specs.Marks.{times, all_parts}
use Rattle.mark_pool.specs.Seats.{Made, Known, IsSeatOf}

-- a place that may be scanned: one of the cut's, at which a mark stands
pub record IsListed (cut : ClosedParts) (p : Place) : Type 0 where
  pub page_within : p.page < length cut.pages
  pub slot_within : p.slot < MOST_SLOTS
  pub mark : IsMarkAt cut p.page p.slot

-- and one that isn't among those that are scanned
pub record IsOpen (cut : ClosedParts) (scans : List Place) (p : Place) : Type 0 where
  pub listed : IsListed cut p
  pub unscanned : times p.page p.slot scans ≡ 0

-- a seat that marked more: it stands where it stood, and still sees what it saw
pub record MarksMore (before after : Known) : Type 0 where
  pub table : after.table ≡ before.table
  pub cut : after.cut ≡ before.cut
  pub takes : after.takes ≡ before.takes
  pub scans : after.scans ≡ before.scans
  pub parts : after.parts ≡ before.parts
  pub claims : (page slot : ℕ) → 0 < times page slot before.claims → 0 < times page slot after.claims
  pub seen : (page slot : ℕ) → 0 < times page slot before.seen → 0 < times page slot after.seen

-- a seat that scanned a place: it stands where it stood, still has what it marked, and took nothing
pub record Scans (at : Place) (before after : Known) : Type 0 where
  pub table : after.table ≡ before.table
  pub cut : after.cut ≡ before.cut
  pub takes : after.takes ≡ before.takes
  pub scans : after.scans ≡ place at.page at.slot ∷ before.scans
  pub parts : after.parts ≡ before.parts
  pub claims : (page slot : ℕ) → 0 < times page slot before.claims → 0 < times page slot after.claims

-- a seat that knows scanned what it took
abbrev pub IsTidy : Known → Type 0
IsTidy s = (page slot : ℕ) → 0 < times page slot s.takes → 0 < times page slot s.scans

-- a seat that did some work: it stands where it stood, still has what it marked and knows what it knew, and scanned
-- what it took
pub record Works (before after : Known) : Type 0 where
  pub table : after.table ≡ before.table
  pub cut : after.cut ≡ before.cut
  pub parts : after.parts ≡ before.parts
  pub claims : (page slot : ℕ) → 0 < times page slot before.claims → 0 < times page slot after.claims
  pub scans : (page slot : ℕ) → 0 < times page slot before.scans → 0 < times page slot after.scans
  pub tidy : IsTidy before → IsTidy after

-- a seat that looked: it stands where it stood, and has marked and taken nothing
pub record Looks (before after : Known) : Type 0 where
  pub table : after.table ≡ before.table
  pub cut : after.cut ≡ before.cut
  pub claims : after.claims ≡ before.claims
  pub takes : after.takes ≡ before.takes
  pub scans : after.scans ≡ before.scans
  pub parts : after.parts ≡ before.parts

-- a name is in use in the image of its page
abbrev pub is_used_name : NameParts → Option (List SlotParts) → Bool
is_used_name name None = false
is_used_name name (Some slots) = page_has_name (as_page name.page slots) name

-- the name is the target of one of these references and is in use in some image
pub record IsTarget (cut : ClosedParts) (refs : List (Option NameParts)) (to : NameParts) : Type 0 where
  pub refers_to : list_any (is_to to) refs ≡ true
  pub in_use : has_object (cut_graph cut.pages) to ≡ true

-- each target of these references was seen marked
abbrev pub AreSeen : ClosedParts → List (Option NameParts) → List Place → Type 0
AreSeen cut refs seen = (to : NameParts) → IsTarget cut refs to → 0 < times to.page to.slot seen

-- each target of these references is a mark
abbrev pub AreMarked : ClosedParts → List (Option NameParts) → Type 0
AreMarked cut refs = (to : NameParts) → IsTarget cut refs to → IsMarkAt cut to.page to.slot

-- each target of the object at a place, in one image of its page, was seen marked
abbrev pub IsFollowed : ClosedParts → ℕ → ℕ → ℕ → List Place → Type 0
IsFollowed cut page slot which seen =
    (slots : List SlotParts) → image_of (page_in_cut cut.pages page) which ≡ Some slots
    → (slot_at (as_page page slots) slot).in_use ≡ true
    → AreSeen cut (slot_at (as_page page slots) slot).refs seen

-- the claims have all targets of the claims on a page
abbrev pub IsClosedOn : ClosedParts → List Place → ℕ → Type 0
IsClosedOn cut claims page = (slot : ℕ) (to : Place) → 0 < times page slot claims → IsEdge cut page slot to
    → 0 < times to.page to.slot claims

abbrev pub AreClosedOn : ClosedParts → List Place → ℕ → Type 0
AreClosedOn cut claims pages = (page : ℕ) → page < pages → IsClosedOn cut claims page

-- the root is among the claims where it is in use
abbrev pub ClaimsRoot : ClosedParts → List Place → Type 0
ClaimsRoot cut claims = has_object (cut_graph cut.pages) root_name ≡ true → 0 < times 0 0 claims

-- the seat is the table's, has all parts, has claimed the root, and knows scanned what was taken
pub record IsWholeSeat (t : Made) (s : Known) : Type 0 where
  pub own : IsSeatOf t s
  pub parts : s.parts ≡ all_parts
  pub rooted : ClaimsRoot t.cut s.claims
  pub tidy : IsTidy s

-- the sets of the pages so far are the claims, each of them once and a mark
pub record AreClaims (cut : ClosedParts) (claims : List Place) (marks : List ℕ) : Type 0 where
  pub sets : (page slot : ℕ) → page < length marks → has_slot (marks_of marks page) slot ≡ (times page slot claims == 1)
  pub once : (page slot : ℕ) → page < length marks → times page slot claims < 2
  pub sound : (page slot : ℕ) → page < length marks → 0 < times page slot claims → IsMarkAt cut page slot
