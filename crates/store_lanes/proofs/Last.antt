-- Lanes beyond the last that has a line.
use Rattle.std.proofs.Common.{◌≡◌, ℕ, ◌≤◌, ◌<◌, Bool, cond, List, [], ◌∷◌, refl, sym, ap, ◌∙◌, subst, append-nil, arith, lt_of_not-le}
use mathlib.Core.Logic.{dite}
use native.Mathlib.Decide.{dec_le}
use Rattle.std.proofs.lemmas.Bool.{ne_eqb}
use Rattle.std.specs.List.{AllByRecursion}
use Rattle.disk_trait.specs.declared.disk.Disk.{Ghosts as DiskOf}
use Rattle.store_model.specs.Worlds.{World}
use Rattle.store_model.specs.Lanes.{Wish, FollowsLane}
use Rattle.script_lang.specs.declared.line.Line.{Line}
use Rattle.script_lang.specs.declared.line.Line.TheVariants.{One, Collect, Note}
use Rattle.script_lang.specs.declared.line.LaneLine.{LaneLine}
use Rattle.script_lang.specs.Script.{SaysInLane}
use Rattle.cut_core.specs.Seen.{Seen}
use Rattle.store_desk.specs.Events.{history}
use Rattle.store_desk.specs.Seats.{AtDesk}
use Rattle.store_lanes.specs.LaneScripts.{EndAtLane, wishes_of, lines_of_lane}
use Rattle.store_lanes.specs.Lanes.{Went, LanesRan}
use Rattle.store_lanes.specs.Owned.{own_part}
use Rattle.store_lanes.specs.declared.lane.TheConstants.{LANES}
use Rattle.store_lanes.proofs.Owned.{part-beyond, owns_wider}

-- ---- the last lane of some lines

pub lane_within : (bytes : List ℕ) (lane : ℕ) (line : Line) → SaysInLane bytes lane line → lane ≤ LANES
lane_within bytes lane Note s = let none : lane ≡ 0 = s.2 in omega (arith, none)
lane_within bytes lane (One call) s = s.1.is_line.lane_is.1
lane_within bytes lane (Collect workers) s = s.1.is_line.lane_is.1

pub end_none : (last : ℕ) → EndAtLane last []
end_none last [] ahead = tt
end_none last (s ∷ said) ahead = absurd cc

pub end_more : (last : ℕ) (line : List ℕ) (lines : List (List ℕ)) → ((s : LaneLine) → SaysInLane line s.lane s.line → s.lane ≤ last) → EndAtLane last lines → EndAtLane last (line ∷ lines)
end_more last line lines here ends [] ahead = absurd ahead
end_more last line lines here ends (s ∷ said) ahead = (here s ahead.0, ends said ahead.1)

-- ---- a lane beyond it

lines_beyond : (pages last lane : ℕ) (said : List LaneLine) → last < lane → AllByRecursion (λ (s : LaneLine). s.lane ≤ last) said → lines_of_lane pages lane said ≡ []
lines_beyond pages last lane [] lt all = refl
lines_beyond pages last lane (s ∷ said) lt all =
    let le = all.0 in
    ap (λ (b : Bool). cond b (wishes_of pages s.line ∷ lines_of_lane pages lane said) (lines_of_lane pages lane said)) (ne_eqb s.lane lane (λ e. omega (arith, e, le, lt)))
    ∙ lines_beyond pages last lane said lt all.1

module _ {D : Type 0} (disks : DiskOf D) (first : Seen D) where
  abbrev w : World
  w = first.world

  went_idle : (lane : ℕ) (whole : Bool) (seat : AtDesk D) (said : List LaneLine) → own_part w lane seat ≡ [] → lines_of_lane w.pages lane said ≡ [] → Went disks first lane whole seat said
  went_idle lane whole seat said none no_lines = record {
    past = said;
    future = [];
    split = sym (append-nil said);
    ended = λ t. refl;
    follows = λ known. record { done = []; begun = []; split = none; follows = subst (λ (lines : List (List Wish)). FollowsLane lines []) (sym no_lines) refl; begins = refl };
  }

  pub lanes_all : (all : List (List ℕ)) (last high : ℕ) (whole : Bool) (seat : AtDesk D) → last ≤ high → EndAtLane last all → LanesRan disks first all 1 last whole seat → LanesRan disks first all 1 high whole seat
  lanes_all all last high whole seat le ends r = record {
    owns = owns_wider w last high seat.own (history seat.seen) le r.owns;
    each = λ k low top said ahead. dite (dec_le k last)
        (λ (here : k ≤ last). r.each k low here said ahead)
        (λ (more : k ≤ last → ⊥).
        let lt = lt_of_not-le more in
        went_idle k whole seat said (part-beyond w last k seat.own (history seat.seen) r.owns lt) (lines_beyond w.pages last k said lt (ends said ahead)));
  }
