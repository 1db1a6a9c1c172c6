use Rattle.std.proofs.Common.{◌≡◌, ◌≢◌, ap, sym, ◌∙◌, rules}
use Rattle.std.specs.Prelude.{Result, Ok, Err}
use Rattle.script_lang.specs.declared.line.BadLine.{BadLine}
use Rattle.script_lang.specs.declared.line.LaneLine.{LaneLine}
use Rattle.store_lanes.proofs.lane.line_for.Goals as goal

same_said : (r : Result LaneLine BadLine) (a b : LaneLine) → r ≡ Ok a → r ≡ Ok b → a ≡ b
same_said r a b x y = let z : ◌≡◌ {A = Result LaneLine BadLine} (Ok a) (Ok b) = sym x ∙ y in cc

no_said : (r : Result LaneLine BadLine) (a : LaneLine) (e : BadLine) → r ≡ Ok a → r ≡ Err e → ⊥
no_said r a e x y = let z : ◌≡◌ {A = Result LaneLine BadLine} (Ok a) (Err e) = sym x ∙ y in cc

pub returns-in_default : goal.returns-in_default
returns-in_default c = λ s says e. no_said c.read_lane_line.result s c.in_default.field-0 (c.read_lane_line.ensures.only s says) c.in_default.is

pub returns-then-of-lane : goal.returns-then-of-lane
returns-then-of-lane c =
    let other : c.in-Ok.of ≢ c.args.lane = search rules in
    let of_is : c.in-Ok.field-0.lane ≡ c.in-Ok.of = search rules in
    λ s says e. other (sym of_is ∙ (ap (λ (l : LaneLine). l.lane) (same_said c.read_lane_line.result c.in-Ok.field-0 s c.in-Ok.is (c.read_lane_line.ensures.only s says)) ∙ e))

pub returns : goal.returns
returns c =
    let lane_is : c.in-Ok.of ≡ c.args.lane = search rules in
    let of_is : c.in-Ok.field-0.lane ≡ c.in-Ok.of = search rules in (
      search rules,
      λ s says. (let same = same_said c.read_lane_line.result s c.in-Ok.field-0 (c.read_lane_line.ensures.only s says) c.in-Ok.is in
          (ap (λ (l : LaneLine). l.lane) same ∙ (of_is ∙ lane_is), ap (λ (l : LaneLine). l.line) same)),
    )
