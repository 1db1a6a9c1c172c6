-- The closed cut that a machine keeps.
use Rattle.std.specs.Prelude.{◌≡◌, ◌≢◌, Option, Some, None, IfSome, IsSomeAnd}
use Rattle.object_graph.specs.declared.calls.Phase.TheVariants.{Closed}
use Rattle.store_model.specs.Worlds.{World}
use Rattle.cut_model.specs.Standing.{CutBeside}
use Rattle.cut_builder.specs.CutParts.{ClosedParts}
use Rattle.cut_core.specs.Given.{HasGiven}
use Rattle.cut_core.specs.Seen.{Seen}

-- no cut of the world is closed
abbrev pub IsUnclosed : World → Type 0
IsUnclosed w = IfSome w.cut (λ cut. cut.phase ≢ Closed)

-- the cut was given out by the core, and the world's cut is closed under its number
pub record IsKeptCut (w : World) (b : CutBeside) (kept : ClosedParts) : Type 0 where
  pub out : HasGiven w b kept.number kept.pages
  pub closed : IsSomeAnd w.cut (λ cut. (cut.number ≡ kept.number) × (cut.phase ≡ Closed))

-- a cut is kept exactly where the world's cut is closed
abbrev pub KeepsClosed : {D : Type 0} → Seen D → Option ClosedParts → Type 0
KeepsClosed s None = IsUnclosed s.world
KeepsClosed s (Some kept) = IsKeptCut s.world s.beside kept
