-- What the workers of a round are given, and what they give back.
use Rattle.std.specs.Prelude.{◌≡◌, ℕ, ◌<◌, ◌≤◌}
use Rattle.std.specs.List.{All}
use Rattle.cut_builder.specs.CutParts.{ClosedParts}
use Rattle.mark_pool.specs.declared.work.Job.{Job}
use Rattle.mark_pool.specs.Marks.{times}
use Rattle.mark_pool.specs.Seats.{Made, Known, IsSeatOf}
use Rattle.mark_pool.specs.Walks.{IsListed, IsTidy}
use Rattle.mark_pool.specs.declared.work.TheConstants.{MOST_QUOTA}

-- a seat of the table with one part, which scanned what it took
pub record IsBack (t : Made) (s : Known) : Type 0 where
  pub own : IsSeatOf t s
  pub parts : s.parts ≡ 1
  pub tidy : IsTidy s

-- a job with such a seat, and places that may be scanned
pub record IsReadyJob (t : Made) (cut : ClosedParts) (job : Job) : Type 0 where
  pub seat : IsBack t job.seat
  pub places : All (IsListed cut) job.places.items
  pub quota : job.quota ≤ MOST_QUOTA

-- a seat that has done nothing itself
pub record HasSame (before after : Known) : Type 0 where
  pub claims : after.claims ≡ before.claims
  pub takes : after.takes ≡ before.takes
  pub scans : after.scans ≡ before.scans

-- what was claimed is claimed, what is known to be scanned stays known, and what was taken still is scanned
pub record HasMore (before after : Known) : Type 0 where
  pub claims : (page slot : ℕ) → 0 < times page slot before.claims → 0 < times page slot after.claims
  pub scans : (page slot : ℕ) → 0 < times page slot before.scans → 0 < times page slot after.scans
  pub tidy : IsTidy before → IsTidy after

-- so many workers mark a cut
abbrev pub AreWorkers : ℕ → Type 0
AreWorkers workers = (1 ≤ workers) × (workers ≤ 16)
