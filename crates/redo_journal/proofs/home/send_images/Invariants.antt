use Rattle.std.proofs.Common.{◌≡◌, ℕ, List, Some, drop}
use Rattle.disk_trait.specs.DiskFacts.{KeepsDisk}
use Rattle.page_image.specs.Pages.{PageParts}
use Rattle.redo_journal.specs.Places.{StandAt}
use Rattle.redo_journal.specs.Replays.{has_image}
use Rattle.redo_journal.specs.Sending.{ChangesHomes}
use Rattle.redo_journal.proofs.HomeRuns.{ImagesLeft}
use Rattle.redo_journal.proofs.home.send_images.Given as goal

abbrev pub invariant-loop-i : goal.invariant-loop-i
invariant-loop-i g l = record {
  images : (c : List ℕ) (images : List PageParts) → g.D.Disk.content l.fn.disk ≡ Some c → StandAt l.places images c
      → ImagesLeft (drop l.i l.places) images c (g.D.Disk.content l.disk)
      × ChangesHomes g.D.Disk (has_image images) l.fn.disk l.disk;
  keeps : KeepsDisk g.D.Disk l.fn.disk l.disk;
  calm : g.D.Disk.fault_count l.disk ≡ g.D.Disk.fault_count l.fn.disk;
}
