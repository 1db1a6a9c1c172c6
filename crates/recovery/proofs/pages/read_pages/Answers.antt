use Rattle.std.proofs.Common.{◌≡◌, List, length, refl, sym, ap, subst, arith}
use Rattle.disk_trait.proofs.DiskSteps.{no_call}
use Rattle.object_graph.specs.Slots.{below}
use Rattle.page_image.specs.Pages.{PageParts}
use Rattle.redo_journal.specs.Record.{numbers_of}
use Rattle.recovery.specs.Reading.{AreFirstPages, IsAhead}
use Rattle.recovery.proofs.Contents.{if_known}
use Rattle.recovery.proofs.ImagesAhead.{ahead_first}
use Rattle.recovery.proofs.pages.read_pages.Goals as goal

pub pieces-init : goal.pieces-init
pieces-init g c =
    let none = sym c.in-Ok.ensures.items in
    record {
      ahead = subst (λ (l : List PageParts). IsAhead c.args.images.now 0 (length l)) none (ahead_first c.args.images.now c.requires.images.ascending);
      few = omega (arith, ap length c.in-Ok.ensures.items);
      read = if_known _ (g.D.Disk.content c.args.disk.now) (λ file told. subst (λ (l : List PageParts). AreFirstPages c.args.images.now file l) none refl);
      numbered = subst (λ (l : List PageParts). numbers_of l ≡ below (length l)) none refl;
      calm = refl;
      reads = no_call g.D.Disk c.args.disk.now (λ file left. g.met.D.Disk.only_now c.args.disk.now file left);
    }
