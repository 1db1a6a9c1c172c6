use Rattle.std.proofs.Common.{◌≡◌, ◌+◌, ◌≤◌, List, take, drop, length, refl, ◌∙◌, ap, arith}
use Rattle.page_image.specs.Pages.{PageParts}
use Rattle.disk_trait.proofs.DiskSteps.{keeps_on}
use Rattle.recovery.proofs.Extending.{homes_step, back_more}
use Rattle.recovery.proofs.laying.write_homes.Goals as goal

pub pieces-preserved : goal.pieces-preserved
pieces-preserved g c =
    let some = c.min-some.result in
    let within : c.pieces.done + some ≤ length c.args.pages.now = omega (arith, c.min-some.ensures) in
    let piece = c.split_at-in-pieces.result.0.now in
    let is : piece ≡ take some (drop c.pieces.done c.args.pages.now) = c.split_at-in-pieces.ensures.front ∙ ap (λ (l : List PageParts). take some l) c.split_at.ensures.back in
    record {
      few = within;
      front = homes_step c.args.pages.now c.pieces.done some (c.pieces.done + some) piece (g.D.Disk.content c.args.disk.now) (g.D.Disk.content c.pieces.disk) (g.D.Disk.content c.write_piece.new.disk)
          is c.split_at-in-pieces.ensures.front_len refl c.pieces.invariant.front c.in_ok-write_piece.ensures.front;
      back = back_more c.args.pages.now c.pieces.done some (c.pieces.done + some) piece is refl c.pieces.invariant.back c.write_piece.ensures.back;
      calm = c.in_ok-write_piece.ensures.calm ∙ c.pieces.invariant.calm;
      keeps = keeps_on g.D.Disk c.args.disk.now c.pieces.disk c.write_piece.new.disk c.pieces.invariant.keeps c.write_piece.ensures.keeps;
    }
