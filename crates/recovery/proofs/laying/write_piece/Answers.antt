use Rattle.std.proofs.Common.{◌*◌, length, refl}
use Rattle.redo_journal.proofs.HomeMoments.{ok_more}
use Rattle.recovery.proofs.Extending.{piece_step}
use Rattle.recovery.proofs.laying.write_piece.Goals as goal

pub returns-clause-front : goal.returns-clause-front
returns-clause-front g c =
    ok_more c.put.result _ _ (λ one.
    piece_step c.args.first c.home_of.result (1024 * length c.args.pages.now) c.args.pages.now c.spell.new.out c.split_at.result.0.now (g.D.Disk.content c.args.disk.now) (g.D.Disk.content c.put.new.disk)
    refl c.split_at.ensures.front c.split_at.ensures.front_len c.spell.ensures.bytes c.home_of.ensures one) c.put.ensures.front
