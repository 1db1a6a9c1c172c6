use Rattle.redo_journal.proofs.Moments.{if_some_map}
use Rattle.image_model.proofs.LaidFiles.{laid_opens}
use Rattle.recovery.proofs.laying.lay.Goals as goal

pub returns-in-Ok-clause-store : goal.returns-in-Ok-clause-store
returns-in-Ok-clause-store g c =
    if_some_map (g.D.Disk.content c.write_store.new.disk) _ _ (λ file told is.
    record { opens = laid_opens file c.args.commits c.args.pages.now c.in-Ok.ensures.back is c.requires.pages c.requires.few; rooted = c.requires.rooted }) c.in-Ok.ensures.laid
