use Rattle.disk_trait.proofs.NoteSteps.{torn_same}
use Rattle.redo_journal.proofs.tests_untold.UntoldDiskDisk.write_at.Goals as goal

pub returns-clause-crash : goal.returns-clause-crash
returns-clause-crash c = λ f left. (f, left, torn_same _ _ f)
