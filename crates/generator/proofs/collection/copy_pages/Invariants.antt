use Rattle.generator.specs.Making.{HasCopied}
use Rattle.generator.proofs.collection.copy_pages.Given as goal

abbrev pub invariant-pages : goal.invariant-pages
invariant-pages g l = HasCopied g.D.Disk l.fn.machine l.machine l.page
