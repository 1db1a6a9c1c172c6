use Rattle.std.proofs.Common.{ℕ, subst, sym}
use Rattle.generator.specs.Making.{SweepsPage}
use Rattle.generator.proofs.Collections.{sweep_only, page_swept}
use Rattle.generator.proofs.collection.sweep_page.Goals as goal

pub ask-requires-clause-only : goal.ask-requires-clause-only
ask-requires-clause-only g c κs within = sweep_only c.args.machine.now.world c.args.page c.requires.collecting c.requires.page

pub returns-in-Ok-clause-swept : goal.returns-in-Ok-clause-swept
returns-in-Ok-clause-swept g c =
    subst (λ (n : ℕ). SweepsPage g.D.Disk c.args.machine.now c.ask.new.machine c.args.page n) (sym c.freed_by.ensures.count)
    (page_swept g.D.Disk c.args.machine.now c.ask.new.machine c.args.page c.in-Ok.reply c.requires.collecting c.in-Ok.ensures)
