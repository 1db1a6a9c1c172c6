use Rattle.std.proofs.Common.{◌≡◌, ◌++◌, ◌∙◌, ap, refl, subst}
use Rattle.std.specs.Prelude.{Err, Result}
use Rattle.generator.specs.Summaries.{summary_text}
use Rattle.generator.specs.declared.asking.Stop.{Stop}
use Rattle.generator.specs.declared.asking.Stop.TheVariants.{Memory, DiskFault}
use Rattle.generator.specs.Making.{HasStopped}
use Rattle.generator.proofs.Generating.{has_generated}
use Rattle.generator.proofs.Calm.{run_calm, memory_calm, fault_rose}
use Rattle.generator.proofs.running.generate.Goals as goal

same_stop : (a b : Stop) → ◌≡◌ {A = Result (Unit {0}) Stop} (Err a) (Err b) → a ≡ b
same_stop a b e = cc

by_memory : (stop : Stop) → (◌≡◌ {A = Result (Unit {0}) Stop} (Err stop) (Err DiskFault) → ⊥) → stop ≡ Memory
by_memory Memory h = refl
by_memory DiskFault h = absurd (h refl)

pub returns-in-Ok-clause-generated : goal.returns-in-Ok-clause-generated
returns-in-Ok-clause-generated g c =
    has_generated g.D.Disk c.args.machine.now c.run.new.machine c.args.from c.args.count c.in-Ok.tally c.print.new.out.items c.in-Ok.ensures
    (c.print.ensures ∙ ap (λ l. l ++ summary_text c.in-Ok.tally.rounds c.in-Ok.tally.commits c.in-Ok.tally.full c.in-Ok.tally.freed c.in-Ok.tally.ended) c.requires.empty)

pub returns-in-Ok-clause-calm : goal.returns-in-Ok-clause-calm
returns-in-Ok-clause-calm g c other = run_calm g.D.Disk c.args.machine.now c.run.new.machine c.args.from c.args.count c.in-Ok.tally c.in-Ok.ensures

pub returns-in-Err-clause-fault : goal.returns-in-Err-clause-fault
returns-in-Err-clause-fault g c is =
    fault_rose g.D.Disk c.args.machine.now c.run.new.machine c.args.from c.args.count c.requires.resting.sound.whole
    (subst (λ (s : Stop). HasStopped g.D.Disk c.args.machine.now c.run.new.machine c.args.from c.args.count s) (same_stop c.in-Err.stop DiskFault is) c.in-Err.ensures)

pub returns-in-Err-clause-calm : goal.returns-in-Err-clause-calm
returns-in-Err-clause-calm g c other =
    memory_calm g.D.Disk c.args.machine.now c.run.new.machine c.args.from c.args.count
    (subst (λ (s : Stop). HasStopped g.D.Disk c.args.machine.now c.run.new.machine c.args.from c.args.count s) (by_memory c.in-Err.stop other) c.in-Err.ensures)
