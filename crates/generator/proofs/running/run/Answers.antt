use Rattle.std.proofs.Common.{◌+◌, ◌∙◌, ℕ, subst}
use Rattle.generator.proofs.Generating.{Running, running_none, running_more, running_stops}
use Rattle.store_machine.proofs.Acting.{acts_nothing}
use Rattle.generator.proofs.running.run.Goals as goal

pub rounds-init : goal.rounds-init
rounds-init g c =
    running_none g.D.Disk c.args.machine.now c.args.from c.starting-draws.result.last c.none-tally.result
    (acts_nothing g.D.Disk c.args.machine.now g.met.D.Disk.only_now c.stands.ensures.now) c.requires.resting c.requires.fresh c.starting-draws.ensures
    c.none-tally.ensures.rounds c.none-tally.ensures.commits c.none-tally.ensures.full c.none-tally.ensures.freed c.none-tally.ensures.ended

pub returns-in-Err : goal.returns-in-Err
returns-in-Err g c =
    running_stops g.D.Disk c.args.machine.now c.rounds.machine c.run_round.new.machine c.args.from c.rounds.round c.rounds.draws.last c.draw-drawn.result c.args.count
    c.rounds.tally c.in-Err.stop c.rounds-test.true c.rounds.invariant (c.draw-drawn.ensures.given ∙ c.draw-drawn.ensures.next) c.in-Err.ensures

pub rounds-preserved : goal.rounds-preserved
rounds-preserved g c =
    subst (λ (x : ℕ). Running g.D.Disk c.args.machine.now c.run_round.new.machine c.args.from (c.rounds.round + 1) x c.run_round.new.tally) c.draw-drawn.ensures.given
    (running_more g.D.Disk c.args.machine.now c.rounds.machine c.run_round.new.machine c.args.from c.rounds.round c.rounds.draws.last c.draw-drawn.result
    c.rounds.tally c.run_round.new.tally c.rounds.invariant (c.draw-drawn.ensures.given ∙ c.draw-drawn.ensures.next) c.in-Ok.ensures)
