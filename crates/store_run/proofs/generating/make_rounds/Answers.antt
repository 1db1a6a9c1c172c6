use Rattle.std.proofs.Common.{sym, subst, List, ℕ}
use Rattle.cut_core.specs.Seen.{Seen}
use Rattle.generator.specs.Between.{IsResting}
use Rattle.generator.proofs.Resting.{just_rests}
use Rattle.store_run.specs.Generated.{RoundsMade, WroteLine}
use Rattle.store_run.specs.declared.status.Status.{Status}
use Rattle.store_run.proofs.GeneratedStores.{ended_stopped, ended_whole}
use Rattle.store_run.proofs.generating.make_rounds.Goals as goal

pub generate-requires-clause-resting : goal.generate-requires-clause-resting
generate-requires-clause-resting g c κs within =
    subst (λ (s : Seen g.row.D.Denot). IsResting s.world) (sym c.of-machine.ensures) (just_rests c.args.core.world c.requires.just_opened c.requires.pages c.requires.fresh)

pub returns-in-Err-clause-made : goal.returns-in-Err-clause-made
returns-in-Err-clause-made g c =
    subst (λ (s : Status). RoundsMade g.D.Disk s c.args.from c.args.count c.args.core c.into_disk-stopped.result (g.K.Sink.held c.args.sink.now) (g.K.Sink.held c.args.sink.now))
    (sym c.stop_status.ensures)
    (ended_stopped g.D.Disk c.args.from c.args.count c.of-machine.result c.args.core c.generate.new.machine c.into_disk-stopped.result (g.K.Sink.held c.args.sink.now)
    c.in-Err.stop c.of-machine.ensures c.into_disk-stopped.ensures c.in-Err.ensures.generated.0)

pub returns-clause-made : goal.returns-clause-made
returns-clause-made g c =
    ended_whole g.D.Disk c.write_line.result c.args.from c.args.count c.of-machine.result c.args.core c.generate.new.machine c.into_disk-whole.result
    (g.K.Sink.held c.args.sink.now) (g.K.Sink.held c.write_line.new.sink) c.generate.new.line.items c.of-machine.ensures c.into_disk-whole.ensures c.in-Ok.ensures.generated
    (subst (λ (l : List ℕ). WroteLine c.write_line.result (g.K.Sink.held c.args.sink.now) (g.K.Sink.held c.write_line.new.sink) l) c.deref.ensures.value c.write_line.ensures.wrote)
