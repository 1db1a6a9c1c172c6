use Rattle.generator.specs.Rounds.{store_pages}
use Rattle.generator.proofs.Collecting.{mark_stops}
use Rattle.generator.proofs.Collections.{open_only, close_never, end_never, opened_now, closed_now, marked_now, stops_opening, stops_marking, stops_sweeping, has_collected}
use Rattle.generator.proofs.collection.collect.Goals as goal

pub ask-requires-clause-only : goal.ask-requires-clause-only
ask-requires-clause-only g c κs within = open_only c.args.machine.now.world c.requires.resting

pub copy_pages-requires-after_bounds : goal.copy_pages-requires-after_bounds
copy_pages-requires-after_bounds g c κs within = opened_now g.D.Disk c.args.machine.now c.ask.new.machine c.in_default.field-0 c.requires.resting c.requires.cuts c.in_default.ensures

pub tell-requires-clause-never : goal.tell-requires-clause-never
tell-requires-clause-never g c κs within = close_never c.copy_pages.new.machine.world c.copy_pages.ensures.collecting

pub ask-requires-2-clause-only : goal.ask-requires-2-clause-only
ask-requires-2-clause-only g c κs within =
    mark_stops c.tell.new.machine.world store_pages 0 4 (closed_now g.D.Disk c.copy_pages.new.machine c.tell.new.machine c.tell.result c.copy_pages.ensures.collecting c.tell.ensures)

pub returns-in-Err-clause-collected : goal.returns-in-Err-clause-collected
returns-in-Err-clause-collected g c = stops_opening g.D.Disk c.args.machine.now c.ask.new.machine c.in-Err.stop c.in-Err.ensures

pub returns-in-Err-ask-clause-collected : goal.returns-in-Err-ask-clause-collected
returns-in-Err-ask-clause-collected g c =
    stops_marking g.D.Disk c.args.machine.now c.ask.new.machine c.copy_pages.new.machine c.tell.new.machine c.ask-2.new.machine c.in_default.field-0 c.tell.result c.in-Err-ask.stop
    c.in_default.ensures c.copy_pages.ensures c.tell.ensures c.in-Err-ask.ensures

pub sweep_pages-requires-after_bounds : goal.sweep_pages-requires-after_bounds
sweep_pages-requires-after_bounds g c κs within =
    marked_now g.D.Disk c.tell.new.machine c.ask-2.new.machine c.in_default-ask.field-0
    (closed_now g.D.Disk c.copy_pages.new.machine c.tell.new.machine c.tell.result c.copy_pages.ensures.collecting c.tell.ensures) c.in_default-ask.ensures

pub returns-in-Err-sweep_pages-clause-collected : goal.returns-in-Err-sweep_pages-clause-collected
returns-in-Err-sweep_pages-clause-collected g c =
    stops_sweeping g.D.Disk c.args.machine.now c.ask.new.machine c.copy_pages.new.machine c.tell.new.machine c.ask-2.new.machine c.sweep_pages.new.machine
    c.in_default.field-0 c.tell.result c.in_default-ask.field-0 c.in-Err-sweep_pages.stop
    c.in_default.ensures c.copy_pages.ensures c.tell.ensures c.in_default-ask.ensures c.in-Err-sweep_pages.ensures.swept

pub tell-requires-2-clause-never : goal.tell-requires-2-clause-never
tell-requires-2-clause-never g c κs within = end_never c.sweep_pages.new.machine.world c.in-Ok.ensures.swept.collecting

pub returns-clause-collected : goal.returns-clause-collected
returns-clause-collected g c =
    has_collected g.D.Disk c.args.machine.now c.ask.new.machine c.copy_pages.new.machine c.tell.new.machine c.ask-2.new.machine c.sweep_pages.new.machine c.tell-2.new.machine
    c.in_default.field-0 c.tell.result c.in_default-ask.field-0 c.tell-2.result c.in-Ok.freed
    c.in_default.ensures c.copy_pages.ensures c.tell.ensures c.in_default-ask.ensures c.in-Ok.ensures.swept c.tell-2.ensures
