use Rattle.std.proofs.Common.{◌∷◌, [], Some, None, arith}
use Rattle.object_graph.specs.Names.{root_name}
use Rattle.generator.specs.Between.{learnt}
use Rattle.generator.proofs.Transactions.{clear_never, new_goes, fills_full, fills_made}
use Rattle.generator.proofs.transacting.fill.Goals as goal

pub tell-requires-clause-never : goal.tell-requires-clause-never
tell-requires-clause-never g c κs within =
    clear_never 2 c.new_object.new.machine.world c.args.old.now c.field_of.result
    (new_goes g.D.Disk c.args.machine.now c.new_object.new.machine (learnt c.args.old.now (root_name ∷ [])) 1 c.page_of.result None c.requires c.in-None.ensures).alone
    (omega arith) c.field_of.ensures.bound

pub write-requires-after_bounds : goal.write-requires-after_bounds
write-requires-after_bounds g c κs within =
    (new_goes g.D.Disk c.args.machine.now c.new_object.new.machine (learnt c.args.old.now (root_name ∷ [])) 1 c.page_of.result (Some c.in-Some.name) c.requires c.in-Some.ensures).alone

pub returns-in-None : goal.returns-in-None
returns-in-None g c =
    fills_full g.D.Disk c.args.machine.now c.new_object.new.machine c.tell.new.machine c.args.drawn c.args.round c.page_of.result c.field_of.result c.args.old.now c.tell.result
    c.page_of.ensures.drawn c.field_of.ensures.drawn c.requires c.in-None.ensures c.tell.ensures

pub returns-in-Some : goal.returns-in-Some
returns-in-Some g c =
    fills_made g.D.Disk c.args.machine.now c.new_object.new.machine c.write.new.machine c.args.drawn c.args.round c.page_of.result c.args.old.now c.in-Some.name
    c.page_of.ensures.drawn c.requires c.in-Some.ensures c.write.ensures
