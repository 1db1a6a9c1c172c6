use Rattle.std.proofs.Common.{◌∷◌, [], arith}
use Rattle.object_graph.specs.Names.{root_name}
use Rattle.generator.specs.Between.{learnt}
use Rattle.generator.proofs.Transactions.{put_never, link_never, put_goes, all_written}
use Rattle.generator.proofs.transacting.write.Goals as goal

pub tell-requires-clause-never : goal.tell-requires-clause-never
tell-requires-clause-never g c κs within = put_never (learnt c.args.old.now (root_name ∷ [])) 2 c.args.machine.now.world c.args.name.now c.args.round c.requires (omega arith)

pub keep-requires-after_bounds : goal.keep-requires-after_bounds
keep-requires-after_bounds g c κs within =
    (put_goes g.D.Disk c.args.machine.now c.tell.new.machine (c.args.name.now ∷ learnt c.args.old.now (root_name ∷ [])) 2 c.args.name.now c.args.round c.tell.result
    c.requires c.tell.ensures).alone

pub tell-requires-2-clause-never : goal.tell-requires-2-clause-never
tell-requires-2-clause-never g c κs within =
    link_never 4 c.keep.new.machine.world c.args.name.now c.args.old.now c.field_of.result c.keep.ensures.alone (omega arith) c.field_of.ensures.bound

pub returns : goal.returns
returns g c =
    all_written g.D.Disk c.args.machine.now c.tell.new.machine c.keep.new.machine c.tell-2.new.machine c.args.drawn c.args.round c.field_of.result c.args.name.now c.args.old.now
    c.tell.result c.tell-2.result c.field_of.ensures.drawn c.requires c.tell.ensures c.keep.ensures c.tell-2.ensures
