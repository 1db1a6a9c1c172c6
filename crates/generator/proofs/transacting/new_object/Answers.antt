use Rattle.std.proofs.Common.{◌∷◌, [], Option, subst, sym, arith}
use Rattle.object_graph.specs.NameParts.{NameParts}
use Rattle.object_graph.specs.Names.{root_name}
use Rattle.generator.specs.Between.{learnt}
use Rattle.generator.specs.Making.{MadeNew}
use Rattle.generator.proofs.Transactions.{made_new}
use Rattle.generator.proofs.transacting.new_object.Goals as goal

pub returns : goal.returns
returns g c =
    subst (λ (o : Option NameParts). MadeNew g.D.Disk c.args.machine.now c.answer-reply.new.self c.args.page o) (sym c.name_made.ensures)
    (made_new g.D.Disk c.args.machine.now c.answer-reply.new.self (learnt c.args.old.now (root_name ∷ [])) 1 c.args.page c.answer-reply.result
    c.requires.alone (omega arith) c.requires.page c.answer-reply.ensures)
