use Rattle.std.proofs.Common.{◌≡◌, sym, ◌∙◌, Option, Some, None, refl, arith}
use Rattle.object_graph.specs.NameParts.{NameParts}
use Rattle.generator.proofs.Transactions.{keep_never, kept_goes, not_kept, none_kept}
use Rattle.store_machine.proofs.Acting.{acts_nothing}
use Rattle.generator.proofs.transacting.keep.Goals as goal

nothing_in : (o : Option NameParts) → ((name : NameParts) → o ≡ Some name → ⊥) → o ≡ None
nothing_in None h = refl
nothing_in (Some name) h = absurd (h name refl)

pub tell-requires-clause-never : goal.tell-requires-clause-never
tell-requires-clause-never g c κs within = keep_never 3 c.args.machine.now.world c.args.name.now c.in-Some.target c.args.old.now c.in-Some.is c.requires (omega arith)

pub returns-then-keeps : goal.returns-then-keeps
returns-then-keeps g c =
    kept_goes g.D.Disk c.args.machine.now c.tell.new.machine c.args.drawn c.args.name.now c.in-Some.target c.args.old.now c.tell.result
    c.in-Some.is (sym c.keeps.ensures ∙ c.if-keeps.true) c.requires c.tell.ensures

pub returns-else-keeps : goal.returns-else-keeps
returns-else-keeps g c =
    not_kept g.D.Disk c.args.machine.now c.args.drawn c.args.name.now c.in-Some.target c.args.old.now
    c.in-Some.is (sym c.keeps.ensures ∙ c.if-keeps.false) c.requires (acts_nothing g.D.Disk c.args.machine.now g.met.D.Disk.only_now c.stands.ensures.now)

pub returns-in_default : goal.returns-in_default
returns-in_default g c =
    none_kept g.D.Disk c.args.machine.now c.args.drawn c.args.name.now c.args.old.now (nothing_in c.args.old.now c.in_default.not-Some) c.requires
    (acts_nothing g.D.Disk c.args.machine.now g.met.D.Disk.only_now c.stands.ensures.now)
