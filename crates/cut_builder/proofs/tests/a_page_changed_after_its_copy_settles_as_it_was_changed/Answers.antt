use Rattle.std.proofs.Common.{sym, subst, arith}
use Rattle.cut_builder.specs.CutParts.{page_in_cut}
use Rattle.cut_builder.specs.Young.{IsYoungCut}
use Rattle.cut_builder.proofs.Young.{born_young}
use Rattle.cut_builder.proofs.tests.a_page_changed_after_its_copy_settles_as_it_was_changed.Goals as goal

pub add_copy-requires-2 : goal.add_copy-requires-2
add_copy-requires-2 g c =
    let young : IsYoungCut c.add_after-2.new.cut 2 3 = c.add_after-2.ensures c.if-not-add_after-2.false in
    let count = young.count in
    let first : IsYoungCut c.add_born.new.self 2 3 = subst (λ cut. IsYoungCut cut 2 3) (sym c.add_born.ensures.cut)
    (born_young c.add_after-2.new.cut 2 3 0 (page_in_cut c.add_born.new.self.pages 0).born (omega (arith, count)) young) in
    let more = first.count in
    subst (λ cut. IsYoungCut cut 2 3) (sym c.add_born-2.ensures.cut)
    (born_young c.add_born.new.self 2 3 0 (page_in_cut c.add_born-2.new.self.pages 0).born (omega (arith, more)) first)
