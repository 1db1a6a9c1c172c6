use Rattle.std.proofs.Common.{inl, subst, sym, ◌∙◌}
use Rattle.std.proofs.lemmas.Result.{on_ok_weaker}
use Rattle.disk_trait.proofs.DiskSteps.{weaker}
use Rattle.image_model.specs.Records.{IsAfterRecord}
use Rattle.image_model.specs.Stands.{StandsFor}
use Rattle.cut_core.specs.Writing.{KeepsState, StandsForOneOf}
use Rattle.cut_core.proofs.Crashes.{write_leaves, some_of}
use Rattle.cut_core.proofs.commit.write_record.Goals as goal

pub returns-in_err-make_room-clause-any_moment : goal.returns-in_err-make_room-clause-any_moment
returns-in_err-make_room-clause-any_moment g c = λ file new s t told keeps staged after.
    weaker g.D.Disk c.args.disk.now c.make_room.new.disk (λ image. StandsFor image c.args.journal.now.pages s) (StandsForOneOf c.args.journal.now.pages s t)
    (λ image p. inl p) (c.make_room.ensures.any_moment file s told keeps)

pub returns-clause-any_moment : goal.returns-clause-any_moment
returns-clause-any_moment g c = λ file new s t told keeps staged after.
    let e = c.in_ok-make_room.ensures in
    let mid = some_of (KeepsState c.make_room.new.journal (g.D.Disk.may_leave c.make_room.new.disk) s) (g.D.Disk.content c.make_room.new.disk) (e.kept file s told keeps) in
    write_leaves g.D.Disk c.args.disk.now c.make_room.new.disk c.append.new.disk c.args.journal.now.pages c.make_room.new.journal.pages s t e.pages
    (c.make_room.ensures.any_moment file s told keeps)
    (c.append.ensures.any_moment mid.0 new s t mid.1 mid.2 (e.staged ∙ staged) (subst (λ n. IsAfterRecord n new s t) (sym e.pages) after))

pub returns-clause-kept : goal.returns-clause-kept
returns-clause-kept g c =
    on_ok_weaker c.append.result (λ kept file new s t told keeps staged after.
    let e = c.in_ok-make_room.ensures in
    let mid = some_of (KeepsState c.make_room.new.journal (g.D.Disk.may_leave c.make_room.new.disk) s) (g.D.Disk.content c.make_room.new.disk) (e.kept file s told keeps) in
    kept mid.0 new s t mid.1 mid.2 (e.staged ∙ staged) (subst (λ n. IsAfterRecord n new s t) (sym e.pages) after))
    c.append.ensures.kept
