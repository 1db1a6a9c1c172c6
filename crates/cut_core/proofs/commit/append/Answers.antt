use Rattle.std.proofs.Common.{◌≡◌, ap, ◌∙◌, Err, arith}
use Rattle.cut_core.proofs.Crashes.{append_leaves, append_keeps, at_some}
use Rattle.redo_journal.specs.Journals.{appended}
use Rattle.cut_core.proofs.commit.append.Goals as goal

pub unreachable-requires : goal.unreachable-requires
unreachable-requires g c =
    let why = (c.append.ensures.no_room c.in-Err-NoRoom.field-0-0 c.in-Err-NoRoom.field-0-1).0 (c.in-Err-NoRoom.is ∙ ap Err c.in-Err-NoRoom.field-0-is) in
    omega (arith, why.0, why.1, why.2, c.requires.room)

pub returns-in-Ok-clause-any_moment : goal.returns-in-Ok-clause-any_moment
returns-in-Ok-clause-any_moment g c = λ file new s t told keeps staged after.
    append_leaves g.D.Disk c.args.disk.now c.append.new.disk c.args.journal.now (g.D.Disk.may_leave c.args.disk.now) file new s t keeps after
    (λ records holds. c.append.ensures.any_moment file records new told keeps.synced holds staged)

pub returns-in-Ok-clause-kept : goal.returns-in-Ok-clause-kept
returns-in-Ok-clause-kept g c = λ file new s t told keeps staged after.
    append_keeps c.args.journal.now c.append.new.self (g.D.Disk.may_leave c.args.disk.now) (g.D.Disk.may_leave c.append.new.disk) (g.D.Disk.content c.append.new.disk) file new s t keeps after
    (at_some (λ r. c.append.new.self ≡ appended r c.args.journal.now) c.args.journal.now.staged new staged c.in-Ok.ensures.appended) c.in-Ok.ensures.synced
    (λ records holds. c.in-Ok.ensures.acknowledged file records new told holds staged)

pub returns-in-Err-DiskFault-clause-any_moment : goal.returns-in-Err-DiskFault-clause-any_moment
returns-in-Err-DiskFault-clause-any_moment g c = λ file new s t told keeps staged after.
    append_leaves g.D.Disk c.args.disk.now c.append.new.disk c.args.journal.now (g.D.Disk.may_leave c.args.disk.now) file new s t keeps after
    (λ records holds. c.append.ensures.any_moment file records new told keeps.synced holds staged)
