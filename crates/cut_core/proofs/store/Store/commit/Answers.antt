use Rattle.std.proofs.Common.{◌≡◌, ◌+◌, ◌*◌, ap, sym, ◌∙◌, refl, arith, length}
use Rattle.std.proofs.lemmas.Bool.{lt-leb}
use Rattle.redo_journal.specs.Journals.{JournalParts, need_of}
use Rattle.store_model.specs.States.{state_of, state_after}
use Rattle.image_model.specs.Records.{commit_record}
use Rattle.object_graph.specs.declared.limits.TheConstants.{MOST_COUNTED}
use Rattle.store_model.specs.Worlds.{transaction}
use Rattle.store_model.specs.Steps.{committed}
use Rattle.cut_core.specs.Writing.{images_written}
use Rattle.object_graph.specs.declared.calls.Call.TheVariants.{Commit}
use Rattle.object_graph.specs.declared.calls.Refusal.TheVariants.{DiskFault}
use Rattle.store_model.specs.Worlds.{faults}
use Rattle.cut_core.proofs.Holding.{refused_holds}
use Rattle.cut_core.proofs.Recorded.{staged_own, leaves_either, leaves_now, may_fail_there}
use Rattle.cut_core.proofs.Standing.{commit_may, no_device_call, is_ready, is_staged, commit_steps, fault_steps, either_done, either_failed, broken_by}
use Rattle.cut_core.proofs.store.Store.commit.Goals as goal
use Rattle.redo_journal.specs.declared.sizes.TheConstants.{IMAGE_SIZE}

pub returns-then-self-ge-MOST_COUNTED-clause-any_moment : goal.returns-then-self-ge-MOST_COUNTED-clause-any_moment
returns-then-self-ge-MOST_COUNTED-clause-any_moment g c = λ w h holds.
    no_device_call g.D.Disk g.met.D.Disk.only_now c.args.self.now c.args.self.now.disk w w refl h

pub write_record-requires-clause-few : goal.write_record-requires-clause-few
write_record-requires-clause-few g c =
    let few = c.stage_commit.ensures.few in
    let size : need_of c.stage_commit.new.journal.staged ≡ 6 + IMAGE_SIZE * length (images_written c.args.self.now.transactions c.args.txn) =
    ap (λ (j : JournalParts). need_of j.staged) c.stage_commit.ensures.staged in
    omega (arith, few, size)

pub write_record-requires-clause-own : goal.write_record-requires-clause-own
write_record-requires-clause-own g c =
    staged_own g.D.Disk c.args.self.now c.stage_commit.new.journal _ c.requires.stands.0 c.requires.stands.1 c.requires.sound c.stage_commit.ensures.staged

pub returns-in-Ok-clause-steps : goal.returns-in-Ok-clause-steps
returns-in-Ok-clause-steps g c = λ w h holds.
    let few = lt-leb MOST_COUNTED c.args.self.now.commits c.if-self-ge-MOST_COUNTED.false in
    let there = sym c.is_open.ensures ∙ c.if-not-is_open.false in
    let k = is_staged g.D.Disk g.met.D.Disk.honest c.args.self.now c.stage_commit.new.journal c.args.txn w h c.requires.sound there few c.stage_commit.ensures.staged in
    let may = commit_may g.D.Disk c.args.self.now c.args.txn w c.requires.sound h there few in
    let images = commit_record (images_written c.args.self.now.transactions c.args.txn) in
    commit_steps g.D.Disk c.args.self.now c.finish.new.self c.write_record.new.journal c.write_record.new.disk c.args.txn (g.D.Disk.fault_count c.write_record.new.disk) w h
    c.requires.sound may (c.finish.ensures.committed w (is_ready g.D.Disk c.args.self.now w c.requires.sound h)) c.write_record.ensures.keeps.size
    (c.in-Ok.ensures.pages ∙ ap (λ (j : JournalParts). j.pages) c.stage_commit.ensures.staged) (c.in-Ok.ensures.counted images k.record_is)
    (λ file told. c.in-Ok.ensures.kept file images (state_of w) (state_after w (transaction w c.args.txn)) told (k.keeps file told) k.record_is k.after)
    c.write_record.ensures.keeps.told

pub returns-in-Ok-clause-any_moment : goal.returns-in-Ok-clause-any_moment
returns-in-Ok-clause-any_moment g c = λ w h holds.
    let few = lt-leb MOST_COUNTED c.args.self.now.commits c.if-self-ge-MOST_COUNTED.false in
    let there = sym c.is_open.ensures ∙ c.if-not-is_open.false in
    let k = is_staged g.D.Disk g.met.D.Disk.honest c.args.self.now c.stage_commit.new.journal c.args.txn w h c.requires.sound there few c.stage_commit.ensures.staged in
    let may = commit_may g.D.Disk c.args.self.now c.args.txn w c.requires.sound h there few in
    leaves_either g.D.Disk c.args.self.now c.write_record.new.disk c.stage_commit.new.journal (commit_record (images_written c.args.self.now.transactions c.args.txn)) (state_after w (transaction w c.args.txn)) w
    k c.write_record.ensures.any_moment (committed w c.args.txn) (either_done w c.args.txn) h

pub returns-in-Err-clause-steps : goal.returns-in-Err-clause-steps
returns-in-Err-clause-steps g c = λ w h holds.
    let few = lt-leb MOST_COUNTED c.args.self.now.commits c.if-self-ge-MOST_COUNTED.false in
    let there = sym c.is_open.ensures ∙ c.if-not-is_open.false in
    let k = is_staged g.D.Disk g.met.D.Disk.honest c.args.self.now c.stage_commit.new.journal c.args.txn w h c.requires.sound there few c.stage_commit.ensures.staged in
    let may = commit_may g.D.Disk c.args.self.now c.args.txn w c.requires.sound h there few in
    rw c.faults.ensures
    (fault_steps g.D.Disk c.args.self.now c.write_record.new.journal c.write_record.new.disk c.args.txn (g.D.Disk.fault_count c.write_record.new.disk) w h
    may c.write_record.ensures.keeps.size
    (leaves_now g.D.Disk c.args.self.now c.write_record.new.disk c.stage_commit.new.journal (commit_record (images_written c.args.self.now.transactions c.args.txn)) (state_after w (transaction w c.args.txn)) w
    k c.write_record.ensures.any_moment g.met.D.Disk.counts_now)
    c.write_record.ensures.keeps.told)

pub returns-in-Err-clause-any_moment : goal.returns-in-Err-clause-any_moment
returns-in-Err-clause-any_moment g c = λ w h holds.
    let few = lt-leb MOST_COUNTED c.args.self.now.commits c.if-self-ge-MOST_COUNTED.false in
    let there = sym c.is_open.ensures ∙ c.if-not-is_open.false in
    let k = is_staged g.D.Disk g.met.D.Disk.honest c.args.self.now c.stage_commit.new.journal c.args.txn w h c.requires.sound there few c.stage_commit.ensures.staged in
    let may = commit_may g.D.Disk c.args.self.now c.args.txn w c.requires.sound h there few in
    leaves_either g.D.Disk c.args.self.now c.write_record.new.disk c.stage_commit.new.journal (commit_record (images_written c.args.self.now.transactions c.args.txn)) (state_after w (transaction w c.args.txn)) w
    k c.write_record.ensures.any_moment (broken_by w (g.D.Disk.fault_count c.write_record.new.disk) c.args.txn) (either_failed w (g.D.Disk.fault_count c.write_record.new.disk) c.args.txn) h

pub returns-in-Err-clause-held : goal.returns-in-Err-clause-held
returns-in-Err-clause-held g c = λ w h holds.
    let few = lt-leb MOST_COUNTED c.args.self.now.commits c.if-self-ge-MOST_COUNTED.false in
    let there = sym c.is_open.ensures ∙ c.if-not-is_open.false in
    refused_holds c.args.held.now w (Commit c.args.txn) (faults (g.D.Disk.fault_count c.write_record.new.disk)) DiskFault
    (may_fail_there w (Commit c.args.txn) (g.D.Disk.fault_count c.write_record.new.disk) (commit_may g.D.Disk c.args.self.now c.args.txn w c.requires.sound h there few) refl) holds
