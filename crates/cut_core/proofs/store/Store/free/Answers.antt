use Rattle.std.proofs.Common.{◌≡◌, ◌+◌, ap, ◌∙◌, refl, arith}
use Rattle.redo_journal.specs.Journals.{JournalParts}
use Rattle.object_graph.specs.declared.calls.Call.TheVariants.{Sweep}
use Rattle.object_graph.specs.declared.calls.Refusal.TheVariants.{DiskFault}
use Rattle.page_buffer.specs.Frames.{frame_at, freed_page}
use Rattle.store_model.specs.States.{state_of}
use Rattle.store_model.specs.Steps.{swept}
use Rattle.store_model.specs.Worlds.{faults}
use Rattle.image_model.specs.Records.{sweep_record}
use Rattle.cut_core.proofs.Holding.{refused_holds}
use Rattle.cut_core.proofs.Recorded.{staged_own, leaves_either, leaves_now, may_fail_there}
use Rattle.cut_core.proofs.Sweeping.{is_sweep, is_staged, sweep_steps, unswept_steps, either_swept, either_unswept, broken_in_sweep}
use Rattle.transactions.specs.Standing.{TransactionsParts}
use Rattle.cut_core.proofs.Touching.{swept_frames}
use Rattle.cut_core.proofs.store.Store.free.Goals as goal

pub stage_sweep-requires-clause-used : goal.stage_sweep-requires-clause-used
stage_sweep-requires-clause-used g c =
    (is_sweep g.D.Disk c.args.self.now c.args.held.now c.args.page c.args.slots c.requires.stands.0 c.requires.sound c.requires.may c.requires.doomed c.requires.stands.1 c.requires.stands.2).used

pub write_record-requires-clause-own : goal.write_record-requires-clause-own
write_record-requires-clause-own g c = staged_own g.D.Disk c.args.self.now c.stage_sweep.new.journal _ c.requires.stands.0 c.requires.stands.1 c.requires.sound c.stage_sweep.ensures.staged

pub free-requires-clause-used : goal.free-requires-clause-used
free-requires-clause-used g c =
    (is_sweep g.D.Disk c.args.self.now c.args.held.now c.args.page c.args.slots c.requires.stands.0 c.requires.sound c.requires.may c.requires.doomed c.requires.stands.1 c.requires.stands.2).used

pub free-requires-clause-out : goal.free-requires-clause-out
free-requires-clause-out g c =
    let k = is_sweep g.D.Disk c.args.self.now c.args.held.now c.args.page c.args.slots c.requires.stands.0 c.requires.sound c.requires.may c.requires.doomed c.requires.stands.1 c.requires.stands.2 in
    (c.requires.stands.0, k.ready, k.out)

pub returns-in-Ok-clause-steps : goal.returns-in-Ok-clause-steps
returns-in-Ok-clause-steps g c = λ w h holds.
    let k = is_sweep g.D.Disk c.args.self.now c.args.held.now c.args.page c.args.slots w c.requires.sound c.requires.may c.requires.doomed h holds in
    let r = sweep_record (freed_page c.args.slots (frame_at c.args.self.now.transactions.frames c.args.page).before) in
    let s = is_staged g.D.Disk g.met.D.Disk.honest c.args.self.now c.stage_sweep.new.journal c.args.page c.args.slots w h c.requires.sound k c.stage_sweep.ensures.staged in
    let counted : c.args.self.now.commits + 0 ≡ c.write_record.new.journal.base + c.write_record.new.journal.commits = c.in-Ok.ensures.counted r s.record_is in
    sweep_steps g.D.Disk c.args.self.now c.free.new.self c.write_record.new.journal c.write_record.new.disk c.args.page c.args.slots (g.D.Disk.fault_count c.write_record.new.disk) w h
    c.requires.sound k.may (c.free.ensures.swept w k.ready) c.write_record.ensures.keeps.size
    (c.in-Ok.ensures.pages ∙ ap (λ (j : JournalParts). j.pages) c.stage_sweep.ensures.staged) (omega (arith, counted))
    (λ file told. c.in-Ok.ensures.kept file r (state_of w) (state_of (swept w c.args.page c.args.slots)) told (s.keeps file told) s.record_is s.after)
    c.write_record.ensures.keeps.told

pub returns-in-Ok-clause-any_moment : goal.returns-in-Ok-clause-any_moment
returns-in-Ok-clause-any_moment g c = λ w h holds.
    let k = is_sweep g.D.Disk c.args.self.now c.args.held.now c.args.page c.args.slots w c.requires.sound c.requires.may c.requires.doomed h holds in
    let s = is_staged g.D.Disk g.met.D.Disk.honest c.args.self.now c.stage_sweep.new.journal c.args.page c.args.slots w h c.requires.sound k c.stage_sweep.ensures.staged in
    leaves_either g.D.Disk c.args.self.now c.write_record.new.disk c.stage_sweep.new.journal (sweep_record (freed_page c.args.slots (frame_at c.args.self.now.transactions.frames c.args.page).before))
    (state_of (swept w c.args.page c.args.slots)) w s c.write_record.ensures.any_moment (swept w c.args.page c.args.slots) (either_swept w c.args.page c.args.slots) h

pub returns-in-Err-clause-held : goal.returns-in-Err-clause-held
returns-in-Err-clause-held g c = λ w h holds.
    let k = is_sweep g.D.Disk c.args.self.now c.args.held.now c.args.page c.args.slots w c.requires.sound c.requires.may c.requires.doomed h holds in
    refused_holds c.args.held.now w (Sweep c.args.page) (faults (g.D.Disk.fault_count c.write_record.new.disk)) DiskFault
    (may_fail_there w (Sweep c.args.page) (g.D.Disk.fault_count c.write_record.new.disk) k.may.0 refl) holds

pub returns-in-Err-clause-steps : goal.returns-in-Err-clause-steps
returns-in-Err-clause-steps g c = λ w h holds.
    let k = is_sweep g.D.Disk c.args.self.now c.args.held.now c.args.page c.args.slots w c.requires.sound c.requires.may c.requires.doomed h holds in
    let s = is_staged g.D.Disk g.met.D.Disk.honest c.args.self.now c.stage_sweep.new.journal c.args.page c.args.slots w h c.requires.sound k c.stage_sweep.ensures.staged in
    rw c.faults.ensures
    (unswept_steps g.D.Disk c.args.self.now c.write_record.new.journal c.write_record.new.disk c.args.page c.args.slots (g.D.Disk.fault_count c.write_record.new.disk) w h
    k.may c.write_record.ensures.keeps.size
    (leaves_now g.D.Disk c.args.self.now c.write_record.new.disk c.stage_sweep.new.journal (sweep_record (freed_page c.args.slots (frame_at c.args.self.now.transactions.frames c.args.page).before))
    (state_of (swept w c.args.page c.args.slots)) w s c.write_record.ensures.any_moment g.met.D.Disk.counts_now)
    c.write_record.ensures.keeps.told)

pub returns-in-Err-clause-any_moment : goal.returns-in-Err-clause-any_moment
returns-in-Err-clause-any_moment g c = λ w h holds.
    let k = is_sweep g.D.Disk c.args.self.now c.args.held.now c.args.page c.args.slots w c.requires.sound c.requires.may c.requires.doomed h holds in
    let s = is_staged g.D.Disk g.met.D.Disk.honest c.args.self.now c.stage_sweep.new.journal c.args.page c.args.slots w h c.requires.sound k c.stage_sweep.ensures.staged in
    leaves_either g.D.Disk c.args.self.now c.write_record.new.disk c.stage_sweep.new.journal (sweep_record (freed_page c.args.slots (frame_at c.args.self.now.transactions.frames c.args.page).before))
    (state_of (swept w c.args.page c.args.slots)) w s c.write_record.ensures.any_moment (broken_in_sweep w (g.D.Disk.fault_count c.write_record.new.disk) c.args.page)
    (λ image. either_unswept w (g.D.Disk.fault_count c.write_record.new.disk) c.args.page c.args.slots image k.may.1) h

pub note_swept-requires : goal.note_swept-requires
note_swept-requires g c =
    let k = is_sweep g.D.Disk c.args.self.now c.args.held.now c.args.page c.args.slots c.requires.stands.0 c.requires.sound c.requires.may c.requires.doomed c.requires.stands.1 c.requires.stands.2 in
    (c.requires.stands.0, c.args.slots, c.requires.stands.2, k.may)

pub returns-in-Ok-clause-held : goal.returns-in-Ok-clause-held
returns-in-Ok-clause-held g c = λ w h holds.
    let k = is_sweep g.D.Disk c.args.self.now c.args.held.now c.args.page c.args.slots w c.requires.sound c.requires.may c.requires.doomed h holds in
    c.note_swept.ensures.well w c.args.slots holds k.may

pub returns-in-Ok-clause-frames : goal.returns-in-Ok-clause-frames
returns-in-Ok-clause-frames g c =
    swept_frames c.args.self.now.transactions c.free.new.self c.args.page c.args.slots _
    (is_sweep g.D.Disk c.args.self.now c.args.held.now c.args.page c.args.slots c.requires.stands.0 c.requires.sound c.requires.may c.requires.doomed c.requires.stands.1 c.requires.stands.2).low
    c.requires.some (ap (λ (s : TransactionsParts). s.frames) c.free.ensures.frames)
