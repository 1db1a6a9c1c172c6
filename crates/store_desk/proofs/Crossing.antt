-- The desk may be shared, and a seat at it may go from one thread to another, where the disk may go. A search for the whole
-- stops at its limit, so its parts are put together here.
use denote.RattleType.{RattleType}
use denote.Param.Send.{IsSend, IsSync, struct_send, struct_sync, recorded_send, recorded_sync, view_send, view_sync, sendable}
use denote.Struct.Declared.{shape}
use Rattle.std.proofs.Crossing.{Box-send, Vec-send}
use Rattle.std.specs.contracts.snapshot.Snapshot as snapshot
use Rattle.told.proofs.value.Told.TheSendSync as kept
use Rattle.object_graph.proofs.calls.Entry.TheSendSync as entry
use Rattle.disk_trait.specs.declared.disk.Disk.{Ghosts as DiskOf}
use Rattle.cut_builder.specs.contracts.closed.ClosedCut as closed
use Rattle.cut_builder.proofs.cut.Cut.TheSendSync as cut
use Rattle.cut_builder.proofs.marked.MarkedCut.TheSendSync as marked
use Rattle.cut_core.proofs.store.Store.TheSendSync as store
use Rattle.cut_core.proofs.touched.Touched.TheSendSync as touched
use Rattle.cut_core.specs.contracts.kept_world.KeptWorld as world
use Rattle.cut_core.specs.contracts.held.Stage as stage
use Rattle.cut_core.specs.contracts.held.HeldCut as held_cut
use Rattle.cut_core.specs.contracts.held.Held as held
use Rattle.cut_core.specs.contracts.machine.Core as core
use Rattle.cut_core.specs.contracts.machine.Core.TheInside as core_inside
use Rattle.turn_lock.proofs.Crossing as turn
use Rattle.turn_lock.specs.contracts.seat.Seat as seat
use Rattle.store_desk.specs.contracts.event.Event as event
use Rattle.store_desk.specs.contracts.event.Note as note
use Rattle.store_desk.specs.contracts.state.DeskState as state
use Rattle.store_desk.specs.contracts.state.DeskState.TheInside as state_inside
use Rattle.turn_lock.specs.declared.kept.Kept as Kept
use Rattle.store_desk.specs.contracts.state.DeskStateKept.TheImpl.{ghosts, no_dict}
use Rattle.store_desk.specs.contracts.desk.Desk as desk
use Rattle.store_desk.specs.contracts.desk.Desk.TheInside as desk_inside

-- a snapshot owns nothing
snapshot_send : (T : RattleType) → IsSend (snapshot.the_row T)
snapshot_send T = record { owned = λ d vs. ((λ vss. (tt, ((λ uss. (tt, tt)), tt))), tt); leaving = λ k f vs. tt }

images_send : IsSend (snapshot.the_row closed.the_row)
images_send = snapshot_send closed.the_row

stage_send : IsSend (stage.the_field).row
stage_send = search (sendable, cut.the_send, images_send, marked.the_send) depth 20

held_cut_send : IsSend held_cut.the_row
held_cut_send = recorded_send _ _ _ held_cut.the_type.to_one (struct_send (shape held_cut.the_type) (search sendable, (stage_send, (Vec-send _ (search sendable), tt))))

held_send : IsSend held.the_row
held_send = search (sendable, held_cut_send) depth 16

note_send : IsSend (note.the_field).row
note_send = search (sendable, images_send, kept.the_send) depth 16

event_send : IsSend event.the_row
event_send = recorded_send _ _ _ event.the_type.to_one (struct_send (shape event.the_type) (entry.the_field_send, (note_send, tt)))

module _ (D : RattleType) (disks : DiskOf D.Denot) (s : IsSend D) where
  core_send : IsSend (core.the_row D disks)
  core_send = view_send _ _ _ _ _ (recorded_send _ _ _ (core_inside.the_type D disks).to_one (struct_send (shape (core_inside.the_type D disks)) (search sendable, (store.the_field_send D s, (search (sendable, held_cut_send) depth 16, (kept.the_send world.the_row, (touched.the_send, tt)))))))

  start_send : IsSend (snapshot.the_row (core.the_row D disks))
  start_send = snapshot_send (core.the_row D disks)

  abbrev kept_by : Kept.Ghosts (state.the_row D disks).Denot event.the_row.Denot (core.the_row D disks).Denot
  kept_by = ghosts D disks no_dict

  pub state_send : IsSend (state.the_row D disks)
  state_send = view_send _ _ _ _ _ (recorded_send _ _ _ (state_inside.the_type D disks).to_one (struct_send (shape (state_inside.the_type D disks)) (Box-send _ core_send, (Vec-send _ event_send, (start_send, tt)))))

  pub desk_sync : IsSync (desk.the_row D disks)
  desk_sync = view_sync _ _ _ _ _ (recorded_sync _ _ _ (desk_inside.the_type D disks).to_one
      (struct_sync (shape (desk_inside.the_type D disks)) (turn.turn_sync (state.the_row D disks) event.the_row (core.the_row D disks) kept_by state_send, (search sendable, tt))))

  pub seat_send : IsSend (seat.the_row (state.the_row D disks) event.the_row (core.the_row D disks) kept_by)
  seat_send = turn.seat_send (state.the_row D disks) event.the_row (core.the_row D disks) kept_by state_send
