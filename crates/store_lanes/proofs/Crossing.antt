-- The closure of the lanes may go to a thread of its own where the disk may, since each thing that it captures may. A search
-- of the whole doesn't see a closure's type as that of its captures, so the step is taken here.
use mathlib.Core.List.{List, [], ◌∷◌}
use Prim.Native.Nat.{ℕ}
use mir.Syntax.{Lifetime}
use base.Fml.{Lft}
use denote.Builtin.{u8, u32}
use denote.RattleType.{RattleType}
use denote.Param.Send.{IsSend, IsSync, AllSend, struct_send, recorded_send, sendable}
use denote.Ref.{ShrRef}
use denote.Slice.{ShrSlice}
use denote.Struct.Declared.{shape}
use denote.Struct.Field.{rows}
use denote.Struct.Tuple.{TupleAt, type_at, parts}
use Rattle.std.proofs.Crossing.{send as heap_send}
use Rattle.std.specs.contracts.alloc.Global as heap
use Rattle.disk_trait.specs.declared.disk.Disk.{Ghosts as DiskOf}
use Rattle.cut_core.specs.contracts.machine.Core as core
use Rattle.turn_lock.specs.contracts.seat.Seat as seat
use Rattle.store_desk.specs.contracts.desk.Desk as desk
use Rattle.store_desk.specs.contracts.event.Event as event
use Rattle.store_desk.specs.contracts.state.DeskState as state
use Rattle.store_desk.specs.contracts.state.DeskStateKept.TheImpl.{ghosts, no_dict}
use Rattle.store_desk.proofs.Crossing.{desk_sync, seat_send}

parts_send : (Ts : List RattleType) → AllSend Ts → AllSend (rows (parts Ts))
parts_send [] s = tt
parts_send (T ∷ Ts) s = (s.0, parts_send Ts s.1)

closure_send : (name : List ℕ) (captured : List RattleType) → AllSend captured → IsSend (TupleAt name captured)
closure_send name captured s = recorded_send _ _ _ (type_at name captured).to_one (struct_send (shape (type_at name captured)) (parts_send captured s))

module _ (R D G : RattleType) (disks : DiskOf D.Denot) (r : IsSync R) (d : IsSend D) (g : IsSync G) where
  abbrev pub captured : Lifetime → Lft → Lifetime → Lft → Lifetime → Lft → Lifetime → Lft → List RattleType
  captured ℓ₁ κ₁ ℓ₂ κ₂ ℓ₃ κ₃ ℓ₄ κ₄ =
      ShrRef ℓ₁ κ₁ R ∷ heap.the_row ∷ ShrRef ℓ₂ κ₂ (desk.the_row D disks)
      ∷ seat.the_row (state.the_row D disks) event.the_row (core.the_row D disks) (ghosts D disks no_dict)
      ∷ ShrRef ℓ₃ κ₃ G ∷ ShrSlice ℓ₄ κ₄ u8 ∷ u32 ∷ []

  pub lanes_send : (name : List ℕ) (ℓ₁ : Lifetime) (κ₁ : Lft) (ℓ₂ : Lifetime) (κ₂ : Lft) (ℓ₃ : Lifetime) (κ₃ : Lft) (ℓ₄ : Lifetime) (κ₄ : Lft) → IsSend (TupleAt name (captured ℓ₁ κ₁ ℓ₂ κ₂ ℓ₃ κ₃ ℓ₄ κ₄))
  lanes_send name ℓ₁ κ₁ ℓ₂ κ₂ ℓ₃ κ₃ ℓ₄ κ₄ = closure_send name (captured ℓ₁ κ₁ ℓ₂ κ₂ ℓ₃ κ₃ ℓ₄ κ₄)
      (search (sendable, r), (heap_send, (search (sendable, desk_sync D disks d), (seat_send D disks d, (search (sendable, g), (search sendable, (search sendable, tt)))))))
