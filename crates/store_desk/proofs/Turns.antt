-- A seat after a call in its turn.
use Rattle.std.proofs.Common.{◌≡◌, ℕ, ◌+◌, ◌-◌, List, [], ◌∷◌, ◌++◌, length, Result, Ok, Err, sym, ap, ◌∙◌, subst, append-nil, arith}
use Rattle.std.proofs.Math.ListN.{length-append}
use Rattle.std.specs.Prelude.{Option, Some, None, IfSome}
use Rattle.object_graph.specs.declared.calls.Call.{Call}
use Rattle.object_graph.specs.declared.calls.Refusal.{Refusal}
use Rattle.object_graph.specs.declared.calls.Reply.{Reply}
use Rattle.object_graph.specs.declared.memory.Memory.{Memory}
use Rattle.disk_trait.specs.declared.disk.Disk.{Ghosts as DiskOf}
use Rattle.cut_builder.specs.CutParts.{ClosedParts, MarkedParts}
use Rattle.cut_core.specs.Seen.{Seen}
use Rattle.turn_lock.specs.Lists.{StartsWith, places}
use Rattle.turn_lock.specs.Seats.{Finds, grown}
use Rattle.turn_lock.proofs.Lists.{starts_on}
use Rattle.store_desk.specs.Appended.{Appended, Did, DidClose, DidMark, IsOf, IsClosingOf, IsMarkingOf}
use Rattle.store_desk.specs.Chronicles.{IsKnown, IsChronicle}
use Rattle.store_desk.specs.Events.{history, HasClosing}
use Rattle.store_desk.specs.Seats.{AtDesk, Saw, Looked, Entered, Called, ClosedBy, MarkedBy}
use Rattle.store_desk.specs.States.{DeskParts, IsKeptIn}
use Rattle.store_desk.specs.declared.event.Event.{Event}
use Rattle.store_desk.proofs.Kept.{closing_in_more}

one_more : (xs : List Event) (e : Event) → length (xs ++ e ∷ []) - length xs ≡ 1
one_more xs e = let h : length (xs ++ e ∷ []) ≡ length xs + 1 = length-append xs (e ∷ []) in omega (arith, h)

-- what a seat has seen closed, the whole chronicle has
pub closing_found : {D : Type 0} (list : List Event) (start : Seen D) (s : AtDesk D) (marked : Option MarkedParts) → Finds list start s → IfSome marked (λ m. HasClosing s.seen m.cut) → IfSome marked (λ m. HasClosing list m.cut)
closing_found list start s None found seen = tt
closing_found list start s (Some m) found seen = subst (λ (xs : List Event). HasClosing xs m.cut) (sym found.begins.1) (closing_in_more s.seen found.begins.0 m.cut seen)

module _ {D : Type 0} (disks : DiskOf D) (old new : AtDesk D) (x y : DeskParts D) (found : Finds x.chronicle x.start old) (is : new ≡ grown old x.chronicle y.chronicle) where
  saw_from : StartsWith y.chronicle x.chronicle → y.start ≡ x.start → IsKeptIn disks y → Saw disks old new
  saw_from more same kept =
      let told : IsKnown (disks.content x.start.disk) (history y.chronicle) → IsChronicle x.start.world y.chronicle =
      subst (λ (s : Seen D). IsKnown (disks.content s.disk) (history y.chronicle) → IsChronicle s.world y.chronicle) same kept.told in record {
        first = x.start;
        start = found.same_start;
        same_start = ap (λ (s : AtDesk D). s.start) is;
        same_turn = ap (λ (s : AtDesk D). s.turn) is;
        same_parts = ap (λ (s : AtDesk D). s.parts) is;
        begins = subst (λ (s : AtDesk D). StartsWith s.seen old.seen) (sym is) (starts_on y.chronicle x.chronicle old.seen more found.begins);
        told = subst (λ (s : AtDesk D). IsKnown (disks.content x.start.disk) (history s.seen) → IsChronicle x.start.world s.seen) (sym is) told;
      }

  entered_from : (Says : Event → Type 0) (place : ℕ) → Appended x y Says place → IsKeptIn disks y → Entered disks old new Says place
  entered_from Says place a kept =
      let grew : places (length x.chronicle) (length y.chronicle - length x.chronicle) ≡ place ∷ [] =
      ap (λ (ys : List Event). places (length x.chronicle) (length ys - length x.chronicle)) a.chronicle
      ∙ (ap (places (length x.chronicle)) (one_more x.chronicle a.event) ∙ ap (λ (p : ℕ). p ∷ []) (sym a.place_is)) in record {
        saw = saw_from (a.event ∷ [], a.chronicle) a.start kept;
        before = x.chronicle;
        event = a.event;
        begins = found.begins;
        says = a.says;
        seen = ap (λ (s : AtDesk D). s.seen) is ∙ a.chronicle;
        place_is = a.place_is;
        own = ap (λ (s : AtDesk D). s.own) is ∙ ap (λ (ps : List ℕ). old.own ++ ps) grew;
      }

  pub looked_from : y.chronicle ≡ x.chronicle → y.start ≡ x.start → IsKeptIn disks y → Looked disks old new
  looked_from same start kept =
      let unchanged : places (length x.chronicle) (length y.chronicle - length x.chronicle) ≡ [] =
      ap (λ (c : List Event). places (length x.chronicle) (length c - length x.chronicle)) same
      ∙ ap (places (length x.chronicle)) (let z : length x.chronicle - length x.chronicle ≡ 0 = omega arith in z) in record {
        saw = saw_from ([], same ∙ sym (append-nil x.chronicle)) start kept;
        own = ap (λ (s : AtDesk D). s.own) is ∙ (ap (λ (ps : List ℕ). old.own ++ ps) unchanged ∙ append-nil old.own);
      }

  none_from : y ≡ x → IsKeptIn disks y → Looked disks old new
  none_from same kept = looked_from (ap (λ (s : DeskParts D). s.chronicle) same) (ap (λ (s : DeskParts D). s.start) same) kept

  pub called_from : (lane : ℕ) (call : Call) (result : Result (Reply × ℕ) Memory) → Did disks x y lane call result → Called disks old new lane call result
  called_from lane call (Ok r) did = entered_from (IsOf lane call r.0) r.1 did.event did.kept
  called_from lane call (Err e) did = none_from did.none did.kept

  pub closed_from : (lane : ℕ) (result : Result (Result ClosedParts Refusal × ℕ) Memory) → DidClose disks x y lane result → ClosedBy disks old new lane result
  closed_from lane (Ok r) did = entered_from (IsClosingOf lane r.0) r.1 did.event did.kept
  closed_from lane (Err e) did = none_from did.none did.kept

  pub marked_from : (lane workers : ℕ) (marked : Option MarkedParts) (result : Result (Reply × ℕ) (Option MarkedParts × Memory)) → DidMark disks x y lane workers marked result → MarkedBy disks old new lane workers marked result
  marked_from lane workers marked (Ok r) did = entered_from (IsMarkingOf lane workers marked r.0) r.1 did.event did.kept
  marked_from lane workers marked (Err e) did = none_from did.none did.kept
