-- What a put or a set does.
use Rattle.std.proofs.Common.{◌≡◌, ℕ, ◌<◌, Bool, true, List, ◌∷◌, ◌++◌, length, Option, None, refl, sym, subst, ap, ◌∙◌, arith}
use Rattle.object_graph.specs.declared.calls.Call.TheVariants.{Put, Set}
use Rattle.object_graph.specs.declared.calls.Refusal.{Refusal}
use Rattle.object_graph.specs.declared.names.TheConstants.{OBJECT_FIELDS}
use Rattle.object_graph.specs.declared.sizes.TheConstants.{SLOTS_PER_PAGE}
use Rattle.store_model.specs.Causes.{first_met, first_refusal, strange_target}
use Rattle.object_graph.specs.NameParts.{NameParts}
use Rattle.object_graph.specs.SlotParts.{SlotParts}
use Rattle.object_graph.specs.Graphs.{has_name}
use Rattle.store_model.specs.Worlds.{World, Transaction, Write, nothing, link, assign, view, slots_of, fields_of}
use Rattle.store_model.specs.Images.{shown_in}
use Rattle.store_model.specs.Steps.{with_page, with_transaction, writes}
use Rattle.page_image.specs.Slots.{fresh_slot, slot_with_number, slot_with_ref}
use Rattle.page_image.specs.Pages.{PageParts, slot_at, with_slot}
use Rattle.page_buffer.specs.Frames.{frame_at, with_frame, frame_written}
use Rattle.page_buffer.specs.declared.frame.Frame.{Frame}
use Rattle.page_locks.specs.Holding.{is_in_way, IsNobody, AddsExclusive}
use Rattle.transactions.specs.Tables.{OpenParts, knows_target, HaveSameNames, ChangesEntry, NotesPage}
use Rattle.transactions.specs.Standing.{TransactionsParts, image_in, IsEntry, AreFramesOf, IsReady, AreTransactionsOf}
use Rattle.transactions.specs.Checks.{name_causes, field_causes, write_causes, IsKnownTo, MayWrite, TakesPage}
use Rattle.transactions.proofs.Viewed.{written_name}
use Rattle.transactions.proofs.Seen.{there_fields}
use Rattle.transactions.proofs.Shown.{length-shown}
use Rattle.transactions.proofs.Images.{slot_of_known, number_on_page, ref_on_page, write_on_another_page}
use Rattle.transactions.proofs.Entries.{table_changes, same_pages, same_with_page}
use Rattle.transactions.proofs.LocksHeld.{locks_exclude}
use Rattle.transactions.proofs.FramesSeen.{sees, frames_change}
use Rattle.transactions.proofs.Opened.{IsOpened, open_in, open_lawful, known_there, known_placed}
use Rattle.transactions.proofs.Refusals.{causes_before, is_known_target, nobody_wrote}

-- ---- what is known before

-- the page of a known name, which nobody else wrote, is as the transaction sees it
pub known_image : (s : TransactionsParts) (w : World) (to_write : Bool) (txn : ℕ) (e : OpenParts) (name : NameParts) (o : IsOpened s w txn e) → has_name e.known name ≡ true
    → IsNobody (is_in_way to_write s.locks.held txn name.page) → (frame_at s.frames name.page).current ≡ image_in w (view w o.of) name.page
known_image s w to_write txn e name o known nobody =
    sees w name.page (frame_at s.frames name.page) txn o.of (o.ready.stands.frames.each name.page (known_placed s w txn e name o known).0) o.found (open_lawful s w txn e o)
    (λ u ne. nobody_wrote s w to_write txn name.page u o.ready nobody ne)

-- so its slot has the object
pub record IsSlotOf (image : PageParts) (slot : ℕ) : Type 0 where
  pub within : slot < length image.slots
  pub used : (slot_at image slot).in_use ≡ true
  pub fields : length (slot_at image slot).refs ≡ OBJECT_FIELDS

known_slot : (s : TransactionsParts) (w : World) (txn : ℕ) (e : OpenParts) (name : NameParts) (page slot : ℕ) → IsReady s w → IsKnownTo s txn name e → MayWrite s txn e page
    → page ≡ name.page → slot ≡ name.slot → IsSlotOf (frame_at s.frames page).current slot
known_slot s w txn e name page slot ready known may page_is slot_is =
    let o = open_in s w txn e ready known.found in
    let there = known_there s w txn e name o known.known in
    let placed = known_placed s w txn e name o known.known in
    let here = slot_of_known w o.of name fresh_slot there placed.1 in
    subst (λ p. IsSlotOf (frame_at s.frames p).current slot) (sym page_is) (subst (λ n. IsSlotOf (frame_at s.frames name.page).current n) (sym slot_is)
    (subst (λ i. IsSlotOf i name.slot) (sym image) (record {
      within = let n : length (shown_in w (view w o.of) name.page) ≡ SLOTS_PER_PAGE = length-shown (slots_of w name.page) (fields_of w name.page) (view w o.of) w.freed name.page in let p : name.slot < SLOTS_PER_PAGE = placed.1 in omega arith;
      used = ap (λ (x : SlotParts). x.in_use) here;
      fields = ap (λ (x : SlotParts). length x.refs) here ∙ there_fields w o.of name there o.ready.stands.fields;
    })))
  where
    image : (frame_at s.frames name.page).current ≡ image_in w (view w (open_in s w txn e ready known.found).of) name.page
    image = known_image s w true txn e name (open_in s w txn e ready known.found) known.known (subst (λ p. IsNobody (is_in_way true s.locks.held txn p)) page_is may.nobody)

-- and it still has once the page is taken
pub taken_slot : (s new view : TransactionsParts) (w : World) (txn : ℕ) (e : OpenParts) (name : NameParts) (page slot : ℕ) → IsReady s w → IsKnownTo s txn name e → MayWrite s txn e page
    → page ≡ name.page → slot ≡ name.slot → view ≡ new → TakesPage txn page s new → IsSlotOf (frame_at view.frames page).current slot
taken_slot s new view w txn e name page slot ready known may page_is slot_is same takes =
    subst (λ fs. IsSlotOf (frame_at fs page).current slot) (sym (ap (λ (v : TransactionsParts). v.frames) same ∙ takes.frames)) (known_slot s w txn e name page slot ready known may page_is slot_is)

-- ---- the causes of a put and of a set: past the names and the field, those of writing the page

pub put_causes : (w : World) (txn : ℕ) (name : NameParts) (value page : ℕ) (why : Option Refusal) → page ≡ name.page
    → first_met (name_causes txn name w) ≡ None → first_met (write_causes txn page w) ≡ why → first_refusal w (Put txn name value) nothing ≡ why
put_causes w txn name value page why is named writing =
    causes_before (name_causes txn name w) (write_causes txn name.page w) None named ∙ subst (λ p. first_met (write_causes txn p w) ≡ why) is writing

pub set_causes : (s : TransactionsParts) (w : World) (txn : ℕ) (e : OpenParts) (name : NameParts) (field : ℕ) (target : Option NameParts) (page : ℕ) (why : Option Refusal) → IsReady s w
    → IsKnownTo s txn name e → page ≡ name.page → knows_target e.known target ≡ true
    → first_met (name_causes txn name w) ≡ None → first_met (field_causes name field w) ≡ None → first_met (write_causes txn page w) ≡ why → first_refusal w (Set txn name field target) nothing ≡ why
set_causes s w txn e name field target page why ready known is known_target named low writing =
    causes_before (name_causes txn name w) (strange_target w txn target ∷ field_causes name field w ++ write_causes txn name.page w) None named
    ∙ (is_known_target s w txn e target (field_causes name field w ++ write_causes txn name.page w) (open_in s w txn e ready known.found) known_target
    ∙ (causes_before (field_causes name field w) (write_causes txn name.page w) None low
    ∙ subst (λ p. first_met (write_causes txn p w) ≡ why) is writing))

-- ---- the write

-- a slot after a write
abbrev pub slot_written : Write → SlotParts → SlotParts
slot_written (link name field target) = slot_with_ref field target
slot_written (assign name value) = slot_with_number value

-- the frames after a write
abbrev pub frames_written : ℕ → ℕ → Write → List Frame → List Frame
frames_written page slot write frames = with_frame frames page (frame_written (frame_at frames page) (with_slot (frame_at frames page).current slot (slot_written write)))

-- the code's steps
pub record HasWritten (s new : TransactionsParts) (txn page slot : ℕ) (write : Write) : Type 0 where
  pub nobody : IsNobody (is_in_way true s.locks.held txn page)
  pub locked : AddsExclusive s.locks.held new.locks.held txn page
  pub pages : new.locks.pages ≡ s.locks.pages
  pub noted : ChangesEntry (NotesPage page) txn s.table new.table
  pub frames : new.frames ≡ frames_written page slot write s.frames

entry_writes : (e f : OpenParts) (t : Transaction) (write : Write) (page : ℕ) → IsEntry e t → NotesPage page e f → IsEntry f (writes write page t)
entry_writes e f t write page h notes = record {
  known = subst (λ k. HaveSameNames k t.known) (sym notes.known) h.known;
  written = same_pages f.written (with_page page e.written) (with_page page t.pages_written) notes.written (same_with_page page e.written t.pages_written h.written);
}

image_written : (s : TransactionsParts) (w : World) (txn : ℕ) (e : OpenParts) (write : Write) (o : IsOpened s w txn e) → has_name e.known (written_name write) ≡ true
    → with_slot (image_in w (view w o.of) (written_name write).page) (written_name write).slot (slot_written write)
    ≡ image_in w (view w (writes write (written_name write).page o.of)) (written_name write).page
image_written s w txn e (link name field target) o known =
    ap (λ slots. record { number = name.page; slots = slots })
    (ref_on_page w o.of name field target name.page fresh_slot (known_there s w txn e name o known) (known_placed s w txn e name o known).1)
image_written s w txn e (assign name value) o known =
    ap (λ slots. record { number = name.page; slots = slots })
    (number_on_page w o.of name value name.page fresh_slot (known_there s w txn e name o known) (known_placed s w txn e name o known).1)

stands_here : (s new : TransactionsParts) (w : World) (txn : ℕ) (e : OpenParts) (write : Write) → IsOpened s w txn e → has_name e.known (written_name write) ≡ true
    → HasWritten s new txn (written_name write).page (written_name write).slot write
    → AreTransactionsOf new (with_transaction w txn (writes write (written_name write).page))
stands_here s new w txn e write o known run = record {
  fields = o.ready.stands.fields;
  table = table_changes w s.table new.table txn e o.of (NotesPage page) change o.ready.stands.table o.is o.found (λ t. refl) run.noted (λ f h. entry_writes e f o.of write page o.entry h);
  locks = locks_exclude w s.locks new.locks txn page change o.of o.ready.stands.locks o.found (λ t. refl) refl refl run.pages run.locked;
  frames = subst (AreFramesOf (with_transaction w txn change)) (sym run.frames)
      (frames_change w s.frames txn page (frame_written (frame_at s.frames page) (with_slot (frame_at s.frames page).current slot (slot_written write))) change o.of
      o.ready.stands.frames (known_placed s w txn e (written_name write) o known).0 o.found (λ t. refl) refl
      (λ u ne. nobody_wrote s w true txn page u o.ready run.nobody ne) refl refl
      (ap (λ image. with_slot image slot (slot_written write)) (known_image s w true txn e (written_name write) o known run.nobody) ∙ image_written s w txn e write o known)
      (λ p ne. ap (λ slots. record { number = p; slots = slots }) (write_on_another_page w o.of write page p (λ f. ne (sym f)))));
}
  where
    page : ℕ
    page = (written_name write).page

    slot : ℕ
    slot = (written_name write).slot

    change : Transaction → Transaction
    change = writes write (written_name write).page

-- all stands for the world after the page is taken and the write done
pub write_stands : (s new view : TransactionsParts) (frames : List Frame) (w : World) (txn : ℕ) (e : OpenParts) (page slot : ℕ) (write : Write) → IsReady s w → IsKnownTo s txn (written_name write) e
    → MayWrite s txn e page → page ≡ (written_name write).page → slot ≡ (written_name write).slot → view ≡ new → TakesPage txn page s new → frames ≡ frames_written page slot write view.frames
    → AreTransactionsOf (record view { frames = frames }) (with_transaction w txn (writes write (written_name write).page))
write_stands s new view frames w txn e page slot write ready known may page_is slot_is same takes run =
    let takes_view = subst (λ (v : TransactionsParts). TakesPage txn page s v) (sym same) takes in
    stands_here s after w txn e write (open_in s w txn e ready known.found) known.known
    (subst (λ p. HasWritten s after txn p (written_name write).slot write) page_is (subst (λ n. HasWritten s after txn page n write) slot_is (record {
      nobody = may.nobody;
      locked = takes_view.locked;
      pages = takes_view.pages;
      noted = takes_view.noted;
      frames = run ∙ ap (frames_written page slot write) takes_view.frames;
    })))
  where
    after : TransactionsParts
    after = record view { frames = frames }
