-- What a call for a new object does.
use Rattle.std.proofs.Common.{◌≡◌, ℕ, ◌+◌, ◌<◌, true, false, List, [], ◌∷◌, ◌++◌, length, Option, Some, None, refl, sym, subst, ap, ◌∙◌, arith, nat_le}
use Rattle.std.specs.Option.{option_map, option_or, is_none}
use Rattle.object_graph.specs.NameParts.{NameParts}
use Rattle.object_graph.specs.SlotParts.{SlotParts}
use Rattle.object_graph.specs.declared.calls.Call.TheVariants.{New}
use Rattle.object_graph.specs.declared.calls.Reply.TheVariants.{Made}
use Rattle.object_graph.specs.declared.calls.Refusal.{Refusal}
use Rattle.object_graph.specs.declared.calls.Refusal.TheVariants.{PageFull}
use Rattle.object_graph.specs.Graphs.{objects_at}
use Rattle.object_graph.proofs.Paths.{name_of}
use Rattle.object_graph.specs.declared.limits.TheConstants.{MOST_KNOWN}
use Rattle.store_model.specs.Worlds.{World, Transaction, nothing, view, slots_of, fields_of}
use Rattle.store_model.specs.Images.{shown_slot}
use Rattle.store_model.specs.Causes.{first_met, first_refusal, when, no_page, knows_too_many, page_full, free_slot, new_name_at, new_name}
use Rattle.store_model.specs.Replies.{AnswersNew}
use Rattle.store_model.specs.Steps.{with_page, with_target, with_transaction, with_new, makes}
use Rattle.page_image.specs.Slots.{fresh_slot, has_room, taken}
use Rattle.page_image.specs.Pages.{PageParts, slot_at, with_slot, IsFull, IsNextName}
use Rattle.page_buffer.specs.Frames.{frame_at, with_frame, frame_written}
use Rattle.page_locks.specs.Holding.{is_in_way, IsNobody, AddsExclusive}
use Rattle.transactions.specs.Tables.{OpenParts, HaveSamePages, HaveSameNames, ChangesEntry, NotesPage, NotesTarget}
use Rattle.transactions.specs.Standing.{TransactionsParts, image_in, IsEntry, AreFramesOf, IsReady, AreTransactionsOf}
use Rattle.transactions.specs.Checks.{open_causes, write_causes, IsOpenWith, MayWrite}
use Rattle.transactions.proofs.Shown.{length-shown, get-shown}
use Rattle.transactions.proofs.FreeSlots.{first_free, none_free}
use Rattle.transactions.proofs.Made.{IsFreePlace, free_place, new_on_page, new_on_another_page, free_generation}
use Rattle.transactions.proofs.Entries.{table_changes, ChangesTwice, same_pages, same_names, same_with_page, same_with_target}
use Rattle.transactions.proofs.LocksHeld.{locks_exclude}
use Rattle.transactions.proofs.FramesSeen.{sees, frames_change}
use Rattle.transactions.proofs.Opened.{IsOpened, open_in, open_lawful}
use Rattle.transactions.proofs.Refusals.{causes_before, is_page, full_by, nobody_wrote}

-- ---- the causes

-- those that come after the ones of writing the page
abbrev pub making_causes : ℕ → ℕ → World → List (Option Refusal)
making_causes txn page w = knows_too_many w txn ∷ page_full w txn page ∷ []

pub new_causes : (w : World) (txn page : ℕ) (why : Option Refusal) → page < w.pages → first_met (open_causes txn w) ≡ None → first_met (write_causes txn page w) ≡ why
    → first_refusal w (New txn page) nothing ≡ option_or why (first_met (making_causes txn page w))
new_causes w txn page why low open_to writing =
    causes_before (open_causes txn w) (no_page w page ∷ write_causes txn page w ++ making_causes txn page w) None open_to
    ∙ (is_page w page (write_causes txn page w ++ making_causes txn page w) low
    ∙ causes_before (write_causes txn page w) (making_causes txn page w) why writing)

-- the open transaction may write the page, in a world for which all stands
pub record MayWriteIn (s : TransactionsParts) (w : World) (txn : ℕ) (e : OpenParts) (page : ℕ) : Type 0 where
  pub ready : IsReady s w
  pub found : IsOpenWith s txn e
  pub low : page < w.pages
  pub may : MayWrite s txn e page

pub may_write_in : (s view : TransactionsParts) (w : World) (txn : ℕ) (e : OpenParts) (page : ℕ) → view ≡ s → IsReady s w → IsOpenWith s txn e → page < w.pages → MayWrite s txn e page
    → MayWriteIn view w txn e page
may_write_in s view w txn e page same ready found low may =
    subst (λ v. MayWriteIn v w txn e page) (sym same) (record { ready = ready; found = found; low = low; may = may })

-- past these, with room for one name more, the page has a slot or not
pub slot_causes : (s : TransactionsParts) (w : World) (txn : ℕ) (e : OpenParts) (page : ℕ) (slot : Option ℕ) → MayWriteIn s w txn e page → first_met (open_causes txn w) ≡ None
    → first_met (write_causes txn page w) ≡ None → nat_le MOST_KNOWN (length e.known) ≡ false → free_slot w txn page ≡ slot
    → first_refusal w (New txn page) nothing ≡ first_met (when (is_none slot) (PageFull page) ∷ [])
slot_causes s w txn e page slot m open_to writing spare is =
    new_causes w txn page None m.low open_to writing
    ∙ (full_by s w txn e false (page_full w txn page ∷ []) (open_in s w txn e m.ready m.found) spare ∙ ap (λ x. first_met (when (is_none x) (PageFull page) ∷ [])) is)

-- ---- the page as it is seen

seen_image : (s : TransactionsParts) (w : World) (txn : ℕ) (e : OpenParts) (page : ℕ) (o : IsOpened s w txn e) → page < w.pages → IsNobody (is_in_way true s.locks.held txn page)
    → (frame_at s.frames page).current ≡ image_in w (view w o.of) page
seen_image s w txn e page o low nobody =
    sees w page (frame_at s.frames page) txn o.of (o.ready.stands.frames.each page low) o.found (open_lawful s w txn e o) (λ u ne. nobody_wrote s w true txn page u o.ready nobody ne)

slot_seen : (w : World) (t : Transaction) (page slot : ℕ) (image : PageParts) → image ≡ image_in w (view w t) page → slot < slots_of w page
    → slot_at image slot ≡ shown_slot (fields_of w page) (view w t) w.freed page slot
slot_seen w t page slot image is lt =
    ap (λ (i : PageParts). slot_at i slot) is ∙ get-shown (slots_of w page) (fields_of w page) (view w t) w.freed page slot fresh_slot lt

slots_seen : (w : World) (t : Transaction) (page : ℕ) (image : PageParts) → image ≡ image_in w (view w t) page → length image.slots ≡ slots_of w page
slots_seen w t page image is = ap (λ (i : PageParts). length i.slots) is ∙ length-shown (slots_of w page) (fields_of w page) (view w t) w.freed page

pub no_slot : (s : TransactionsParts) (w : World) (txn : ℕ) (e : OpenParts) (page : ℕ) → MayWriteIn s w txn e page → IsFull (frame_at s.frames page).current → free_slot w txn page ≡ None
no_slot s w txn e page m full =
    let o = open_in s w txn e m.ready m.found in
    let image = seen_image s w txn e page o m.low m.may.nobody in
    none_free w txn o.of page o.ready.lawful o.found (λ slot lt.
    let count = slots_seen w o.of page (frame_at s.frames page).current image in
    let within : slot < length (frame_at s.frames page).current.slots = subst (λ n. slot < n) (sym count) lt in
    sym (ap has_room (slot_seen w o.of page slot (frame_at s.frames page).current image lt)) ∙ full slot within)

-- ---- the new object

-- the code's steps
pub record HasMade (s new : TransactionsParts) (txn page : ℕ) (name : NameParts) : Type 0 where
  pub locked : AddsExclusive s.locks.held new.locks.held txn page
  pub pages : new.locks.pages ≡ s.locks.pages
  pub noted : ChangesEntry (ChangesTwice (NotesPage page) (NotesTarget (Some name))) txn s.table new.table
  pub next : IsNextName (frame_at s.frames page).current name
  pub frames : new.frames ≡ with_frame s.frames page (frame_written (frame_at s.frames page) (with_slot (frame_at s.frames page).current name.slot taken))

-- the name is the model's, and all stands for the world with the object
pub record IsMade (w : World) (new : TransactionsParts) (txn page : ℕ) (name : NameParts) : Type 0 where
  pub free : free_slot w txn page ≡ Some name.slot
  pub named : new_name w txn page ≡ Some name
  pub stands : AreTransactionsOf new (with_transaction w txn (makes name))

entry_makes : (e f : OpenParts) (t : Transaction) (page : ℕ) (name : NameParts) → name.page ≡ page → IsEntry e t → ChangesTwice (NotesPage page) (NotesTarget (Some name)) e f → IsEntry f (makes name t)
entry_makes e f t page name is h notes =
    let g : OpenParts = notes.0 in
    record {
      known = same_names f.known (with_target (Some name) g.known) (with_target (Some name) t.known) notes.2.known
          (same_with_target (Some name) g.known t.known (subst (λ k. HaveSameNames k t.known) (sym notes.1.known) h.known));
      written = subst (λ p. HaveSamePages f.written (with_page p t.pages_written)) (sym is)
          (subst (λ k. HaveSamePages k (with_page page t.pages_written)) (sym notes.2.written)
          (same_pages g.written (with_page page e.written) (with_page page t.pages_written) notes.1.written (same_with_page page e.written t.pages_written h.written)));
    }

made_at : (s new : TransactionsParts) (w : World) (txn : ℕ) (e : OpenParts) (page slot : ℕ) (o : IsOpened s w txn e) → page < w.pages → IsNobody (is_in_way true s.locks.held txn page)
    → slot < slots_of w page → free_slot w txn page ≡ Some slot → IsFreePlace w o.of page slot → HasMade s new txn page (new_name_at w.graph page slot) → IsMade w new txn page (new_name_at w.graph page slot)
made_at s new w txn e page slot o low nobody within found free run = record {
  free = found;
  named = ap (option_map (new_name_at w.graph page)) found;
  stands = record {
    fields = o.ready.stands.fields;
    table = table_changes w s.table new.table txn e o.of (ChangesTwice (NotesPage page) (NotesTarget (Some name))) (makes name) o.ready.stands.table o.is o.found (λ t. refl) run.noted
        (λ f h. entry_makes e f o.of page name refl o.entry h);
    locks = locks_exclude w s.locks new.locks txn page (makes name) o.of o.ready.stands.locks o.found (λ t. refl) refl refl run.pages run.locked;
    frames = subst (AreFramesOf (with_transaction w txn (makes name))) (sym run.frames)
        (frames_change w s.frames txn page (frame_written (frame_at s.frames page) (with_slot (frame_at s.frames page).current slot taken)) (makes name) o.of
        o.ready.stands.frames low o.found (λ t. refl) refl (λ u ne. nobody_wrote s w true txn page u o.ready nobody ne) refl refl
        (ap (λ i. with_slot i slot taken) (seen_image s w txn e page o low nobody)
        ∙ ap (λ slots. record { number = page; slots = slots }) (new_on_page w txn o.of page slot fresh_slot o.ready.lawful o.found free within))
        (λ p ne. ap (λ slots. record { number = p; slots = slots }) (new_on_another_page w o.of page slot p ne)));
  };
}
  where
    name : NameParts
    name = new_name_at w.graph page slot

-- the name that the page gives is the model's
next_is : (w : World) (t : Transaction) (page : ℕ) (image : PageParts) (name : NameParts) → image ≡ image_in w (view w t) page → IsNextName image name → name.slot < slots_of w page
    → (shown_slot (fields_of w page) (view w t) w.freed page name.slot).generation ≡ length (objects_at w.graph page name.slot)
    → name ≡ new_name_at w.graph page name.slot
next_is w t page image name is next within generation =
    ap (λ p. name_of p name.slot name.generation) (next.page ∙ ap (λ (i : PageParts). i.number) is)
    ∙ ap (λ g. name_of page name.slot g)
    (next.generation ∙ (ap (λ (x : SlotParts). x.generation + 1) (slot_seen w t page name.slot image is within) ∙ (let g = generation in omega arith)))

pub creates : (s new : TransactionsParts) (w : World) (txn : ℕ) (e : OpenParts) (page : ℕ) (name : NameParts) → MayWriteIn s w txn e page → HasMade s new txn page name → IsMade w new txn page name
creates s new w txn e page name m run =
    let o = open_in s w txn e m.ready m.found in
    let now : PageParts = (frame_at s.frames page).current in
    let image : now ≡ image_in w (view w o.of) page = seen_image s w txn e page o m.low m.may.nobody in
    let count : length now.slots ≡ slots_of w page = slots_seen w o.of page now image in
    let within : name.slot < slots_of w page = subst (λ n. name.slot < n) count run.next.slot.within in
    let room : has_room (shown_slot (fields_of w page) (view w o.of) w.freed page name.slot) ≡ true = sym (ap has_room (slot_seen w o.of page name.slot now image within)) ∙ run.next.slot.room in
    let free = free_place w txn o.of (fields_of w page) page name.slot o.ready.lawful o.found room in
    let found : free_slot w txn page ≡ Some name.slot =
    first_free w txn o.of page name.slot o.ready.lawful o.found within room
    (λ slot lt. let less : slot < slots_of w page = let k = within in omega arith in sym (ap has_room (slot_seen w o.of page slot now image less)) ∙ run.next.slot.least slot lt) in
    let same : name ≡ new_name_at w.graph page name.slot = next_is w o.of page now name image run.next within (free_generation w o.of page name.slot free) in
    subst (λ n. IsMade w new txn page n) (sym same)
    (made_at s new w txn e page name.slot o m.low m.may.nobody within found free (subst (λ n. HasMade s new txn page n) same run))

-- the answer, as the model names it
pub answers_made : (w : World) (txn page : ℕ) (name : NameParts) → new_name w txn page ≡ Some name → AnswersNew (new_name w txn page) (Made name)
answers_made w txn page name is = subst (λ x. AnswersNew x (Made name)) (sym is) refl

pub stands_made : (w : World) (new : TransactionsParts) (txn page : ℕ) (name : NameParts) → IsMade w new txn page name → AreTransactionsOf new (with_new w txn (new_name w txn page))
stands_made w new txn page name made = subst (λ x. AreTransactionsOf new (with_new w txn x)) (sym made.named) made.stands
