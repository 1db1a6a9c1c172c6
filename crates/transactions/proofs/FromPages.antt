-- The store of committed pages stands for the world that their images open to.
use Rattle.std.proofs.Common.{◌≡◌, ℕ, zero, suc, ◌<◌, List, [], ◌∷◌, map, length, refl, sym, subst, ap, ◌∙◌, arith, get_or}
use Rattle.std.specs.List.{AllByRecursion}
use Rattle.std.specs.Bool.{IsTrue}
use Rattle.std.proofs.lemmas.List.{length-map, get_or-map}
use Rattle.std.proofs.lemmas.Option.{slice_get-get_or}
use Rattle.object_graph.specs.SlotParts.{SlotParts}
use Rattle.object_graph.specs.declared.names.TheConstants.{OBJECT_FIELDS}
use Rattle.store_model.specs.Images.{no_slot, shown}
use Rattle.store_model.specs.FromImages.{world_of, IsSlotWith, AreImages, has_root, IsWhole}
use Rattle.store_model.proofs.OpenedWorlds.{opened_has_fields, opened_shows_page, opened_is_lawful}
use Rattle.page_image.specs.Slots.{IsWholeSlot}
use Rattle.page_image.specs.Pages.{PageParts, IsPage}
use Rattle.page_buffer.specs.Frames.{blank_frame, clean_frame, frame_at}
use Rattle.page_locks.specs.Holding.{LockTable, numbers, shares, excludes}
use Rattle.transactions.specs.Standing.{page_images, AreNumbered, image_in, IsFrameOf, IsReady}

-- what holds of each element holds of the one at a place
all_at : {X : Type 0} (P : X → Type 0) (xs : List X) (i : ℕ) (d : X) → AllByRecursion P xs → i < length xs → P (get_or xs i d)
all_at P [] i d all low = absurd (omega (arith, low))
all_at P (x ∷ xs) zero d all low = all.0
all_at P (x ∷ xs) (suc i) d all low = all_at P xs i d all.1 (omega (arith, low))

abbrev no_page : PageParts
no_page = record { number = 0; slots = [] }

-- the image of a page among those of all pages
image_at : (pages : List PageParts) (page : ℕ) → page < length pages → get_or (page_images pages) page [] ≡ (get_or pages page no_page).slots
image_at pages page low = get_or-map (λ (p : PageParts). p.slots) pages page no_page [] low

-- a slot of a page is one of a store
is_slot : (s : SlotParts) → IsWholeSlot s → IsSlotWith OBJECT_FIELDS s
is_slot s h = record {
  named = λ used. let at_least = h.slot.used used in omega (arith, at_least);
  number = λ free. (h.slot.free free).0;
  refs = λ free. (h.slot.free free).1;
  width = h.slot.count;
}

-- images of pages are images of a store
pub are_images : (pages : List PageParts) → AllByRecursion IsPage pages → AreImages (page_images pages)
are_images pages are = record {
  count = λ page low. ap length (image_at pages page (inside low)) ∙ (is_page page (inside low)).count;
  slots = λ page slot low within.
      let p = is_page page (inside low) in
      let there : slot < length (get_or pages page no_page).slots = omega (arith, within, p.count) in
      subst (λ (image : List SlotParts). IsSlotWith OBJECT_FIELDS (get_or image slot no_slot)) (sym (image_at pages page (inside low)))
      (is_slot (get_or (get_or pages page no_page).slots slot no_slot) (all_at IsWholeSlot (get_or pages page no_page).slots slot no_slot p.slots there));
}
  where
    inside : {page : ℕ} → page < length (page_images pages) → page < length pages
    inside low = let same = length-map pages (λ (p : PageParts). p.slots) in omega (arith, low, same)

    is_page : (page : ℕ) → page < length pages → IsPage (get_or pages page no_page)
    is_page page low = all_at IsPage pages page no_page are low

-- a committed page is what the opened world shows
page_shown : (pages : List PageParts) (commits page : ℕ) → AllByRecursion IsPage pages → AreNumbered pages → page < length pages
    → get_or pages page no_page ≡ image_in (world_of commits (page_images pages)) (world_of commits (page_images pages)).graph page
page_shown pages commits page are numbered low =
    let number : (get_or pages page no_page).number ≡ page = numbered page (get_or pages page no_page) (slice_get-get_or pages page no_page low) in
    let same = length-map pages (λ (p : PageParts). p.slots) in
    let inside : page < length (page_images pages) = omega (arith, low, same) in
    let slots : (get_or pages page no_page).slots ≡ shown (world_of commits (page_images pages)) page =
    sym (image_at pages page low) ∙ sym (opened_shows_page commits page (page_images pages) (are_images pages are) inside) in
    λ i. record { number = number i; slots = slots i }

-- a clean frame of a page that nobody wrote
frame_shown : (pages : List PageParts) (commits page : ℕ) → AllByRecursion IsPage pages → AreNumbered pages → page < length pages
    → IsFrameOf (world_of commits (page_images pages)) page (frame_at (map clean_frame pages) page)
frame_shown pages commits page are numbered low =
    let is = page_shown pages commits page are numbered low in
    subst (IsFrameOf (world_of commits (page_images pages)) page) (sym (get_or-map clean_frame pages page no_page blank_frame low))
    (record { before = is; current = λ txn wrote_it. cc; dirty = λ txn wrote_it. cc; clean = λ nobody. refl })

pub from_pages : (pages : List PageParts) (locks : LockTable) (commits : ℕ) → AllByRecursion IsPage pages → AreNumbered pages → IsTrue (has_root (page_images pages)) → IsWhole (page_images pages)
    → locks.pages ≡ length pages → locks.held ≡ [] → IsReady (record { table = []; locks = locks; frames = map clean_frame pages }) (world_of commits (page_images pages))
from_pages pages locks commits are numbered root whole count none = record {
  lawful = opened_is_lawful commits (page_images pages) (are_images pages are) root whole;
  sound = refl;
  stands = record {
    fields = opened_has_fields commits (page_images pages) (are_images pages are);
    table = record { numbers = refl; each = λ txn. tt };
    locks = record {
      pages = count ∙ sym as_many;
      admitted = ap numbers none;
      shared = λ txn page. ap (λ held. shares held txn page) none;
      exclusive = λ txn page. ap (λ held. excludes held txn page) none;
    };
    frames = record {
      count = length-map pages clean_frame ∙ sym as_many;
      written = λ txn page wrote_it. absurd cc;
      each = λ page low. frame_shown pages commits page are numbered (omega (arith, low, as_many));
    };
  };
}
  where
    as_many : length (page_images pages) ≡ length pages
    as_many = length-map pages (λ (p : PageParts). p.slots)
