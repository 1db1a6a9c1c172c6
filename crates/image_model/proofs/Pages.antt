-- The pages that opening reads are images that a store may have.
use Rattle.std.proofs.Common.{◌≡◌, ℕ, zero, suc, ◌+◌, ◌<◌, ◌==◌, Bool, true, false, cond, List, [], ◌∷◌, length, take, drop, get_or, None, Result, Ok, Err, sym, ◌∙◌, ap, subst, arith, inl, inr}
use Rattle.std.specs.List.{AllByRecursion, flat_map}
use Rattle.std.specs.Int.{w16, w32, w64, from_be_bytes}
use Rattle.std.proofs.lemmas.Bool.{cases_eq}
use Rattle.std.proofs.lemmas.List.{length-map, get_or-map}
use Rattle.object_graph.specs.SlotParts.{SlotParts}
use Rattle.object_graph.specs.Slots.{below}
use Rattle.object_graph.proofs.Members.{In, in_map, in_append, each_in, each_from}
use Rattle.page_image.specs.Pages.{PageParts}
use Rattle.object_graph.specs.declared.limits.TheConstants.{MOST_PAGES}
use Rattle.object_graph.specs.declared.names.TheConstants.{OBJECT_FIELDS}
use Rattle.object_graph.specs.declared.sizes.TheConstants.{SLOTS_PER_PAGE}
use Rattle.page_image.specs.Slots.{IsSlot}
use Rattle.page_image.specs.Fields.{page_at, page_of, slot_of, slot_piece, fields_of_slot, first_wrong, says_in_use, number_in_bytes}
use Rattle.page_image.proofs.Right.{slot_right, slot_fits, header_number}
use Rattle.page_image.proofs.Tables.{page_at-read, right_at, slot_right-back}
use Rattle.redo_journal.specs.Walk.{Grammar, walk}
use Rattle.redo_journal.specs.Area.{Contents, read_area, area_start, area_of}
use Rattle.redo_journal.specs.Record.{RecordParts, grammar, image_at, images_at, kind_at, count_at, record_at}
use Rattle.redo_journal.specs.Replays.{images_in}
use Rattle.redo_journal.specs.Results.{◌>>=◌, from_place}
use Rattle.redo_journal.specs.declared.kind.Kind.{Kind}
use Rattle.redo_journal.proofs.WalkLaws.{then_ok, walk_open, walk_closed}
use Rattle.redo_journal.proofs.AreaLaws.{parts}
use Rattle.redo_journal.proofs.GrammarLaws.{unok, bind_ok, grammar-at}
use Rattle.store_model.proofs.Cuts.{below_bound}
use Rattle.store_model.proofs.Flats.{length-map_below}
use Rattle.store_model.specs.FromImages as store
use Rattle.store_model.specs.FromImages.{AreImages, slot_in}
use Rattle.store_model.specs.Images.{no_slot}
use Rattle.image_model.specs.Opening.{StoreParts, page_slots, store_images, each_of, final_at}
use Rattle.image_model.proofs.Openings.{ok, Opens}
use Rattle.image_model.proofs.RecordSteps.{unplace, final_has}
use Rattle.redo_journal.specs.declared.sizes.TheConstants.{IMAGE_SIZE}

-- ---- a page that is read

-- what each page that is read is
pub record IsReadPage (p : PageParts) : Type 0 where
  pub number : p.number < MOST_PAGES
  pub count : length p.slots ≡ SLOTS_PER_PAGE
  pub slots : AllByRecursion IsSlot p.slots

slot_read : (bytes : List ℕ) (slot : ℕ) → slot < SLOTS_PER_PAGE → first_wrong (flat_map (fields_of_slot bytes) (below SLOTS_PER_PAGE)) ≡ None → IsSlot (slot_of (slot_piece bytes slot))
slot_read bytes slot low right =
    let r = slot_right (slot_piece bytes slot) (slot_right-back bytes slot (right_at (fields_of_slot bytes) SLOTS_PER_PAGE slot low right)) in
    slot_fits (says_in_use (slot_piece bytes slot)) (number_in_bytes w16 (slot_piece bytes slot) 2) (number_in_bytes w64 (slot_piece bytes slot) 8) _ _ _ _ r.generation r.number r.references.first r.references.second r.references.third r.references.fourth

pub page_read : (bytes : List ℕ) (p : PageParts) → page_at bytes ≡ Ok p → IsReadPage p
page_read bytes p e =
    let r = page_at-read bytes p e in
    subst IsReadPage r.page (let q : IsReadPage (page_of bytes) = record {
      number = header_number bytes r.header;
      count = length-map_below (λ slot. slot_of (slot_piece bytes slot)) SLOTS_PER_PAGE;
      slots = each_from IsSlot (page_of bytes).slots (λ s m.
          let a = in_map (λ slot. slot_of (slot_piece bytes slot)) (below SLOTS_PER_PAGE) s m in
          subst IsSlot (sym a.2) (slot_read bytes a.0 (below_bound SLOTS_PER_PAGE a.0 a.1) r.slots));
    } in q)

-- ---- the records of an area

image_read : (pages place low : ℕ) (bytes : List ℕ) (p : PageParts) → image_at pages place low bytes ≡ Ok p → IsReadPage p
unfolding image_at
image_read pages place low bytes p e =
    let end = λ (number : ℕ) (image : PageParts). cond (image.number == number) (ok image) (Err (place + 8)) in
    let after_number = λ (number : ℕ). from_place (place + 4) (page_at (take 1024 (drop 4 bytes))) >>= end number in
    let a = bind_ok _ after_number p e in
    let b = bind_ok (from_place (place + 4) (page_at (take 1024 (drop 4 bytes)))) (end a.0) p a.2 in
    let page = page_read (take 1024 (drop 4 bytes)) b.0 (unplace (place + 4) (page_at (take 1024 (drop 4 bytes))) b.0 b.1) in
    by_test b.0 (b.0.number == a.0) page b.2
  where
    by_test : (q : PageParts) (b : Bool) → IsReadPage q → cond b (ok q) (Err (place + 8)) ≡ ok p → IsReadPage p
    by_test q true h e = subst IsReadPage (unok q p e) h
    by_test q false h e = absurd cc

images_read : (pages place low n : ℕ) (bytes : List ℕ) (images : List PageParts) → images_at pages place low n bytes ≡ Ok images → AllByRecursion IsReadPage images
unfolding images_at
images_read pages place low zero bytes images e = subst (AllByRecursion IsReadPage) (unok [] images e) tt
images_read pages place low (suc n) bytes images e =
    let after_image = λ (image : PageParts). images_at pages (place + IMAGE_SIZE) (image.number + 1) n (drop IMAGE_SIZE bytes) >>= λ (others : List PageParts). ok (image ∷ others) in
    let a = bind_ok (image_at pages place low bytes) after_image images e in
    let b = bind_ok (images_at pages (place + IMAGE_SIZE) (a.0.number + 1) n (drop IMAGE_SIZE bytes)) (λ (others : List PageParts). ok (a.0 ∷ others)) images a.2 in
    subst (AllByRecursion IsReadPage) (unok (a.0 ∷ b.0) images b.2) (image_read pages place low bytes a.0 a.1, images_read pages (place + IMAGE_SIZE) (a.0.number + 1) n (drop IMAGE_SIZE bytes) b.0 b.1)

abbrev pub HasPages : RecordParts → Type 0
HasPages r = AllByRecursion IsReadPage r.images

record_read : (pages place done : ℕ) (bytes : List ℕ) (r : RecordParts) → record_at pages place done bytes ≡ Ok r → HasPages r
unfolding record_at
record_read pages place done bytes r e =
    let N = from_be_bytes w32 (take 4 (drop 1 bytes)) in
    let after_images = λ (kind : Kind) (images : List PageParts). ok (let q : RecordParts = record { kind = kind; images = images } in q) in
    let after_count = λ (kind : Kind) (count : ℕ). images_at pages (place + 5) 0 count (drop 5 bytes) >>= after_images kind in
    let after_kind = λ (kind : Kind). count_at (place + 1) kind (length bytes) N >>= after_count kind in
    let a = bind_ok (kind_at place done (get_or bytes 0 0)) after_kind r e in
    let b = bind_ok (count_at (place + 1) a.0 (length bytes) N) (after_count a.0) r a.2 in
    let c = bind_ok (images_at pages (place + 5) 0 b.0 (drop 5 bytes)) (after_images a.0) r b.2 in
    let q : RecordParts = record { kind = a.0; images = c.0 } in
    subst HasPages (unok q r c.2) (images_read pages (place + 5) 0 b.0 (drop 5 bytes) c.0 c.1)

module _ {R : Type 0} (g : Grammar R) (Q : R → Type 0) (each : (p d : ℕ) (bytes : List ℕ) (r : R) → g.at p d bytes ≡ Ok r → Q r) where
  none_read : (rs : List R) → ok {A = List R} [] ≡ ok rs → AllByRecursion Q rs
  none_read rs e = subst (AllByRecursion Q) (unok [] rs e) tt

  pub walk_each : (place done skip : ℕ) (bytes : List ℕ) (rs : List R) → walk g place done skip bytes ≡ Ok rs → AllByRecursion Q rs
  walk_each place done skip [] rs e = absurd cc
  walk_each place done (suc skip) (b ∷ bytes) rs e = walk_each (place + 1) done skip bytes rs e
  walk_each place done zero (gate ∷ bytes) rs e =
      elim (cases_eq gate 1) [
        | inr shut ↦ none_read rs (sym (walk_closed g place done gate bytes shut) ∙ e)
        | inl is_open ↦
            let t = then_ok (g.at (place + 1) done bytes) (λ r. walk g (place + 1) (done + g.weight r) (g.size r) bytes) rs (sym (walk_open g place done gate bytes is_open) ∙ e) in
            subst (AllByRecursion Q) (sym t.4) (each (place + 1) done bytes t.0 t.2, walk_each (place + 1) (done + g.weight t.0) (g.size t.0) bytes t.1 t.3)
      ]

area_read : (pages start : ℕ) (bytes : List ℕ) (held : Contents RecordParts) → read_area (grammar pages) start bytes ≡ Ok held → AllByRecursion HasPages held.records
area_read pages start bytes held e =
    walk_each (grammar pages) HasPages (λ p d b r e. record_read pages p d b r (sym (grammar-at pages p d b) ∙ e)) start held.base 8 bytes held.records
    (parts (grammar pages) start held.base held.records bytes e).walks

images_are : (rs : List RecordParts) → AllByRecursion HasPages rs → (q : PageParts) → In q (images_in rs) → IsReadPage q
images_are [] h q m = absurd m
images_are (r ∷ rs) h q m = elim (in_append r.images (images_in rs) q m) [
  | inl i ↦ each_in IsReadPage r.images q h.0 i
  | inr i ↦ images_are rs h.1 q i
]

-- ---- the pages that are opened

each_is : {A : Type 0} (P : A → Type 0) (f : ℕ → Result A ℕ) (ns : List ℕ) (xs : List A) → ((n : ℕ) (x : A) → f n ≡ Ok x → P x) → each_of f ns ≡ Ok xs → AllByRecursion P xs
each_is P f [] xs h e = subst (AllByRecursion P) (unok [] xs e) tt
each_is {A} P f (n ∷ ns) xs h e =
    let a = bind_ok (f n) (λ (x : A). each_of f ns >>= λ (more : List A). ok (x ∷ more)) xs e in
    let b = bind_ok (each_of f ns) (λ (more : List A). ok (a.0 ∷ more)) xs a.2 in
    subst (AllByRecursion P) (unok (a.0 ∷ b.0) xs b.2) (h n a.0 a.1, each_is P f ns b.0 h b.1)

pub opened_pages : (file : List ℕ) (held : StoreParts) → Opens file held → AllByRecursion IsReadPage held.pages
opened_pages file held h =
    each_is IsReadPage (final_at h.held.records file) (below h.super.pages) held.pages
    (λ page p e. (final_has IsReadPage h.held.records file page p
    (images_are h.held.records (area_read h.super.pages (area_start h.super.area) (area_of h.super.area file) h.held h.active)) page_read e).1) h.finals

-- ---- images that a store may have

as_slot : (s : SlotParts) → IsSlot s → store.IsSlotWith OBJECT_FIELDS s
as_slot s h = record {
  named = h.used;
  number = λ e. (h.free e).0;
  refs = λ e. (h.free e).1;
  width = h.count;
}

at_place : {A : Type 0} (P : A → Type 0) (d : A) (xs : List A) (i : ℕ) → AllByRecursion P xs → i < length xs → P (get_or xs i d)
at_place P d [] i h lt = absurd (omega arith)
at_place P d (x ∷ xs) zero h lt = h.0
at_place P d (x ∷ xs) (suc i) h lt = at_place P d xs i h.1 (omega arith)

abbrev no_page : PageParts
no_page = record { number = 0; slots = [] }

pub are_images : (pages : List PageParts) → AllByRecursion IsReadPage pages → AreImages (page_slots pages)
are_images pages h = record {
  count = λ page lt. ap length (slots_are page lt) ∙ (page_is page lt).count;
  slots = λ page slot lt low.
      let p = page_is page lt in
      let within : slot < length (get_or pages page no_page).slots = omega (arith, low, p.count) in
      subst (store.IsSlotWith OBJECT_FIELDS) (sym (ap (λ (image : List SlotParts). get_or image slot no_slot) (slots_are page lt)))
      (as_slot (get_or (get_or pages page no_page).slots slot no_slot) (at_place IsSlot no_slot (get_or pages page no_page).slots slot p.slots within));
}
  where
    inside : (page : ℕ) → page < length (page_slots pages) → page < length pages
    inside page lt = subst (λ (n : ℕ). page < n) (length-map pages (λ (p : PageParts). p.slots)) lt

    page_is : (page : ℕ) → page < length (page_slots pages) → IsReadPage (get_or pages page no_page)
    page_is page lt = at_place IsReadPage no_page pages page h (inside page lt)

    slots_are : (page : ℕ) → page < length (page_slots pages) → get_or (page_slots pages) page [] ≡ (get_or pages page no_page).slots
    slots_are page lt = get_or-map (λ (p : PageParts). p.slots) pages page no_page [] (inside page lt)

pub opened_images : (file : List ℕ) (held : StoreParts) → Opens file held → AreImages (store_images held)
opened_images file held h = are_images held.pages (opened_pages file held h)
