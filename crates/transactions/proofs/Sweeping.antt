-- The frames after slots of a page were freed.
use Rattle.std.proofs.Common.{◌≡◌, ◌≢◌, ℕ, ◌+◌, ◌<◌, Bool, true, false, not, ◌&&◌, ◌||◌, ◌==◌, cond, List, [], ◌∷◌, ◌++◌, map, length, Option, Some, None, refl, sym, subst, ap, ◌∙◌, inl, inr, arith, set, append-nil, get_or-set_same, get_or-set_other}
use Rattle.std.specs.List.{filter, range_with_len}
use Rattle.std.specs.Option.{unwrap_or}
use Rattle.std.proofs.lemmas.Bool.{cases_Bool, cases_eq, and_from, eq-eqb, false_from_ne_true}
use Rattle.std.proofs.lemmas.List.{length-set, length-map}
use Rattle.std.proofs.lemmas.List.Folds.{list_any-append}
use Rattle.std.proofs.lemmas.List.FromFn.{get_or-map-range_with_len, length-map-range_with_len}
use Rattle.object_graph.specs.NameParts.{NameParts}
use Rattle.object_graph.specs.SlotParts.{SlotParts}
use Rattle.object_graph.specs.Names.{name_eq}
use Rattle.object_graph.specs.ObjectParts.{ObjectParts}
use Rattle.object_graph.specs.Graphs.{is_at, objects_at, has_name}
use Rattle.object_graph.specs.Slots.{has_slot}
use Rattle.object_graph.proofs.Members.{In, in_filter, filter_in, in_map, map_in, or_left, or_right}
use Rattle.object_graph.proofs.Paths.{has_name_in, in_has_name}
use Rattle.object_graph.specs.declared.names.TheConstants.{OBJECT_FIELDS}
use Rattle.store_model.specs.Worlds.{World, Transaction, find_transaction, transaction, fresh_transaction, is_unfreed, unfreed, view, with_writes, new_object, slots_of, fields_of}
use Rattle.store_model.specs.Causes.{has_page}
use Rattle.store_model.specs.Images.{unfreed_at, slot_with, shown_slot, shown_in}
use Rattle.store_model.specs.Lawful.{IsLawfulTransaction, IsOrderly}
use Rattle.store_model.specs.Replies.{names_in}
use Rattle.store_model.specs.Steps.{swept}
use Rattle.store_model.proofs.Keeps.{in_names_in}
use Rattle.store_model.proofs.Orders.{lawful_one}
use Rattle.store_model.proofs.Reach.{name-with_writes}
use Rattle.store_model.proofs.Shown.{last_at}
use Rattle.page_image.specs.Slots.{fresh_slot, freed}
use Rattle.page_image.specs.Pages.{PageParts, slot_at, slot_freed}
use Rattle.page_buffer.specs.Frames.{blank_frame, frame_at, freed_page, freed_frame, with_frame}
use Rattle.page_buffer.specs.declared.frame.Frame.{Frame}
use Rattle.transactions.specs.Standing.{TransactionsParts, image_in, wrote, IsFrameOf, AreFramesOf, IsReady, AreTransactionsOf}
use Rattle.transactions.proofs.Numbers.{found_in_list, transaction_found}
use Rattle.transactions.proofs.Viewed.{objects_at-view, place_of}
use Rattle.transactions.proofs.Shown.{shown_from, same_shown, length-shown, get-shown}
use Rattle.transactions.proofs.Seen.{nothing_in, none_pass, unfreed_at-view, nothing_unfreed}

-- ---- one slot

filter_among : {A : Type 0} (p q : A → Bool) (xs : List A) → ((x : A) → In x xs → p x ≡ q x) → filter p xs ≡ filter q xs
filter_among p q [] h = refl
filter_among p q (x ∷ xs) h =
    ap (λ b. cond b (x ∷ filter p xs) (filter p xs)) (h x (inl refl)) ∙ ap (λ ys. cond (q x) (x ∷ ys) ys) (filter_among p q xs (λ y m. h y (inr m)))

has_name-append : (names freed : List NameParts) (name : NameParts) → has_name (names ++ freed) name ≡ (has_name names name || has_name freed name)
has_name-append names freed name = list_any-append (λ n. name_eq n name) names freed

-- the names that go stand on the page, in slots of the set
gone_name : (w : World) (page slots : ℕ) (name : NameParts) → has_name (names_in w page slots) name ≡ true → (name.page ≡ page) × (has_slot slots name.slot ≡ true)
gone_name w page slots name h =
    let a = in_names_in w page slots name (has_name_in (names_in w page slots) name h) in
    (ap (λ (n : NameParts). n.page) a.5 ∙ a.3, ap (λ (n : NameParts). has_slot slots n.slot) a.5 ∙ a.4)

-- elsewhere nothing goes
slot_away : (w : World) (page slots fields p slot : ℕ) (graph : List ObjectParts) → ((p ≡ page) × (has_slot slots slot ≡ true) → ⊥)
    → shown_slot fields graph (names_in w page slots ++ w.freed) p slot ≡ shown_slot fields graph w.freed p slot
slot_away w page slots fields p slot graph away =
    ap (λ us. slot_with fields us (length (objects_at graph p slot)))
    (filter_among (is_unfreed (names_in w page slots ++ w.freed)) (is_unfreed w.freed) (objects_at graph p slot) (λ o m.
    let k = place_of p slot graph o m in
    ap not (has_name-append (names_in w page slots) w.freed o.name
    ∙ ap (λ b. b || has_name w.freed o.name) (false_from_ne_true (has_name (names_in w page slots) o.name) (λ e.
    let a = gone_name w page slots o.name e in
    away (sym k.0 ∙ a.0, ap (has_slot slots) (sym k.1) ∙ a.1))))))

-- the unfreed objects at a place go, and each has the last generation there
pub record AllGo (w : World) (page slots slot : ℕ) (graph : List ObjectParts) : Type 0 where
  pub named : (o : ObjectParts) → In o (unfreed_at graph w.freed page slot) → has_name (names_in w page slots) o.name ≡ true
  pub last : (o : ObjectParts) → In o (unfreed_at graph w.freed page slot) → o.name.generation ≡ length (objects_at graph page slot)

slot_here : (w : World) (page slots slot : ℕ) (graph : List ObjectParts) → AllGo w page slots slot graph
    → shown_slot (fields_of w page) graph (names_in w page slots ++ w.freed) page slot ≡ freed (shown_slot (fields_of w page) graph w.freed page slot)
slot_here w page slots slot graph h =
    ap (λ us. slot_with OBJECT_FIELDS us (length (objects_at graph page slot))) (none_pass (is_unfreed (names_in w page slots ++ w.freed)) (objects_at graph page slot) gone)
    ∙ left (unfreed_at graph w.freed page slot) h.last
  where
    gone : (o : ObjectParts) → In o (objects_at graph page slot) → is_unfreed (names_in w page slots ++ w.freed) o ≡ false
    gone o m = ap not (has_name-append (names_in w page slots) w.freed o.name ∙ elim (cases_Bool (has_name w.freed o.name)) [
      | inl e ↦ or_right (has_name (names_in w page slots) o.name) (has_name w.freed o.name) e
      | inr e ↦ or_left (has_name (names_in w page slots) o.name) (has_name w.freed o.name) (h.named o (filter_in (is_unfreed w.freed) (objects_at graph page slot) o m (ap not e)))
    ])

    left : (us : List ObjectParts) → ((o : ObjectParts) → In o us → o.name.generation ≡ length (objects_at graph page slot))
        → slot_with OBJECT_FIELDS [] (length (objects_at graph page slot)) ≡ freed (slot_with OBJECT_FIELDS us (length (objects_at graph page slot)))
    left [] last = refl
    left (o ∷ os) last = ap (λ n. slot_with OBJECT_FIELDS [] n) (sym (last o (inl refl)))

-- so it is with the graph
graph_goes : (w : World) (page slots slot : ℕ) → IsOrderly w → has_slot slots slot ≡ true → AllGo w page slots slot w.graph
graph_goes w page slots slot orderly on = record {
  named = λ o m.
      let a = in_filter (is_unfreed w.freed) (objects_at w.graph page slot) o m in
      let b = in_filter (λ o. is_at page slot o.name) w.graph o a.0 in
      let k = place_of page slot w.graph o a.0 in
      in_has_name (names_in w page slots) o.name
      (map_in (λ (o : ObjectParts). o.name) (filter (λ o. (o.name.page == page) && has_slot slots o.name.slot) (unfreed w)) o
      (filter_in (λ o. (o.name.page == page) && has_slot slots o.name.slot) (unfreed w) o (filter_in (is_unfreed w.freed) w.graph o b.0 a.1)
      (and_from (o.name.page == page) (has_slot slots o.name.slot) (eq-eqb o.name.page page k.0) (ap (has_slot slots) k.1 ∙ on))));
  last = λ o m. last_at w.graph w.freed page slot o orderly.last m;
}

-- and with a view, whose transaction has no own object there
view_goes : (w : World) (t : Transaction) (page slots slot : ℕ) → IsOrderly w → has_slot slots slot ≡ true → filter (is_at page slot) t.own ≡ [] → AllGo w page slots slot (view w t)
view_goes w t page slots slot orderly on none = record {
  named = λ o m. let a = under o m in ap (has_name (names_in w page slots)) a.2 ∙ h.named a.0 a.1;
  last = λ o m. let a = under o m in ap (λ (n : NameParts). n.generation) a.2 ∙ (h.last a.0 a.1 ∙ sym count);
}
  where
    h : AllGo w page slots slot w.graph
    h = graph_goes w page slots slot orderly on

    unfreed_is : unfreed_at (view w t) w.freed page slot ≡ map (with_writes t.writes) (unfreed_at w.graph w.freed page slot)
    unfreed_is =
        unfreed_at-view w t page slot
        ∙ (ap (λ ns. map (with_writes t.writes) (unfreed_at w.graph w.freed page slot ++ filter (is_unfreed w.freed) (map (new_object w) ns))) none
        ∙ ap (map (with_writes t.writes)) (append-nil (unfreed_at w.graph w.freed page slot)))

    under : (o : ObjectParts) → In o (unfreed_at (view w t) w.freed page slot) → (a : ObjectParts) × In a (unfreed_at w.graph w.freed page slot) × (o.name ≡ a.name)
    under o m =
        let a = in_map (with_writes t.writes) (unfreed_at w.graph w.freed page slot) o (subst (λ os. In o os) unfreed_is m) in
        (a.0, a.1, ap (λ (x : ObjectParts). x.name) a.2 ∙ name-with_writes t.writes a.0)

    count : length (objects_at (view w t) page slot) ≡ length (objects_at w.graph page slot)
    count =
        ap length (objects_at-view w t page slot)
        ∙ (length-map (objects_at w.graph page slot ++ map (new_object w) (filter (is_at page slot) t.own)) (with_writes t.writes)
        ∙ (ap (λ ns. length (objects_at w.graph page slot ++ map (new_object w) ns)) none ∙ ap length (append-nil (objects_at w.graph page slot))))

-- where an object is in use, no transaction has an own one
used_is_not_own : (w : World) (t : Transaction) (page slot fields : ℕ) → IsLawfulTransaction w.graph w.freed t → (shown_slot fields w.graph w.freed page slot).in_use ≡ true
    → filter (is_at page slot) t.own ≡ []
used_is_not_own w t page slot fields lawful used = nothing_in (filter (is_at page slot) t.own) (λ n m.
    let z : (shown_slot fields w.graph w.freed page slot).in_use ≡ false =
    ap (λ us. (slot_with fields us (length (objects_at w.graph page slot))).in_use) (nothing_unfreed w t n page slot lawful m) in
    cc)

-- ---- one page

-- the slots that are freed are in use in the committed image
abbrev pub AreUsed : World → ℕ → ℕ → Type 0
AreUsed w page slots = (slot : ℕ) → slot < slots_of w page → has_slot slots slot ≡ true → (shown_slot (fields_of w page) w.graph w.freed page slot).in_use ≡ true

page_goes : (w : World) (page slots : ℕ) (graph : List ObjectParts) → ((slot : ℕ) → slot < slots_of w page → has_slot slots slot ≡ true → AllGo w page slots slot graph)
    → freed_page slots (image_in w graph page) ≡ image_in (swept w page slots) graph page
page_goes w page slots graph h =
    ap (λ xs. record { number = page; slots = xs })
    (shown_from (slots_of w page) (fields_of w page) graph (names_in w page slots ++ w.freed) page (map freed_at (range_with_len 0 (length (shown_in w graph page)))) (length-map-range_with_len freed_at 0 (length (shown_in w graph page)) ∙ count)
    (λ slot d lt.
    let within : slot < length (shown_in w graph page) = subst (λ n. slot < n) (sym count) lt in
    let zero : 0 + slot ≡ slot = omega arith in
    get_or-map-range_with_len freed_at 0 (length (shown_in w graph page)) slot slot d within zero
    ∙ (ap (slot_freed slots slot) (get-shown (slots_of w page) (fields_of w page) graph w.freed page slot fresh_slot lt)
    ∙ elim (cases_Bool (has_slot slots slot)) [
      | inl on ↦ ap (λ b. cond b (freed (shown_slot OBJECT_FIELDS graph w.freed page slot)) (shown_slot OBJECT_FIELDS graph w.freed page slot)) on ∙ sym (slot_here w page slots slot graph (h slot lt on))
      | inr off ↦
          ap (λ b. cond b (freed (shown_slot OBJECT_FIELDS graph w.freed page slot)) (shown_slot OBJECT_FIELDS graph w.freed page slot)) off
          ∙ sym (slot_away w page slots OBJECT_FIELDS page slot graph (λ k. let y = k.1 in cc))
    ])))
  where
    freed_at : ℕ → SlotParts
    freed_at slot = slot_freed slots slot (slot_at (image_in w graph page) slot)

    count : length (shown_in w graph page) ≡ slots_of w page
    count = length-shown (slots_of w page) (fields_of w page) graph w.freed page

page_away : (w : World) (page slots p : ℕ) (graph : List ObjectParts) → p ≢ page → image_in w graph p ≡ image_in (swept w page slots) graph p
page_away w page slots p graph ne =
    ap (λ xs. record { number = p; slots = xs })
    (sym (same_shown (slots_of w p) (fields_of w p) graph graph (names_in w page slots ++ w.freed) w.freed p (λ slot lt. slot_away w page slots (fields_of w p) p slot graph (λ k. ne k.0))))

-- ---- the frames

-- who wrote a page is open
writer_lawful : (w : World) (u page : ℕ) → IsOrderly w → wrote w u page ≡ true → IsLawfulTransaction w.graph w.freed (transaction w u)
writer_lawful w u page orderly e = by (find_transaction w u) refl
  where
    by : (o : Option Transaction) → find_transaction w u ≡ o → IsLawfulTransaction w.graph w.freed (transaction w u)
    by None q =
        let z : wrote w u page ≡ false = ap (λ o. has_page (unwrap_or o (fresh_transaction u)).pages_written page) q in
        let y : true ≡ false = sym e ∙ z in cc
    by (Some t) q =
        subst (IsLawfulTransaction w.graph w.freed) (sym (transaction_found w u t q))
        (lawful_one w t orderly (found_in_list (λ (t : Transaction). t.number == u) w.transactions t q).0)

frame_swept : (w : World) (page slots : ℕ) (frame : Frame) → IsOrderly w → AreUsed w page slots → IsFrameOf w page frame → IsFrameOf (swept w page slots) page (freed_frame slots frame)
frame_swept w page slots frame orderly used is = record {
  before = ap (freed_page slots) is.before ∙ page_goes w page slots w.graph (λ slot lt on. graph_goes w page slots slot orderly on);
  current = λ u e. ap (freed_page slots) (is.current u e) ∙ page_goes w page slots (view w (transaction w u)) (λ slot lt on.
      view_goes w (transaction w u) page slots slot orderly on (used_is_not_own w (transaction w u) page slot (fields_of w page) (writer_lawful w u page orderly e) (used slot lt on)));
  dirty = is.dirty;
  clean = λ none. ap (freed_frame slots) (is.clean none);
}

frame_stays : (w : World) (page slots p : ℕ) (frame : Frame) → p ≢ page → IsFrameOf w p frame → IsFrameOf (swept w page slots) p frame
frame_stays w page slots p frame ne is = record {
  before = is.before ∙ page_away w page slots p w.graph ne;
  current = λ u e. is.current u e ∙ page_away w page slots p (view w (transaction w u)) ne;
  dirty = is.dirty;
  clean = is.clean;
}

frames_swept : (w : World) (frames : List Frame) (page slots : ℕ) → IsOrderly w → page < length frames → AreUsed w page slots → AreFramesOf w frames
    → AreFramesOf (swept w page slots) (with_frame frames page (freed_frame slots (frame_at frames page)))
frames_swept w frames page slots orderly low used h = record {
  count = length-set frames page (freed_frame slots (frame_at frames page)) ∙ h.count;
  written = h.written;
  each = λ p lt. elim (cases_eq p page) [
    | inl here ↦
        subst (λ q. IsFrameOf (swept w page slots) q (frame_at (set frames page (freed_frame slots (frame_at frames page))) q)) (sym here)
        (subst (IsFrameOf (swept w page slots) page) (sym (get_or-set_same frames page (freed_frame slots (frame_at frames page)) blank_frame low))
        (frame_swept w page slots (frame_at frames page) orderly used (h.each page (subst (λ q. q < w.pages) here lt))))
    | inr away ↦
        subst (IsFrameOf (swept w page slots) p) (sym (get_or-set_other frames page p (freed_frame slots (frame_at frames page)) blank_frame away))
        (frame_stays w page slots p (frame_at frames p) away (h.each p lt))
  ];
}

-- the slots that the frame shows in use are so in the world
used_by : (w : World) (frames : List Frame) (page slots : ℕ) → page < length frames → AreFramesOf w frames
    → ((slot : ℕ) → has_slot slots slot ≡ true → (slot_at (frame_at frames page).before slot).in_use ≡ true) → AreUsed w page slots
used_by w frames page slots low h used = λ slot lt on.
    let inside : page < w.pages = let n = h.count in omega arith in
    sym (ap (λ (i : PageParts). (slot_at i slot).in_use) (h.each page inside).before
    ∙ ap (λ (x : SlotParts). x.in_use) (get-shown (slots_of w page) (fields_of w page) w.graph w.freed page slot fresh_slot lt))
    ∙ used slot on

-- all stands for the world after the sweep
pub sweep_stands : (s new : TransactionsParts) (w : World) (page slots : ℕ) → IsReady s w → page < length s.frames
    → ((slot : ℕ) → has_slot slots slot ≡ true → (slot_at (frame_at s.frames page).before slot).in_use ≡ true)
    → new ≡ record s { frames = with_frame s.frames page (freed_frame slots (frame_at s.frames page)) } → AreTransactionsOf new (swept w page slots)
sweep_stands s new w page slots r low used is = subst (λ x. AreTransactionsOf x (swept w page slots)) (sym is) (record {
  fields = r.stands.fields;
  table = record { numbers = r.stands.table.numbers; each = r.stands.table.each };
  locks = record { pages = r.stands.locks.pages; admitted = r.stands.locks.admitted; shared = r.stands.locks.shared; exclusive = r.stands.locks.exclusive };
  frames = frames_swept w s.frames page slots r.lawful.orderly low (used_by w s.frames page slots low r.stands.frames used) r.stands.frames;
})
