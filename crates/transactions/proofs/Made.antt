-- A new object in a view.
use Rattle.std.proofs.Common.{◌≡◌, ◌≢◌, ℕ, ◌+◌, ◌<◌, Bool, true, false, not, ◌&&◌, ◌||◌, ◌==◌, cond, List, [], ◌∷◌, ◌++◌, map, length, Some, None, replicate, refl, sym, subst, ap, ◌∙◌, inl, inr, arith, set, get_or, append-nil}
use Rattle.std.specs.List.{filter, list_any, AllByRecursion}
use Rattle.std.proofs.lemmas.Bool.{and_parts, and_from, eq-eqb, or_parts, false_from_ne_true, and_left, and_right, ne_eqb, not-true}
use Rattle.std.proofs.lemmas.List.{length-map}
use Rattle.std.proofs.lemmas.List.Elements.{filter-append}
use Rattle.object_graph.specs.NameParts.{NameParts}
use Rattle.object_graph.specs.SlotParts.{SlotParts}
use Rattle.object_graph.specs.Names.{name_eq}
use Rattle.object_graph.specs.ObjectParts.{ObjectParts}
use Rattle.object_graph.specs.Graphs.{is_at, objects_at, has_name, has_object}
use Rattle.object_graph.specs.declared.limits.TheConstants.{LAST_GENERATION}
use Rattle.store_model.specs.Worlds.{World, Transaction, Write, link, assign, view, with_writes, written_by, new_object, is_unfreed, slots_of, fields_of, find_transaction}
use Rattle.store_model.specs.Images.{unfreed_at, shown_slot, shown_in, slot_with}
use Rattle.page_image.specs.Slots.{has_room, taken}
use Rattle.store_model.specs.Causes.{is_occupied, new_name_at, has_page}
use Rattle.store_model.specs.Steps.{makes}
use Rattle.store_model.specs.Lawful.{IsKnownWrite, IsLawfulTransaction, IsLawful}
use Rattle.object_graph.proofs.Members.{In, in_any, in_filter, filter_in, each_in, each_from, or_left}
use Rattle.transactions.proofs.Numbers.{transaction_found, found_in_list}
use Rattle.object_graph.proofs.Paths.{name_eq_same, has_name_in}
use Rattle.transactions.proofs.Shown.{same_shown, set-shown, get-shown}
use Rattle.transactions.proofs.Viewed.{objects_at-view, shown_from_place, written_name, written_by_other}
use Rattle.store_model.proofs.Cuts.{next_name_is_new}
use Rattle.transactions.proofs.Seen.{unfreed_at-view, nothing_in, own_or_there}
use Rattle.transactions.proofs.FreeSlots.{taken_as_free}

-- elsewhere there is no new own object
own_away : (t : Transaction) (name : NameParts) (page slot : ℕ) → is_at page slot name ≡ false → filter (is_at page slot) (t.own ++ name ∷ []) ≡ filter (is_at page slot) t.own
own_away t name page slot off =
    filter-append (is_at page slot) t.own (name ∷ []) ∙ (ap (λ b. filter (is_at page slot) t.own ++ cond b (name ∷ []) []) off ∙ append-nil (filter (is_at page slot) t.own))

-- elsewhere the view is as before
pub made_elsewhere : (w : World) (t : Transaction) (name : NameParts) (page slot : ℕ) → is_at page slot name ≡ false
    → objects_at (view w (makes name t)) page slot ≡ objects_at (view w t) page slot
made_elsewhere w t name page slot off =
    objects_at-view w (makes name t) page slot
    ∙ (ap (λ ns. map (with_writes t.writes) (objects_at w.graph page slot ++ map (new_object w) ns)) (own_away t name page slot off)
    ∙ sym (objects_at-view w t page slot))

-- a place that shows as free has no unfreed object and no own one
pub record IsFreePlace (w : World) (t : Transaction) (page slot : ℕ) : Type 0 where
  pub unfreed : unfreed_at w.graph w.freed page slot ≡ []
  pub own : filter (is_at page slot) t.own ≡ []

pub free_place : (w : World) (txn : ℕ) (t : Transaction) (fields page slot : ℕ) → IsLawful w → find_transaction w txn ≡ Some t
    → has_room (shown_slot fields (view w t) w.freed page slot) ≡ true → IsFreePlace w t page slot
free_place w txn t fields page slot lawful found e =
    let occupied : (unfree || list_any (is_at page slot) t.own) ≡ false =
    ap (λ (x : Transaction). unfree || list_any (is_at page slot) x.own) (sym (transaction_found w txn t found))
    ∙ not-true (is_occupied w txn page slot) (sym (taken_as_free w txn t fields page slot lawful found) ∙ e) in
    let parts = or_parts unfree (list_any (is_at page slot) t.own) occupied in
    record {
      unfreed = nothing_in (unfreed_at w.graph w.freed page slot) (λ o m.
          let a = in_filter (is_unfreed w.freed) (objects_at w.graph page slot) o m in
          let y = in_any (λ o. is_unfreed w.freed o || (o.name.generation == LAST_GENERATION)) (objects_at w.graph page slot) o a.0 (or_left (is_unfreed w.freed o) (o.name.generation == LAST_GENERATION) a.1) in
          let z : true ≡ false = sym y ∙ parts.0 in cc);
      own = nothing_in (filter (is_at page slot) t.own) (λ n m.
          let a = in_filter (is_at page slot) t.own n m in
          let y = in_any (is_at page slot) t.own n a.0 a.1 in
          let z : true ≡ false = sym y ∙ parts.1 in cc);
    }
  where
    unfree : Bool
    unfree = list_any (λ o. is_unfreed w.freed o || (o.name.generation == LAST_GENERATION)) (objects_at w.graph page slot)

known_write_name : (t : Transaction) (write : Write) → IsKnownWrite t write → has_name t.known (written_name write) ≡ true
known_write_name t (link name field None) h = (and_parts (has_name t.known name) (has_page t.pages_written name.page) h).0
known_write_name t (link name field (Some target)) h =
    let k = and_parts (has_name t.known name && has_page t.pages_written name.page) (has_name t.known target) h in
    (and_parts (has_name t.known name) (has_page t.pages_written name.page) k.0).0
known_write_name t (assign name value) h = (and_parts (has_name t.known name) (has_page t.pages_written name.page) h).0

unwritten_object : (writes : List Write) (o : ObjectParts) → AllByRecursion (λ x. name_eq o.name (written_name x) ≡ false) writes → with_writes writes o ≡ o
unwritten_object [] o h = refl
unwritten_object (x ∷ xs) o h = ap (written_by x) (unwritten_object xs o h.1) ∙ written_by_other x o h.0

-- the next name of a free place is not known yet
pub next_is_unknown : (w : World) (t : Transaction) (page slot : ℕ) → IsLawful w → IsLawfulTransaction w.graph w.freed t → IsFreePlace w t page slot
    → has_name t.known (new_name_at w.graph page slot) ≡ false
next_is_unknown w t page slot lawful lt free = false_from_ne_true (has_name t.known (new_name_at w.graph page slot)) (λ known.
    elim (own_or_there w t (new_name_at w.graph page slot) lt known) [
      | inl own ↦
          subst (λ ns. In (new_name_at w.graph page slot) ns) free.own
          (filter_in (is_at page slot) t.own (new_name_at w.graph page slot) (has_name_in t.own (new_name_at w.graph page slot) own) (and_from (page == page) (slot == slot) (eq-eqb page page refl) (eq-eqb slot slot refl)))
      | inr there ↦
          let new : has_object w.graph (new_name_at w.graph page slot) ≡ false = next_name_is_new w (new_name_at w.graph page slot) lawful.orderly.counted refl in
          let z : true ≡ false = sym there ∙ new in cc
    ])

-- a free place shows how many names it had
pub free_generation : (w : World) (t : Transaction) (page slot : ℕ) → IsFreePlace w t page slot → (shown_slot (fields_of w page) (view w t) w.freed page slot).generation ≡ length (objects_at w.graph page slot)
free_generation w t page slot free =
    ap (λ us. (slot_with (fields_of w page) us (length (objects_at (view w t) page slot))).generation)
    (unfreed_at-view w t page slot
    ∙ (ap (λ ns. map (with_writes t.writes) (unfreed_at w.graph w.freed page slot ++ filter (is_unfreed w.freed) (map (new_object w) ns))) free.own
    ∙ ap (λ us. map (with_writes t.writes) (us ++ [])) free.unfreed))
    ∙ (ap length (objects_at-view w t page slot) ∙ (length-map (objects_at w.graph page slot ++ map (new_object w) (filter (is_at page slot) t.own)) (with_writes t.writes)
    ∙ (ap (λ ns. length (objects_at w.graph page slot ++ map (new_object w) ns)) free.own ∙ ap length (append-nil (objects_at w.graph page slot)))))

-- the new object shows at its place
pub made_here : (w : World) (txn : ℕ) (t : Transaction) (page slot : ℕ) → IsLawful w → find_transaction w txn ≡ Some t → IsFreePlace w t page slot
    → shown_slot (fields_of w page) (view w (makes (new_name_at w.graph page slot) t)) w.freed page slot
    ≡ taken (shown_slot (fields_of w page) (view w t) w.freed page slot)
made_here w txn t page slot lawful found free =
    ap (λ us. slot_with (fields_of w page) us (length (objects_at (view w (makes name t)) page slot)))
    (unfreed_at-view w (makes name t) page slot
    ∙ (ap (λ ns. map (with_writes t.writes) (unfreed_at w.graph w.freed page slot ++ filter (is_unfreed w.freed) (map (new_object w) ns)))
    (filter-append (is_at page slot) t.own (name ∷ []) ∙ (ap (λ ns. ns ++ cond (is_at page slot name) (name ∷ []) []) free.own ∙ ap (λ b. cond b (name ∷ []) []) at))
    ∙ (ap (λ us. map (with_writes t.writes) (us ++ filter (is_unfreed w.freed) (map (new_object w) (name ∷ [])))) free.unfreed
    ∙ (ap (λ b. map (with_writes t.writes) (cond b (new_object w name ∷ []) [])) unfreed
    ∙ ap (λ o. o ∷ []) (unwritten_object t.writes (new_object w name) unwritten)))))
    ∙ ap (λ k. record { in_use = true; generation = k; number = 0; refs = replicate (fields_of w page) None }) next
  where
    name : NameParts
    name = new_name_at w.graph page slot

    lt : IsLawfulTransaction w.graph w.freed t
    lt = each_in (IsLawfulTransaction w.graph w.freed) w.transactions t lawful.orderly.transactions (found_in_list (λ (t : Transaction). t.number == txn) w.transactions t found).0

    at : is_at page slot (new_name_at w.graph page slot) ≡ true
    at = and_from (page == page) (slot == slot) (eq-eqb page page refl) (eq-eqb slot slot refl)

    unfreed : not (has_name w.freed (new_name_at w.graph page slot)) ≡ true
    unfreed = ap not (false_from_ne_true (has_name w.freed (new_name_at w.graph page slot)) (λ f.
        let there : has_object w.graph (new_name_at w.graph page slot) ≡ true = each_in (λ name. has_object w.graph name ≡ true) w.freed (new_name_at w.graph page slot) lawful.orderly.freed_there (has_name_in w.freed (new_name_at w.graph page slot) f) in
        let new : has_object w.graph (new_name_at w.graph page slot) ≡ false = next_name_is_new w (new_name_at w.graph page slot) lawful.orderly.counted refl in
        let z : true ≡ false = sym there ∙ new in cc))

    unwritten : AllByRecursion (λ x. name_eq (new_name_at w.graph page slot) (written_name x) ≡ false) t.writes
    unwritten = each_from (λ x. name_eq (new_name_at w.graph page slot) (written_name x) ≡ false) t.writes (λ x m. false_from_ne_true (name_eq (new_name_at w.graph page slot) (written_name x)) (λ e.
        let k = known_write_name t x (each_in (IsKnownWrite t) t.writes x lt.writes m) in
        let same = name_eq_same (new_name_at w.graph page slot) (written_name x) e in
        let y : has_name t.known (new_name_at w.graph page slot) ≡ true = subst (λ n. has_name t.known n ≡ true) (sym same) k in
        let z : true ≡ false = sym y ∙ next_is_unknown w t page slot lawful lt free in cc))

    next : 1 + length (objects_at w.graph page slot) ≡ (shown_slot (fields_of w page) (view w t) w.freed page slot).generation + 1
    next = let g = free_generation w t page slot free in omega arith

off_slot : (w : World) (page slot other : ℕ) → other ≢ slot → is_at page other (new_name_at w.graph page slot) ≡ false
off_slot w page slot other ne = and_right (page == page) (slot == other) (ne_eqb slot other (λ f. ne (sym f)))

-- a new object changes one slot of its page, and no other page
pub new_on_page : (w : World) (txn : ℕ) (t : Transaction) (page slot : ℕ) (d : SlotParts) → IsLawful w → find_transaction w txn ≡ Some t → IsFreePlace w t page slot → slot < slots_of w page
    → set (shown_in w (view w t) page) slot (taken (get_or (shown_in w (view w t) page) slot d)) ≡ shown_in w (view w (makes (new_name_at w.graph page slot) t)) page
new_on_page w txn t page slot d lawful found free lt =
    set-shown (slots_of w page) (fields_of w page) (view w t) (view w (makes (new_name_at w.graph page slot) t)) w.freed page slot
    (taken (get_or (shown_in w (view w t) page) slot d)) lt
    (made_here w txn t page slot lawful found free ∙ ap (taken) (sym (get-shown (slots_of w page) (fields_of w page) (view w t) w.freed page slot d lt)))
    (λ j below_n ne. shown_from_place (fields_of w page) (view w (makes (new_name_at w.graph page slot) t)) (view w t) w.freed page j (made_elsewhere w t (new_name_at w.graph page slot) page j (off_slot w page slot j ne)))

pub new_on_another_page : (w : World) (t : Transaction) (page slot other : ℕ) → other ≢ page
    → shown_in w (view w (makes (new_name_at w.graph page slot) t)) other ≡ shown_in w (view w t) other
new_on_another_page w t page slot other ne =
    same_shown (slots_of w other) (fields_of w other) (view w (makes (new_name_at w.graph page slot) t)) (view w t) w.freed w.freed other
    (λ s l. shown_from_place (fields_of w other) (view w (makes (new_name_at w.graph page slot) t)) (view w t) w.freed other s
    (made_elsewhere w t (new_name_at w.graph page slot) other s (and_left (page == other) (slot == s) (ne_eqb page other (λ f. ne (sym f))))))
