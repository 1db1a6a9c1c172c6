-- What writes change of the pages that a view shows.
use Rattle.std.proofs.Common.{◌≡◌, ◌≢◌, ℕ, ◌<◌, true, false, ◌==◌, List, [], ◌∷◌, ◌++◌, map, length, Option, sym, subst, ap, ◌∙◌, get_or, set, append-nil}
use Rattle.std.specs.List.{slice_set, filter}
use Rattle.std.proofs.lemmas.Bool.{cond-true, eqb-true, and_parts}
use Rattle.object_graph.specs.NameParts.{NameParts}
use Rattle.object_graph.specs.SlotParts.{SlotParts}
use Rattle.object_graph.specs.Names.{name_eq}
use Rattle.object_graph.specs.ObjectParts.{ObjectParts}
use Rattle.object_graph.specs.Graphs.{objects_at, is_at}
use Rattle.store_model.specs.Worlds.{World, Transaction, Write, link, assign, view, with_writes, written_by, new_object, slots_of, fields_of}
use Rattle.store_model.specs.Images.{shown_slot, shown_in, slot_with}
use Rattle.page_image.specs.Slots.{slot_with_number, slot_with_ref}
use Rattle.store_model.specs.Causes.{has_page}
use Rattle.store_model.specs.Steps.{writes}
use Rattle.store_model.specs.Lawful.{IsOwn, IsLawfulTransaction}
use Rattle.object_graph.proofs.Members.{In, each_in, each_from, in_filter}
use Rattle.object_graph.proofs.Paths.{name_eq_refl}
use Rattle.store_model.proofs.Images.{commit_keeps_slot}
use Rattle.transactions.proofs.Viewed.{written_name, write_elsewhere, write_here, view-writes, map_id, objects_at-view, place_of, shown_from_place}
use Rattle.transactions.proofs.Shown.{same_shown, set-shown, get-shown}
use Rattle.store_model.proofs.Locks.{writes_away}
use Rattle.transactions.proofs.Seen.{IsThere, nothing_in}

-- a page that the transaction didn't write is in its view as in the graph
pub unwritten_page : (w : World) (t : Transaction) (page : ℕ) → IsLawfulTransaction w.graph w.freed t → has_page t.pages_written page ≡ false
    → shown_in w (view w t) page ≡ shown_in w w.graph page
unwritten_page w t page lawful away =
    same_shown (slots_of w page) (fields_of w page) (view w t) w.graph w.freed w.freed page
    (λ s lt. commit_keeps_slot w t (fields_of w page) page s lawful.writes
    (each_from (λ n. has_page t.pages_written n.page ≡ true) t.own (λ n m. (each_in (IsOwn w.graph w.freed t) t.own n lawful.own m).page)) away)

-- a write leaves each other page of the view
pub write_on_another_page : (w : World) (t : Transaction) (write : Write) (of page : ℕ) → (written_name write).page ≢ page
    → shown_in w (view w (writes write of t)) page ≡ shown_in w (view w t) page
write_on_another_page w t write of page ne =
    same_shown (slots_of w page) (fields_of w page) (view w (writes write of t)) (view w t) w.freed w.freed page
    (λ s lt.
    ap (λ g. shown_slot (fields_of w page) g w.freed page s) (view-writes w t write (writes write of t).pages_written)
    ∙ write_elsewhere (fields_of w page) write (view w t) w.freed page s (λ same. ne same.0))

-- a write changes one slot of its page
write_on_page : (w : World) (t : Transaction) (write : Write) (of : ℕ) (x : SlotParts)
    (there : IsThere w t (written_name write)) → (written_name write).slot < slots_of w (written_name write).page
    → slot_with (fields_of w (written_name write).page) (written_by write there.object ∷ []) (length (objects_at (view w t) (written_name write).page (written_name write).slot)) ≡ x
    → set (shown_in w (view w t) (written_name write).page) (written_name write).slot x ≡ shown_in w (view w (writes write of t)) (written_name write).page
write_on_page w t write of x there lt is =
    let page : ℕ = (written_name write).page in
    let slot : ℕ = (written_name write).slot in
    set-shown (slots_of w page) (fields_of w page) (view w t) (view w (writes write of t)) w.freed page slot x lt
    (ap (λ g. shown_slot (fields_of w page) g w.freed page slot) (view-writes w t write (writes write of t).pages_written)
    ∙ (write_here (fields_of w page) write (view w t) w.freed there.object page slot there.alone ∙ is))
    (λ j below_n ne.
    ap (λ g. shown_slot (fields_of w page) g w.freed page j) (view-writes w t write (writes write of t).pages_written)
    ∙ write_elsewhere (fields_of w page) write (view w t) w.freed page j (λ same. ne (sym same.1)))

-- the slot of a known name
pub slot_of_known : (w : World) (t : Transaction) (name : NameParts) (d : SlotParts) (there : IsThere w t name) → name.slot < slots_of w name.page
    → get_or (shown_in w (view w t) name.page) name.slot d
    ≡ record { in_use = true; generation = there.object.name.generation; number = there.object.number; refs = there.object.refs }
slot_of_known w t name d there lt =
    get-shown (slots_of w name.page) (fields_of w name.page) (view w t) w.freed name.page name.slot d lt
    ∙ ap (λ us. slot_with (fields_of w name.page) us (length (objects_at (view w t) name.page name.slot))) there.alone

-- a number is written
pub number_on_page : (w : World) (t : Transaction) (name : NameParts) (value of : ℕ) (d : SlotParts) → IsThere w t name → name.slot < slots_of w name.page
    → set (shown_in w (view w t) name.page) name.slot (slot_with_number value (get_or (shown_in w (view w t) name.page) name.slot d))
    ≡ shown_in w (view w (writes (assign name value) of t)) name.page
number_on_page w t name value of d there lt =
    write_on_page w t (assign name value) of (slot_with_number value (get_or (shown_in w (view w t) name.page) name.slot d)) there lt
    (ap (λ o. slot_with (fields_of w name.page) (o ∷ []) (length (objects_at (view w t) name.page name.slot)))
    (cond-true (name_eq there.object.name name) (record there.object { number = value }) there.object (subst (λ n. name_eq n name ≡ true) (sym there.named) (name_eq_refl name)))
    ∙ sym (ap (slot_with_number value) (slot_of_known w t name d there lt)))

-- a reference is written
pub ref_on_page : (w : World) (t : Transaction) (name : NameParts) (field : ℕ) (target : Option NameParts) (of : ℕ) (d : SlotParts) → IsThere w t name → name.slot < slots_of w name.page
    → set (shown_in w (view w t) name.page) name.slot (slot_with_ref field target (get_or (shown_in w (view w t) name.page) name.slot d))
    ≡ shown_in w (view w (writes (link name field target) of t)) name.page
ref_on_page w t name field target of d there lt =
    write_on_page w t (link name field target) of (slot_with_ref field target (get_or (shown_in w (view w t) name.page) name.slot d)) there lt
    (ap (λ o. slot_with (fields_of w name.page) (o ∷ []) (length (objects_at (view w t) name.page name.slot)))
    (cond-true (name_eq there.object.name name) (record there.object { refs = slice_set there.object.refs field target }) there.object (subst (λ n. name_eq n name ≡ true) (sym there.named) (name_eq_refl name)))
    ∙ sym (ap (slot_with_ref field target) (slot_of_known w t name d there lt)))

-- ---- a commit, and what others see

writes_off : (w : World) (t : Transaction) (page slot : ℕ) (lawful : IsLawfulTransaction w.graph w.freed t) → has_page t.pages_written page ≡ false
    → (os : List ObjectParts) → ((o : ObjectParts) → In o os → o.name.page ≡ page) → map (with_writes t.writes) os ≡ os
writes_off w t page slot lawful away os at =
    map_id (with_writes t.writes) os (λ o m. writes_away t t.writes o lawful.writes (subst (λ p. has_page t.pages_written p ≡ false) (sym (at o m)) away))

none_own : (w : World) (t : Transaction) (page slot : ℕ) → IsLawfulTransaction w.graph w.freed t → has_page t.pages_written page ≡ false → filter (is_at page slot) t.own ≡ []
none_own w t page slot lawful away = nothing_in (filter (is_at page slot) t.own) (λ n m.
    let a = in_filter (is_at page slot) t.own n m in
    let p : n.page ≡ page = eqb-true n.page page (and_parts (n.page == page) (n.slot == slot) a.1).0 in
    let y : has_page t.pages_written page ≡ true = subst (λ q. has_page t.pages_written q ≡ true) p (each_in (IsOwn w.graph w.freed t) t.own n lawful.own a.0).page in
    let z : true ≡ false = sym y ∙ away in cc)

pub objects_unwritten : (w : World) (t : Transaction) (page slot : ℕ) → IsLawfulTransaction w.graph w.freed t → has_page t.pages_written page ≡ false
    → objects_at (view w t) page slot ≡ objects_at w.graph page slot
objects_unwritten w t page slot lawful away =
    objects_at-view w t page slot
    ∙ (ap (λ ns. map (with_writes t.writes) (objects_at w.graph page slot ++ map (new_object w) ns)) (none_own w t page slot lawful away)
    ∙ (ap (map (with_writes t.writes)) (append-nil (objects_at w.graph page slot))
    ∙ writes_off w t page slot lawful away (objects_at w.graph page slot) (λ o m. (place_of page slot w.graph o m).0)))

-- another transaction sees a page as before, where the one that committed didn't write it
pub others_see : (w w2 : World) (t u : Transaction) (page : ℕ) → w2.graph ≡ view w t → w2.freed ≡ w.freed → IsLawfulTransaction w.graph w.freed t
    → has_page t.pages_written page ≡ false → shown_in w2 (view w2 u) page ≡ shown_in w (view w u) page
others_see w w2 t u page graph freed lawful away =
    same_shown (slots_of w page) (fields_of w page) (view w2 u) (view w u) w2.freed w.freed page
    (λ s lt.
    ap (λ f. shown_slot (fields_of w page) (view w2 u) f page s) freed
    ∙ shown_from_place (fields_of w page) (view w2 u) (view w u) w.freed page s
    (objects_at-view w2 u page s
    ∙ (ap (λ os. map (with_writes u.writes) (os ++ map (new_object w) (filter (is_at page s) u.own)))
    (ap (λ g. objects_at g page s) graph ∙ objects_unwritten w t page s lawful away)
    ∙ sym (objects_at-view w u page s))))
