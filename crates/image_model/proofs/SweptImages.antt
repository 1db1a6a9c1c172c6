-- What a sweep's record does to the images is what the sweep does to the state.
use Rattle.std.proofs.Common.{◌≡◌, ◌≢◌, ℕ, ◌==◌, ◌&&◌, ◌||◌, Bool, false, not, cond, List, [], ◌∷◌, ◌++◌, map, length, Option, Some, None, refl, sym, ◌∙◌, ap, arith, inl, inr}
use Rattle.std.specs.List.{filter}
use Rattle.std.proofs.lemmas.Bool.{cases_eq, cases_Bool, and_parts, eq-eqb, eqb-true, ne_eqb}
use Rattle.std.proofs.lemmas.List.Folds.{list_any-append}
use Rattle.object_graph.specs.NameParts.{NameParts}
use Rattle.object_graph.specs.Names.{name_eq}
use Rattle.object_graph.specs.Slots.{below, has_slot}
use Rattle.object_graph.specs.Graphs.{has_name, is_at, objects_at}
use Rattle.object_graph.specs.ObjectParts.{ObjectParts}
use Rattle.object_graph.specs.declared.calls.Call.TheVariants.{Sweep}
use Rattle.object_graph.specs.declared.calls.Reply.TheVariants.{Freed}
use Rattle.object_graph.proofs.Members.{In, in_map, in_filter}
use Rattle.object_graph.proofs.Paths.{has_name_in}
use Rattle.page_image.specs.Pages.{PageParts}
use Rattle.store_model.specs.Images.{slot_with, shown_slot, shown_of, shown}
use Rattle.store_model.specs.Lawful.{IsLawful}
use Rattle.store_model.specs.Replies.{AllowsReply, names_in}
use Rattle.store_model.specs.Steps.{swept}
use Rattle.store_model.specs.Worlds.{World, Note, is_unfreed, unfreed, slots_of, fields_of}
use Rattle.store_model.proofs.Lawfulness.{event_is_lawful}
use Rattle.store_model.specs.States.{state_of}
use Rattle.image_model.specs.Records.{slots_or, TakesImages, IsAfterRecord, IsOfSweep, sweep_record}
use Rattle.image_model.proofs.States.{lawful_state}

filter_same_on : {A : Type 0} (p q : A → Bool) (xs : List A) → ((x : A) → In x xs → p x ≡ q x) → filter p xs ≡ filter q xs
filter_same_on p q [] h = refl
filter_same_on {A} p q (x ∷ xs) h =
    ap (λ (b : Bool). cond b (x ∷ filter p xs) (filter p xs)) (h x (inl refl))
    ∙ ap (λ (l : List A). cond (q x) (x ∷ l) l) (filter_same_on p q xs (λ y i. h y (inr i)))

map_same : {A B : Type 0} (f g : A → B) (xs : List A) → ((x : A) → f x ≡ g x) → map f xs ≡ map g xs
map_same f g [] h = refl
map_same {A} {B} f g (x ∷ xs) h = ap (λ (y : B). y ∷ map f xs) (h x) ∙ ap (λ (l : List B). g x ∷ l) (map_same f g xs h)

module _ (w : World) (page slots : ℕ) where
  -- the names that go stand on the page
  on_page : (name : NameParts) → In name (names_in w page slots) → name.page ≡ page
  on_page name m =
      let a = in_map (λ (o : ObjectParts). o.name) (filter (λ o. (o.name.page == page) && has_slot slots o.name.slot) (unfreed w)) name m in
      let b = in_filter (λ o. (o.name.page == page) && has_slot slots o.name.slot) (unfreed w) a.0 a.1 in
      ap (λ (n : NameParts). n.page) a.2 ∙ eqb-true a.0.name.page page (and_parts (a.0.name.page == page) (has_slot slots a.0.name.slot) b.1).0

  none_away : (name : NameParts) → name.page ≢ page → has_name (names_in w page slots) name ≡ false
  none_away name off = elim (cases_Bool (has_name (names_in w page slots) name)) [
    | inl there ↦ absurd (off (on_page name (has_name_in (names_in w page slots) name there)))
    | inr gone ↦ gone
  ]

  freed_away : (name : NameParts) → name.page ≢ page → has_name (names_in w page slots ++ w.freed) name ≡ has_name w.freed name
  freed_away name off = list_any-append (λ n. name_eq n name) (names_in w page slots) w.freed ∙ ap (λ (b : Bool). b || has_name w.freed name) (none_away name off)

  slot_away : (other slot : ℕ) → other ≢ page → shown_slot (fields_of w other) w.graph (names_in w page slots ++ w.freed) other slot ≡ shown_slot (fields_of w other) w.graph w.freed other slot
  slot_away other slot off =
      ap (λ (l : List ObjectParts). slot_with (fields_of w other) l (length (objects_at w.graph other slot)))
      (filter_same_on (is_unfreed (names_in w page slots ++ w.freed)) (is_unfreed w.freed) (objects_at w.graph other slot) (λ o m.
      let a = in_filter (λ (x : ObjectParts). is_at other slot x.name) w.graph o m in
      let there : o.name.page ≡ other = eqb-true o.name.page other (and_parts (o.name.page == other) (o.name.slot == slot) a.1).0 in
      ap not (freed_away o.name (λ same. off (sym there ∙ same)))))

  page_away : (other : ℕ) → other ≢ page → shown (swept w page slots) other ≡ shown w other
  unfolding shown_of
  page_away other off =
      map_same (shown_slot (fields_of w other) w.graph (names_in w page slots ++ w.freed) other) (shown_slot (fields_of w other) w.graph w.freed other) (below (slots_of w other)) (λ slot. slot_away other slot off)

  sweep_takes : (image : PageParts) → IsOfSweep w page slots image → TakesImages w.pages (image ∷ []) (state_of w) (state_of (swept w page slots))
  sweep_takes image h = λ other lt. elim (cases_eq image.number other) [
    | inl same ↦
        sym (h.shows ∙ ap (shown (swept w page slots)) (sym h.number ∙ same)) ∙ ap (λ (b : Bool). slots_or (shown w other) (let x : Option PageParts = cond b (Some image) None in x)) (sym (eq-eqb image.number other same))
    | inr off ↦
        page_away other (λ same. off (h.number ∙ sym same)) ∙ ap (λ (b : Bool). slots_or (shown w other) (let x : Option PageParts = cond b (Some image) None in x)) (sym (ne_eqb image.number other off))
  ]

  pub sweep_makes : (note : Note) (image : PageParts) → IsLawful w → AllowsReply w (Sweep page) note (Freed slots) → IsOfSweep w page slots image → IsAfterRecord w.pages (sweep_record image) (state_of w) (state_of (swept w page slots))
  sweep_makes note image lawful may h = record {
    images = sweep_takes image h;
    commits = omega arith;
    state = lawful_state (swept w page slots) (event_is_lawful w (Sweep page) note (Freed slots) lawful may);
  }
