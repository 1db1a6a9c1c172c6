-- A fresh store opens to the fresh world.
use Rattle.std.proofs.Common.{◌≡◌, ℕ, suc, ◌+◌, ◌<◌, Bool, true, false, if◌then◌else◌, List, [], ◌∷◌, ◌++◌, map, length, refl, sym, subst, ap, ◌∙◌, arith, nat_eq, inl, inr}
use Rattle.std.proofs.lemmas.Bool.{eqb-true, cases_Bool}
use Rattle.std.proofs.lemmas.List.{map-append}
use Rattle.object_graph.specs.Slots.{below}
use Rattle.object_graph.specs.SlotParts.{SlotParts}
use Rattle.page_image.specs.Slots.{taken}
use Rattle.page_image.specs.Pages.{PageParts, empty_page, with_slot}
use Rattle.redo_journal.specs.Record.{numbers_of}
use Rattle.store_model.specs.Worlds.{fresh_world}
use Rattle.store_model.specs.Images.{shown, all_shown}
use Rattle.store_model.specs.FromImages.{world_of}
use Rattle.store_model.proofs.Flats.{length-map_below}
use Rattle.store_model.proofs.FreshImages.{fresh_slots, fresh_shown as shows, fresh_opens}
use Rattle.store_model.proofs.Lawfulness.{fresh_is_lawful_world}
use Rattle.store_model.proofs.ShownWorlds.{shows_root, shows_whole}
use Rattle.image_model.specs.Super.{is_page_count}
use Rattle.image_model.specs.Opening.{page_slots}
use Rattle.image_model.specs.Stores.{ArePages, IsRooted, IsStore}
use Rattle.image_model.specs.Stands.{opened_world}
use Rattle.image_model.specs.Files.{fresh_page, fresh_pages}
use Rattle.image_model.proofs.States.{opened_is}

abbrev by_root : ℕ → Bool → PageParts
by_root page root = if root then with_slot (empty_page 0) 0 taken else empty_page page

pub one_more_page : (count : ℕ) → fresh_pages (count + 1) ≡ fresh_pages count ++ fresh_page count ∷ []
one_more_page count = let e : count + 1 ≡ suc count = omega arith in ap fresh_pages e ∙ map-append fresh_page (below count) (count ∷ [])

-- ---- its pages show the fresh world

slots_are : (count page : ℕ) → (fresh_page page).slots ≡ shown (fresh_world count) page
slots_are count page = by (nat_eq page 0) ∙ sym (shows count page)
  where
    by : (root : Bool) → (by_root page root).slots ≡ fresh_slots root
    by true = refl
    by false = refl

pub fresh_shown : (count : ℕ) → page_slots (fresh_pages count) ≡ all_shown (fresh_world count)
fresh_shown count = each (below count)
  where
    each : (pages : List ℕ) → page_slots (map fresh_page pages) ≡ map (shown (fresh_world count)) pages
    each [] = refl
    each (page ∷ pages) = λ i. slots_are count page i ∷ each pages i

-- ---- they are those of a store

number_is : (page : ℕ) → (fresh_page page).number ≡ page
number_is page = elim (cases_Bool (nat_eq page 0)) [
  | inl e ↦ ap (λ (b : Bool). (by_root page b).number) e ∙ sym (eqb-true page 0 e)
  | inr e ↦ ap (λ (b : Bool). (by_root page b).number) e
]

pub fresh_length : (count : ℕ) → length (fresh_pages count) ≡ count
fresh_length count = length-map_below fresh_page count

pub fresh_are_pages : (count : ℕ) → is_page_count count ≡ true → ArePages (fresh_pages count)
fresh_are_pages count right = record {
  count = ap is_page_count (fresh_length count) ∙ right;
  numbered = each (below count) ∙ ap below (sym (fresh_length count));
}
  where
    each : (pages : List ℕ) → numbers_of (map fresh_page pages) ≡ pages
    each [] = refl
    each (page ∷ pages) = λ i. number_is page i ∷ each pages i

pub fresh_rooted : (count : ℕ) → 0 < count → IsRooted (page_slots (fresh_pages count))
fresh_rooted count some =
    let lawful = fresh_is_lawful_world count some in
    subst IsRooted (sym (fresh_shown count)) (record { root = shows_root (fresh_world count) lawful.orderly; whole = shows_whole (fresh_world count) lawful })

-- a file that holds them opens to the fresh world
pub fresh_opened : (file : List ℕ) (count : ℕ) → 0 < count → IsStore file (record { commits = 0; pages = fresh_pages count }) → opened_world file ≡ fresh_world count
fresh_opened file count some h =
    opened_is file (record { commits = 0; pages = fresh_pages count }) h
    ∙ ap (λ (images : List (List SlotParts)). world_of 0 images) (fresh_shown count) ∙ fresh_opens count some
