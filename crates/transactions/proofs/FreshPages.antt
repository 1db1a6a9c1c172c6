-- The pages of a fresh store, of which page 0 has the root.
use Rattle.std.proofs.Common.{◌≡◌, ℕ, suc, ◌+◌, ◌<◌, ◌≤◌, Bool, true, false, if◌then◌else◌, List, [], ◌∷◌, ◌++◌, map, length, refl, sym, subst, ap, ◌∙◌, arith, nat_eq, inl, inr}
use Rattle.std.specs.Bool.{IsTrue}
use Rattle.std.proofs.lemmas.Bool.{eqb-true, cases_Bool}
use Rattle.std.proofs.lemmas.List.{map-append}
use Rattle.std.proofs.lemmas.Option.{slice_get_within, get_or_from_slice_get}
use Rattle.object_graph.specs.Slots.{below}
use Rattle.object_graph.specs.declared.limits.TheConstants.{MOST_PAGES}
use Rattle.store_model.specs.Worlds.{fresh_world}
use Rattle.store_model.specs.Images.{shown, all_shown}
use Rattle.store_model.specs.FromImages.{has_root, IsWhole}
use Rattle.store_model.proofs.Flats.{get-map_below, length-map_below}
use Rattle.store_model.proofs.FreshImages.{fresh_slots, fresh_shown}
use Rattle.store_model.proofs.Lawfulness.{fresh_is_lawful_world}
use Rattle.store_model.proofs.ShownWorlds.{shows_root, shows_whole}
use Rattle.page_image.specs.Slots.{taken}
use Rattle.page_image.specs.Pages.{PageParts, empty_page, with_slot}
use Rattle.transactions.specs.Standing.{page_images, AreNumbered}

abbrev by_root : ℕ → Bool → PageParts
by_root number root = if root then with_slot (empty_page 0) 0 taken else empty_page number

abbrev pub fresh : ℕ → PageParts
fresh number = by_root number (nat_eq number 0)

abbrev pub fresh_pages : ℕ → List PageParts
fresh_pages count = map fresh (below count)

pub one_more : (count : ℕ) → fresh_pages (count + 1) ≡ fresh_pages count ++ fresh count ∷ []
one_more count = let e : count + 1 ≡ suc count = omega arith in ap fresh_pages e ∙ map-append fresh (below count) (count ∷ [])

-- ---- they are what a fresh world shows

slots_are : (count page : ℕ) → (fresh page).slots ≡ shown (fresh_world count) page
slots_are count page = by (nat_eq page 0) ∙ sym (fresh_shown count page)
  where
    by : (root : Bool) → (by_root page root).slots ≡ fresh_slots root
    by true = refl
    by false = refl

images_are : (count : ℕ) → page_images (fresh_pages count) ≡ all_shown (fresh_world count)
images_are count = each (below count)
  where
    each : (pages : List ℕ) → page_images (map fresh pages) ≡ map (shown (fresh_world count)) pages
    each [] = refl
    each (page ∷ pages) = λ i. slots_are count page i ∷ each pages i

-- ---- they can be opened

pub are_few : (count : ℕ) → count ≤ MOST_PAGES → length (fresh_pages count) ≤ MOST_PAGES
are_few count few = let e = length-map_below fresh count in omega (arith, e, few)

number_is : (page : ℕ) → (fresh page).number ≡ page
number_is page = elim (cases_Bool (nat_eq page 0)) [
  | inl e ↦ ap (λ (b : Bool). (by_root page b).number) e ∙ sym (eqb-true page 0 e)
  | inr e ↦ ap (λ (b : Bool). (by_root page b).number) e
]

pub are_numbered : (count : ℕ) → AreNumbered (fresh_pages count)
are_numbered count page p is =
    let within : page < length (fresh_pages count) = slice_get_within (fresh_pages count) page p is in
    let e = length-map_below fresh count in
    let low : page < count = omega (arith, within, e) in
    ap (λ (q : PageParts). q.number) (sym (get_or_from_slice_get (fresh_pages count) page p (empty_page 0) is) ∙ get-map_below fresh count page (empty_page 0) low)
    ∙ number_is page

pub have_root : (count : ℕ) → 0 < count → IsTrue (has_root (page_images (fresh_pages count)))
have_root count some = ap has_root (images_are count) ∙ shows_root (fresh_world count) (fresh_is_lawful_world count some).orderly

pub are_whole : (count : ℕ) → 0 < count → IsWhole (page_images (fresh_pages count))
are_whole count some = subst IsWhole (sym (images_are count)) (shows_whole (fresh_world count) (fresh_is_lawful_world count some))
