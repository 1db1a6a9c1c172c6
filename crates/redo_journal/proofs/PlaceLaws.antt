-- Where images stand, one behind the other.
use Rattle.std.proofs.Common.{◌≡◌, ℕ, ◌+◌, ◌*◌, ◌≤◌, ◌<◌, List, [], ◌∷◌, ◌++◌, length, refl, sym, ◌∙◌, ap, arith, append_assoc}
use Rattle.std.specs.List.{All, AllByRecursion}
use Rattle.std.proofs.lemmas.List.{append-nil}
use Rattle.std.proofs.lemmas.List.Elements.{All-nil, All-cons}
use Rattle.page_image.specs.Pages.{PageParts}
use Rattle.redo_journal.specs.Places.{places_of, places_in, IsPlace, StandAt}
use Rattle.redo_journal.specs.Record.{RecordParts, grammar, size_of}
use Rattle.redo_journal.specs.Walk.{bytes_taken}
use Rattle.redo_journal.specs.declared.places.ImagePlace.{ImagePlace}
use Rattle.redo_journal.proofs.GrammarLaws.{grammar-size}
use Rattle.redo_journal.proofs.WalkLaws.{taken-cons}
use Rattle.redo_journal.specs.declared.sizes.TheConstants.{HOMES_START, IMAGE_SIZE, FRAME_SIZE}

abbrev pub place_for : ℕ → PageParts → ImagePlace
place_for from p = record { page = p.number; at = from + 4 }

-- one image more
pub places_push : (from : ℕ) (images : List PageParts) (p : PageParts) → places_of from (images ++ p ∷ []) ≡ places_of from images ++ place_for (from + IMAGE_SIZE * length images) p ∷ []
places_push from [] p = ap (λ (n : ℕ). place_for n p ∷ []) (omega arith)
places_push from (q ∷ qs) p =
    let step : from + IMAGE_SIZE + IMAGE_SIZE * length qs ≡ from + IMAGE_SIZE * length (q ∷ qs) = omega arith in
    ap (λ (l : List ImagePlace). place_for from q ∷ l) (places_push (from + IMAGE_SIZE) qs p ∙ ap (λ (n : ℕ). places_of (from + IMAGE_SIZE) qs ++ place_for n p ∷ []) step)

-- what was noted, with one image more
pub noted_more : (from : ℕ) (images : List PageParts) (p : PageParts) (page at : ℕ) (first old now : List ImagePlace) → now ≡ old ++ record { page = page; at = at } ∷ [] → old ≡ first ++ places_of from images → page ≡ p.number
    → at ≡ from + IMAGE_SIZE * length images + 4 → now ≡ first ++ places_of from (images ++ p ∷ [])
noted_more from images p page at first old now now_is old_is page_is at_is =
    let here : ImagePlace = record { page = page; at = at } in
    let same : here ≡ place_for (from + IMAGE_SIZE * length images) p =
    ap (λ (n : ℕ). let x : ImagePlace = record { page = n; at = at } in x) page_is ∙ ap (λ (n : ℕ). let x : ImagePlace = record { page = p.number; at = n } in x) at_is in
    now_is ∙ ap (λ (l : List ImagePlace). l ++ here ∷ []) old_is ∙ append_assoc first (places_of from images) (here ∷ [])
    ∙ ap (λ (l : List ImagePlace). first ++ l) (ap (λ (x : ImagePlace). places_of from images ++ x ∷ []) same ∙ sym (places_push from images p))

-- one record more
pub places_more : (pages gate : ℕ) (records : List RecordParts) (r : RecordParts) → places_in gate (records ++ r ∷ []) ≡ places_in gate records ++ places_of (gate + bytes_taken (grammar pages) records + FRAME_SIZE) r.images
places_more pages gate [] r =
    let here : gate + FRAME_SIZE ≡ gate + bytes_taken (grammar pages) [] + FRAME_SIZE = omega arith in
    append-nil (places_of (gate + FRAME_SIZE) r.images) ∙ ap (λ (n : ℕ). places_of n r.images) here
places_more pages gate (q ∷ qs) r =
    let first = places_of (gate + FRAME_SIZE) q.images in
    let step : gate + size_of q + bytes_taken (grammar pages) qs + FRAME_SIZE ≡ gate + bytes_taken (grammar pages) (q ∷ qs) + FRAME_SIZE = omega (arith, taken-cons (grammar pages) q qs, grammar-size pages q) in
    ap (λ (l : List ImagePlace). first ++ l) (places_more pages (gate + size_of q) qs r ∙ ap (λ (n : ℕ). places_in (gate + size_of q) qs ++ places_of n r.images) step)
    ∙ sym (append_assoc first (places_in (gate + size_of q) qs) (places_of (gate + bytes_taken (grammar pages) (q ∷ qs) + FRAME_SIZE) r.images))

pub length-places : (from : ℕ) (images : List PageParts) → length (places_of from images) ≡ length images
length-places from [] = refl
length-places from (p ∷ ps) = omega (arith, length-places (from + IMAGE_SIZE) ps)

-- images of such pages that end before the homes
pub places_right : (pages from : ℕ) (images : List PageParts) → AllByRecursion (λ p. p.number < pages) images → from + IMAGE_SIZE * length images ≤ HOMES_START → All (IsPlace pages) (places_of from images)
places_right pages from [] below within = All-nil (IsPlace pages)
places_right pages from (p ∷ ps) below within =
    All-cons (IsPlace pages) (place_for from p) (places_of (from + IMAGE_SIZE) ps)
    (record { below = below.0; within = omega (arith, within) })
    (places_right pages (from + IMAGE_SIZE) ps below.1 (omega (arith, within)))

pub stand_append : (xs ys : List ImagePlace) (ps qs : List PageParts) (file : List ℕ) → StandAt xs ps file → StandAt ys qs file → StandAt (xs ++ ys) (ps ++ qs) file
stand_append [] ys [] qs file first second = second
stand_append [] ys (p ∷ ps) qs file first second = absurd first
stand_append (x ∷ xs) ys [] qs file first second = absurd first
stand_append (x ∷ xs) ys (p ∷ ps) qs file first second = (first.0, first.1, stand_append xs ys ps qs file first.2 second)
