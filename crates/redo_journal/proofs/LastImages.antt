-- The last image of a page among images.
use Rattle.std.proofs.Common.{◌≡◌, ℕ, ◌==◌, List, [], ◌∷◌, ◌++◌, Option, Some, None, if◌then◌else◌, refl, ap, ◌∙◌}
use Rattle.page_image.specs.Pages.{PageParts}
use Rattle.redo_journal.specs.Replays.{later, last_image}

pub later-assoc : (a b c : Option PageParts) → later (later a b) c ≡ later a (later b c)
later-assoc (Some p) b c = refl
later-assoc None b c = refl

pub last-append : (xs ys : List PageParts) (page : ℕ) → last_image (xs ++ ys) page ≡ later (last_image ys page) (last_image xs page)
last-append [] ys page = none_before (last_image ys page)
  where
    none_before : (o : Option PageParts) → o ≡ later o None
    none_before (Some p) = refl
    none_before None = refl
last-append (p ∷ xs) ys page =
    ap (λ (o : Option PageParts). later o (if p.number == page then Some p else None)) (last-append xs ys page)
    ∙ later-assoc (last_image ys page) (last_image xs page) (if p.number == page then Some p else None)
