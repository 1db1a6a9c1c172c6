-- Pages that have an image among images, and one image that is sent home.
use Rattle.std.proofs.Common.{◌≡◌, ℕ, ◌+◌, ◌≤◌, ◌==◌, Bool, true, false, List, [], ◌∷◌, ◌++◌, length, Option, Some, None, Ok, is_some, if◌then◌else◌, refl, sym, ◌∙◌, ap, subst, arith}
use Rattle.std.proofs.lemmas.Bool.{eq-eqb, eqb-true}
use Rattle.disk_trait.specs.Disk.{written, Torn}
use Rattle.disk_trait.specs.NoteLaws.{torn_written}
use Rattle.page_image.specs.Pages.{PageParts}
use Rattle.page_image.specs.Fields.{page_at}
use Rattle.redo_journal.specs.Homes.{home_start, home_of, AreHome}
use Rattle.redo_journal.specs.Replays.{later, last_image, has_image}
use Rattle.redo_journal.proofs.LastImages.{last-append}
use Rattle.redo_journal.proofs.HomeBytes.{torn_home, home_written}
use Rattle.redo_journal.specs.declared.sizes.TheConstants.{PAGE_SIZE}

-- ---- the last image of a page

last-one : (p q : PageParts) (page : ℕ) → last_image (p ∷ []) page ≡ Some q → (p.number ≡ page) × (p ≡ q)
last-one p q page e = of_test (p.number == page) refl e
  where
    of_test : (test : Bool) → (p.number == page) ≡ test → later None (if test then Some p else None) ≡ Some q → (p.number ≡ page) × (p ≡ q)
    of_test true is same = (eqb-true p.number page is, cc)
    of_test false is same = absurd cc

pub among_one : (p : PageParts) → has_image (p ∷ []) p.number ≡ true
among_one p = rw (eq-eqb p.number p.number refl) refl

some_later : (a b : Option PageParts) → is_some b ≡ true → is_some (later a b) ≡ true
some_later (Some p) b is = refl
some_later None b is = is

some_first : (a b : Option PageParts) → is_some a ≡ true → is_some (later a b) ≡ true
some_first (Some p) b is = refl
some_first None b is = absurd cc

pub among_left : (xs ys : List PageParts) (page : ℕ) → has_image xs page ≡ true → has_image (xs ++ ys) page ≡ true
among_left xs ys page is = ap (λ (o : Option PageParts). is_some o) (last-append xs ys page) ∙ some_later (last_image ys page) (last_image xs page) is

pub among_right : (xs ys : List PageParts) (page : ℕ) → has_image ys page ≡ true → has_image (xs ++ ys) page ≡ true
among_right xs ys page is = ap (λ (o : Option PageParts). is_some o) (last-append xs ys page) ∙ some_first (last_image ys page) (last_image xs page) is

-- ---- sent home

pub one_home : (p : PageParts) (bytes file : List ℕ) → length bytes ≡ PAGE_SIZE → page_at bytes ≡ Ok p → home_start p.number + PAGE_SIZE ≤ length file → AreHome (p ∷ []) file (written (home_start p.number) bytes file)
one_home p bytes file long is fits = record {
  elsewhere = torn_home (has_image (p ∷ [])) p.number file (written (home_start p.number) bytes file) (among_one p)
      (subst (λ n. Torn (home_start p.number) n file (written (home_start p.number) bytes file)) long (torn_written (home_start p.number) bytes file (omega (arith, long, fits))));
  homes = λ page q e.
      let same = last-one p q page e in
      ap (λ n. page_at (home_of n (written (home_start p.number) bytes file))) (sym same.0) ∙ ap page_at (home_written p.number bytes file long fits) ∙ is ∙ ap (λ (x : PageParts). Ok x) same.1;
}
