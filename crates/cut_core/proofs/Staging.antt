-- The record of a commit: the pages that a transaction wrote.
use Rattle.std.proofs.Common.{◌≡◌, ℕ, zero, suc, ◌+◌, ◌<◌, ◌≤◌, Bool, true, false, ◌||◌, ◌==◌, if◌then◌else◌, List, [], ◌∷◌, ◌++◌, map, length, take, Option, Some, None, refl, sym, subst, ap, ◌∙◌, arith, get_or}
use Rattle.std.specs.Option.{is_some}
use Rattle.std.specs.List.{AllByRecursion, slice_get}
use Rattle.std.specs.List.Sorted.{IsStrictlyIncreasing}
use Rattle.std.proofs.lemmas.Bool.{eq-eqb}
use Rattle.std.proofs.lemmas.List.{length-map, take-map, take_all}
use Rattle.std.proofs.lemmas.Option.{slice_get_within}
use Rattle.std.specs.Option.{option_and_then}
use Rattle.object_graph.specs.declared.limits.TheConstants.{MOST_WRITTEN}
use Rattle.page_image.specs.Pages.{PageParts}
use Rattle.page_buffer.specs.Frames.{frame_at}
use Rattle.redo_journal.specs.Record.{IsRecordOf, numbers_of, with_image}
use Rattle.redo_journal.specs.Replays.{later, last_image, has_image}
use Rattle.store_model.specs.Worlds.{World, Transaction, transaction, view}
use Rattle.store_model.specs.Causes.{has_page}
use Rattle.store_model.specs.Images.{shown_in}
use Rattle.image_model.specs.Records.{AreOfCommit, commit_record}
use Rattle.transactions.specs.Tables.{OpenParts, entry_of, pages_in, written_at, IsAscending}
use Rattle.transactions.specs.Standing.{TransactionsParts, IsReady, IsReadyForSome, image_in, wrote}
use Rattle.transactions.proofs.Numbers.{transaction_found}
use Rattle.transactions.proofs.Opened.{IsOpened, opened, wrote_within}
use Rattle.cut_core.specs.Writing.{images_written}

-- ---- lists

or_right : (a b : Bool) → b ≡ true → (a || b) ≡ true
or_right true b e = refl
or_right false b e = e

all_pages : (P : ℕ → Type 0) (pages : List ℕ) → ((page : ℕ) → has_page pages page ≡ true → P page) → AllByRecursion P pages
all_pages P [] h = tt
all_pages P (p ∷ ps) h = (h p (ap (λ b. b || has_page ps p) (eq-eqb p p refl)), all_pages P ps (λ page m. h page (or_right (p == page) (has_page ps page) m)))

all_map : {A B : Type 0} (f : A → B) (P : A → Type 0) (Q : B → Type 0) (xs : List A) → ((x : A) → P x → Q (f x)) → AllByRecursion P xs → AllByRecursion Q (map f xs)
all_map f P Q [] more h = tt
all_map f P Q (x ∷ xs) more h = (more x h.0, all_map f P Q xs more h.1)

all_front : {A : Type 0} (P : A → Type 0) (n : ℕ) (xs : List A) → AllByRecursion P xs → AllByRecursion P (take n xs)
all_front P zero xs h = tt
all_front P (suc n) [] h = tt
all_front P (suc n) (x ∷ xs) h = (h.0, all_front P n xs h.1)

short_front : {A : Type 0} (n : ℕ) (xs : List A) → length (take n xs) ≤ length xs
short_front zero xs = omega arith
short_front (suc n) [] = omega arith
short_front (suc n) (x ∷ xs) = let h = short_front n xs in omega arith

at_front : (n k : ℕ) (xs : List ℕ) → k < length (take n xs) → get_or (take n xs) k 0 ≡ get_or xs k 0
at_front zero k xs h = absurd (omega (arith, h))
at_front (suc n) k [] h = absurd (omega (arith, h))
at_front (suc n) zero (x ∷ xs) h = refl
at_front (suc n) (suc k) (x ∷ xs) h = at_front n k xs (omega (arith, h))

increasing_front : (n : ℕ) (xs : List ℕ) → IsStrictlyIncreasing xs → IsStrictlyIncreasing (take n xs)
increasing_front n xs up k h =
    let long = short_front n xs in
    let low : get_or (take n xs) k 0 ≡ get_or xs k 0 = at_front n k xs (omega (arith, h)) in
    let high : get_or (take n xs) (k + 1) 0 ≡ get_or xs (k + 1) 0 = at_front n (k + 1) xs h in
    let less : get_or xs k 0 < get_or xs (k + 1) 0 = up k (omega (arith, h, long)) in
    omega (arith, low, high, less)

-- ---- fronts of a record

-- the first images of a record are those of a record
pub front_of_record : (pages n : ℕ) (images : List PageParts) → IsRecordOf pages (commit_record images) → IsRecordOf pages (commit_record (take n images))
front_of_record pages n images h = record {
  few = (let short = short_front n images in let few = h.few in omega arith);
  sweep = λ is. absurd cc;
  ascending = subst IsStrictlyIncreasing (take-map (λ (p : PageParts). p.number) n images) (increasing_front n (numbers_of images) h.ascending);
  below = all_front (λ p. p.number < pages) n images h.below;
}

-- ---- the images

among_by : (p : PageParts) (o : Option PageParts) (b h : Bool) → is_some o ≡ h → is_some (later o (if b then Some p else None)) ≡ (b || h)
among_by p (Some x) true h e = refl
among_by p (Some x) false h e = e
among_by p None true h e = refl
among_by p None false h e = e

-- an image is that of a page whose number is among the images' numbers
among_numbers : (images : List PageParts) (page : ℕ) → has_image images page ≡ has_page (numbers_of images) page
among_numbers [] page = refl
among_numbers (p ∷ ps) page = among_by p (last_image ps page) (p.number == page) (has_page (numbers_of ps) page) (among_numbers ps page)

abbrev seen_in : TransactionsParts → ℕ → PageParts
seen_in s page = (frame_at s.frames page).current

-- each page that it wrote is seen in its frame
pub page_seen : (s : TransactionsParts) (w : World) (txn : ℕ) (e : OpenParts) (page : ℕ) → IsOpened s w txn e → has_page e.written page ≡ true
    → (page < w.pages) × (seen_in s page ≡ image_in w (view w (transaction w txn)) page)
page_seen s w txn e page o h =
    let did : wrote w txn page ≡ true = ap (λ (x : Transaction). has_page x.pages_written page) (transaction_found w txn o.of o.found) ∙ (sym (o.entry.written.each page) ∙ h) in
    let low : page < w.pages = o.ready.stands.frames.written txn page did in
    (low, (o.ready.stands.frames.each page low).current txn did)

abbrev IsSeen : TransactionsParts → World → ℕ → ℕ → Type 0
IsSeen s w txn page = (page < w.pages) × (seen_in s page ≡ image_in w (view w (transaction w txn)) page)

all_seen : (s : TransactionsParts) (w : World) (txn : ℕ) (e : OpenParts) → IsOpened s w txn e → AllByRecursion (IsSeen s w txn) e.written
all_seen s w txn e o = all_pages (IsSeen s w txn) e.written (λ page h. page_seen s w txn e page o h)

all_numbers : (s : TransactionsParts) (w : World) (txn : ℕ) (pages : List ℕ) → AllByRecursion (IsSeen s w txn) pages → numbers_of (map (seen_in s) pages) ≡ pages
all_numbers s w txn [] h = refl
all_numbers s w txn (p ∷ ps) h = ap (λ n. n ∷ numbers_of (map (seen_in s) ps)) (ap (λ (q : PageParts). q.number) h.0.1) ∙ ap (λ ns. p ∷ ns) (all_numbers s w txn ps h.1)

-- the images show what the transaction sees
shown_of_entry : (s : TransactionsParts) (w : World) (txn : ℕ) (e : OpenParts) → IsOpened s w txn e → AreOfCommit w (transaction w txn) (map (seen_in s) e.written)
shown_of_entry s w txn e o =
    let t = transaction w txn in
    let images = map (seen_in s) e.written in
    let seen = all_seen s w txn e o in
    let numbers : numbers_of images ≡ e.written = all_numbers s w txn e.written seen in
    record {
      shows = all_map (seen_in s) (IsSeen s w txn) (λ p. p.slots ≡ shown_in w (view w t) p.number) e.written
          (λ page h. ap (λ (p : PageParts). p.slots) h.1 ∙ ap (shown_in w (view w t)) (sym (ap (λ (p : PageParts). p.number) h.1))) seen;
      all = λ page none.
          (ap (λ (x : Transaction). has_page x.pages_written page) (transaction_found w txn o.of o.found) ∙ sym (o.entry.written.each page))
          ∙ (sym (ap (λ ns. has_page ns page) numbers) ∙ (sym (among_numbers images page) ∙ none));
    }

-- and fit into a record
fits_of_entry : (s : TransactionsParts) (w : World) (txn : ℕ) (e : OpenParts) → IsOpened s w txn e → IsAscending e.written → length e.written ≤ MOST_WRITTEN
    → IsRecordOf w.pages (commit_record (map (seen_in s) e.written))
fits_of_entry s w txn e o up few =
    let seen = all_seen s w txn e o in
    record {
      few = subst (λ n. n ≤ MOST_WRITTEN) (sym (length-map e.written (seen_in s))) few;
      sweep = λ is. absurd cc;
      ascending = subst IsStrictlyIncreasing (sym (all_numbers s w txn e.written seen)) (λ k h. up k (k + 1) (omega arith) h);
      below = all_map (seen_in s) (IsSeen s w txn) (λ p. p.number < w.pages) e.written (λ page h. subst (λ n. n < w.pages) (sym (ap (λ (p : PageParts). p.number) h.1)) h.0) seen;
    }

-- the images that a commit's record has, of a transaction that is open
pub entry_there : {A : Type 0} (o : Option A) → is_some o ≡ true → (e : A) × (o ≡ Some e)
entry_there None h = absurd cc
entry_there (Some e) h = (e, refl)

pub written_images : (s : TransactionsParts) (w : World) (txn : ℕ) (e : OpenParts) → entry_of s.table txn ≡ Some e → IsReady s w → AreOfCommit w (transaction w txn) (images_written s txn)
written_images s w txn e is ready =
    subst (AreOfCommit w (transaction w txn)) (sym (ap (λ o. map (seen_in s) (pages_in o)) is)) (shown_of_entry s w txn e (opened s s w txn e refl is ready))

-- ---- one page more

mapped_more : (f : ℕ → PageParts) (pages : List ℕ) (at page : ℕ) → slice_get pages at ≡ Some page → take (suc at) (map f pages) ≡ take at (map f pages) ++ f page ∷ []
mapped_more f [] at page is = absurd cc
mapped_more f (p ∷ ps) zero page is = (let same : p ≡ page = cc in ap (λ q. f q ∷ []) same)
mapped_more f (p ∷ ps) (suc at) page is = ap (λ ys. f p ∷ ys) (mapped_more f ps at page is)

pub has_there : (pages : List ℕ) (at page : ℕ) → slice_get pages at ≡ Some page → has_page pages page ≡ true
has_there [] at page is = absurd cc
has_there (p ∷ ps) zero page is = (let same : p ≡ page = cc in ap (λ b. b || has_page ps page) (eq-eqb p page same))
has_there (p ∷ ps) (suc at) page is = or_right (p == page) (has_page ps page) (has_there ps at page is)

pub entry_found : (o : Option OpenParts) (at page : ℕ) → option_and_then (λ (e : OpenParts). slice_get e.written at) o ≡ Some page → (e : OpenParts) × (o ≡ Some e) × (slice_get e.written at ≡ Some page)
entry_found None at page is = absurd cc
entry_found (Some e) at page is = (e, refl, is)

-- the page at this place can be staged behind those before it
pub record IsNextPage (s : TransactionsParts) (pages txn at page : ℕ) : Type 0 where
  pub low : page < length s.frames
  pub fits : IsRecordOf pages (with_image (seen_in s page) (commit_record (take at (images_written s txn))))
  pub more : take (at + 1) (images_written s txn) ≡ take at (images_written s txn) ++ seen_in s page ∷ []
  pub few : at < MOST_WRITTEN
  pub within : at < length (images_written s txn)

pub next_page : (s : TransactionsParts) (pages txn at page : ℕ) → IsReadyForSome s → pages ≡ length s.frames → written_at s.table txn at ≡ Some page
    → ((e : OpenParts) → entry_of s.table txn ≡ Some e → IsAscending e.written) → ((e : OpenParts) → entry_of s.table txn ≡ Some e → length e.written ≤ MOST_WRITTEN)
    → IsNextPage s pages txn at page
next_page s pages txn at page ready count is up few =
    let found = entry_found (entry_of s.table txn) at page is in
    let w = ready.0 in
    let e = found.0 in
    let o = opened s s w txn e refl found.1 ready.1 in
    let images : images_written s txn ≡ map (seen_in s) e.written = ap (λ o. map (seen_in s) (pages_in o)) found.1 in
    let all = fits_of_entry s w txn e o (up e found.1) (few e found.1) in
    let step : at + 1 ≡ suc at = omega arith in
    let more : take (at + 1) (images_written s txn) ≡ take at (images_written s txn) ++ seen_in s page ∷ [] =
    subst (λ xs. take (at + 1) xs ≡ take at xs ++ seen_in s page ∷ []) (sym images) (ap (λ n. take n (map (seen_in s) e.written)) step ∙ mapped_more (seen_in s) e.written at page found.2) in
    let front = front_of_record w.pages (at + 1) (images_written s txn) (subst (λ xs. IsRecordOf w.pages (commit_record xs)) (sym images) all) in
    let same : w.pages ≡ pages = sym (count ∙ o.ready.stands.frames.count) in
    let low : at < length e.written = slice_get_within e.written at page found.2 in
    let long : length (images_written s txn) ≡ length e.written = ap length images ∙ length-map e.written (seen_in s) in
    record {
      low = wrote_within s w txn e page o (has_there e.written at page found.2);
      fits = subst (λ n. IsRecordOf n (commit_record (take at (images_written s txn) ++ seen_in s page ∷ []))) same (subst (λ xs. IsRecordOf w.pages (commit_record xs)) more front);
      more = more;
      few = (let f = few e found.1 in omega (arith, low, f));
      within = omega (arith, low, long);
    }

pub none_left : (o : Option OpenParts) (at : ℕ) → option_and_then (λ (e : OpenParts). slice_get e.written at) o ≡ None → length (pages_in o) ≤ at
none_left None at is = omega arith
none_left (Some e) at is = past e.written at is
  where
    past : (pages : List ℕ) (at : ℕ) → slice_get pages at ≡ None → length pages ≤ at
    past [] at is = omega arith
    past (p ∷ ps) zero is = absurd cc
    past (p ∷ ps) (suc at) is = let h = past ps at is in omega arith

-- behind the last page all are staged
pub all_staged : (s : TransactionsParts) (txn at : ℕ) → written_at s.table txn at ≡ None → take at (images_written s txn) ≡ images_written s txn
all_staged s txn at is =
    let h = none_left (entry_of s.table txn) at is in
    take_all at (images_written s txn) (let long = length-map (pages_in (entry_of s.table txn)) (seen_in s) in omega (arith, h, long))

pub none_of : {A : Type 0} (o : Option A) → ((x : A) → o ≡ Some x → ⊥) → o ≡ None
none_of None h = refl
none_of (Some x) h = absurd (h x refl)

-- they are at most as many as a transaction can write
pub few_staged : (s : TransactionsParts) (txn : ℕ) → is_some (entry_of s.table txn) ≡ true → ((e : OpenParts) → entry_of s.table txn ≡ Some e → length e.written ≤ MOST_WRITTEN) → length (images_written s txn) ≤ MOST_WRITTEN
few_staged s txn there few =
    let e = entry_there (entry_of s.table txn) there in
    let long : length (images_written s txn) ≡ length e.0.written = ap (λ o. length (map (seen_in s) (pages_in o))) e.1 ∙ length-map e.0.written (seen_in s) in
    let least = few e.0 e.1 in
    omega (arith, long, least)
