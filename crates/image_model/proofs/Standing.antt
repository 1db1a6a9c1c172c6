-- Which files stand for which states.
use Rattle.std.proofs.Common.{◌≡◌, ℕ, ◌+◌, ◌-◌, ◌<◌, ◌≤◌, List, [], ◌∷◌, map, length, take, Option, Some, None, Result, Ok, refl, sym, ◌∙◌, ap, subst, arith, ◌⊎◌, inl, inr}
use Rattle.std.proofs.lemmas.Bool.{cases_lt}
use Rattle.std.proofs.lemmas.List.{length-map}
use Rattle.disk_trait.specs.Disk.{Torn}
use Rattle.object_graph.specs.SlotParts.{SlotParts}
use Rattle.object_graph.specs.Slots.{below}
use Rattle.object_graph.proofs.Members.{In}
use Rattle.page_image.specs.Pages.{PageParts}
use Rattle.redo_journal.specs.Area.{area_of, area_start}
use Rattle.redo_journal.specs.declared.sizes.TheConstants.{AREA_SIZE}
use Rattle.redo_journal.specs.Homes.{DiffersInHomes}
use Rattle.redo_journal.specs.Record.{RecordParts, commits_of, numbers_of}
use Rattle.redo_journal.specs.Replays.{last_image, is_named}
use Rattle.redo_journal.proofs.GrammarLaws.{unok, bind_ok, grammar-weight}
use Rattle.redo_journal.specs.Results.{◌>>=◌}
use Rattle.store_model.proofs.Cuts.{below_bound}
use Rattle.store_model.proofs.Flats.{length_below}
use Rattle.store_model.specs.States.{State, shown_by}
use Rattle.image_model.specs.Super.{SuperParts, super_at, super_of, super_size}
use Rattle.image_model.specs.Opening.{StoreParts, page_slots, final_at, each_of, counted_of}
use Rattle.image_model.specs.Stores.{IsRooted}
use Rattle.image_model.specs.Stands.{all_shown_by, StandsFor}
use Rattle.image_model.specs.Records.{slots_or, IsAfterRecord}
use Rattle.image_model.proofs.Openings.{ok, Opens, opens_parts, from_opens, opens_alike, opens_named, unsome, front_same, behind_same, home_behind, piece_same, area_below}
use Rattle.image_model.proofs.RecordSteps.{final_number, with_record, or_image, laid}

-- ---- the pages of what is opened

each_numbers : (f : ℕ → Result PageParts ℕ) (ns : List ℕ) (xs : List PageParts) → ((n : ℕ) (p : PageParts) → f n ≡ Ok p → p.number ≡ n) → each_of f ns ≡ Ok xs → numbers_of xs ≡ ns
each_numbers f [] xs h e = ap numbers_of (sym (unok [] xs e))
each_numbers f (n ∷ ns) xs h e =
    let after = λ (x : PageParts). each_of f ns >>= λ (more : List PageParts). ok (x ∷ more) in
    let a = bind_ok (f n) after xs e in
    let b = bind_ok (each_of f ns) (λ (more : List PageParts). ok (a.0 ∷ more)) xs a.2 in
    ap numbers_of (sym (unok (a.0 ∷ b.0) xs b.2))
    ∙ ap (λ (k : ℕ). k ∷ numbers_of b.0) (h n a.0 a.1)
    ∙ ap (λ (l : List ℕ). n ∷ l) (each_numbers f ns b.0 h b.1)

-- page p stands at place p
pub opened_numbers : (file : List ℕ) (store : StoreParts) (h : Opens file store) → numbers_of store.pages ≡ below h.super.pages
opened_numbers file store h = each_numbers (final_at h.held.records file) (below h.super.pages) store.pages (final_number h.held.records file) h.finals

pub opened_length : (file : List ℕ) (store : StoreParts) (h : Opens file store) → length store.pages ≡ h.super.pages
opened_length file store h = sym (length-map store.pages (λ (p : PageParts). p.number)) ∙ ap length (opened_numbers file store h) ∙ length_below h.super.pages

pub standing_length : (file : List ℕ) (pages : ℕ) (s : State) (h : StandsFor file pages s) → length h.content.pages ≡ pages
standing_length file pages s h =
    sym (length-map h.content.pages (λ (p : PageParts). p.slots)) ∙ ap length h.shows ∙ length-map (below pages) (shown_by s) ∙ length_below pages

-- the super block says the pages
pub standing_pages : (file : List ℕ) (pages : ℕ) (s : State) (h : StandsFor file pages s) (p : Opens file h.content) → p.super.pages ≡ pages
standing_pages file pages s h p = sym (opened_length file h.content p) ∙ standing_length file pages s h

-- ---- files that stand for the same

pub stands_as : (file other : List ℕ) (pages : ℕ) (s : State) (h : StandsFor file pages s) → Opens other h.content → StandsFor other pages s
stands_as file other pages s h p = record {
  content = h.content;
  store = record { opens = from_opens other h.content p; rooted = h.store.rooted };
  shows = h.shows;
  commits = h.commits;
  state = h.state;
}

pub homes_named_are_free : (file other : List ℕ) (pages : ℕ) (s : State) → StandsFor file pages s → DiffersInHomes (is_named (counted_of file)) file other → StandsFor other pages s
homes_named_are_free file other pages s h d = stands_as file other pages s h (opens_named file other h.content (opens_parts file h.content h.store.opens) d)

-- one area is kept where the other is torn
pub area_kept : (a size : ℕ) (file other : List ℕ) → a < 2 → size ≤ AREA_SIZE → Torn (area_start (1 - a)) size file other → area_of a other ≡ area_of a file
area_kept a size file other small few torn = by_area (cases_lt a 1)
  where
    by_area : (a < 1) ⊎ (1 ≤ a) → area_of a other ≡ area_of a file
    by_area (inl first) = piece_same (area_start a) AREA_SIZE (area_start (1 - a)) other file (omega (arith, first)) torn.before
    by_area (inr second) = ap (λ (l : List ℕ). take AREA_SIZE l) (behind_same (area_start (1 - a) + size) (area_start a) other file (omega (arith, second, small, few)) torn.after)

pub other_area_is_free : (file other : List ℕ) (pages size : ℕ) (s : State) (super : SuperParts) → StandsFor file pages s → super_of file ≡ Some super → size ≤ AREA_SIZE
    → Torn (area_start (1 - super.area)) size file other → StandsFor other pages s
other_area_is_free file other pages size s super h head few torn =
    let p = opens_parts file h.content h.store.opens in
    let same : super ≡ p.super = unsome super p.super (sym head ∙ p.head) in
    let here : Torn (area_start (1 - p.super.area)) size file other = subst (λ (x : SuperParts). Torn (area_start (1 - x.area)) size file other) same torn in
    let small = area_below file p.super p.head in
    stands_as file other pages s h (opens_alike file other h.content p here.same_length
    (ap super_at (front_same super_size (area_start (1 - p.super.area)) other file (omega arith) here.before) ∙ p.head)
    (area_kept p.super.area size file other small few here)
    (λ page lt none. home_behind page (area_start (1 - p.super.area) + size) other file (omega (arith, few)) here.after))

-- ---- one more record

slots_laid : (images : List PageParts) (p : PageParts) (n : ℕ) (old new : List SlotParts) → p.number ≡ n → p.slots ≡ old → new ≡ slots_or old (last_image images n) → (laid images p).slots ≡ new
slots_laid images p n old new is was e =
    ap (λ (k : ℕ). (or_image (last_image images k) p).slots) is ∙ by_image (last_image images n) ∙ sym e
  where
    by_image : (image : Option PageParts) → (or_image image p).slots ≡ slots_or old image
    by_image (Some q) = refl
    by_image None = was

shows_after : (images : List PageParts) (s t : ℕ → List SlotParts) (ns : List ℕ) (xs : List PageParts) → numbers_of xs ≡ ns → page_slots xs ≡ map s ns
    → ((n : ℕ) → In n ns → t n ≡ slots_or (s n) (last_image images n)) → page_slots (map (laid images) xs) ≡ map t ns
shows_after images s t [] [] numbers was h = refl
shows_after images s t (n ∷ ns) [] numbers was h = absurd cc
shows_after images s t [] (x ∷ xs) numbers was h = absurd cc
shows_after images s t (n ∷ ns) (x ∷ xs) numbers was h =
    let first : x.number ≡ n = cc in
    let more : numbers_of xs ≡ ns = cc in
    let here : x.slots ≡ s n = cc in
    let others : page_slots xs ≡ map s ns = cc in
    let now : (laid images x).slots ≡ t n = slots_laid images x n (s n) (t n) first here (h n (inl refl)) in
    let rest : page_slots (map (laid images) xs) ≡ map t ns = shows_after images s t ns xs more others (λ m i. h m (inr i)) in
    ap (λ (l : List SlotParts). l ∷ page_slots (map (laid images) xs)) now ∙ ap (λ (l : List (List SlotParts)). t n ∷ l) rest

-- the file opens to one record more, so it stands for the state after it
pub stands_after : (file other : List ℕ) (pages : ℕ) (s t : State) (new : RecordParts) (h : StandsFor file pages s) → Opens other (with_record pages new h.content) → IsAfterRecord pages new s t → StandsFor other pages t
stands_after file other pages s t new h opens after =
    let p = opens_parts file h.content h.store.opens in
    let shows : page_slots (map (laid new.images) h.content.pages) ≡ all_shown_by pages t =
    shows_after new.images (shown_by s) (shown_by t) (below pages) h.content.pages
    (opened_numbers file h.content p ∙ ap below (standing_pages file pages s h p)) h.shows (λ n i. after.images n (below_bound pages n i)) in
    record {
      content = with_record pages new h.content;
      store = record {
        opens = from_opens other (with_record pages new h.content) opens;
        rooted = subst IsRooted (sym shows) after.state.rooted;
      };
      shows = shows;
      commits = ap (λ (n : ℕ). h.content.commits + n) (grammar-weight pages new) ∙ ap (λ (n : ℕ). n + commits_of new.kind) h.commits ∙ sym after.commits;
      state = after.state;
    }
