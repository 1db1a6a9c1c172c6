-- A record is read from its spelling.
use Rattle.std.proofs.Common.{◌≡◌, ℕ, suc, ◌+◌, ◌*◌, ◌^◌, ◌<◌, ◌≤◌, true, leb, List, [], ◌∷◌, ◌++◌, length, take, drop, Ok, refl, sym, ◌∙◌, ap, arith, append_assoc, length-append}
use Rattle.std.specs.List.{AllByRecursion, flat_map}
use Rattle.std.specs.Int.{w32, to_be_bytes, from_be_bytes}
use Rattle.std.proofs.lemmas.Bool.{le-leb, lt-ltb, eq-eqb}
use Rattle.std.proofs.lemmas.List.{take_at, drop_at}
use Rattle.std.proofs.lemmas.List.Concat.{flat_map-cons}
use Rattle.std.proofs.lemmas.Nat.{from_be_bytes-to_be_bytes_4}
use Rattle.page_image.specs.Pages.{PageParts}
use Rattle.page_image.specs.Fields.{page_at}
use Rattle.page_image.specs.Spelling.{page_bytes}
use Rattle.redo_journal.specs.Area.{IsStaged}
use Rattle.redo_journal.specs.Results.{from_place}
use Rattle.redo_journal.specs.Record.{RecordParts, ReadsBack, IsRecordOf, image_at, images_at, kind_at, is_count, count_at, record_at, grammar, image_bytes, kind_byte, record_bytes}
use Rattle.redo_journal.specs.declared.kind.Kind.{Kind}
use Rattle.redo_journal.specs.declared.kind.Kind.TheVariants.{Commit, Sweep}
use Rattle.redo_journal.proofs.GrammarLaws.{record_read, grammar-at, grammar-size}
use Rattle.redo_journal.proofs.ImageReads.{image_is}
use Rattle.redo_journal.proofs.Laying.{Rises, to_rises, any_start}
use Rattle.redo_journal.specs.declared.sizes.TheConstants.{PAGE_SIZE, IMAGE_SIZE, FRAME_SIZE}
use Rattle.object_graph.specs.declared.limits.TheConstants.{MOST_COUNTED, MOST_WRITTEN}

-- ---- one page

image_front : (p : PageParts) (more : List ℕ) → image_bytes p ++ more ≡ to_be_bytes w32 p.number ++ (page_bytes p ++ more)
image_front p more = append_assoc (to_be_bytes w32 p.number) (page_bytes p) more

page_front : (p : PageParts) (more : List ℕ) → length (page_bytes p) ≡ PAGE_SIZE → take PAGE_SIZE (drop 4 (image_bytes p ++ more)) ≡ page_bytes p
page_front p more long = ap (λ (l : List ℕ). take PAGE_SIZE (drop 4 l)) (image_front p more) ∙ take_at (page_bytes p) more PAGE_SIZE long

pub image_behind : (p : PageParts) (more : List ℕ) → length (page_bytes p) ≡ PAGE_SIZE → drop IMAGE_SIZE (image_bytes p ++ more) ≡ more
image_behind p more long = drop_at (image_bytes p) more IMAGE_SIZE (omega (arith, long))

image_read : (pages place low : ℕ) (p : PageParts) (more : List ℕ) → low ≤ p.number → p.number < pages → pages ≤ 2 ^ 32 → ReadsBack p → image_at pages place low (image_bytes p ++ more) ≡ Ok p
image_read pages place low p more le lt small back =
    let number : from_be_bytes w32 (take 4 (image_bytes p ++ more)) ≡ p.number = from_be_bytes-to_be_bytes_4 p.number (omega (arith, lt, small)) in
    image_is pages place low (image_bytes p ++ more) p (omega (arith, le, number)) (omega (arith, lt, number)) (ap (λ (l : List ℕ). from_place (place + 4) (page_at l)) (page_front p more back.long) ∙ ap (from_place (place + 4)) back.again) (sym number)

-- ---- the pages of a record

images_read : (pages place low : ℕ) (images : List PageParts) (rest : List ℕ) → pages ≤ 2 ^ 32 → Rises low images → AllByRecursion (λ p. p.number < pages) images → AllByRecursion ReadsBack images
    → images_at pages place low (length images) (flat_map image_bytes images ++ rest) ≡ Ok images
unfolding images_at
images_read pages place low [] rest small rises below back = refl
images_read pages place low (p ∷ ps) rest small rises below back =
    let more = flat_map image_bytes ps ++ rest in
    let bytes : flat_map image_bytes (p ∷ ps) ++ rest ≡ image_bytes p ++ more = ap (λ (l : List ℕ). l ++ rest) (flat_map-cons image_bytes p ps) ∙ append_assoc (image_bytes p) (flat_map image_bytes ps) rest in
    let here = image_read pages place low p more rises.0 below.0 small back.0 in
    let others = images_read pages (place + IMAGE_SIZE) (p.number + 1) ps rest small rises.1 below.1 back.1 in
    let there : images_at pages (place + IMAGE_SIZE) (p.number + 1) (length ps) (drop IMAGE_SIZE (image_bytes p ++ more)) ≡ Ok ps = ap (λ (l : List ℕ). images_at pages (place + IMAGE_SIZE) (p.number + 1) (length ps) l) (image_behind p more back.0.long) ∙ others in
    ap (λ (l : List ℕ). images_at pages place low (suc (length ps)) l) bytes ∙ rw (here, there) refl

length-images : (images : List PageParts) → AllByRecursion ReadsBack images → length (flat_map image_bytes images) ≡ IMAGE_SIZE * length images
length-images [] back = refl
length-images (p ∷ ps) back =
    omega (arith, ap length (flat_map-cons image_bytes p ps), length-append (image_bytes p) (flat_map image_bytes ps), length-append (to_be_bytes w32 p.number) (page_bytes p), back.0.long, length-images ps back.1)

pub length-record : (r : RecordParts) → AllByRecursion ReadsBack r.images → length (record_bytes r) ≡ 5 + IMAGE_SIZE * length r.images
length-record r back = omega (arith, length-images r.images back)

-- ---- the record

kind_again : (kind : Kind) (place done : ℕ) → (kind ≡ Commit → done < MOST_COUNTED) → kind_at place done (kind_byte kind) ≡ Ok kind
unfolding kind_at
kind_again Commit place done unspent = rw (lt-ltb done MOST_COUNTED (unspent refl)) refl
kind_again Sweep place done unspent = refl

counts : (kind : Kind) (count : ℕ) → count ≤ MOST_WRITTEN → (kind ≡ Sweep → count ≡ 1) → is_count kind count ≡ true
counts Commit count few one = le-leb count MOST_WRITTEN few
counts Sweep count few one = eq-eqb count 1 (one refl)

count_again : (kind : Kind) (place left count : ℕ) → count ≤ MOST_WRITTEN → (kind ≡ Sweep → count ≡ 1) → FRAME_SIZE + IMAGE_SIZE * count ≤ left → count_at place kind left count ≡ Ok count
count_again kind place left count few one fits =
    let five : leb 5 left ≡ true = le-leb 5 left (omega (arith, fits)) in
    rw (five, counts kind count few one, le-leb (FRAME_SIZE + IMAGE_SIZE * count) left fits) refl

module _ (pages : ℕ) (r : RecordParts) (is : IsRecordOf pages r) (one : r.kind ≡ Sweep → length r.images ≡ 1) (back : AllByRecursion ReadsBack r.images) (small : pages ≤ 2 ^ 32) where
  record_again : (place done : ℕ) (rest : List ℕ) → (r.kind ≡ Commit → done < MOST_COUNTED) → record_at pages place done (record_bytes r ++ 0 ∷ rest) ≡ Ok r
  record_again place done rest unspent =
      let n = length r.images in
      let bytes = record_bytes r ++ 0 ∷ rest in
      let number : from_be_bytes w32 (take 4 (drop 1 bytes)) ≡ n = from_be_bytes-to_be_bytes_4 n (omega (arith, is.few)) in
      let fits : FRAME_SIZE + IMAGE_SIZE * n ≤ length bytes = omega (arith, length-append (record_bytes r) (0 ∷ rest), length-record r back) in
      record_read pages place done bytes r.kind n r.images
      (kind_again r.kind place done unspent)
      (ap (λ (m : ℕ). count_at (place + 1) r.kind (length bytes) m) number ∙ count_again r.kind (place + 1) (length bytes) n is.few one fits)
      (images_read pages (place + 5) 0 r.images (0 ∷ rest) small (to_rises 0 r.images (any_start r.images) is.ascending) is.below back)

  pub spelled_record : (done : ℕ) (bytes : List ℕ) → (r.kind ≡ Commit → done < MOST_COUNTED) → bytes ≡ record_bytes r ++ 0 ∷ [] → IsStaged (grammar pages) done r bytes
  spelled_record done bytes unspent ends = record {
    body = record_bytes r;
    ends = ends;
    size = grammar-size pages r ∙ sym (length-record r back);
    reads = λ place rest. grammar-at pages place done (record_bytes r ++ 0 ∷ rest) ∙ record_again place done rest unspent;
  }
