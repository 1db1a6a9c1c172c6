-- A record is read from its own bytes.
use Rattle.std.proofs.Common.{◌≡◌, ℕ, zero, suc, ◌+◌, ◌*◌, ◌≤◌, Bool, true, false, cond, leb, ◌&&◌, List, [], ◌∷◌, length, get_or, take, drop, Result, Ok, Err, refl, sym, ◌∙◌, ap, arith}
use Rattle.std.specs.Int.{w32, from_be_bytes}
use Rattle.std.proofs.lemmas.Bool.{and_parts, leb-true}
use Rattle.std.proofs.lemmas.List.{take-take, drop-take, get_or-take}
use Rattle.page_image.specs.Pages.{PageParts}
use Rattle.redo_journal.specs.Record.{RecordParts, image_at, images_at, kind_at, is_count, count_at, record_at, grammar, commits_of, commits_in}
use Rattle.redo_journal.specs.Results.{◌>>=◌}
use Rattle.redo_journal.specs.Judging.{IsAreaFaultIn}
use Rattle.redo_journal.specs.declared.kind.Kind.{Kind}
use Rattle.redo_journal.specs.declared.faults.AreaFault.{AreaFault}
use Rattle.redo_journal.specs.declared.faults.AreaFault.TheVariants.{DiskFault, BadRecord, Memory}
use Rattle.redo_journal.specs.Walk.{weights}
use Rattle.redo_journal.proofs.WalkLaws.{IsLocal, ok}
use Rattle.redo_journal.specs.declared.sizes.TheConstants.{PAGE_SIZE, IMAGE_SIZE, FRAME_SIZE}

pub unok : {A : Type 0} (x y : A) → ok x ≡ ok y → x ≡ y
unok x y h = cc

-- the value of a step that did not fail
pub bind_ok : {A B : Type 0} (r : Result A ℕ) (f : A → Result B ℕ) (y : B) → (r >>= f) ≡ Ok y → (x : A) × (r ≡ Ok x) × (f x ≡ Ok y)
bind_ok (Ok x) f y e = (x, refl, e)
bind_ok (Err d) f y e = absurd cc

-- a test that did not fail
pub guard_ok : {A : Type 0} (b : Bool) (d : ℕ) (x y : A) → cond b (Ok x) (Err d) ≡ ok y → (b ≡ true) × (x ≡ y)
guard_ok true d x y e = (refl, unok x y e)
guard_ok false d x y e = absurd cc

-- a piece of two lists that are the same so far
piece_same : (i m k : ℕ) (xs ys : List ℕ) → i + m ≤ k → take k xs ≡ take k ys → take m (drop i xs) ≡ take m (drop i ys)
piece_same i m k xs ys le same =
    sym (drop-take i m xs) ∙ ap (λ (l : List ℕ). drop i l) (sym (take-take (i + m) k xs le) ∙ ap (λ (l : List ℕ). take (i + m) l) same ∙ take-take (i + m) k ys le) ∙ drop-take i m ys

image_same : (pages place low : ℕ) (xs ys : List ℕ) → take 4 xs ≡ take 4 ys → take PAGE_SIZE (drop 4 xs) ≡ take PAGE_SIZE (drop 4 ys) → image_at pages place low xs ≡ image_at pages place low ys
unfolding image_at
image_same pages place low xs ys number image = rw (number, image) refl

bind_same : {A B : Type 0} (r s : Result A ℕ) (f g : A → Result B ℕ) → r ≡ s → ((x : A) → f x ≡ g x) → (r >>= f) ≡ (s >>= g)
bind_same (Ok x) s f g same each = each x ∙ ap (λ (q : Result _ ℕ). q >>= g) same
bind_same (Err at) s f g same each = ap (λ (q : Result _ ℕ). q >>= g) same

images_same : (pages place low n : ℕ) (xs ys : List ℕ) → take (IMAGE_SIZE * n) xs ≡ take (IMAGE_SIZE * n) ys → images_at pages place low n xs ≡ images_at pages place low n ys
unfolding images_at
images_same pages place low zero xs ys same = refl
images_same pages place low (suc n) xs ys same =
    let number : take 4 xs ≡ take 4 ys = piece_same 0 4 (IMAGE_SIZE * suc n) xs ys (omega arith) same in
    let image : take PAGE_SIZE (drop 4 xs) ≡ take PAGE_SIZE (drop 4 ys) = piece_same 4 PAGE_SIZE (IMAGE_SIZE * suc n) xs ys (omega arith) same in
    let rest : (low' : ℕ) → images_at pages (place + IMAGE_SIZE) low' n (drop IMAGE_SIZE xs) ≡ images_at pages (place + IMAGE_SIZE) low' n (drop IMAGE_SIZE ys) = λ low'. images_same pages (place + IMAGE_SIZE) low' n (drop IMAGE_SIZE xs) (drop IMAGE_SIZE ys) (piece_same IMAGE_SIZE (IMAGE_SIZE * n) (IMAGE_SIZE * suc n) xs ys (omega arith) same) in
    bind_same (image_at pages place low xs) (image_at pages place low ys)
    (λ (p : PageParts). images_at pages (place + IMAGE_SIZE) (p.number + 1) n (drop IMAGE_SIZE xs) >>= λ (others : List PageParts). ok (p ∷ others))
    (λ (p : PageParts). images_at pages (place + IMAGE_SIZE) (p.number + 1) n (drop IMAGE_SIZE ys) >>= λ (others : List PageParts). ok (p ∷ others))
    (image_same pages place low xs ys number image)
    (λ p. ap (λ (r : Result (List PageParts) ℕ). r >>= λ (others : List PageParts). ok (p ∷ others)) (rest (p.number + 1)))

pub images_length : (pages place low n : ℕ) (xs : List ℕ) (images : List PageParts) → images_at pages place low n xs ≡ Ok images → length images ≡ n
unfolding images_at
images_length pages place low zero xs images e = ap length (sym (unok [] images e))
images_length pages place low (suc n) xs images e =
    let after_image = λ (image : PageParts). images_at pages (place + IMAGE_SIZE) (image.number + 1) n (drop IMAGE_SIZE xs) >>= λ (others : List PageParts). ok (image ∷ others) in
    let a = bind_ok (image_at pages place low xs) after_image images e in
    let d = bind_ok (images_at pages (place + IMAGE_SIZE) (a.0.number + 1) n (drop IMAGE_SIZE xs)) (λ (others : List PageParts). ok (a.0 ∷ others)) images a.2 in
    let more = images_length pages (place + IMAGE_SIZE) (a.0.number + 1) n (drop IMAGE_SIZE xs) d.0 d.1 in
    let long : length (a.0 ∷ d.0) ≡ suc n = omega (arith, more) in
    ap length (sym (unok (a.0 ∷ d.0) images d.2)) ∙ long

-- how a record was read
pub record Sized (pages place done : ℕ) (bytes : List ℕ) (r : RecordParts) : Type 0 where
  pub kind : Kind
  pub count : ℕ
  pub pages_read : List PageParts
  pub kind_ok : kind_at place done (get_or bytes 0 0) ≡ Ok kind
  pub count_ok : count_at (place + 1) kind (length bytes) (from_be_bytes w32 (take 4 (drop 1 bytes))) ≡ Ok count
  pub images_ok : images_at pages (place + 5) 0 count (drop 5 bytes) ≡ Ok pages_read
  pub whole : record { kind = kind; images = pages_read } ≡ r
  pub images : length r.images ≡ count
  pub room : FRAME_SIZE + IMAGE_SIZE * count ≤ length bytes

pub sized : (pages place done : ℕ) (bytes : List ℕ) (r : RecordParts) → record_at pages place done bytes ≡ Ok r → Sized pages place done bytes r
unfolding record_at
sized pages place done bytes r e =
    let N = from_be_bytes w32 (take 4 (drop 1 bytes)) in
    let after_images = λ (kind : Kind) (images : List PageParts). ok (let q : RecordParts = record { kind = kind; images = images } in q) in
    let after_count = λ (kind : Kind) (count : ℕ). images_at pages (place + 5) 0 count (drop 5 bytes) >>= after_images kind in
    let after_kind = λ (kind : Kind). count_at (place + 1) kind (length bytes) N >>= after_count kind in
    let a = bind_ok (kind_at place done (get_or bytes 0 0)) after_kind r e in
    let b = bind_ok (count_at (place + 1) a.0 (length bytes) N) (after_count a.0) r a.2 in
    let c = bind_ok (images_at pages (place + 5) 0 b.0 (drop 5 bytes)) (after_images a.0) r b.2 in
    let g = guard_ok (leb 5 (length bytes) && (is_count a.0 N && leb (FRAME_SIZE + IMAGE_SIZE * N) (length bytes))) (place + 1) N b.0 b.1 in
    let fits = and_parts (is_count a.0 N) (leb (FRAME_SIZE + IMAGE_SIZE * N) (length bytes)) (and_parts (leb 5 (length bytes)) (is_count a.0 N && leb (FRAME_SIZE + IMAGE_SIZE * N) (length bytes)) g.0).1 in
    let q : RecordParts = record { kind = a.0; images = c.0 } in
    let r_is : q ≡ r = unok q r c.2 in
    record {
      kind = a.0;
      count = b.0;
      pages_read = c.0;
      kind_ok = a.1;
      count_ok = b.1;
      images_ok = c.1;
      whole = r_is;
      images = ap (λ (x : RecordParts). length x.images) (sym r_is) ∙ images_length pages (place + 5) 0 b.0 (drop 5 bytes) c.0 c.1;
      room = omega (arith, leb-true _ _ fits.1, g.1);
    }

record_same : (pages p d : ℕ) (bytes others : List ℕ) (r : RecordParts) → Sized pages p d bytes r → length others ≡ length bytes → take (5 + IMAGE_SIZE * length r.images) others ≡ take (5 + IMAGE_SIZE * length r.images) bytes → record_at pages p d others ≡ Ok r
unfolding record_at
record_same pages p d bytes others r s len agree =
    let n = 5 + IMAGE_SIZE * length r.images in
    let head : get_or others 0 0 ≡ get_or bytes 0 0 = sym (get_or-take n others 0 0 (omega arith)) ∙ ap (λ (x : List ℕ). get_or x 0 0) agree ∙ get_or-take n bytes 0 0 (omega arith) in
    let number : take 4 (drop 1 others) ≡ take 4 (drop 1 bytes) = piece_same 1 4 n others bytes (omega arith) agree in
    let behind : take (IMAGE_SIZE * s.count) (drop 5 others) ≡ take (IMAGE_SIZE * s.count) (drop 5 bytes) = piece_same 5 (IMAGE_SIZE * s.count) n others bytes (omega (arith, s.images)) agree in
    let kind : kind_at p d (get_or others 0 0) ≡ Ok s.kind = ap (kind_at p d) head ∙ s.kind_ok in
    let count : count_at (p + 1) s.kind (length others) (from_be_bytes w32 (take 4 (drop 1 others))) ≡ Ok s.count = rw (len, number) s.count_ok in
    let images : images_at pages (p + 5) 0 s.count (drop 5 others) ≡ Ok s.pages_read = images_same pages (p + 5) 0 s.count (drop 5 others) (drop 5 bytes) behind ∙ s.images_ok in
    rw (kind, count, images) (ap (λ (x : RecordParts). ok x) s.whole)

pub grammar_is_local : (pages : ℕ) → IsLocal (grammar pages)
unfolding grammar
grammar_is_local pages = record {
  fits = λ p d bytes r e. let s = sized pages p d bytes r e in omega (arith, s.images, s.room);
  same = λ p d bytes others r e len agree. record_same pages p d bytes others r (sized pages p d bytes r e) len agree;
}

pub record_read : (pages place done : ℕ) (bytes : List ℕ) (kind : Kind) (count : ℕ) (images : List PageParts) → kind_at place done (get_or bytes 0 0) ≡ Ok kind → count_at (place + 1) kind (length bytes) (from_be_bytes w32 (take 4 (drop 1 bytes))) ≡ Ok count → images_at pages (place + 5) 0 count (drop 5 bytes) ≡ Ok images → record_at pages place done bytes ≡ Ok (record { kind = kind; images = images })
unfolding record_at
record_read pages place done bytes kind count images k n i = rw (k, n, i) refl

-- the fault of a record, at its kind, at its count and at its pages
pub kind_fault : (pages place done : ℕ) (bytes : List ℕ) (fault : AreaFault) → IsAreaFaultIn (kind_at place done (get_or bytes 0 0)) fault → IsAreaFaultIn (record_at pages place done bytes) fault
unfolding record_at
kind_fault pages place done bytes DiskFault is = is
kind_fault pages place done bytes (BadRecord at) is = rw is refl
kind_fault pages place done bytes Memory is = is

pub count_fault : (pages place done : ℕ) (bytes : List ℕ) (kind : Kind) (fault : AreaFault) → kind_at place done (get_or bytes 0 0) ≡ Ok kind → IsAreaFaultIn (count_at (place + 1) kind (length bytes) (from_be_bytes w32 (take 4 (drop 1 bytes)))) fault → IsAreaFaultIn (record_at pages place done bytes) fault
unfolding record_at
count_fault pages place done bytes kind DiskFault k is = is
count_fault pages place done bytes kind (BadRecord at) k is = rw (k, is) refl
count_fault pages place done bytes kind Memory k is = is

pub pages_fault : (pages place done : ℕ) (bytes : List ℕ) (kind : Kind) (count : ℕ) (fault : AreaFault) → kind_at place done (get_or bytes 0 0) ≡ Ok kind → count_at (place + 1) kind (length bytes) (from_be_bytes w32 (take 4 (drop 1 bytes))) ≡ Ok count → IsAreaFaultIn (images_at pages (place + 5) 0 count (drop 5 bytes)) fault → IsAreaFaultIn (record_at pages place done bytes) fault
unfolding record_at
pages_fault pages place done bytes kind count DiskFault k n is = is
pages_fault pages place done bytes kind count (BadRecord at) k n is = rw (k, n, is) refl
pages_fault pages place done bytes kind count Memory k n is = is

pub record_none : (pages place done : ℕ) (bytes : List ℕ) → length bytes ≡ 0 → record_at pages place done bytes ≡ Err place
unfolding record_at kind_at
record_none pages place done [] none = refl
record_none pages place done (b ∷ bytes) none = absurd (omega arith)

pub grammar-at : (pages p d : ℕ) (bytes : List ℕ) → (grammar pages).at p d bytes ≡ record_at pages p d bytes
unfolding grammar
grammar-at pages p d bytes = refl

pub grammar-size : (pages : ℕ) (r : RecordParts) → (grammar pages).size r ≡ 5 + IMAGE_SIZE * length r.images
unfolding grammar
grammar-size pages r = refl

pub grammar-weight : (pages : ℕ) (r : RecordParts) → (grammar pages).weight r ≡ commits_of r.kind
unfolding grammar
grammar-weight pages r = refl

-- a grammar counts the commits
pub weights-commits : (pages : ℕ) (records : List RecordParts) → weights (grammar pages) records ≡ commits_in records
unfolding grammar
weights-commits pages records = refl
