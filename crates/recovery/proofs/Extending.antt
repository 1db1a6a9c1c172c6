-- Files that are written from their beginning on.
use Rattle.std.proofs.Common.{◌≡◌, ℕ, suc, ◌+◌, ◌-◌, ◌*◌, ◌<◌, ◌≤◌, List, [], ◌∷◌, ◌++◌, length, get_or, take, drop, replicate, Option, Some, None, Ok, refl, sym, ◌∙◌, ap, subst, arith, append-nil, length-append}
use Rattle.std.specs.Prelude.{IfSome, option_map, codes}
use Rattle.std.specs.Int.{w32, w64, to_be_bytes}
use Rattle.std.specs.List.{AllByRecursion, flat_map}
use Rattle.std.proofs.lemmas.List.{take-append-drop, drop-replicate, length-replicate, replicate-append-replicate, append_assoc, take_at, length-take-le, take_all, take_more}
use Rattle.std.proofs.Common.{take-add}
use Rattle.std.proofs.lemmas.Grind.{flat_map-append}
use Rattle.disk_trait.specs.Disk.{written}
use Rattle.page_image.specs.Pages.{PageParts}
use Rattle.page_image.specs.Fields.{page_at}
use Rattle.page_image.specs.Spelling.{page_bytes}
use Rattle.redo_journal.specs.declared.sizes.TheConstants.{AREA_SIZE, HOMES_START}
use Rattle.redo_journal.specs.Homes.{home_start, store_size}
use Rattle.redo_journal.specs.Record.{ReadsBack}
use Rattle.redo_journal.specs.Sending.{empty_area}
use Rattle.image_model.specs.Super.{super_bytes}
use Rattle.image_model.specs.Files.{area_bytes, store_bytes, IsLaid}
use Rattle.image_model.proofs.LaidFiles.{super_length}
use Rattle.recovery.specs.Writing.{IsFront, Extends}

-- ---- one write

front_written : (at : ℕ) (bytes c : List ℕ) → at + length bytes ≤ length c → take (at + length bytes) (written at bytes c) ≡ take at c ++ bytes
front_written at bytes c fits =
    take_at (take at c ++ bytes) (drop (at + length bytes) c) (at + length bytes) (length-append (take at c) bytes ∙ ap (λ (n : ℕ). n + length bytes) (length-take-le at c (omega (arith, fits))))

pub put_extends : (at : ℕ) (bytes : List ℕ) (old new : Option (List ℕ)) → ((c : List ℕ) → old ≡ Some c → at + length bytes ≤ length c) → new ≡ option_map (written at bytes) old → Extends at (at + length bytes) bytes old new
put_extends at bytes None new within is = record { front = λ before h. subst (λ (o : Option (List ℕ)). IsFront (at + length bytes) (before ++ bytes) o) (sym is) tt }
put_extends at bytes (Some c) new within is = record {
  front = λ before h. subst (λ (o : Option (List ℕ)). IsFront (at + length bytes) (before ++ bytes) o) (sym is) (front_written at bytes c (within c refl) ∙ ap (λ (l : List ℕ). l ++ bytes) h);
}

-- ---- several

pub extends_none : (at to : ℕ) (bytes : List ℕ) (content : Option (List ℕ)) → to ≡ at → bytes ≡ [] → Extends at to bytes content content
extends_none at to bytes content to_is is = record {
  front = λ before h. subst (λ (n : ℕ). IsFront n (before ++ bytes) content) (sym to_is) (subst (λ (l : List ℕ). IsFront at l content) (sym (ap (λ (b : List ℕ). before ++ b) is ∙ append-nil before)) h);
}

pub extends_then : (a b c b' c' : ℕ) (x y z : List ℕ) (old mid new : Option (List ℕ)) → Extends a b x old mid → Extends b' c' y mid new → b ≡ b' → c' ≡ c → x ++ y ≡ z → Extends a c z old new
extends_then a b c b' c' x y z old mid new first second b_is c_is is = record {
  front = λ before h.
      let one : IsFront b' (before ++ x) mid = subst (λ (n : ℕ). IsFront n (before ++ x) mid) b_is (first.front before h) in
      let two : IsFront c ((before ++ x) ++ y) new = subst (λ (n : ℕ). IsFront n ((before ++ x) ++ y) new) c_is (second.front (before ++ x) one) in
      subst (λ (l : List ℕ). IsFront c l new) (append_assoc before x y ∙ ap (λ (l : List ℕ). before ++ l) is) two;
}

-- ---- an area

-- its first bytes, and zeros
pub start_is : (commits size : ℕ) (o n bytes : List ℕ) → 9 ≤ size → bytes ≡ to_be_bytes w64 commits → o ≡ replicate size 0 → take (0 + length bytes) n ≡ take 0 o ++ bytes → drop (0 + length bytes) n ≡ drop (0 + length bytes) o
    → n ≡ empty_area commits ++ replicate (size - 9) 0
start_is commits size o n bytes fits bytes_is zeros front rest =
    let eight : length bytes ≡ 8 = ap length bytes_is in
    let less : size - (0 + length bytes) ≡ suc (size - 9) = omega (arith, eight, fits) in
    sym (take-append-drop (0 + length bytes) n) ∙ ap (λ (l : List ℕ). l ++ drop (0 + length bytes) n) front ∙ ap (λ (l : List ℕ). bytes ++ l) (rest ∙ ap (drop (0 + length bytes)) zeros ∙ drop-replicate (0 + length bytes) size 0 ∙ ap (λ (m : ℕ). replicate m 0) less)
    ∙ ap (λ (l : List ℕ). l ++ replicate (suc (size - 9)) 0) bytes_is ∙ sym (append_assoc (to_be_bytes w64 commits) (0 ∷ []) (replicate (size - 9) 0))

-- zeros behind zeros
pub zeros_step : (at size k place : ℕ) (zeros : List ℕ) (old mid new : Option (List ℕ)) → zeros ≡ replicate size 0 → place ≡ at + size * k → Extends at (at + size * k) (replicate (size * k) 0) old mid → Extends place (place + length zeros) zeros mid new
    → Extends at (at + size * (k + 1)) (replicate (size * (k + 1)) 0) old new
zeros_step at size k place zeros old mid new zeros_are place_is so_far one =
    let long : length zeros ≡ size = ap length zeros_are ∙ length-replicate size 0 in
    let more : size * k + size ≡ size * (k + 1) = grind arith in
    extends_then at (at + size * k) (at + size * (k + 1)) place (place + length zeros) (replicate (size * k) 0) zeros (replicate (size * (k + 1)) 0) old mid new so_far one (sym place_is)
    (omega (arith, long, more, place_is)) (ap (λ (l : List ℕ). replicate (size * k) 0 ++ l) zeros_are ∙ replicate-append-replicate (size * k) size 0 ∙ ap (λ (m : ℕ). replicate m 0) more)

-- an area is its first bytes, and zeros behind them
pub area_step : (commits at size more next : ℕ) (start : List ℕ) (old mid new : Option (List ℕ)) → 9 ≤ size → size + more ≡ AREA_SIZE → start ≡ empty_area commits ++ replicate (size - 9) 0 → next ≡ at + size
    → Extends at (at + length start) start old mid → Extends next (next + more) (replicate more 0) mid new → Extends at (at + AREA_SIZE) (area_bytes commits) old new
unfolding area_bytes
area_step commits at size more next start old mid new fits all is next_is first second =
    let nine : length (empty_area commits) ≡ 9 = refl in
    let long : length start ≡ size = ap length is ∙ length-append (empty_area commits) (replicate (size - 9) 0) ∙ omega (arith, fits, nine, length-replicate {A = ℕ} (size - 9) 0) in
    let rest : (size - 9) + more ≡ AREA_SIZE - 9 = omega (arith, fits, all) in
    extends_then at (at + length start) (at + AREA_SIZE) next (next + more) start (replicate more 0) (empty_area commits ++ replicate (AREA_SIZE - 9) 0) old mid new first second
    (omega (arith, long, next_is)) (omega (arith, all, next_is))
    (ap (λ (l : List ℕ). l ++ replicate more 0) is ∙ append_assoc (empty_area commits) (replicate (size - 9) 0) (replicate more 0)
    ∙ ap (λ (l : List ℕ). empty_area commits ++ l) (replicate-append-replicate (size - 9) more 0 ∙ ap (λ (m : ℕ). replicate m 0) rest))

-- ---- the homes

pub homes_more : (pages : List PageParts) (done some next : ℕ) (piece : List PageParts) (bytes : List ℕ) → piece ≡ take some (drop done pages) → bytes ≡ flat_map page_bytes piece → next ≡ done + some
    → flat_map page_bytes (take done pages) ++ bytes ≡ flat_map page_bytes (take next pages)
homes_more pages done some next piece bytes is spelled next_is =
    ap (λ (l : List ℕ). flat_map page_bytes (take done pages) ++ l) (spelled ∙ ap (flat_map page_bytes) is)
    ∙ sym (ap (λ (n : ℕ). flat_map page_bytes (take n pages)) next_is ∙ ap (flat_map page_bytes) (take-add done some pages) ∙ flat_map-append page_bytes (take done pages) (take some (drop done pages)))

-- ---- the whole store

pub whole_laid : (commits : ℕ) (pages : List PageParts) (old new : Option (List ℕ)) → Extends 0 (store_size (length pages)) (((super_bytes (length pages) ++ area_bytes commits) ++ area_bytes commits) ++ flat_map page_bytes pages) old new → IfSome new (IsLaid commits pages)
unfolding store_bytes
whole_laid commits pages old new h =
    let S : List ℕ = super_bytes (length pages) in
    let A : List ℕ = area_bytes commits in
    let H : List ℕ = flat_map page_bytes pages in
    subst (λ (l : List ℕ). IsFront (store_size (length pages)) l new) (append_assoc (S ++ A) A H ∙ append_assoc S A (A ++ H)) (h.front [] (nothing old))
  where
    nothing : (o : Option (List ℕ)) → IsFront 0 [] o
    nothing None = tt
    nothing (Some c) = refl

-- ---- a block that is filled from its beginning on

pub put_step : (k k' : ℕ) (front o1 o2 bytes : List ℕ) → take k o1 ≡ front → take (k + length bytes) o2 ≡ take k o1 ++ bytes → k + length bytes ≡ k' → take k' o2 ≡ front ++ bytes
put_step k k' front o1 o2 bytes before e is = ap (λ (n : ℕ). take n o2) (sym is) ∙ e ∙ ap (λ (l : List ℕ). l ++ bytes) before

pub filled : (k : ℕ) (o bytes : List ℕ) → take k o ≡ bytes → length o ≡ k → o ≡ bytes
filled k o bytes e is = sym (take_all k o (omega (arith, is))) ∙ e

pub super_block_is : (pages : ℕ) (mark version count rest o : List ℕ) → o ≡ ((([] ++ mark) ++ version) ++ count) ++ rest → mark ≡ codes "CUTSTORE" → version ≡ to_be_bytes w32 1 → count ≡ to_be_bytes w32 pages → rest ≡ replicate 1008 0 → o ≡ super_bytes pages
unfolding super_bytes
super_block_is pages mark version count rest o e m v c r =
    e ∙ append_assoc (mark ++ version) count rest ∙ append_assoc mark version (count ++ rest)
    ∙ ap (λ (l : List ℕ). l ++ (version ++ (count ++ rest))) m ∙ ap (λ (l : List ℕ). codes "CUTSTORE" ++ (l ++ (count ++ rest))) v
    ∙ ap (λ (l : List ℕ). codes "CUTSTORE" ++ (to_be_bytes w32 1 ++ (l ++ rest))) c ∙ ap (λ (l : List ℕ). codes "CUTSTORE" ++ (to_be_bytes w32 1 ++ (to_be_bytes w32 pages ++ l))) r

-- ---- the steps of the code

pub extends_as : (a a' b b' : ℕ) (x x' : List ℕ) (old new : Option (List ℕ)) → Extends a b x old new → a ≡ a' → b ≡ b' → x ≡ x' → Extends a' b' x' old new
extends_as a a' b b' x x' old new h a_is b_is x_is = subst (λ (m : ℕ). Extends m b' x' old new) a_is (subst (λ (n : ℕ). Extends a n x' old new) b_is (subst (λ (l : List ℕ). Extends a b l old new) x_is h))

-- the homes of a piece's pages, as a block has them
pub piece_step : (first place size : ℕ) (pages : List PageParts) (block bytes : List ℕ) (old new : Option (List ℕ)) → size ≡ 1024 * length pages → bytes ≡ take size block → length bytes ≡ size → take (1024 * length pages) block ≡ flat_map page_bytes pages
    → place ≡ home_start first → Extends place (place + length bytes) bytes old new → Extends (home_start first) (home_start (first + length pages)) (flat_map page_bytes pages) old new
piece_step first place size pages block bytes old new size_is is long spelled place_is one =
    extends_as place (home_start first) (place + length bytes) (home_start (first + length pages)) bytes (flat_map page_bytes pages) old new one place_is (omega (arith, long, size_is, place_is))
    (is ∙ ap (λ (n : ℕ). take n block) size_is ∙ spelled)

pub homes_step : (pages : List PageParts) (done some next : ℕ) (piece : List PageParts) (old mid new : Option (List ℕ)) → piece ≡ take some (drop done pages) → length piece ≡ some → next ≡ done + some
    → Extends (home_start 0) (home_start done) (flat_map page_bytes (take done pages)) old mid → Extends (home_start done) (home_start (done + length piece)) (flat_map page_bytes piece) mid new
    → Extends (home_start 0) (home_start next) (flat_map page_bytes (take next pages)) old new
homes_step pages done some next piece old mid new is count next_is so_far one =
    extends_then (home_start 0) (home_start done) (home_start next) (home_start done) (home_start (done + length piece)) (flat_map page_bytes (take done pages)) (flat_map page_bytes piece) (flat_map page_bytes (take next pages)) old mid new so_far one refl
    (omega (arith, count, next_is)) (homes_more pages done some next piece (flat_map page_bytes piece) is refl next_is)

pub all_append : {A : Type 0} (P : A → Type 0) (xs ys : List A) → AllByRecursion P xs → AllByRecursion P ys → AllByRecursion P (xs ++ ys)
all_append P [] ys h k = k
all_append P (x ∷ xs) ys h k = (h.0, all_append P xs ys h.1 k)

pub back_more : (pages : List PageParts) (done some next : ℕ) (piece : List PageParts) → piece ≡ take some (drop done pages) → next ≡ done + some → AllByRecursion ReadsBack (take done pages) → AllByRecursion ReadsBack piece → AllByRecursion ReadsBack (take next pages)
back_more pages done some next piece is next_is so_far more =
    subst (AllByRecursion ReadsBack) (sym (ap (λ (n : ℕ). take n pages) next_is ∙ take-add done some pages)) (all_append ReadsBack (take done pages) (take some (drop done pages)) so_far (subst (AllByRecursion ReadsBack) is more))

-- one page more is spelled
pub spelled_step : (pages : List PageParts) (i place : ℕ) (p : PageParts) (home o1 o2 : List ℕ) → i < length pages → p ≡ get_or pages i p → home ≡ page_bytes p → length home ≡ 1024 → place ≡ 1024 * i → take (1024 * i) o1 ≡ flat_map page_bytes (take i pages)
    → take (place + length home) o2 ≡ take place o1 ++ home → take (1024 * (i + 1)) o2 ≡ flat_map page_bytes (take (i + 1) pages)
spelled_step pages i place p home o1 o2 lt is spelled long place_is so_far written =
    let next : place + length home ≡ 1024 * (i + 1) = omega (arith, long, place_is) in
    ap (λ (n : ℕ). take n o2) (sym next) ∙ written ∙ ap (λ (l : List ℕ). l ++ home) (ap (λ (n : ℕ). take n o1) place_is ∙ so_far)
    ∙ ap (λ (l : List ℕ). flat_map page_bytes (take i pages) ++ l) (spelled ∙ ap page_bytes is ∙ sym (append-nil (page_bytes (get_or pages i p))))
    ∙ sym (ap (flat_map page_bytes) (take_more pages i p lt) ∙ flat_map-append page_bytes (take i pages) (get_or pages i p ∷ []))

pub back_step : (pages : List PageParts) (i : ℕ) (p : PageParts) (bytes : List ℕ) → i < length pages → p ≡ get_or pages i p → bytes ≡ page_bytes p → length bytes ≡ 1024 → page_at bytes ≡ Ok p → AllByRecursion ReadsBack (take i pages)
    → AllByRecursion ReadsBack (take (i + 1) pages)
back_step pages i p bytes lt is spelled long again so_far =
    let reads : ReadsBack p = record { long = ap length (sym spelled) ∙ long; again = ap page_at (sym spelled) ∙ again } in
    subst (AllByRecursion ReadsBack) (sym (take_more pages i p lt)) (all_append ReadsBack (take i pages) (get_or pages i p ∷ []) so_far (subst ReadsBack is reads, tt))

-- the super block and the areas
pub front_step : (pages : ℕ) (block area : List ℕ) (o0 o1 o2 o3 : Option (List ℕ)) → block ≡ super_bytes pages → Extends 0 (0 + length block) block o0 o1 → Extends 1024 263168 area o1 o2 → Extends 263168 HOMES_START area o2 o3
    → Extends 0 HOMES_START ((super_bytes pages ++ area) ++ area) o0 o3
front_step pages block area o0 o1 o2 o3 block_is first second third =
    let S : List ℕ = super_bytes pages in
    let long : length block ≡ 1024 = ap length block_is ∙ super_length pages in
    let a : Extends 0 1024 S o0 o1 = extends_as 0 0 (0 + length block) 1024 block S o0 o1 first refl (omega (arith, long)) block_is in
    let b : Extends 0 263168 (S ++ area) o0 o2 = extends_then 0 1024 263168 1024 263168 S area (S ++ area) o0 o1 o2 a second refl refl refl in
    extends_then 0 263168 HOMES_START 263168 HOMES_START (S ++ area) area ((S ++ area) ++ area) o0 o2 o3 b third refl refl refl

pub store_step : (commits : ℕ) (pages : List PageParts) (o0 o1 o2 : Option (List ℕ)) → Extends 0 HOMES_START ((super_bytes (length pages) ++ area_bytes commits) ++ area_bytes commits) o0 o1
    → Extends HOMES_START (store_size (length pages)) (flat_map page_bytes pages) o1 o2 → IfSome o2 (IsLaid commits pages)
store_step commits pages o0 o1 o2 first second =
    let front : List ℕ = (super_bytes (length pages) ++ area_bytes commits) ++ area_bytes commits in
    whole_laid commits pages o0 o2
    (extends_then 0 HOMES_START (store_size (length pages)) HOMES_START (store_size (length pages)) front (flat_map page_bytes pages) (front ++ flat_map page_bytes pages) o0 o1 o2 first second refl refl refl)
