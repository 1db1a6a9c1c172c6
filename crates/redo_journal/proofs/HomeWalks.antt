-- The records for which a journal stands, as they stand on the file.
use Rattle.std.proofs.Common.{◌≡◌, ℕ, zero, suc, ◌+◌, ◌*◌, ◌<◌, ◌≤◌, Bool, true, false, ◌&&◌, ◌==◌, nat_lt, nat_le, List, [], ◌∷◌, length, take, drop, Result, Ok, Err, if◌then◌else◌, refl, sym, ◌∙◌, ap, subst, arith, length-drop}
use Rattle.std.specs.Prelude.{Option, None, Some, IfSome, IsSomeAnd}
use Rattle.std.specs.Int.{w32, from_be_bytes}
use Rattle.std.proofs.lemmas.List.{drop-drop}
use Rattle.disk_trait.specs.Causes.{SameTold}
use Rattle.disk_trait.specs.Disk.{piece}
use Rattle.page_image.specs.Pages.{PageParts}
use Rattle.page_image.specs.Fields.{page_at}
use Rattle.redo_journal.specs.Area.{read_area, area_of, area_start, first_gate}
use Rattle.redo_journal.specs.Homes.{DiffersInHomes}
use Rattle.redo_journal.specs.Journals.{JournalParts, HoldsFor, IsOn}
use Rattle.redo_journal.specs.Places.{StandAt, places_of, places_in}
use Rattle.redo_journal.specs.Record.{RecordParts, image_at, images_at, record_at, grammar, size_of}
use Rattle.redo_journal.specs.Results.{◌>>=◌, from_place}
use Rattle.redo_journal.specs.Replays.{images_in}
use Rattle.redo_journal.specs.Walk.{Grammar, walk, then_rest}
use Rattle.redo_journal.specs.declared.places.ImagePlace.{ImagePlace}
use Rattle.redo_journal.proofs.AreaLaws.{parts}
use Rattle.redo_journal.proofs.FileLaws.{length-piece}
use Rattle.redo_journal.proofs.GrammarLaws.{unok, bind_ok, guard_ok, sized, grammar_is_local, grammar-at, grammar-size}
use Rattle.redo_journal.proofs.HomeBytes.{piece-piece, same_front}
use Rattle.redo_journal.proofs.PlaceLaws.{stand_append}
use Rattle.redo_journal.proofs.ScanSteps.{walk_drop}
use Rattle.redo_journal.proofs.WalkLaws.{ok, then_ok}
use Rattle.redo_journal.specs.declared.sizes.TheConstants.{AREA_SIZE, HOMES_START, PAGE_SIZE, IMAGE_SIZE, FRAME_SIZE}

place_ok : {A : Type 0} (place : ℕ) (r : Result A ℕ) (x : A) → from_place place r ≡ Ok x → r ≡ Ok x
place_ok place (Ok y) x e = e
place_ok place (Err d) x e = absurd cc

-- ---- images

image_read : (pages place low : ℕ) (bytes : List ℕ) (p : PageParts) → image_at pages place low bytes ≡ Ok p → page_at (take PAGE_SIZE (drop 4 bytes)) ≡ Ok p
unfolding image_at
image_read pages place low bytes p e =
    let N = from_be_bytes w32 (take 4 bytes) in
    let judge = λ (n : ℕ) (q : PageParts). if q.number == n then ok q else Err (place + 8) in
    let a = bind_ok (if nat_le low N && nat_lt N pages then ok N else Err place) (λ n. from_place (place + 4) (page_at (take PAGE_SIZE (drop 4 bytes))) >>= judge n) p e in
    let b = bind_ok (from_place (place + 4) (page_at (take PAGE_SIZE (drop 4 bytes)))) (judge a.0) p a.2 in
    let same = guard_ok (b.0.number == a.0) (place + 8) b.0 p b.2 in
    place_ok (place + 4) (page_at (take PAGE_SIZE (drop 4 bytes))) b.0 b.1 ∙ ap (λ (q : PageParts). ok q) same.1

-- what was read of an area of the file
module _ (start size : ℕ) (file : List ℕ) (long : start + size ≤ length file) where
  abbrev held : List ℕ
  held = piece start size file

  length_held : length held ≡ size
  length_held = length-piece start size file long

  image_stands : (at : ℕ) (p : PageParts) → page_at (take PAGE_SIZE (drop 4 (drop at held))) ≡ Ok p → at + IMAGE_SIZE ≤ size → page_at (piece (start + at + 4) PAGE_SIZE file) ≡ Ok p
  image_stands at p read fits =
      let place : start + at + 4 ≡ start + (at + 4) = omega arith in
      ap (λ m. page_at (piece m PAGE_SIZE file)) place
      ∙ ap page_at (sym (piece-piece (at + 4) PAGE_SIZE start size file (omega (arith, fits)) long))
      ∙ ap (λ (l : List ℕ). page_at (take PAGE_SIZE l)) (sym (drop-drop 4 at held)) ∙ read

  images_stand : (pages place low n at : ℕ) (images : List PageParts) → images_at pages place low n (drop at held) ≡ Ok images → at + IMAGE_SIZE * n ≤ size → StandAt (places_of (start + at) images) images file
  unfolding images_at
  images_stand pages place low zero at images e fits =
      subst (λ (l : List PageParts). StandAt (places_of (start + at) l) l file) (unok [] images e) tt
  images_stand pages place low (suc n) at images e fits =
      let bytes = drop at held in
      let more = λ (image : PageParts). images_at pages (place + IMAGE_SIZE) (image.number + 1) n (drop IMAGE_SIZE bytes) >>= λ (others : List PageParts). ok (image ∷ others) in
      let a = bind_ok (image_at pages place low bytes) more images e in
      let b = bind_ok (images_at pages (place + IMAGE_SIZE) (a.0.number + 1) n (drop IMAGE_SIZE bytes)) (λ (others : List PageParts). ok (a.0 ∷ others)) images a.2 in
      let first = image_stands at a.0 (image_read pages place low bytes a.0 a.1) (omega (arith, fits)) in
      let rest = images_stand pages (place + IMAGE_SIZE) (a.0.number + 1) n (at + IMAGE_SIZE) b.0
      (ap (λ (l : List ℕ). images_at pages (place + IMAGE_SIZE) (a.0.number + 1) n l) (sym (drop-drop IMAGE_SIZE at held)) ∙ b.1) (omega (arith, fits)) in
      let next : start + (at + IMAGE_SIZE) ≡ start + at + IMAGE_SIZE = omega arith in
      subst (λ (l : List PageParts). StandAt (places_of (start + at) l) l file) (unok (a.0 ∷ b.0) images b.2)
      (refl, first, subst (λ m. StandAt (places_of m b.0) b.0 file) next rest)

  -- ---- records

  record_stands : (pages place done at : ℕ) (r : RecordParts) → record_at pages place done (drop at held) ≡ Ok r → StandAt (places_of (start + (at + 5)) r.images) r.images file
  record_stands pages place done at r e =
      let s = sized pages place done (drop at held) r e in
      let fits : at + 5 + IMAGE_SIZE * s.count ≤ size = omega (arith, s.room, length-drop at held, length_held) in
      let stand = images_stand pages (place + 5) 0 s.count (at + 5) s.pages_read (ap (λ (l : List ℕ). images_at pages (place + 5) 0 s.count l) (sym (drop-drop 5 at held)) ∙ s.images_ok) fits in
      subst (λ (q : RecordParts). StandAt (places_of (start + (at + 5)) q.images) q.images file) s.whole stand

  module _ (pages : ℕ) where
    abbrev gram : Grammar RecordParts
    gram = grammar pages

    -- a gate, and what was read behind it
    gate_open : (place done gate : ℕ) (bytes : List ℕ) (r : RecordParts) (rs : List RecordParts) → walk gram place done 0 (gate ∷ bytes) ≡ Ok (r ∷ rs)
        → (gram.at (place + 1) done bytes ≡ Ok r) × (walk gram (place + 1) (done + gram.weight r) (gram.size r) bytes ≡ Ok rs)
    gate_open place done gate bytes r rs e = by_gate (gate == 1) e
      where
        by_gate : (is_open : Bool) → (if is_open then then_rest (gram.at (place + 1) done bytes) (λ q. walk gram (place + 1) (done + gram.weight q) (gram.size q) bytes) else Ok []) ≡ ok (r ∷ rs)
            → (gram.at (place + 1) done bytes ≡ Ok r) × (walk gram (place + 1) (done + gram.weight r) (gram.size r) bytes ≡ Ok rs)
        by_gate false same = absurd cc
        by_gate true same =
            let both = then_ok (gram.at (place + 1) done bytes) (λ q. walk gram (place + 1) (done + gram.weight q) (gram.size q) bytes) (r ∷ rs) same in
            let first : both.0 ≡ r = let whole = both.4 in cc in
            let others : both.1 ≡ rs = let whole = both.4 in cc in (
              both.2 ∙ ap (λ (x : RecordParts). ok x) first,
              ap (λ (q : RecordParts). walk gram (place + 1) (done + gram.weight q) (gram.size q) bytes) (sym first) ∙ both.3 ∙ ap (λ (l : List RecordParts). ok l) others,
            )

    -- a record, with what stands behind it
    one_stands : (place done at : ℕ) (r : RecordParts) (rs : List RecordParts) (cells : List ℕ) → drop at held ≡ cells → walk gram place done 0 cells ≡ Ok (r ∷ rs)
        → ((next counted : ℕ) → walk gram next counted 0 (drop (at + size_of r) held) ≡ Ok rs → StandAt (places_in (start + (at + size_of r)) rs) (images_in rs) file)
        → StandAt (places_in (start + at) (r ∷ rs)) (images_in (r ∷ rs)) file
    one_stands place done at r rs [] is same rest = absurd cc
    one_stands place done at r rs (gate ∷ bytes) is same rest =
        let behind : drop (at + 1) held ≡ bytes = sym (drop-drop 1 at held) ∙ ap (λ (l : List ℕ). drop 1 l) is in
        let both = gate_open place done gate bytes r rs same in
        let read : record_at pages (place + 1) done (drop (at + 1) held) ≡ Ok r = ap (λ (l : List ℕ). record_at pages (place + 1) done l) behind ∙ sym (grammar-at pages (place + 1) done bytes) ∙ both.0 in
        let here = record_stands pages (place + 1) done (at + 1) r read in
        let size_is = grammar-size pages r in
        let inside = (grammar_is_local pages).fits (place + 1) done bytes r both.0 in
        let place_is : at + 1 + gram.size r ≡ at + size_of r = omega (arith, size_is) in
        let next : drop (gram.size r) bytes ≡ drop (at + size_of r) held =
        ap (λ (l : List ℕ). drop (gram.size r) l) (sym behind) ∙ drop-drop (gram.size r) (at + 1) held ∙ ap (λ m. drop m held) place_is in
        let walks : walk gram (place + 1 + gram.size r) (done + gram.weight r) 0 (drop (at + size_of r) held) ≡ Ok rs =
        ap (λ (l : List ℕ). walk gram (place + 1 + gram.size r) (done + gram.weight r) 0 l) (sym next) ∙ sym (walk_drop gram (place + 1) (done + gram.weight r) (gram.size r) bytes (omega (arith, inside))) ∙ both.1 in
        let first : start + (at + 1 + 5) ≡ start + at + FRAME_SIZE = omega arith in
        let others : start + (at + size_of r) ≡ start + at + size_of r = omega arith in
        stand_append (places_of (start + at + FRAME_SIZE) r.images) (places_in (start + at + size_of r) rs) r.images (images_in rs) file
        (subst (λ m. StandAt (places_of m r.images) r.images file) first here)
        (subst (λ m. StandAt (places_in m rs) (images_in rs) file) others (rest (place + 1 + gram.size r) (done + gram.weight r) walks))

    records_stand : (place done at : ℕ) (records : List RecordParts) → walk gram place done 0 (drop at held) ≡ Ok records → StandAt (places_in (start + at) records) (images_in records) file
    records_stand place done at [] e = tt
    records_stand place done at (r ∷ rs) e = one_stands place done at r rs (drop at held) refl e (λ next counted. records_stand next counted (at + size_of r) rs)

-- ---- the journal

gate_within : first_gate ≤ AREA_SIZE
gate_within = omega arith

-- the images of the journal's records stand at the places that it knows
pub counted_stand : (journal : JournalParts) (records : List RecordParts) (file : List ℕ) → HoldsFor journal records file → StandAt journal.places (images_in records) file
counted_stand journal records file holds =
    let start = area_start journal.area in
    let g = grammar journal.pages in
    let bytes = area_of journal.area file in
    let long : first_gate ≤ length bytes = subst (λ n. first_gate ≤ n) (sym (length-piece start AREA_SIZE file holds.holds.long)) gate_within in
    let whole = parts g start journal.base records bytes holds.holds.reads in
    let walks : walk g (start + first_gate) journal.base 0 (drop first_gate bytes) ≡ Ok records = sym (walk_drop g start journal.base first_gate bytes long) ∙ whole.walks in
    subst (λ (l : List ImagePlace). StandAt l (images_in records) file) (sym holds.places)
    (records_stand start AREA_SIZE file holds.holds.long journal.pages (start + first_gate) journal.base first_gate records walks)

before_homes : (area : ℕ) → area < 2 → area_start area + AREA_SIZE ≤ HOMES_START
before_homes area two = omega (arith, two)

-- files that differ in homes are the journal's both
pub holds_still : (journal : JournalParts) (records : List RecordParts) (named : ℕ → Bool) (old new : List ℕ) → journal.area < 2 → DiffersInHomes named old new → HoldsFor journal records old → HoldsFor journal records new
holds_still journal records named old new two differs holds = record {
  holds = record {
    long = omega (arith, holds.holds.long, differs.same_length);
    reads = ap (read_area (grammar journal.pages) (area_start journal.area)) (same_front named old new (area_start journal.area) AREA_SIZE differs (before_homes journal.area two)) ∙ holds.holds.reads;
  };
  end = holds.end;
  commits = holds.commits;
  places = holds.places;
}

-- the disk stays the journal's
pub own_still : (journal : JournalParts) (old new : Option (List ℕ)) → SameTold old new → IfSome old (IsOn journal)
    → ((file : List ℕ) (records : List RecordParts) → old ≡ Some file → HoldsFor journal records file → IsSomeAnd new (HoldsFor journal records)) → IfSome new (IsOn journal)
own_still journal old None told own still = tt
own_still journal None (Some d) told own still = absurd (cc told)
own_still journal (Some c) (Some d) told own still = (own.0, still c own.0 refl own.1)
