-- How a store file was opened, and other files that open alike.
use Rattle.std.proofs.Common.{◌≡◌, ℕ, ◌+◌, ◌-◌, ◌%◌, ◌<◌, ◌≤◌, Bool, true, false, cond, leb, List, [], ◌∷◌, length, get_or, take, drop, Option, Some, None, Result, Ok, Err, refl, sym, ◌∙◌, ap, subst, arith, inl, inr}
use Rattle.std.specs.Prelude.{is_some}
use Rattle.std.proofs.lemmas.Bool.{leb-true, le-leb}
use Rattle.std.proofs.lemmas.List.{take-take, drop-take, drop-drop}
use Rattle.std.specs.Int.{w32, from_be_bytes}
use Rattle.disk_trait.specs.Disk.{piece}
use Rattle.object_graph.specs.Slots.{below}
use Rattle.object_graph.proofs.Members.{In}
use Rattle.page_image.specs.Pages.{PageParts}
use Rattle.redo_journal.specs.Walk.{weights}
use Rattle.redo_journal.specs.Area.{Contents, area_of, area_start, read_area}
use Rattle.redo_journal.specs.declared.sizes.TheConstants.{AREA_SIZE, HOMES_START}
use Rattle.redo_journal.specs.Homes.{DiffersInHomes, home_start, home_of, store_size}
use Rattle.redo_journal.specs.Record.{RecordParts, grammar}
use Rattle.redo_journal.specs.Replays.{images_in, last_image, is_named}
use Rattle.redo_journal.specs.Results.{◌>>=◌, from_place}
use Rattle.redo_journal.proofs.GrammarLaws.{unok, bind_ok}
use Rattle.redo_journal.proofs.HomeBytes.{same_front, same_home}
use Rattle.store_model.proofs.Cuts.{below_bound}
use Rattle.image_model.specs.Super.{SuperParts, is_super, super_at, super_of, super_size}
use Rattle.image_model.specs.Opening.{StoreParts, Fault, damaged, home_at, or_home, final_at, each_of, active_of, with_homes, as_damage, open_with, open_of, records_or_none, counted_with, counted_of}

abbrev pub ok : {A : Type 0} → A → Result A ℕ
ok x = Ok x

abbrev opens_as : StoreParts → Result StoreParts Fault
opens_as store = Ok store

abbrev held_as : ℕ → List PageParts → StoreParts
held_as n pages = record { commits = n; pages = pages }

unopen : (x y : StoreParts) → opens_as x ≡ opens_as y → x ≡ y
unopen x y h = cc

abbrev pub some_super : SuperParts → Option SuperParts
some_super s = Some s

pub unsome : (x y : SuperParts) → some_super x ≡ some_super y → x ≡ y
unsome x y h = cc

-- ---- how a file was opened

pub record Opens (file : List ℕ) (store : StoreParts) : Type 0 where
  pub super : SuperParts
  pub head : super_of file ≡ Some super
  pub long : store_size super.pages ≤ length file
  pub held : Contents RecordParts
  pub active : active_of super file ≡ Ok held
  pub finals : each_of (final_at held.records file) (below super.pages) ≡ Ok store.pages
  pub counted : held.base + weights (grammar super.pages) held.records ≡ store.commits

pub from_opens : (file : List ℕ) (store : StoreParts) → Opens file store → open_of file ≡ Ok store
unfolding open_of
from_opens file store h =
    let fits : leb (store_size h.super.pages) (length file) ≡ true = le-leb (store_size h.super.pages) (length file) h.long in
    let commits : ℕ = h.held.base + weights (grammar h.super.pages) h.held.records in
    ap (λ (x : Option SuperParts). open_with x file) h.head
    ∙ ap (λ (b : Bool). cond b (as_damage (active_of h.super file >>= with_homes h.super file)) (Err (damaged (length file)))) fits
    ∙ ap (λ (r : Result (Contents RecordParts) ℕ). as_damage (r >>= with_homes h.super file)) h.active
    ∙ ap (λ (r : Result (List PageParts) ℕ). as_damage (r >>= λ (pages : List PageParts). ok (held_as commits pages))) h.finals
    ∙ ap (λ (n : ℕ). opens_as (held_as n store.pages)) h.counted

pub opens_parts : (file : List ℕ) (store : StoreParts) → open_of file ≡ Ok store → Opens file store
unfolding open_of
opens_parts file store e = by_head (super_of file) refl e
  where
    by_read : (s : SuperParts) → super_of file ≡ Some s → store_size s.pages ≤ length file → (read : Result StoreParts ℕ) → (active_of s file >>= with_homes s file) ≡ read → as_damage read ≡ Ok store → Opens file store
    by_read s h long (Err at) is e = absurd cc
    by_read s h long (Ok got) is e =
        let same : got ≡ store = unopen got store e in
        let a = bind_ok (active_of s file) (with_homes s file) got is in
        let commits : ℕ = a.0.base + weights (grammar s.pages) a.0.records in
        let b = bind_ok (each_of (final_at a.0.records file) (below s.pages)) (λ (pages : List PageParts). ok (held_as commits pages)) got a.2 in
        let is_store : held_as commits b.0 ≡ store = unok (held_as commits b.0) got b.2 ∙ same in
        record { super = s; head = h; long = long; held = a.0; active = a.1; finals = b.1 ∙ ap (λ (x : StoreParts). ok x.pages) is_store; counted = ap (λ (x : StoreParts). x.commits) is_store }

    by_length : (s : SuperParts) → super_of file ≡ Some s → (b : Bool) → leb (store_size s.pages) (length file) ≡ b → cond b (as_damage (active_of s file >>= with_homes s file)) (Err (damaged (length file))) ≡ Ok store → Opens file store
    by_length s h true is e = by_read s h (leb-true _ _ is) (active_of s file >>= with_homes s file) refl e
    by_length s h false is e = absurd cc

    by_head : (sup : Option SuperParts) → super_of file ≡ sup → open_with sup file ≡ Ok store → Opens file store
    by_head None h e = absurd cc
    by_head (Some s) h e = by_length s h (leb (store_size s.pages) (length file)) refl e

-- the records that count
pub counted_is : (file : List ℕ) (s : SuperParts) (held : Contents RecordParts) → super_of file ≡ Some s → active_of s file ≡ Ok held → counted_of file ≡ held.records
counted_is file s held h a = ap (λ (x : Option SuperParts). counted_with x file) h ∙ ap records_or_none a

-- ---- pieces

pub piece_same : (s m k : ℕ) (x y : List ℕ) → s + m ≤ k → take k x ≡ take k y → take m (drop s x) ≡ take m (drop s y)
piece_same s m k x y le same =
    sym (drop-take s m x) ∙ ap (λ (l : List ℕ). drop s l) (sym (take-take (s + m) k x le) ∙ ap (λ (l : List ℕ). take (s + m) l) same ∙ take-take (s + m) k y le) ∙ drop-take s m y

pub front_same : (n k : ℕ) (x y : List ℕ) → n ≤ k → take k x ≡ take k y → take n x ≡ take n y
front_same n k x y le same = sym (take-take n k x le) ∙ ap (λ (l : List ℕ). take n l) same ∙ take-take n k y le

pub behind_same : (k n : ℕ) (x y : List ℕ) → k ≤ n → drop k x ≡ drop k y → drop n x ≡ drop n y
behind_same k n x y le same = back x ∙ ap (λ (l : List ℕ). drop (n - k) l) same ∙ sym (back y)
  where
    back : (z : List ℕ) → drop n z ≡ drop (n - k) (drop k z)
    back z = ap (λ (m : ℕ). drop m z) (omega (arith, le)) ∙ sym (drop-drop (n - k) k z)

pub home_behind : (page k : ℕ) (x y : List ℕ) → k ≤ HOMES_START → drop k x ≡ drop k y → home_of page x ≡ home_of page y
home_behind page k x y le same = ap (λ (l : List ℕ). take 1024 l) (behind_same k (home_start page) x y (omega (arith, le)) same)

pub area_below : (file : List ℕ) (s : SuperParts) → super_of file ≡ Some s → s.area < 2
area_below file s e = by_test (from_be_bytes w32 (piece 12 4 (take super_size file))) (get_or (take super_size file) 512 0) (is_super (take super_size file)) e
  where
    small : (pages n : ℕ) → some_super (record { pages = pages; area = n % 2 }) ≡ Some s → s.area < 2
    small pages n e =
        let q : SuperParts = record { pages = pages; area = n % 2 } in
        let is : q ≡ s = unsome q s e in
        let a : n % 2 ≡ s.area = ap (λ (x : SuperParts). x.area) is in
        omega (arith, a)

    by_test : (pages n : ℕ) (b : Bool) → cond b (some_super (record { pages = pages; area = n % 2 })) None ≡ Some s → s.area < 2
    by_test pages n true e = small pages n e
    by_test pages n false e = absurd cc

-- ---- all pages

pub each_ok : {A : Type 0} (f g : ℕ → Result A ℕ) (ns : List ℕ) (xs : List A) → each_of f ns ≡ Ok xs → ((n : ℕ) (x : A) → In n ns → f n ≡ Ok x → g n ≡ Ok x) → each_of g ns ≡ Ok xs
each_ok f g [] xs e h = e
each_ok {A} f g (n ∷ ns) xs e h =
    let after = λ (x : A). each_of f ns >>= λ (more : List A). ok (x ∷ more) in
    let a = bind_ok (f n) after xs e in
    let b = bind_ok (each_of f ns) (λ (more : List A). ok (a.0 ∷ more)) xs a.2 in
    let first = h n a.0 (inl refl) a.1 in
    let rest = each_ok f g ns b.0 b.1 (λ m x i. h m x (inr i)) in
    rw (first, rest) b.2

pub home_same : (image : Option PageParts) (page : ℕ) (file other : List ℕ) → (image ≡ None → home_of page other ≡ home_of page file) → or_home image page other ≡ or_home image page file
home_same (Some p) page file other h = refl
home_same None page file other h = ap (λ (bytes : List ℕ). from_place (home_start page) (home_at page bytes)) (h refl)

-- ---- files alike

-- the same super block, active area and homes that no record names
pub opens_alike : (file other : List ℕ) (store : StoreParts) (h : Opens file store) → length other ≡ length file → super_of other ≡ Some h.super → area_of h.super.area other ≡ area_of h.super.area file
    → ((page : ℕ) → page < h.super.pages → last_image (images_in h.held.records) page ≡ None → home_of page other ≡ home_of page file) → Opens other store
opens_alike file other store h long head active homes = record {
  super = h.super;
  head = head;
  long = subst (λ (n : ℕ). store_size h.super.pages ≤ n) (sym long) h.long;
  held = h.held;
  active = ap (read_area (grammar h.super.pages) (area_start h.super.area)) active ∙ h.active;
  finals = each_ok (final_at h.held.records file) (final_at h.held.records other) (below h.super.pages) store.pages h.finals (λ page p m e.
      home_same (last_image (images_in h.held.records) page) page file other (homes page (below_bound h.super.pages page m)) ∙ e);
  counted = h.counted;
}

-- homes that a counted record names are of no meaning
pub opens_named : (file other : List ℕ) (store : StoreParts) → Opens file store → DiffersInHomes (is_named (counted_of file)) file other → Opens other store
opens_named file other store h d =
    let small = area_below file h.super h.head in
    opens_alike file other store h d.same_length
    (ap super_at (same_front (is_named (counted_of file)) file other 0 super_size d (omega arith)) ∙ h.head)
    (same_front (is_named (counted_of file)) file other (area_start h.super.area) AREA_SIZE d (omega (arith, small)))
    (λ page lt none. same_home (is_named (counted_of file)) file other page d
    (ap (λ (rs : List RecordParts). is_named rs page) (counted_is file h.super h.held h.head h.active) ∙ ap (λ (image : Option PageParts). is_some image) none))
