-- What a file that was laid opens to.
use Rattle.std.proofs.Common.{◌≡◌, ℕ, zero, suc, ◌+◌, ◌-◌, ◌*◌, ◌<◌, ◌≤◌, ◌==◌, ◌&&◌, Bool, true, cond, min, List, [], ◌∷◌, ◌++◌, map, length, replicate, get_or, take, drop, Option, Some, None, Result, Ok, Err, refl, sym, ◌∙◌, ap, arith, inl, inr, length-append}
use Rattle.std.specs.List.{AllByRecursion, flat_map}
use Rattle.std.specs.Int.{w32, to_be_bytes, from_be_bytes}
use Rattle.std.proofs.lemmas.Bool.{eq-eqb, leb-true, and_parts}
use Rattle.std.proofs.lemmas.List.{take_at, drop_at, take_all, drop-drop, length-take, length-replicate, length-map, get_or-map, ext_get_or}
use Rattle.std.proofs.lemmas.Nat.{from_be_bytes-to_be_bytes_4}
use Rattle.object_graph.specs.Slots.{below}
use Rattle.object_graph.proofs.Members.{In}
use Rattle.page_image.specs.Pages.{PageParts}
use Rattle.object_graph.specs.declared.limits.TheConstants.{MOST_PAGES, MOST_COUNTED}
use Rattle.page_image.specs.Fields.{page_at}
use Rattle.page_image.specs.Spelling.{page_bytes}
use Rattle.redo_journal.specs.Walk.{Grammar}
use Rattle.redo_journal.proofs.Turning.{empty_reads}
use Rattle.redo_journal.specs.Area.{read_area, area_of, area_start}
use Rattle.redo_journal.specs.declared.sizes.TheConstants.{AREA_SIZE, HOMES_START}
use Rattle.redo_journal.specs.Homes.{home_start, home_of, store_size}
use Rattle.redo_journal.specs.Record.{ReadsBack, grammar}
use Rattle.redo_journal.specs.Results.{◌>>=◌, from_place}
use Rattle.redo_journal.specs.Sending.{empty_area}
use Rattle.store_model.proofs.Cuts.{below_bound}
use Rattle.store_model.proofs.Flats.{get-map_below, get_below, length_below}
use Rattle.image_model.specs.Super.{SuperParts, is_page_count, is_super, super_said, super_at, super_size, super_bytes}
use Rattle.image_model.specs.Opening.{home_at, final_at, each_of, open_of}
use Rattle.image_model.specs.Stores.{ArePages}
use Rattle.image_model.specs.Files.{area_bytes, store_bytes, IsLaid}
use Rattle.image_model.proofs.Openings.{ok, from_opens, piece_same, front_same}
use Rattle.image_model.proofs.Switching.{super_is}

-- ---- the super block

pub super_length : (pages : ℕ) → length (super_bytes pages) ≡ super_size
unfolding super_bytes
super_length pages = refl

-- as the super block of a file of so many pages
super_when : (pages said : ℕ) → said ≡ pages → is_page_count pages ≡ true → is_page_count said && true ≡ true
super_when pages said is right = ap (λ (n : ℕ). is_page_count n && true) is ∙ ap (λ (b : Bool). b && true) right

said_pages : (pages : ℕ) → pages ≤ MOST_PAGES → from_be_bytes w32 (to_be_bytes w32 pages) ≡ pages
said_pages pages few = from_be_bytes-to_be_bytes_4 pages (omega (arith, few))

super_right : (pages : ℕ) → is_page_count pages ≡ true → pages ≤ MOST_PAGES → is_super (super_bytes pages) ≡ true
unfolding super_bytes
super_right pages right few = super_is (super_bytes pages) ∙ super_when pages (from_be_bytes w32 (to_be_bytes w32 pages)) (said_pages pages few) right

pub super_reads : (pages : ℕ) → is_page_count pages ≡ true → pages ≤ MOST_PAGES → super_at (super_bytes pages) ≡ Some (record { pages = pages; area = 0 })
unfolding super_bytes
super_reads pages right few =
    ap (λ (b : Bool). let x : Option SuperParts = cond b (Some (super_said (super_bytes pages))) None in x) (super_right pages right few)
    ∙ ap (λ (n : ℕ). let x : Option SuperParts = Some (record { pages = n; area = 0 }) in x) (said_pages pages few)

-- ---- an empty area

length_with : (bytes : List ℕ) (n : ℕ) → length (bytes ++ replicate n 0) ≡ length bytes + n
length_with bytes n = length-append bytes (replicate n 0) ∙ ap (λ (k : ℕ). length bytes + k) (length-replicate n 0)

pub area_length : (commits : ℕ) → length (area_bytes commits) ≡ AREA_SIZE
unfolding area_bytes
area_length commits = length_with (empty_area commits) (AREA_SIZE - 9)

area_reads : {R : Type 0} (g : Grammar R) (start commits : ℕ) → commits ≤ MOST_COUNTED → read_area g start (area_bytes commits) ≡ Ok (record { base = commits; records = [] })
unfolding area_bytes
area_reads g start commits few = empty_reads g start commits (replicate (AREA_SIZE - 9) 0) few

-- ---- the homes

-- pages that are read from their spellings
abbrev pub AllReadBack : List PageParts → Type 0
AllReadBack pages = AllByRecursion ReadsBack pages

pub homes_length : (pages : List PageParts) → AllReadBack pages → length (flat_map page_bytes pages) ≡ 1024 * length pages
homes_length [] h = refl
homes_length (p ∷ ps) h = omega (arith, length-append (page_bytes p) (flat_map page_bytes ps), h.0.long, homes_length ps h.1)

abbrev no_page : PageParts
no_page = record { number = 0; slots = [] }

home_bytes : (pages : List PageParts) (page : ℕ) → AllReadBack pages → page < length pages → take 1024 (drop (1024 * page) (flat_map page_bytes pages)) ≡ page_bytes (get_or pages page no_page)
home_bytes [] page h lt = absurd (omega arith)
home_bytes (p ∷ ps) zero h lt = take_at (page_bytes p) (flat_map page_bytes ps) 1024 h.0.long
home_bytes (p ∷ ps) (suc page) h lt =
    let at : 1024 * suc page ≡ 1024 + 1024 * page = omega arith in
    ap (λ (l : List ℕ). take 1024 l)
    (ap (λ (n : ℕ). drop n (page_bytes p ++ flat_map page_bytes ps)) at
    ∙ sym (drop-drop (1024 * page) 1024 (page_bytes p ++ flat_map page_bytes ps))
    ∙ ap (λ (l : List ℕ). drop (1024 * page) l) (drop_at (page_bytes p) (flat_map page_bytes ps) 1024 h.0.long))
    ∙ home_bytes ps page h.1 (omega (arith, lt))

page_back : (pages : List PageParts) (page : ℕ) → AllReadBack pages → page < length pages → page_at (page_bytes (get_or pages page no_page)) ≡ Ok (get_or pages page no_page)
page_back [] page h lt = absurd (omega arith)
page_back (p ∷ ps) zero h lt = h.0.again
page_back (p ∷ ps) (suc page) h lt = page_back ps page h.1 (omega (arith, lt))

read_home : (p : PageParts) (page : ℕ) (bytes : List ℕ) → p.number ≡ page → page_at bytes ≡ Ok p → home_at page bytes ≡ Ok p
read_home p page bytes number read =
    ap (λ (r : Result PageParts ℕ). r >>= λ (x : PageParts). cond (x.number == page) (ok x) (Err 4)) read
    ∙ ap (λ (b : Bool). let x : Result PageParts ℕ = cond b (ok p) (Err 4) in x) (eq-eqb p.number page number)

-- ---- the whole file

module _ (file : List ℕ) (commits : ℕ) (pages : List PageParts) (back : AllReadBack pages) (laid : IsLaid commits pages file) where
  whole : List ℕ
  whole = store_bytes commits pages

  parts_are : whole ≡ super_bytes (length pages) ++ (area_bytes commits ++ (area_bytes commits ++ flat_map page_bytes pages))
  unfolding whole store_bytes
  parts_are = refl

  whole_length : length whole ≡ store_size (length pages)
  whole_length =
      let homes : List ℕ = flat_map page_bytes pages in
      ap length parts_are
      ∙ omega (
        arith,
        length-append (super_bytes (length pages)) (area_bytes commits ++ (area_bytes commits ++ homes)),
        length-append (area_bytes commits) (area_bytes commits ++ homes),
        length-append (area_bytes commits) homes,
        super_length (length pages),
        area_length commits,
        homes_length pages back,
      )

  front : take (store_size (length pages)) file ≡ take (store_size (length pages)) whole
  unfolding whole
  front = laid ∙ sym (take_all (store_size (length pages)) whole (omega (arith, whole_length)))

  long : store_size (length pages) ≤ length file
  unfolding whole
  long =
      let least : min (store_size (length pages)) (length file) ≡ store_size (length pages) = sym (length-take (store_size (length pages)) file) ∙ ap length laid ∙ whole_length in
      omega (arith, least)

  block : take super_size file ≡ super_bytes (length pages)
  block =
      front_same super_size (store_size (length pages)) file whole (omega arith) front
      ∙ ap (λ (l : List ℕ). take super_size l) parts_are
      ∙ take_at (super_bytes (length pages)) (area_bytes commits ++ (area_bytes commits ++ flat_map page_bytes pages)) super_size (super_length (length pages))

  area : area_of 0 file ≡ area_bytes commits
  area =
      piece_same (area_start 0) AREA_SIZE (store_size (length pages)) file whole (omega arith) front
      ∙ ap (λ (l : List ℕ). take AREA_SIZE (drop 1024 l)) parts_are
      ∙ ap (λ (l : List ℕ). take AREA_SIZE l) (drop_at (super_bytes (length pages)) (area_bytes commits ++ (area_bytes commits ++ flat_map page_bytes pages)) 1024 (super_length (length pages)))
      ∙ take_at (area_bytes commits) (area_bytes commits ++ flat_map page_bytes pages) AREA_SIZE (area_length commits)

  behind : drop HOMES_START whole ≡ flat_map page_bytes pages
  behind =
      let homes : List ℕ = flat_map page_bytes pages in
      ap (λ (l : List ℕ). drop HOMES_START l) parts_are
      ∙ sym (drop-drop 524288 1024 (super_bytes (length pages) ++ (area_bytes commits ++ (area_bytes commits ++ homes))))
      ∙ ap (λ (l : List ℕ). drop 524288 l) (drop_at (super_bytes (length pages)) (area_bytes commits ++ (area_bytes commits ++ homes)) 1024 (super_length (length pages)))
      ∙ sym (drop-drop AREA_SIZE AREA_SIZE (area_bytes commits ++ (area_bytes commits ++ homes)))
      ∙ ap (λ (l : List ℕ). drop AREA_SIZE l) (drop_at (area_bytes commits) (area_bytes commits ++ homes) AREA_SIZE (area_length commits))
      ∙ drop_at (area_bytes commits) homes AREA_SIZE (area_length commits)

  home : (page : ℕ) → page < length pages → home_of page file ≡ page_bytes (get_or pages page no_page)
  home page lt =
      piece_same (home_start page) 1024 (store_size (length pages)) file whole (omega (arith, lt)) front
      ∙ ap (λ (l : List ℕ). take 1024 l) (sym (drop-drop (1024 * page) HOMES_START whole) ∙ ap (λ (l : List ℕ). drop (1024 * page) l) behind)
      ∙ home_bytes pages page back lt

  pub laid_opens : ArePages pages → commits ≤ MOST_COUNTED → open_of file ≡ Ok (record { commits = commits; pages = pages })
  laid_opens are few =
      from_opens file (record { commits = commits; pages = pages }) (record {
        super = record { pages = length pages; area = 0 };
        head = ap super_at block ∙ super_reads (length pages) are.count (leb-true _ _ (and_parts _ _ are.count).1);
        long = long;
        held = record { base = commits; records = [] };
        active = ap (read_area (grammar (length pages)) (area_start 0)) area ∙ area_reads (grammar (length pages)) (area_start 0) commits few;
        finals = each_get (final_at [] file) (λ page. get_or pages page no_page) (below (length pages)) (λ page m.
            ap (from_place (home_start page)) (ap (home_at page) (home page (below_bound (length pages) page m))
            ∙ read_home (get_or pages page no_page) page (page_bytes (get_or pages page no_page)) (number page (below_bound (length pages) page m)) (page_back pages page back (below_bound (length pages) page m))))
            ∙ ap ok (map_get no_page pages);
        counted = omega arith;
      })
    where
      each_get : {A : Type 0} (f : ℕ → Result A ℕ) (g : ℕ → A) (ns : List ℕ) → ((n : ℕ) → In n ns → f n ≡ Ok (g n)) → each_of f ns ≡ Ok (map g ns)
      each_get f g [] h = refl
      each_get {A} f g (n ∷ ns) h =
          let first = h n (inl refl) in
          let rest = each_get f g ns (λ m i. h m (inr i)) in
          rw (first, rest) refl

      map_get : {A : Type 0} (d : A) (xs : List A) → map (λ i. get_or xs i d) (below (length xs)) ≡ xs
      map_get d xs = ext_get_or d (map (λ i. get_or xs i d) (below (length xs))) xs (length-map (below (length xs)) (λ i. get_or xs i d) ∙ length_below (length xs)) (λ i lt.
          get-map_below (λ j. get_or xs j d) (length xs) i d (omega (arith, lt, length-map (below (length xs)) (λ j. get_or xs j d), length_below (length xs))))

      number : (page : ℕ) → page < length pages → (get_or pages page no_page).number ≡ page
      number page lt =
          sym (get_or-map (λ (p : PageParts). p.number) pages page no_page 0 lt) ∙ ap (λ (l : List ℕ). get_or l page 0) are.numbered ∙ get_below (length pages) page lt
