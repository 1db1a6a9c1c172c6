-- Reading the pages of a store one by one.
use Rattle.std.proofs.Common.{◌≡◌, ◌≢◌, ℕ, zero, suc, ◌+◌, add-one, ◌-◌, ◌*◌, ◌<◌, ◌≤◌, ◌==◌, Bool, cond, List, [], ◌∷◌, ◌++◌, length, take, drop, length-append, Option, Result, Ok, Err, refl, sym, ◌∙◌, ap, arith, inl, inr}
use Rattle.std.proofs.lemmas.Bool.{cases_eq, eq-eqb, ne_eqb}
use Rattle.std.proofs.lemmas.List.{append_assoc, map-append, take-take, drop-take, drop-drop}
use Rattle.disk_trait.specs.Disk.{piece}
use Rattle.object_graph.specs.Slots.{below}
use Rattle.page_image.specs.Pages.{PageParts}
use Rattle.page_image.specs.Fields.{page_at}
use Rattle.redo_journal.specs.Homes.{home_start, home_of}
use Rattle.redo_journal.specs.Record.{RecordParts, numbers_of}
use Rattle.redo_journal.specs.Replays.{images_in, last_image, image_among}
use Rattle.redo_journal.specs.Results.{◌>>=◌, from_place}
use Rattle.redo_journal.proofs.GrammarLaws.{unok, bind_ok}
use Rattle.image_model.specs.Opening.{home_at, or_home, final_at, each_of}
use Rattle.image_model.proofs.Openings.{ok}
use Rattle.recovery.specs.Reading.{page_in}
use Rattle.recovery.specs.declared.faults.OpenFault.{OpenFault}
use Rattle.recovery.specs.declared.faults.OpenFault.TheVariants.{Damaged}

-- ---- a home

abbrev checked : ℕ → Result PageParts ℕ → Result PageParts ℕ
checked page r = r >>= λ (x : PageParts). cond (x.number == page) (ok x) (Err 4)

pub home_found : (place page : ℕ) (bytes : List ℕ) (p : PageParts) → page_at bytes ≡ Ok p → p.number ≡ page → from_place place (home_at page bytes) ≡ Ok p
home_found place page bytes p read is =
    ap (λ (r : Result PageParts ℕ). from_place place (checked page r)) read
    ∙ ap (λ (b : Bool). from_place place (let x : Result PageParts ℕ = cond b (ok p) (Err 4) in x)) (eq-eqb p.number page is)

pub home_other : (place start page : ℕ) (bytes : List ℕ) (p : PageParts) → page_at bytes ≡ Ok p → p.number ≢ page → place ≡ start → from_place start (home_at page bytes) ≡ Err (place + 4)
home_other place start page bytes p read off is =
    ap (λ (r : Result PageParts ℕ). from_place start (checked page r)) read
    ∙ ap (λ (b : Bool). from_place start (let x : Result PageParts ℕ = cond b (ok p) (Err 4) in x)) (ne_eqb p.number page off)
    ∙ ap (λ (n : ℕ). let x : Result PageParts ℕ = Err (n + 4) in x) (sym is)

pub home_bad : (place start page at wrong : ℕ) (bytes : List ℕ) → page_at bytes ≡ Err wrong → place ≡ start → at ≡ wrong → from_place start (home_at page bytes) ≡ Err (place + at)
home_bad place start page at wrong bytes read is at_is =
    ap (λ (r : Result PageParts ℕ). from_place start (checked page r)) read
    ∙ ap (λ (n : ℕ). let x : Result PageParts ℕ = Err (n + wrong) in x) (sym is) ∙ ap (λ (n : ℕ). let x : Result PageParts ℕ = Err (place + n) in x) (sym at_is)

-- ---- all pages

each_push : {A : Type 0} (f : ℕ → Result A ℕ) (ns : List ℕ) (n : ℕ) (xs : List A) (x : A) → each_of f ns ≡ Ok xs → f n ≡ Ok x → each_of f (ns ++ n ∷ []) ≡ Ok (xs ++ x ∷ [])
each_push {A} f [] n xs x e h =
    ap (λ (r : Result A ℕ). r >>= λ (y : A). ok (y ∷ [])) h ∙ ap (λ (l : List A). ok (l ++ x ∷ [])) (unok [] xs e)
each_push {A} f (m ∷ ns) n xs x e h =
    let a = bind_ok (f m) (λ (y : A). each_of f ns >>= λ (more : List A). ok (y ∷ more)) xs e in
    let b = bind_ok (each_of f ns) (λ (more : List A). ok (a.0 ∷ more)) xs a.2 in
    let rest = each_push f ns n b.0 x b.1 h in
    rw (a.1, rest) (ap (λ (l : List A). ok (l ++ x ∷ [])) (unok (a.0 ∷ b.0) xs b.2))

each_stop : {A : Type 0} (f : ℕ → Result A ℕ) (ns : List ℕ) (n : ℕ) (more : List ℕ) (xs : List A) (at : ℕ) → each_of f ns ≡ Ok xs → f n ≡ Err at → each_of f (ns ++ n ∷ more) ≡ Err at
each_stop {A} f [] n more xs at e h = ap (λ (r : Result A ℕ). r >>= λ (y : A). each_of f more >>= λ (l : List A). ok (y ∷ l)) h
each_stop {A} f (m ∷ ns) n more xs at e h =
    let a = bind_ok (f m) (λ (y : A). each_of f ns >>= λ (l : List A). ok (y ∷ l)) xs e in
    let b = bind_ok (each_of f ns) (λ (l : List A). ok (a.0 ∷ l)) xs a.2 in
    let rest = each_stop f ns n more b.0 at b.1 h in
    rw (a.1, rest) refl

below_next : (n next : ℕ) → next ≡ n + 1 → below next ≡ below n ++ n ∷ []
below_next n next is = ap below (is ∙ add-one n)

below_rest : (m n : ℕ) → n < m → (rest : List ℕ) × (below m ≡ below n ++ n ∷ rest)
below_rest zero n lt = absurd (omega arith)
below_rest (suc m) n lt = elim (cases_eq n m) [
  | inl e ↦ ([], ap (λ (k : ℕ). below m ++ k ∷ []) (sym e) ∙ ap (λ (k : ℕ). below k ++ n ∷ []) (sym e))
  | inr off ↦
      let a = below_rest m n (omega (arith, lt, off)) in
      (a.0 ++ m ∷ [], ap (λ (l : List ℕ). l ++ m ∷ []) a.1 ∙ append_assoc (below n) (n ∷ a.0) (m ∷ []))
]

-- so many were read, and one more
pub pages_more : (images : List PageParts) (file : List ℕ) (n next : ℕ) (pages later : List PageParts) (p : PageParts) → next ≡ n + 1 → each_of (page_in images file) (below n) ≡ Ok pages → page_in images file n ≡ Ok p → later ≡ pages ++ p ∷ []
    → each_of (page_in images file) (below next) ≡ Ok later
pages_more images file n next pages later p is so_far read pushed =
    ap (each_of (page_in images file)) (below_next n next is) ∙ each_push (page_in images file) (below n) n pages p so_far read ∙ ap (λ (l : List PageParts). ok l) (sym pushed)

pub pages_stop : (images : List PageParts) (file : List ℕ) (n count at : ℕ) (pages : List PageParts) → n < count → each_of (page_in images file) (below n) ≡ Ok pages → page_in images file n ≡ Err at → each_of (page_in images file) (below count) ≡ Err at
pages_stop images file n count at pages lt so_far bad =
    let rest = below_rest count n lt in
    ap (each_of (page_in images file)) rest.1 ∙ each_stop (page_in images file) (below n) n rest.0 pages at so_far bad

pub numbers_more : (n next : ℕ) (pages later : List PageParts) (p : PageParts) → next ≡ n + 1 → numbers_of pages ≡ below n → p.number ≡ n → later ≡ pages ++ p ∷ [] → numbers_of later ≡ below next
numbers_more n next pages later p is so_far number pushed =
    ap numbers_of pushed ∙ map-append (λ (q : PageParts). q.number) pages (p ∷ []) ∙ ap (λ (l : List ℕ). l ++ p.number ∷ []) so_far ∙ ap (λ (k : ℕ). below n ++ k ∷ []) number ∙ sym (below_next n next is)

-- ---- homes in a piece

within : (at n size start : ℕ) (x : List ℕ) → at + n ≤ size → piece at n (piece start size x) ≡ piece (start + at) n x
within at n size start x le =
    let whole : size ≡ at + (size - at) = omega arith in
    let rest : n ≤ size - at = omega arith in
    ap (λ (k : ℕ). take n (drop at (take k (drop start x)))) whole ∙ ap (take n) (drop-take at (size - at) (drop start x)) ∙ take-take n (size - at) (drop at (drop start x)) rest ∙ ap (take n) (drop-drop at start x)

pub home_within : (file bytes home : List ℕ) (first at page : ℕ) → bytes ≡ piece (home_start first) (length bytes) file → home ≡ piece (1024 * at) 1024 bytes → 1024 * at + 1024 ≤ length bytes → page ≡ first + at → home ≡ home_of page file
home_within file bytes home first at page read is fits page_is =
    let place : home_start first + 1024 * at ≡ home_start page = omega (arith, page_is) in
    is ∙ ap (piece (1024 * at) 1024) read ∙ within (1024 * at) 1024 (length bytes) (home_start first) file fits ∙ ap (λ (n : ℕ). piece n 1024 file) place

pub one_longer : {A : Type 0} (xs ys : List A) (x : A) → ys ≡ xs ++ x ∷ [] → length ys ≡ length xs + 1
one_longer xs ys x is = ap length is ∙ length-append xs (x ∷ [])

-- ---- the images of a replay are the last ones of its records

each_same : {A : Type 0} (f g : ℕ → Result A ℕ) (ns : List ℕ) → ((n : ℕ) → f n ≡ g n) → each_of f ns ≡ each_of g ns
each_same f g [] h = refl
each_same {A} f g (n ∷ ns) h =
    ap (λ (r : Result A ℕ). r >>= λ (y : A). each_of f ns >>= λ (l : List A). ok (y ∷ l)) (h n)
    ∙ ap (λ (r : Result (List A) ℕ). g n >>= λ (y : A). r >>= λ (l : List A). ok (y ∷ l)) (each_same f g ns h)

pub finals_are : (records : List RecordParts) (images : List PageParts) (file : List ℕ) (ns : List ℕ) → ((page : ℕ) → image_among images page ≡ last_image (images_in records) page) → each_of (page_in images file) ns ≡ each_of (final_at records file) ns
finals_are records images file ns h = each_same (page_in images file) (final_at records file) ns (λ page. ap (λ (image : Option PageParts). or_home image page file) (h page))

-- what a `?` handed on
pub handed : {T : Type 0} (r : Result T OpenFault) (y fault : OpenFault) (at : ℕ) → r ≡ Err y → y ≡ fault → r ≡ Err (Damaged at) → fault ≡ Damaged at
handed r y fault at is same bad = cc
