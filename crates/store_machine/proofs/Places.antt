-- The places of a collection.
use Rattle.std.proofs.Common.{◌≡◌, refl, ap, ◌∙◌, ℕ, zero, suc, ◌+◌, ◌-◌, ◌*◌, ◌<◌, ◌≤◌, List, [], ◌∷◌, ◌++◌, length, map, append_assoc, length-append, Some, None, arith}
use Rattle.std.specs.Prelude.{slice_get}
use Rattle.std.proofs.lemmas.Option.{slice_get-get_or, slice_get_past}
use Rattle.object_graph.specs.declared.calls.Call.{Call}
use Rattle.object_graph.specs.declared.calls.Call.TheVariants.{OpenCut, Copy, Close, Mark, Sweep, EndCut}
use Rattle.object_graph.specs.Slots.{below}
use Rattle.store_model.specs.Histories.{collection}
use Rattle.store_model.proofs.Flats.{length-map_below, get-map_below}

front : {X : Type 0} (xs ys : List X) (i : ℕ) → i < length xs → slice_get (xs ++ ys) i ≡ slice_get xs i
front [] ys i lt = absurd (omega arith)
front (x ∷ xs) ys zero lt = refl
front (x ∷ xs) ys (suc i) lt = front xs ys i (omega arith)

behind : {X : Type 0} (xs ys : List X) (i n : ℕ) → i ≡ length xs + n → slice_get (xs ++ ys) i ≡ slice_get ys n
behind [] ys i n e = ap (slice_get ys) (let same : i ≡ n = omega arith in same)
behind (x ∷ xs) ys zero n e = absurd (omega arith)
behind (x ∷ xs) ys (suc i) n e = behind xs ys i n (omega arith)

abbrev pub copies : ℕ → List Call
copies pages = OpenCut ∷ map (λ page. Copy page) (below pages)

abbrev pub sweeps : ℕ → List Call
sweeps pages = map (λ page. Sweep page) (below pages) ++ EndCut ∷ []

in_parts : (pages workers : ℕ) → collection pages workers ≡ copies pages ++ (Close ∷ Mark workers ∷ sweeps pages)
in_parts pages workers = append_assoc (copies pages) (Close ∷ Mark workers ∷ map (λ page. Sweep page) (below pages)) (EndCut ∷ [])

copies_long : (pages : ℕ) → length (copies pages) ≡ pages + 1
copies_long pages = omega (arith, length-map_below (λ (page : ℕ). Copy page) pages)

pub copying_place : (pages workers place : ℕ) → place ≤ pages → slice_get (collection pages workers) place ≡ slice_get (copies pages) place
copying_place pages workers place le =
    ap (λ calls. slice_get calls place) (in_parts pages workers) ∙ front (copies pages) (Close ∷ Mark workers ∷ sweeps pages) place (omega (arith, copies_long pages))

pub later_place : (pages workers place rest : ℕ) → place ≡ pages + 1 + rest → slice_get (collection pages workers) place ≡ slice_get (Close ∷ Mark workers ∷ sweeps pages) rest
later_place pages workers place rest is =
    ap (λ calls. slice_get calls place) (in_parts pages workers) ∙ behind (copies pages) (Close ∷ Mark workers ∷ sweeps pages) place rest (omega (arith, is, copies_long pages))

of_pages : (f : ℕ → Call) (pages page : ℕ) → page < pages → slice_get (map f (below pages)) page ≡ Some (f page)
of_pages f pages page lt =
    slice_get-get_or (map f (below pages)) page OpenCut (omega (arith, lt, length-map_below f pages)) ∙ ap (λ c. Some c) (get-map_below f pages page OpenCut lt)

pub copy_place : (pages place page : ℕ) → place ≡ page + 1 → page < pages → slice_get (copies pages) place ≡ Some (Copy page)
copy_place pages zero page is lt = absurd (omega arith)
copy_place pages (suc place) page is lt = of_pages (λ p. Copy p) pages place (omega arith) ∙ ap (λ p. Some (Copy p)) (let e : place ≡ page = omega arith in e)

swept_long : (pages : ℕ) → length (sweeps pages) ≡ pages + 1
swept_long pages = omega (arith, length-append (map (λ (page : ℕ). Sweep page) (below pages)) (EndCut ∷ []), length-map_below (λ (page : ℕ). Sweep page) pages)

pub sweep_place : (pages place : ℕ) → place < pages → slice_get (sweeps pages) place ≡ Some (Sweep place)
sweep_place pages place lt =
    front (map (λ page. Sweep page) (below pages)) (EndCut ∷ []) place (omega (arith, lt, length-map_below (λ (page : ℕ). Sweep page) pages)) ∙ of_pages (λ p. Sweep p) pages place lt

pub end_place : (pages place : ℕ) → place ≡ pages → slice_get (sweeps pages) place ≡ Some EndCut
end_place pages place is =
    behind (map (λ page. Sweep page) (below pages)) (EndCut ∷ []) place 0 (omega (arith, is, length-map_below (λ (page : ℕ). Sweep page) pages))

pub past_place : (pages place : ℕ) → pages < place → slice_get (sweeps pages) place ≡ None
past_place pages place lt = slice_get_past (sweeps pages) place (omega (arith, lt, swept_long pages))

-- behind the closing and the marking
pub after_two : (pages workers rest : ℕ) → 2 ≤ rest → slice_get (Close ∷ Mark workers ∷ sweeps pages) rest ≡ slice_get (sweeps pages) (rest - 2)
after_two pages workers rest le = behind (Close ∷ Mark workers ∷ []) (sweeps pages) rest (rest - 2) (omega arith)

pub collection_long : (pages workers : ℕ) → length (collection pages workers) ≡ 2 * pages + 4
collection_long pages workers =
    ap length (in_parts pages workers)
    ∙ omega (arith, length-append (copies pages) (Close ∷ Mark workers ∷ sweeps pages), copies_long pages, swept_long pages)
