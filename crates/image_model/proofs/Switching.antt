-- Writing the switch byte: until it is safe either area may be found active.
use Rattle.std.proofs.Common.{◌≡◌, ℕ, ◌-◌, ◌%◌, ◌<◌, ◌==◌, ◌&&◌, Bool, true, false, cond, min, List, [], length, get_or, take, drop, Option, Some, None, Ok, refl, sym, ◌∙◌, ap, subst, arith, ◌⊎◌, inl, inr}
use Rattle.std.proofs.lemmas.Bool.{cases_eq}
use Rattle.std.proofs.lemmas.List.{take-take, drop-take, length-take}
use Rattle.std.specs.Int.{w32, w64, from_be_bytes}
use Rattle.disk_trait.specs.Disk.{piece, Torn}
use Rattle.redo_journal.specs.Area.{area_of, area_start, read_area}
use Rattle.redo_journal.specs.declared.sizes.TheConstants.{AREA_SIZE}
use Rattle.redo_journal.specs.Homes.{home_of}
use Rattle.redo_journal.specs.Record.{RecordParts, grammar}
use Rattle.store_model.specs.States.{State}
use Rattle.image_model.specs.Super.{SuperParts, is_super, are_zeros, is_page_count, super_at, super_of, super_size, switch_place}
use Rattle.image_model.specs.Opening.{home_at, active_of, final_at}
use Rattle.image_model.specs.Stands.{StandsFor}
use Rattle.image_model.specs.Files.{IsReadyToSwitch}
use Rattle.image_model.proofs.Openings.{some_super, unsome, piece_same, behind_same, home_behind, area_below, counted_is, Opens, opens_parts, opens_alike}
use Rattle.image_model.proofs.RecordSteps.{opens_turned}
use Rattle.image_model.proofs.Standing.{stands_as}

abbrev pub test : ℕ → List ℕ → List ℕ → List ℕ → List ℕ → List ℕ → Bool
test len mark version pages before after =
    (len == super_size)
    && ((from_be_bytes w64 mark == 4851876890435080773)
    && ((from_be_bytes w32 version == 1)
    && (is_page_count (from_be_bytes w32 pages)
    && (are_zeros before && are_zeros after))))

abbrev pub test_of : List ℕ → Bool
test_of block = test (length block) (piece 0 8 block) (piece 8 4 block) (piece 12 4 block) (piece 16 496 block) (piece 513 511 block)

pub super_is : (block : List ℕ) → is_super block ≡ test_of block
unfolding is_super
super_is block = refl

-- the switch byte doesn't matter to the super block's being right
test_same : (x y : List ℕ) → length x ≡ length y → take 512 x ≡ take 512 y → drop 513 x ≡ drop 513 y → test_of x ≡ test_of y
test_same x y len front behind =
    ap (λ (n : ℕ). test n (piece 0 8 x) (piece 8 4 x) (piece 12 4 x) (piece 16 496 x) (piece 513 511 x)) len
    ∙ ap (λ (l : List ℕ). test (length y) l (piece 8 4 x) (piece 12 4 x) (piece 16 496 x) (piece 513 511 x)) (piece_same 0 8 512 x y (omega arith) front)
    ∙ ap (λ (l : List ℕ). test (length y) (piece 0 8 y) l (piece 12 4 x) (piece 16 496 x) (piece 513 511 x)) (piece_same 8 4 512 x y (omega arith) front)
    ∙ ap (λ (l : List ℕ). test (length y) (piece 0 8 y) (piece 8 4 y) l (piece 16 496 x) (piece 513 511 x)) (piece_same 12 4 512 x y (omega arith) front)
    ∙ ap (λ (l : List ℕ). test (length y) (piece 0 8 y) (piece 8 4 y) (piece 12 4 y) l (piece 513 511 x)) (piece_same 16 496 512 x y (omega arith) front)
    ∙ ap (λ (l : List ℕ). test (length y) (piece 0 8 y) (piece 8 4 y) (piece 12 4 y) (piece 16 496 y) (take 511 l)) behind

abbrev super_with : Bool → ℕ → ℕ → Option SuperParts
super_with b pages byte = cond b (some_super (record { pages = pages; area = byte % 2 })) None

super_parts : (b : Bool) (pages byte : ℕ) (s : SuperParts) → super_with b pages byte ≡ Some s → (b ≡ true) × (pages ≡ s.pages)
super_parts true pages byte s e =
    let q : SuperParts = record { pages = pages; area = byte % 2 } in
    let is : q ≡ s = unsome q s e in
    (refl, ap (λ (x : SuperParts). x.pages) is)
super_parts false pages byte s e = absurd cc

-- a super block with another switch byte
blocks_alike : (x y : List ℕ) (s : SuperParts) → length x ≡ length y → take 512 x ≡ take 512 y → drop 513 x ≡ drop 513 y → super_at y ≡ Some s → super_at x ≡ Some (record { pages = s.pages; area = get_or x 512 0 % 2 })
blocks_alike x y s len front behind e =
    let p = super_parts (is_super y) (from_be_bytes w32 (piece 12 4 y)) (get_or y 512 0) s e in
    let good : is_super x ≡ true = super_is x ∙ test_same x y len front behind ∙ sym (super_is y) ∙ p.0 in
    let pages : from_be_bytes w32 (piece 12 4 x) ≡ s.pages = ap (λ (l : List ℕ). from_be_bytes w32 l) (piece_same 12 4 512 x y (omega arith) front) ∙ p.1 in
    ap (λ (b : Bool). super_with b (from_be_bytes w32 (piece 12 4 x)) (get_or x 512 0)) good ∙ ap (λ (n : ℕ). super_with true n (get_or x 512 0)) pages

pub switched : (file other : List ℕ) (s : SuperParts) → super_of file ≡ Some s → Torn switch_place 1 file other → super_of other ≡ Some (record { pages = s.pages; area = get_or (take super_size other) 512 0 % 2 })
switched file other s e torn =
    blocks_alike (take super_size other) (take super_size file) s
    (length-take super_size other ∙ ap (λ (n : ℕ). min super_size n) torn.same_length ∙ sym (length-take super_size file))
    (take-take 512 1024 other (omega arith) ∙ torn.before ∙ sym (take-take 512 1024 file (omega arith)))
    (drop-take 513 511 other ∙ ap (λ (l : List ℕ). take 511 l) torn.after ∙ sym (drop-take 513 511 file)) e

low : (a b : ℕ) → a < 2 → b < 2 → (a ≡ b) ⊎ (a ≡ 1 - b)
low a b p q = elim (cases_eq a b) [ inl e ↦ inl e | inr e ↦ inr (omega (arith, p, q, e)) ]

-- while the switch byte is written the file stands for the same
pub switch_is_same : (file other : List ℕ) (pages : ℕ) (s : State) (super : SuperParts) → StandsFor file pages s → IsReadyToSwitch super s.commits file → Torn switch_place 1 file other → StandsFor other pages s
switch_is_same file other pages s super h ready torn = by_area (low area super.area small (area_below file super ready.head))
  where
    area : ℕ
    area = get_or (take super_size other) 512 0 % 2

    small_of : (n : ℕ) → n % 2 < 2
    small_of n = omega arith

    small : area < 2
    small = small_of (get_or (take super_size other) 512 0)

    now : super_of other ≡ Some (record { pages = super.pages; area = area })
    now = switched file other super ready.head torn

    areas : (a : ℕ) → area_of a other ≡ area_of a file
    areas a = ap (λ (l : List ℕ). take AREA_SIZE l) (behind_same 513 (area_start a) other file (omega arith) torn.after)

    homes : (page : ℕ) → home_of page other ≡ home_of page file
    homes page = home_behind page 513 other file (omega arith) torn.after

    p : Opens file h.content
    p = opens_parts file h.content h.store.opens

    same : super ≡ p.super
    same = unsome super p.super (sym ready.head ∙ p.head)

    by_area : (area ≡ super.area) ⊎ (area ≡ 1 - super.area) → StandsFor other pages s
    by_area (inl e) =
        let again : super_of other ≡ Some p.super = now ∙ ap (λ (a : ℕ). some_super (record { pages = super.pages; area = a })) e ∙ ap some_super same in
        stands_as file other pages s h (opens_alike file other h.content p torn.same_length again (areas p.super.area) (λ page lt none. homes page))
    by_area (inr e) =
        let pages_same : super.pages ≡ p.super.pages = ap (λ (x : SuperParts). x.pages) same in
        let reads : active_of (record { pages = p.super.pages; area = area }) other ≡ Ok (record { base = h.content.commits; records = [] }) =
        ap (read_area (grammar p.super.pages) (area_start area)) (areas area)
        ∙ ap (λ (n : ℕ). read_area (grammar n) (area_start area) (area_of area file)) (sym pages_same)
        ∙ ap (λ (a : ℕ). read_area (grammar super.pages) (area_start a) (area_of a file)) e
        ∙ subst (λ (n : ℕ). read_area (grammar super.pages) (area_start (1 - super.area)) (area_of (1 - super.area) file) ≡ Ok (record { base = n; records = [] })) (sym h.commits) ready.other.reads in
        stands_as file other pages s h (opens_turned file other h.content p area torn.same_length
        (now ∙ ap (λ (n : ℕ). some_super (record { pages = n; area = area })) pages_same) reads
        (λ page q lt final. ap (home_at page) (homes page)
        ∙ ready.homes page q (omega (arith, lt, pages_same)) (ap (λ (rs : List RecordParts). final_at rs file page) (counted_is file p.super p.held p.head p.active) ∙ final)))
