-- The bytes of a file as homes change.
use Rattle.std.proofs.Common.{◌≡◌, inl, inr, ℕ, ◌+◌, ◌-◌, ◌<◌, ◌≤◌, Bool, true, false, List, length, get_or, take, drop, refl, sym, ◌∙◌, ap, arith, length-drop, min}
use Rattle.std.proofs.lemmas.Bool.{cases_lt}
use Rattle.std.proofs.lemmas.List.{length-take, get_or-take, get_or-drop, take_at, ext_get_or}
use Rattle.disk_trait.specs.Disk.{piece, written, Torn}
use Rattle.redo_journal.specs.Homes.{DiffersInHomes, IsInHome, home_start, home_of}
use Rattle.redo_journal.proofs.FileLaws.{length-piece, get_or-piece, drop-written}
use Rattle.redo_journal.specs.declared.sizes.TheConstants.{HOMES_START, PAGE_SIZE}

-- ---- pieces

length-pieces : (at n : ℕ) (x y : List ℕ) → length x ≡ length y → length (piece at n x) ≡ length (piece at n y)
length-pieces at n x y long =
    let tails : length (drop at x) ≡ length (drop at y) = length-drop at x ∙ ap (λ m. m - at) long ∙ sym (length-drop at y) in
    length-take n (drop at x) ∙ ap (λ m. min n m) tails ∙ sym (length-take n (drop at y))

-- pieces of the same bytes
same_pieces : (at n : ℕ) (x y : List ℕ) → length x ≡ length y → ((i : ℕ) → at ≤ i → i < at + n → get_or x i 0 ≡ get_or y i 0) → piece at n x ≡ piece at n y
same_pieces at n x y long each =
    ext_get_or 0 (piece at n x) (piece at n y) (length-pieces at n x y long) (λ i lt.
    let within : i < n = omega (arith, lt, length-take n (drop at x)) in
    get_or-piece at n i x within ∙ each (at + i) (omega arith) (omega (arith, within)) ∙ sym (get_or-piece at n i y within))

-- a piece of a piece
pub piece-piece : (at n start size : ℕ) (x : List ℕ) → at + n ≤ size → start + size ≤ length x → piece at n (piece start size x) ≡ piece (start + at) n x
piece-piece at n start size x fits long =
    let area : length (piece start size x) ≡ size = length-piece start size x long in
    let inner : length (piece at n (piece start size x)) ≡ n = length-piece at n (piece start size x) (omega (arith, area, fits)) in
    let outer : length (piece (start + at) n x) ≡ n = length-piece (start + at) n x (omega (arith, long, fits)) in
    ext_get_or 0 (piece at n (piece start size x)) (piece (start + at) n x) (inner ∙ sym outer) (λ i lt.
    let within : i < n = omega (arith, lt, inner) in
    get_or-piece at n i (piece start size x) within ∙ get_or-piece start size (at + i) x (omega (arith, within, fits))
    ∙ ap (λ m. get_or x m 0) (omega arith) ∙ sym (get_or-piece (start + at) n i x within))

-- ---- what a write leaves

torn-before : (at n : ℕ) (old new : List ℕ) → Torn at n old new → (i : ℕ) → i < at → get_or new i 0 ≡ get_or old i 0
torn-before at n old new torn i lt = sym (get_or-take at new i 0 lt) ∙ ap (λ (l : List ℕ). get_or l i 0) torn.before ∙ get_or-take at old i 0 lt

torn-behind : (at n : ℕ) (old new : List ℕ) → Torn at n old new → (i : ℕ) → at + n ≤ i → get_or new i 0 ≡ get_or old i 0
torn-behind at n old new torn i le =
    let k = i - (at + n) in
    let is : at + n + k ≡ i = omega (arith, le) in
    ap (λ m. get_or new m 0) (sym is) ∙ sym (get_or-drop (at + n) new k 0) ∙ ap (λ (l : List ℕ). get_or l k 0) torn.after ∙ get_or-drop (at + n) old k 0 ∙ ap (λ m. get_or old m 0) is

-- a home that is torn
pub torn_home : (named : ℕ → Bool) (page : ℕ) (old new : List ℕ) → named page ≡ true → Torn (home_start page) PAGE_SIZE old new → DiffersInHomes named old new
torn_home named page old new is torn = record {
  same_length = torn.same_length;
  elsewhere = λ i out. elim (cases_lt i (home_start page)) [
    | inl before ↦ torn-before (home_start page) PAGE_SIZE old new torn i before
    | inr from ↦ elim (cases_lt i (home_start page + PAGE_SIZE)) [
      | inl within ↦ absurd (out page is (from, within))
      | inr behind ↦ torn-behind (home_start page) PAGE_SIZE old new torn i behind
    ]
  ];
}

-- an image that was written home is read there
pub home_written : (page : ℕ) (bytes file : List ℕ) → length bytes ≡ PAGE_SIZE → home_start page + PAGE_SIZE ≤ length file → home_of page (written (home_start page) bytes file) ≡ bytes
home_written page bytes file long fits =
    let start = home_start page in
    ap (λ (l : List ℕ). take PAGE_SIZE l) (drop-written start bytes file (omega (arith, long, fits))) ∙ take_at bytes (drop (start + length bytes) file) PAGE_SIZE long

-- ---- files that differ in homes

pub differs_not : (named : ℕ → Bool) (file : List ℕ) → DiffersInHomes named file file
differs_not named file = record { same_length = refl; elsewhere = λ i out. refl }

pub differs_then : (named : ℕ → Bool) (a b c : List ℕ) → DiffersInHomes named a b → DiffersInHomes named b c → DiffersInHomes named a c
differs_then named a b c first second = record {
  same_length = second.same_length ∙ first.same_length;
  elsewhere = λ i out. second.elsewhere i out ∙ first.elsewhere i out;
}

pub differs_more : (named more : ℕ → Bool) (a b : List ℕ) → ((page : ℕ) → named page ≡ true → more page ≡ true) → DiffersInHomes named a b → DiffersInHomes more a b
differs_more named more a b within d = record {
  same_length = d.same_length;
  elsewhere = λ i out. d.elsewhere i (λ page is inside. out page (within page is) inside);
}

-- what stands before the homes is the same
pub same_front : (named : ℕ → Bool) (old new : List ℕ) (at n : ℕ) → DiffersInHomes named old new → at + n ≤ HOMES_START → piece at n new ≡ piece at n old
same_front named old new at n d low =
    same_pieces at n new old d.same_length (λ i from below. d.elsewhere i (λ page is inside. absurd (omega (arith, inside.0, below, low))))

one_home : (page other i : ℕ) → IsInHome page i → IsInHome other i → other ≡ page
one_home page other i here there = omega (arith, here.0, here.1, there.0, there.1)

-- so is the home of a page that isn't named
pub same_home : (named : ℕ → Bool) (old new : List ℕ) (page : ℕ) → DiffersInHomes named old new → named page ≡ false → home_of page new ≡ home_of page old
same_home named old new page d not_named =
    same_pieces (home_start page) PAGE_SIZE new old d.same_length (λ i from below. d.elsewhere i (λ other is inside.
    let same : other ≡ page = one_home page other i (from, below) inside in
    let both : true ≡ false = sym is ∙ ap named same ∙ not_named in
    absurd (cc both)))
