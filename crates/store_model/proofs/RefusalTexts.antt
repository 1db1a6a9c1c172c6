-- No two refusals have one text.
use Rattle.std.proofs.Common.{◌≡◌, ℕ, ◌+◌, ◌*◌, ◌==◌, ◌||◌, cond, List, [], ◌∷◌, map, get_or, refl, arith, append-nil}
use Rattle.std.specs.Prelude.{codes}
use Rattle.object_graph.specs.declared.calls.Phase.TheVariants.{Copying, Closed, Sweeping}
use Rattle.object_graph.specs.declared.calls.Refusal.{Refusal}
use Rattle.object_graph.specs.declared.calls.Refusal.TheVariants.{NotOpen, Stranger, BadField, NoPage, Busy, TooWide, KnowsTooMany, PageFull, AlreadyOpen, TooMany, CutThere, NoCut, WrongPhase, AlreadyCopied, Uncopied, OtherCut, AlreadySwept, Unswept, Spent, DiskFault, Broken, NotAStore, Damaged, Memory}
use Rattle.store_model.specs.Texts.{AreShort, refusal_text, refusal_numbers}
use Rattle.store_model.proofs.Spelled.{IsSpelled, spelled_same, front_of, place_of, word_in, letter}

abbrev pub refusal_words : List (List ℕ)
refusal_words =
    codes "not open" ∷ codes "stranger" ∷ codes "bad field" ∷ codes "no page" ∷ codes "busy" ∷ codes "too wide"
    ∷ codes "knows too many" ∷ codes "page full" ∷ codes "already open" ∷ codes "too many" ∷ codes "cut there" ∷ codes "no cut"
    ∷ codes "wrong phase copying" ∷ codes "wrong phase closed" ∷ codes "wrong phase sweeping" ∷ codes "already copied" ∷ codes "uncopied" ∷ codes "other cut"
    ∷ codes "already swept" ∷ codes "unswept" ∷ codes "spent" ∷ codes "disk fault" ∷ codes "broken" ∷ codes "not a store"
    ∷ codes "damaged" ∷ codes "memory" ∷ []

abbrev pub refusal_kind : Refusal → ℕ
refusal_kind NotOpen = 0
refusal_kind Stranger = 1
refusal_kind BadField = 2
refusal_kind NoPage = 3
refusal_kind (Busy n) = 4
refusal_kind TooWide = 5
refusal_kind KnowsTooMany = 6
refusal_kind (PageFull n) = 7
refusal_kind AlreadyOpen = 8
refusal_kind TooMany = 9
refusal_kind (CutThere n) = 10
refusal_kind NoCut = 11
refusal_kind (WrongPhase Copying) = 12
refusal_kind (WrongPhase Closed) = 13
refusal_kind (WrongPhase Sweeping) = 14
refusal_kind (AlreadyCopied n) = 15
refusal_kind (Uncopied n) = 16
refusal_kind (OtherCut n) = 17
refusal_kind (AlreadySwept n) = 18
refusal_kind (Unswept n) = 19
refusal_kind (Spent n) = 20
refusal_kind DiskFault = 21
refusal_kind (Broken n) = 22
refusal_kind NotAStore = 23
refusal_kind (Damaged n) = 24
refusal_kind Memory = 25

abbrev pub refusal_separators : List (List ℕ)
refusal_separators = [] ∷ [] ∷ [] ∷ [] ∷ (32 ∷ []) ∷ [] ∷ [] ∷ (32 ∷ []) ∷ [] ∷ [] ∷ (32 ∷ []) ∷ [] ∷ [] ∷ [] ∷ [] ∷ (32 ∷ []) ∷ (32 ∷ []) ∷ (32 ∷ []) ∷ (32 ∷ []) ∷ (32 ∷ []) ∷ (32 ∷ []) ∷ [] ∷ (32 ∷ []) ∷ [] ∷ (32 ∷ []) ∷ [] ∷ []

abbrev pub refusals_of : ℕ → List Refusal
refusals_of n =
    NotOpen ∷ Stranger ∷ BadField ∷ NoPage ∷ Busy n ∷ TooWide ∷ KnowsTooMany ∷ PageFull n
    ∷ AlreadyOpen ∷ TooMany ∷ CutThere n ∷ NoCut ∷ WrongPhase Copying ∷ WrongPhase Closed ∷ WrongPhase Sweeping ∷ AlreadyCopied n
    ∷ Uncopied n ∷ OtherCut n ∷ AlreadySwept n ∷ Unswept n ∷ Spent n ∷ DiskFault ∷ Broken n ∷ NotAStore
    ∷ Damaged n ∷ Memory ∷ []

abbrev pub refusal_of : ℕ → List ℕ → Refusal
refusal_of kind ns = get_or (refusals_of (letter ns 0)) kind Memory

-- words that begin alike differ at a later letter
abbrev pub refusal_mark : List ℕ → ℕ
refusal_mark text =
    let front = front_of text in
    cond (front == front_of (codes "no ")) (front * 256 + letter text 3)
    (cond ((front == front_of (codes "not")) || (front == front_of (codes "too"))) (front * 256 + letter text 4)
    (cond (front == front_of (codes "already")) (front * 256 + letter text 8)
    (cond (front == front_of (codes "wrong")) (front * 256 + letter text 13) front)))

abbrev pub kind_in_refusal : List ℕ → ℕ
kind_in_refusal text = place_of (refusal_mark text) (map refusal_mark refusal_words)

abbrev pub IsRefusalSpelled : Refusal → Type 0
IsRefusalSpelled why = IsSpelled refusal_text refusal_kind refusal_numbers refusal_of (word_in refusal_words) (word_in refusal_separators) kind_in_refusal why

pub refusal_spelled : (why : Refusal) → IsRefusalSpelled why
refusal_spelled NotOpen = record { told = refl; is = refl; all = refl; low = tt; again = refl }
refusal_spelled Stranger = record { told = refl; is = refl; all = refl; low = tt; again = refl }
refusal_spelled BadField = record { told = refl; is = refl; all = refl; low = tt; again = refl }
refusal_spelled NoPage = record { told = refl; is = refl; all = refl; low = tt; again = refl }
refusal_spelled (Busy n) = record { told = refl; is = rw append-nil refl; all = refl; low = (omega arith, tt); again = refl }
refusal_spelled TooWide = record { told = refl; is = refl; all = refl; low = tt; again = refl }
refusal_spelled KnowsTooMany = record { told = refl; is = refl; all = refl; low = tt; again = refl }
refusal_spelled (PageFull n) = record { told = refl; is = rw append-nil refl; all = refl; low = (omega arith, tt); again = refl }
refusal_spelled AlreadyOpen = record { told = refl; is = refl; all = refl; low = tt; again = refl }
refusal_spelled TooMany = record { told = refl; is = refl; all = refl; low = tt; again = refl }
refusal_spelled (CutThere n) = record { told = refl; is = rw append-nil refl; all = refl; low = (omega arith, tt); again = refl }
refusal_spelled NoCut = record { told = refl; is = refl; all = refl; low = tt; again = refl }
refusal_spelled (WrongPhase Copying) = record { told = refl; is = refl; all = refl; low = tt; again = refl }
refusal_spelled (WrongPhase Closed) = record { told = refl; is = refl; all = refl; low = tt; again = refl }
refusal_spelled (WrongPhase Sweeping) = record { told = refl; is = refl; all = refl; low = tt; again = refl }
refusal_spelled (AlreadyCopied n) = record { told = refl; is = rw append-nil refl; all = refl; low = (omega arith, tt); again = refl }
refusal_spelled (Uncopied n) = record { told = refl; is = rw append-nil refl; all = refl; low = (omega arith, tt); again = refl }
refusal_spelled (OtherCut n) = record { told = refl; is = rw append-nil refl; all = refl; low = (omega arith, tt); again = refl }
refusal_spelled (AlreadySwept n) = record { told = refl; is = rw append-nil refl; all = refl; low = (omega arith, tt); again = refl }
refusal_spelled (Unswept n) = record { told = refl; is = rw append-nil refl; all = refl; low = (omega arith, tt); again = refl }
refusal_spelled (Spent n) = record { told = refl; is = rw append-nil refl; all = refl; low = (omega arith, tt); again = refl }
refusal_spelled DiskFault = record { told = refl; is = refl; all = refl; low = tt; again = refl }
refusal_spelled (Broken n) = record { told = refl; is = rw append-nil refl; all = refl; low = (omega arith, tt); again = refl }
refusal_spelled NotAStore = record { told = refl; is = refl; all = refl; low = tt; again = refl }
refusal_spelled (Damaged n) = record { told = refl; is = rw append-nil refl; all = refl; low = (omega arith, tt); again = refl }
refusal_spelled Memory = record { told = refl; is = refl; all = refl; low = tt; again = refl }

pub refusal_texts_differ : (a b : Refusal) → AreShort (refusal_numbers a) → AreShort (refusal_numbers b) → refusal_text a ≡ refusal_text b → a ≡ b
refusal_texts_differ a b p q e =
    spelled_same refusal_text refusal_kind refusal_numbers refusal_of (word_in refusal_words) (word_in refusal_separators) kind_in_refusal a b (refusal_spelled a) (refusal_spelled b) p q e
