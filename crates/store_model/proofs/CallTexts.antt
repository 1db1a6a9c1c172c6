-- No two calls have one text, but for a copy that is handed in.
use Rattle.std.proofs.Common.{◌≡◌, ℕ, true, not, List, [], ◌∷◌, map, get_or, Some, None, refl, arith, append-nil}
use Rattle.std.specs.Prelude.{codes}
use Rattle.std.proofs.lemmas.List.{append_assoc}
use Rattle.object_graph.specs.NameParts.{NameParts}
use Rattle.object_graph.specs.declared.calls.Call.{Call}
use Rattle.object_graph.specs.declared.calls.Call.TheVariants.{Begin, Get, Number, Set, Put, New, Commit, Abort, OpenCut, Copy, HandIn, Close, Mark, Sweep, EndCut, DropCut, Reopen}
use Rattle.store_model.specs.Texts.{AreShort, call_text, call_numbers, is_hand_in}
use Rattle.store_model.proofs.Spelled.{IsSpelled, spelled_same, front_of, place_of, word_in, letter}

abbrev pub call_words : List (List ℕ)
call_words =
    codes "begin" ∷ codes "get" ∷ codes "num" ∷ codes "nil" ∷ codes "set" ∷ codes "put" ∷ codes "new" ∷ codes "commit" ∷ codes "abort" ∷ codes "open" ∷ codes "copy"
    ∷ codes "close" ∷ codes "mark" ∷ codes "sweep" ∷ codes "end" ∷ codes "drop" ∷ codes "reopen" ∷ []

abbrev pub call_kind : Call → ℕ
call_kind (Begin txn) = 0
call_kind (Get txn name field) = 1
call_kind (Number txn name) = 2
call_kind (Set txn name field None) = 3
call_kind (Set txn name field (Some target)) = 4
call_kind (Put txn name value) = 5
call_kind (New txn page) = 6
call_kind (Commit txn) = 7
call_kind (Abort txn) = 8
call_kind OpenCut = 9
call_kind (Copy page) = 10
call_kind (HandIn page cut seen) = 10
call_kind Close = 11
call_kind (Mark workers) = 12
call_kind (Sweep page) = 13
call_kind EndCut = 14
call_kind DropCut = 15
call_kind Reopen = 16

-- a space, or a point within a name
abbrev call_separators : List (List ℕ)
call_separators =
    (32 ∷ []) ∷ (32 ∷ 32 ∷ 46 ∷ 46 ∷ 32 ∷ []) ∷ (32 ∷ 32 ∷ 46 ∷ 46 ∷ []) ∷ (32 ∷ 32 ∷ 46 ∷ 46 ∷ 32 ∷ []) ∷ (32 ∷ 32 ∷ 46 ∷ 46 ∷ 32 ∷ 32 ∷ 46 ∷ 46 ∷ [])
    ∷ (32 ∷ 32 ∷ 46 ∷ 46 ∷ 32 ∷ []) ∷ (32 ∷ 32 ∷ []) ∷ (32 ∷ []) ∷ (32 ∷ []) ∷ [] ∷ (32 ∷ []) ∷ [] ∷ (32 ∷ []) ∷ (32 ∷ []) ∷ [] ∷ [] ∷ [] ∷ []

abbrev name_from : List ℕ → ℕ → ℕ → ℕ → NameParts
name_from ns a b c = record { page = letter ns a; slot = letter ns b; generation = letter ns c }

abbrev calls_of : List ℕ → List Call
calls_of ns =
    Begin (letter ns 0) ∷ Get (letter ns 0) (name_from ns 1 2 3) (letter ns 4) ∷ Number (letter ns 0) (name_from ns 1 2 3) ∷ Set (letter ns 0) (name_from ns 1 2 3) (letter ns 4) None
    ∷ Set (letter ns 0) (name_from ns 1 2 3) (letter ns 4) (Some (name_from ns 5 6 7)) ∷ Put (letter ns 0) (name_from ns 1 2 3) (letter ns 4) ∷ New (letter ns 0) (letter ns 1)
    ∷ Commit (letter ns 0) ∷ Abort (letter ns 0) ∷ OpenCut ∷ Copy (letter ns 0) ∷ Close ∷ Mark (letter ns 0) ∷ Sweep (letter ns 0) ∷ EndCut ∷ DropCut ∷ Reopen ∷ []

abbrev call_of : ℕ → List ℕ → Call
call_of kind ns = get_or (calls_of ns) kind Reopen

abbrev kind_in_call : List ℕ → ℕ
kind_in_call text = place_of (front_of text) (map front_of call_words)

abbrev IsCallSpelled : Call → Type 0
IsCallSpelled call = IsSpelled call_text call_kind call_numbers call_of (word_in call_words) (word_in call_separators) kind_in_call call

call_spelled : (call : Call) → not (is_hand_in call) ≡ true → IsCallSpelled call
call_spelled (Begin txn) h = record { told = refl; is = simp append-nil refl; all = refl; low = (omega arith, tt); again = refl }
call_spelled (Get txn name field) h = record { told = refl; is = simp (append_assoc, append-nil) refl; all = refl; low = (omega arith, (omega arith, (omega arith, (omega arith, (omega arith, tt))))); again = refl }
call_spelled (Number txn name) h = record { told = refl; is = simp append-nil refl; all = refl; low = (omega arith, (omega arith, (omega arith, (omega arith, tt)))); again = refl }
call_spelled (Set txn name field None) h = record { told = refl; is = simp (append_assoc, append-nil) refl; all = refl; low = (omega arith, (omega arith, (omega arith, (omega arith, (omega arith, tt))))); again = refl }
call_spelled (Set txn name field (Some target)) h = record { told = refl; is = simp (append_assoc, append-nil) refl; all = refl; low = (omega arith, (omega arith, (omega arith, (omega arith, (omega arith, (omega arith, (omega arith, (omega arith, tt)))))))); again = refl }
call_spelled (Put txn name value) h = record { told = refl; is = simp (append_assoc, append-nil) refl; all = refl; low = (omega arith, (omega arith, (omega arith, (omega arith, (omega arith, tt))))); again = refl }
call_spelled (New txn page) h = record { told = refl; is = simp append-nil refl; all = refl; low = (omega arith, (omega arith, tt)); again = refl }
call_spelled (Commit txn) h = record { told = refl; is = simp append-nil refl; all = refl; low = (omega arith, tt); again = refl }
call_spelled (Abort txn) h = record { told = refl; is = simp append-nil refl; all = refl; low = (omega arith, tt); again = refl }
call_spelled OpenCut h = record { told = refl; is = refl; all = refl; low = tt; again = refl }
call_spelled (Copy page) h = record { told = refl; is = simp append-nil refl; all = refl; low = (omega arith, tt); again = refl }
call_spelled Close h = record { told = refl; is = refl; all = refl; low = tt; again = refl }
call_spelled (Mark workers) h = record { told = refl; is = simp append-nil refl; all = refl; low = (omega arith, tt); again = refl }
call_spelled (Sweep page) h = record { told = refl; is = simp append-nil refl; all = refl; low = (omega arith, tt); again = refl }
call_spelled EndCut h = record { told = refl; is = refl; all = refl; low = tt; again = refl }
call_spelled DropCut h = record { told = refl; is = refl; all = refl; low = tt; again = refl }
call_spelled Reopen h = record { told = refl; is = refl; all = refl; low = tt; again = refl }
call_spelled (HandIn page cut seen) h = cc

pub call_texts_differ : (a b : Call) → not (is_hand_in a) ≡ true → not (is_hand_in b) ≡ true → AreShort (call_numbers a) → AreShort (call_numbers b) → call_text a ≡ call_text b → a ≡ b
call_texts_differ a b h k p q e =
    spelled_same call_text call_kind call_numbers call_of (word_in call_words) (word_in call_separators) kind_in_call a b (call_spelled a h) (call_spelled b k) p q e
