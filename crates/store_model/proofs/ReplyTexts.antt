-- No two replies have one text, but for those that tell which slots were freed.
use Rattle.std.proofs.Common.{◌≡◌, ℕ, ◌+◌, ◌*◌, ◌<◌, ◌≤◌, ◌^◌, ◌==◌, Bool, true, false, not, cond, List, [], ◌∷◌, ◌++◌, map, length, get_or, Some, None, refl, subst, ap, arith, append-nil}
use Rattle.std.specs.Prelude.{codes, decimal}
use Rattle.std.specs.Str.Parse.{AllDigits}
use Rattle.std.proofs.lemmas.Bool.{ne_eqb}
use Rattle.std.proofs.lemmas.Fmt.{decimal_is_IsNumeral}
use Rattle.std.proofs.lemmas.Str.Parse.{digit_from_value}
use Rattle.object_graph.specs.NameParts.{NameParts}
use Rattle.object_graph.specs.declared.calls.Phase.TheVariants.{Copying, Closed, Sweeping}
use Rattle.object_graph.specs.declared.calls.Reply.{Reply}
use Rattle.object_graph.specs.declared.calls.Reply.TheVariants.{Done, Ref, Num, Made, Committed, Cut, Freed, Reopened, Refused}
use Rattle.object_graph.specs.declared.calls.Refusal.{Refusal}
use Rattle.object_graph.specs.declared.calls.Refusal.TheVariants.{NotOpen, Stranger, BadField, NoPage, Busy, TooWide, KnowsTooMany, PageFull, AlreadyOpen, TooMany, CutThere, NoCut, WrongPhase, AlreadyCopied, Uncopied, OtherCut, AlreadySwept, Unswept, Spent, DiskFault, Broken, NotAStore, Damaged, Memory}
use Rattle.store_model.specs.Texts.{AreShort, reply_text, reply_numbers, is_freeing}
use Rattle.store_model.proofs.Spelled.{IsSpelled, spelled_same, front_of, place_of, word_in, letter}
use Rattle.store_model.proofs.RefusalTexts.{refusal_words, refusal_kind, refusal_separators, refusals_of, refusal_mark}

abbrev pub reply_words : List (List ℕ)
reply_words = codes "ok" ∷ codes "ref none" ∷ codes "ref" ∷ codes "num" ∷ codes "new" ∷ codes "commit" ∷ codes "cut" ∷ codes "open" ∷ refusal_words

abbrev pub reply_kind : Reply → ℕ
reply_kind Done = 0
reply_kind (Ref None) = 1
reply_kind (Ref (Some name)) = 2
reply_kind (Num value) = 3
reply_kind (Made name) = 4
reply_kind (Committed commits) = 5
reply_kind (Cut number) = 6
reply_kind (Reopened commits) = 7
reply_kind (Refused why) = 8 + refusal_kind why
reply_kind (Freed slots) = 0

abbrev pub reply_separators : List (List ℕ)
reply_separators = [] ∷ [] ∷ (32 ∷ 46 ∷ 46 ∷ []) ∷ (32 ∷ []) ∷ (32 ∷ 46 ∷ 46 ∷ []) ∷ (32 ∷ []) ∷ (32 ∷ []) ∷ (32 ∷ []) ∷ refusal_separators

abbrev name_from : List ℕ → NameParts
name_from ns = record { page = letter ns 0; slot = letter ns 1; generation = letter ns 2 }

abbrev pub replies_of : List ℕ → List Reply
replies_of ns =
    Done ∷ Ref None ∷ Ref (Some (name_from ns)) ∷ Num (letter ns 0) ∷ Made (name_from ns) ∷ Committed (letter ns 0) ∷ Cut (letter ns 0) ∷ Reopened (letter ns 0)
    ∷ map (λ (why : Refusal). Refused why) (refusals_of (letter ns 0))

abbrev pub reply_of : ℕ → List ℕ → Reply
reply_of kind ns = get_or (replies_of ns) kind Done

-- a letter after the word tells a reference that is none, and a cut that is there
abbrev pub mark_with : Bool → Bool → List ℕ → ℕ
mark_with is_none is_there text =
    let front = front_of text in
    cond (front == front_of (codes "ref")) (front * 256 + cond is_none 1 0)
    (cond (front == front_of (codes "cut")) (front * 256 + cond is_there 1 0) (refusal_mark text))

abbrev pub reply_mark : List ℕ → ℕ
reply_mark text = mark_with (letter text 4 == 110) (letter text 4 == 116) text

abbrev pub kind_in_reply : List ℕ → ℕ
kind_in_reply text = place_of (reply_mark text) (map reply_mark reply_words)

-- a number begins with a digit
pub first_digit : (n c : ℕ) (rest : List ℕ) → n < 2 ^ 64 → 58 ≤ c → (get_or (decimal n ++ rest) 0 0 == c) ≡ false
first_digit n c rest small high = by_digits (decimal n) (decimal_is_IsNumeral n small).0.0 (decimal_is_IsNumeral n small).0.1
  where
    by_digits : (ds : List ℕ) → 0 < length ds → AllDigits 10 ds → (get_or (ds ++ rest) 0 0 == c) ≡ false
    by_digits [] some d = absurd (omega arith)
    by_digits (x ∷ xs) some d = ne_eqb x c (λ e. let k = digit_from_value x d.0 in absurd (omega arith))

abbrev pub IsReplySpelled : Reply → Type 0
IsReplySpelled reply = IsSpelled reply_text reply_kind reply_numbers reply_of (word_in reply_words) (word_in reply_separators) kind_in_reply reply

pub reply_spelled : (reply : Reply) → not (is_freeing reply) ≡ true → AreShort (reply_numbers reply) → IsReplySpelled reply
reply_spelled Done h short = record { told = refl; is = refl; all = refl; low = tt; again = refl }
reply_spelled (Ref None) h short = record { told = refl; is = refl; all = refl; low = tt; again = refl }
reply_spelled (Ref (Some name)) h short = record {
  told = ap (λ b. place_of (mark_with b (letter (reply_text (Ref (Some name))) 4 == 116) (reply_text (Ref (Some name)))) (map reply_mark reply_words))
      (first_digit name.page 110 (46 ∷ decimal name.slot ++ (46 ∷ decimal name.generation)) short.0 (omega arith));
  is = simp append-nil refl;
  all = refl;
  low = (omega arith, (omega arith, (omega arith, tt)));
  again = refl;
}
reply_spelled (Num value) h short = record { told = refl; is = rw append-nil refl; all = refl; low = (omega arith, tt); again = refl }
reply_spelled (Made name) h short = record { told = refl; is = simp append-nil refl; all = refl; low = (omega arith, (omega arith, (omega arith, tt))); again = refl }
reply_spelled (Committed commits) h short = record { told = refl; is = rw append-nil refl; all = refl; low = (omega arith, tt); again = refl }
reply_spelled (Cut number) h short = record {
  told = ap (λ b. place_of (mark_with (letter (reply_text (Cut number)) 4 == 110) b (reply_text (Cut number))) (map reply_mark reply_words))
      (subst (λ ds. (get_or ds 0 0 == 116) ≡ false) (append-nil (decimal number)) (first_digit number 116 [] short.0 (omega arith)));
  is = rw append-nil refl;
  all = refl;
  low = (omega arith, tt);
  again = refl;
}
reply_spelled (Reopened commits) h short = record { told = refl; is = rw append-nil refl; all = refl; low = (omega arith, tt); again = refl }
reply_spelled (Freed slots) h short = cc
reply_spelled (Refused NotOpen) h short = record { told = refl; is = refl; all = refl; low = tt; again = refl }
reply_spelled (Refused Stranger) h short = record { told = refl; is = refl; all = refl; low = tt; again = refl }
reply_spelled (Refused BadField) h short = record { told = refl; is = refl; all = refl; low = tt; again = refl }
reply_spelled (Refused NoPage) h short = record { told = refl; is = refl; all = refl; low = tt; again = refl }
reply_spelled (Refused (Busy n)) h short = record { told = refl; is = rw append-nil refl; all = refl; low = (omega arith, tt); again = refl }
reply_spelled (Refused TooWide) h short = record { told = refl; is = refl; all = refl; low = tt; again = refl }
reply_spelled (Refused KnowsTooMany) h short = record { told = refl; is = refl; all = refl; low = tt; again = refl }
reply_spelled (Refused (PageFull n)) h short = record { told = refl; is = rw append-nil refl; all = refl; low = (omega arith, tt); again = refl }
reply_spelled (Refused AlreadyOpen) h short = record { told = refl; is = refl; all = refl; low = tt; again = refl }
reply_spelled (Refused TooMany) h short = record { told = refl; is = refl; all = refl; low = tt; again = refl }
reply_spelled (Refused (CutThere n)) h short = record { told = refl; is = rw append-nil refl; all = refl; low = (omega arith, tt); again = refl }
reply_spelled (Refused NoCut) h short = record { told = refl; is = refl; all = refl; low = tt; again = refl }
reply_spelled (Refused (WrongPhase Copying)) h short = record { told = refl; is = refl; all = refl; low = tt; again = refl }
reply_spelled (Refused (WrongPhase Closed)) h short = record { told = refl; is = refl; all = refl; low = tt; again = refl }
reply_spelled (Refused (WrongPhase Sweeping)) h short = record { told = refl; is = refl; all = refl; low = tt; again = refl }
reply_spelled (Refused (AlreadyCopied n)) h short = record { told = refl; is = rw append-nil refl; all = refl; low = (omega arith, tt); again = refl }
reply_spelled (Refused (Uncopied n)) h short = record { told = refl; is = rw append-nil refl; all = refl; low = (omega arith, tt); again = refl }
reply_spelled (Refused (OtherCut n)) h short = record { told = refl; is = rw append-nil refl; all = refl; low = (omega arith, tt); again = refl }
reply_spelled (Refused (AlreadySwept n)) h short = record { told = refl; is = rw append-nil refl; all = refl; low = (omega arith, tt); again = refl }
reply_spelled (Refused (Unswept n)) h short = record { told = refl; is = rw append-nil refl; all = refl; low = (omega arith, tt); again = refl }
reply_spelled (Refused (Spent n)) h short = record { told = refl; is = rw append-nil refl; all = refl; low = (omega arith, tt); again = refl }
reply_spelled (Refused DiskFault) h short = record { told = refl; is = refl; all = refl; low = tt; again = refl }
reply_spelled (Refused (Broken n)) h short = record { told = refl; is = rw append-nil refl; all = refl; low = (omega arith, tt); again = refl }
reply_spelled (Refused NotAStore) h short = record { told = refl; is = refl; all = refl; low = tt; again = refl }
reply_spelled (Refused (Damaged n)) h short = record { told = refl; is = rw append-nil refl; all = refl; low = (omega arith, tt); again = refl }
reply_spelled (Refused Memory) h short = record { told = refl; is = refl; all = refl; low = tt; again = refl }

pub reply_texts_differ : (a b : Reply) → not (is_freeing a) ≡ true → not (is_freeing b) ≡ true → AreShort (reply_numbers a) → AreShort (reply_numbers b) → reply_text a ≡ reply_text b → a ≡ b
reply_texts_differ a b h k p q e =
    spelled_same reply_text reply_kind reply_numbers reply_of (word_in reply_words) (word_in reply_separators) kind_in_reply a b (reply_spelled a h p) (reply_spelled b k q) p q e
