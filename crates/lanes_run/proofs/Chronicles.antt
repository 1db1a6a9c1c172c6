-- A chronicle on its way out.
use Rattle.std.proofs.Common.{◌≡◌, refl, sym, ap, ◌∙◌, subst, ℕ, zero, suc, ◌-◌, ◌<◌, ◌≤◌, List, [], ◌∷◌, ◌++◌, length, take, drop, get_or, Option, append_assoc, append-nil, arith, length-append}
use Rattle.std.proofs.lemmas.Grind.{flat_map-append}
use Rattle.std.proofs.KnownBytes.{Appends-nil, Appends-trans}
use Rattle.std.specs.Prelude.{Result, Ok, Err, MatchResult}
use Rattle.std.specs.Io.KnownBytes.{Appends}
use Rattle.store_model.specs.Worlds as model
use Rattle.store_model.specs.Texts.{entry_text, chronicle_text}
use Rattle.store_desk.specs.Events.{history}
use Rattle.store_desk.specs.declared.event.Event.{Event}
use Rattle.store_desk.proofs.Kept.{history-append}
use Rattle.store_run.specs.Writing.{AppendsFront}
use Rattle.lanes_run.specs.Buffered.{WrittenButFor}

-- the text of a chronicle
abbrev pub text : List Event → List ℕ
text chronicle = chronicle_text (history chronicle)

text_append : (xs ys : List Event) → text (xs ++ ys) ≡ text xs ++ text ys
text_append xs ys = ap chronicle_text (history-append xs ys) ∙ flat_map-append (λ (e : model.Event). entry_text e.entry) (history xs) (history ys)

-- of these entries the text was written, but for what the buffer holds, and these are left
pub record Writing (all left : List Event) (before now : Option (List ℕ)) (buffer : List ℕ) : Type 0 where
  pub done : List Event
  pub split : all ≡ done ++ left
  pub written : WrittenButFor before now buffer (text done)

-- ---- the buffer

pub all_held : (a : Option (List ℕ)) (bytes : List ℕ) → WrittenButFor a a bytes bytes
all_held a bytes = record { gone = []; split = refl; appends = Appends-nil a }

pub all_gone : (a b : Option (List ℕ)) (bytes : List ℕ) → Appends a b bytes → WrittenButFor a b [] bytes
all_gone a b bytes h = record { gone = bytes; split = sym (append-nil bytes); appends = h }

held_then : (a b c : Option (List ℕ)) (now then bytes : List ℕ) → WrittenButFor a b now bytes → WrittenButFor b c then now → WrittenButFor a c then bytes
held_then a b c now then bytes x y = record {
  gone = x.gone ++ y.gone;
  split = x.split ∙ (ap (λ (l : List ℕ). x.gone ++ l) y.split ∙ sym (append_assoc x.gone y.gone then));
  appends = Appends-trans a b c x.gone y.gone x.appends y.appends;
}

held_more : (a b : Option (List ℕ)) (buffer bytes more : List ℕ) → WrittenButFor a b buffer bytes → WrittenButFor a b (buffer ++ more) (bytes ++ more)
held_more a b buffer bytes more x = record {
  gone = x.gone;
  split = ap (λ (l : List ℕ). l ++ more) x.split ∙ append_assoc x.gone buffer more;
  appends = x.appends;
}

held_out : (a b c : Option (List ℕ)) (buffer bytes : List ℕ) → WrittenButFor a b buffer bytes → Appends b c buffer → Appends a c bytes
held_out a b c buffer bytes x h = subst (λ (l : List ℕ). Appends a c l) (sym x.split) (Appends-trans a b c x.gone buffer x.appends h)

held_begun : (a b c : Option (List ℕ)) (buffer bytes later : List ℕ) → WrittenButFor a b buffer bytes → AppendsFront b c buffer → AppendsFront a c (bytes ++ later)
held_begun a b c buffer bytes later x h = record {
  front = x.gone ++ h.front;
  rest = h.rest ++ later;
  whole = ap (λ (l : List ℕ). l ++ later) (x.split ∙ (ap (λ (l : List ℕ). x.gone ++ l) h.whole ∙ sym (append_assoc x.gone h.front h.rest))) ∙ append_assoc (x.gone ++ h.front) h.rest later;
  some = omega (arith, h.some, length-append h.rest later);
  appends = Appends-trans a b c x.gone h.front x.appends h.appends;
}

-- ---- the entries

pub writing_start : (all : List Event) (a : Option (List ℕ)) (buffer : List ℕ) → buffer ≡ [] → Writing all all a a buffer
writing_start all a buffer empty = record { done = []; split = refl; written = subst (λ (l : List ℕ). WrittenButFor a a l []) (sym empty) (all_held a []) }

text_more : (done : List Event) (event : Event) → text (done ++ event ∷ []) ≡ text done ++ entry_text event.entry
text_more done event = text_append done (event ∷ []) ∙ ap (λ (x : List ℕ). text done ++ x) (append-nil (entry_text event.entry))

-- an entry was printed behind what the buffer held
printed : (done : List Event) (event : Event) (a b : Option (List ℕ)) (held buffer : List ℕ) → WrittenButFor a b held (text done) → buffer ≡ held ++ entry_text event.entry → WrittenButFor a b buffer (text (done ++ event ∷ []))
printed done event a b held buffer w is =
    subst (λ (l : List ℕ). WrittenButFor a b l (text (done ++ event ∷ []))) (sym is)
    (subst (λ (l : List ℕ). WrittenButFor a b (held ++ entry_text event.entry) l) (sym (text_more done event)) (held_more a b held (text done) (entry_text event.entry) w))

split_more : (all left later done : List Event) (event : Event) → all ≡ done ++ left → left ≡ event ∷ later → all ≡ (done ++ event ∷ []) ++ later
split_more all left later done event split is = split ∙ (ap (λ (l : List Event). done ++ l) is ∙ sym (append_assoc done (event ∷ []) later))

pub writing_more : (all left later : List Event) (event : Event) (a b c : Option (List ℕ)) (held buffer now : List ℕ) → Writing all left a b held → left ≡ event ∷ later
    → buffer ≡ held ++ entry_text event.entry → WrittenButFor b c now buffer → Writing all later a c now
writing_more all left later event a b c held buffer now w is line h = record {
  done = w.done ++ event ∷ [];
  split = split_more all left later w.done event w.split is;
  written = held_then a b c buffer now (text (w.done ++ event ∷ [])) (printed w.done event a b held buffer w.written line) h;
}

pub writing_begun : (all left later : List Event) (event : Event) (a b c : Option (List ℕ)) (held buffer : List ℕ) → Writing all left a b held → left ≡ event ∷ later
    → buffer ≡ held ++ entry_text event.entry → AppendsFront b c buffer → AppendsFront a c (text all)
writing_begun all left later event a b c held buffer w is line h =
    let done : List Event = w.done ++ event ∷ [] in
    subst (λ (l : List ℕ). AppendsFront a c l) (sym (ap text (split_more all left later w.done event w.split is) ∙ text_append done later))
    (held_begun a b c buffer (text done) (text later) (printed w.done event a b held buffer w.written line) h)

all_done : (all left : List Event) (a b : Option (List ℕ)) (buffer : List ℕ) → Writing all left a b buffer → left ≡ [] → WrittenButFor a b buffer (text all)
all_done all left a b buffer w none = subst (λ (l : List Event). WrittenButFor a b buffer (text l)) (sym (w.split ∙ (ap (λ (l : List Event). w.done ++ l) none ∙ append-nil w.done))) w.written

writing_done : (all left : List Event) (a b c : Option (List ℕ)) (buffer : List ℕ) → Writing all left a b buffer → left ≡ [] → Appends b c buffer → Appends a c (text all)
writing_done all left a b c buffer w none h = held_out a b c buffer (text all) (all_done all left a b buffer w none) h

writing_failed : (all left : List Event) (a b c : Option (List ℕ)) (buffer : List ℕ) → Writing all left a b buffer → left ≡ [] → AppendsFront b c buffer → AppendsFront a c (text all)
writing_failed all left a b c buffer w none h =
    subst (λ (l : List ℕ). AppendsFront a c l) (append-nil (text all)) (held_begun a b c buffer (text all) [] (all_done all left a b buffer w none) h)

-- what the buffer holds at the end is written
pub writing_ended : {E : Type 0} (all left : List Event) (a b c : Option (List ℕ)) (buffer bytes : List ℕ) (result : Result (Unit {0}) E) → Writing all left a b buffer → left ≡ [] → bytes ≡ buffer
    → MatchResult result (λ _. Appends b c bytes) (λ _. AppendsFront b c bytes) → MatchResult result (λ _. Appends a c (text all)) (λ _. AppendsFront a c (text all))
writing_ended all left a b c buffer bytes (Ok done) w none same h = writing_done all left a b c buffer w none (subst (λ (l : List ℕ). Appends b c l) same h)
writing_ended all left a b c buffer bytes (Err failed) w none same h = writing_failed all left a b c buffer w none (subst (λ (l : List ℕ). AppendsFront b c l) same h)

-- a list without its first element
take_whole : (n : ℕ) (xs : List Event) → length xs ≤ n → take n xs ≡ xs
take_whole zero [] le = refl
take_whole zero (x ∷ xs) le = absurd (omega arith)
take_whole (suc n) [] le = refl
take_whole (suc n) (x ∷ xs) le = ap (λ (l : List Event). x ∷ l) (take_whole n xs (omega arith))

pub tail_of : (left : List Event) (e : Event) → 1 ≤ length left → e ≡ get_or left 0 e → left ≡ e ∷ take (length left - 1) (drop 1 left)
tail_of [] e some is = absurd (omega arith)
tail_of (x ∷ xs) e some is = (λ i. sym is i ∷ sym (take_whole (length (x ∷ xs) - 1) xs (omega arith)) i)

pub none_left : (left : List Event) → length left < 1 → left ≡ []
none_left [] few = refl
none_left (x ∷ xs) few = absurd (omega (arith, few))
