-- A word at the front of bytes: its number or its name, and what follows it.
use Rattle.std.proofs.Common.{◌≡◌, refl, sym, ◌∙◌, ap, ℕ, ◌+◌, ◌<◌, ◌^◌, List, ◌∷◌, ◌++◌, Option, Some, None, arith, nat_lt, subst, append_assoc}
use Rattle.std.specs.Prelude.{decimal, IfSome}
use Rattle.std.specs.Option.{option_map}
use Rattle.std.proofs.lemmas.Bool.{lt-ltb}
use Rattle.object_graph.specs.declared.limits.TheConstants.{MOST_PAGES, MOST_SLOTS, LAST_GENERATION}
use Rattle.object_graph.specs.NameParts.{NameParts, IsName}
use Rattle.store_model.specs.Texts.{name_text}
use Rattle.script_lang.specs.Words.{SpellsName}
use Rattle.script_lang.specs.Reading.{ReadsAs, if_none, whole_of, split_at, part_before, part_at, word_at, number_at, number_below, name_at}
use Rattle.script_lang.specs.Script.{spaced}
use Rattle.script_lang.proofs.Numbers.{number_again}
use Rattle.script_lang.proofs.Options.{some_is, bind_some, if_some}
use Rattle.script_lang.proofs.Splits.{Free, split_front, split_whole, word_whole, word_again, decimal_free, name_free}
use Rattle.script_lang.proofs.Spellings.{number_sound, name_sound, name_again}

-- numbers of 64 bits are all below 2^64
pub all_below : (word : List ℕ) → number_below (2 ^ 64) word ≡ number_at word
unfolding number_below
all_below word = by_number (number_at word) refl
  where
    by_number : (o : Option ℕ) → number_at word ≡ o → number_below (2 ^ 64) word ≡ o
    by_number None e = rw e refl
    by_number (Some n) e = let f : n < 2 ^ 64 = (number_sound word n e).small in rw (e, lt-ltb n (2 ^ 64) f) refl

-- a part and what follows it are the bytes
abbrev pub ended_by : ℕ → List ℕ → Option (List ℕ) → List ℕ
ended_by b part None = part
ended_by b part (Some rest) = part ++ b ∷ rest

part_whole : (b : ℕ) (bytes : List ℕ) → bytes ≡ ended_by b (part_at b bytes).0 (part_at b bytes).1
part_whole b bytes = by_split (split_at b bytes) refl
  where
    by_split : (o : Option (List ℕ × List ℕ)) → split_at b bytes ≡ o → bytes ≡ ended_by b (part_before bytes o).0 (part_before bytes o).1
    by_split None e = refl
    by_split (Some p) e = split_whole b bytes p e

-- a number that was read stands there
below_text : (limit n : ℕ) (word : List ℕ) → number_below limit word ≡ Some n → word ≡ decimal n
unfolding number_below
below_text limit n word e =
    let a = bind_some (number_at word) _ n e in
    let b = if_some (nat_lt a.0 limit) (Some a.0) n a.2 in
    let same : a.0 ≡ n = some_is a.0 n b.1 in
    (number_sound word a.0 a.1).text ∙ ap decimal same

pub front_is : (b limit n : ℕ) (bytes : List ℕ) (rest : Option (List ℕ)) → Some n ≡ number_below limit (part_at b bytes).0 → rest ≡ (part_at b bytes).1 → bytes ≡ ended_by b (decimal n) rest
front_is b limit n bytes rest e is =
    part_whole b bytes ∙ ap (λ w. ended_by b w (part_at b bytes).1) (below_text limit n (part_at b bytes).0 (sym e)) ∙ ap (ended_by b (decimal n)) (sym is)

number_there : (limit n : ℕ) → n < limit → n < 2 ^ 64 → number_below limit (decimal n) ≡ Some n
unfolding number_below
number_there limit n h k = rw (number_again n k, lt-ltb n limit h) refl

-- the name that a word is, in its three parts
pub record HasName (bytes : List ℕ) (name : NameParts) : Type 0 where
  pub valid : IsName name
  pub after_page : List ℕ
  pub after_slot : List ℕ
  pub page : number_below MOST_PAGES (part_at 46 bytes).0 ≡ Some name.page
  pub page_ends : (part_at 46 bytes).1 ≡ Some after_page
  pub slot : number_below MOST_SLOTS (part_at 46 after_page).0 ≡ Some name.slot
  pub slot_ends : (part_at 46 after_page).1 ≡ Some after_slot
  pub generation : number_below (LAST_GENERATION + 1) (part_at 32 after_slot).0 ≡ Some name.generation
  pub ends : (part_at 32 after_slot).1 ≡ (word_at bytes).1

abbrev pub slot_on : NameParts → Option (List ℕ) → List ℕ
slot_on name rest = decimal name.slot ++ 46 ∷ spaced (decimal name.generation) rest

spaced_name : (name : NameParts) (rest : Option (List ℕ)) → spaced (name_text name) rest ≡ decimal name.page ++ 46 ∷ slot_on name rest
spaced_name name None = refl
spaced_name name (Some rest) =
    append_assoc (decimal name.page) (46 ∷ (decimal name.slot ++ 46 ∷ decimal name.generation)) (32 ∷ rest)
    ∙ ap (λ l. decimal name.page ++ 46 ∷ l) (append_assoc (decimal name.slot) (46 ∷ decimal name.generation) (32 ∷ rest))

part_there : (n : ℕ) (rest : List ℕ) → n < 2 ^ 64 → part_at 46 (decimal n ++ 46 ∷ rest) ≡ (decimal n, Some rest)
part_there n rest h = ap (part_before (decimal n ++ 46 ∷ rest)) (split_front 46 (decimal n) rest (decimal_free 46 n (omega arith) h))

spelled_name : (bytes : List ℕ) (name : NameParts) (rest : Option (List ℕ)) → IsName name → bytes ≡ decimal name.page ++ 46 ∷ slot_on name rest → (word_at bytes).1 ≡ rest → HasName bytes name
spelled_name bytes name rest h is last =
    let p = ap (part_at 46) is ∙ part_there name.page (slot_on name rest) (omega (arith, h.page)) in
    let s = part_there name.slot (spaced (decimal name.generation) rest) (omega (arith, h.slot)) in
    let g = word_again (decimal name.generation) rest (decimal_free 32 name.generation (omega arith) (omega (arith, h.last))) in
    record {
      valid = h;
      after_page = slot_on name rest;
      after_slot = spaced (decimal name.generation) rest;
      page = ap (λ (q : List ℕ × Option (List ℕ)). number_below MOST_PAGES q.0) p ∙ number_there MOST_PAGES name.page h.page (omega (arith, h.page));
      page_ends = ap (λ (q : List ℕ × Option (List ℕ)). q.1) p;
      slot = ap (λ (q : List ℕ × Option (List ℕ)). number_below MOST_SLOTS q.0) s ∙ number_there MOST_SLOTS name.slot h.slot (omega (arith, h.slot));
      slot_ends = ap (λ (q : List ℕ × Option (List ℕ)). q.1) s;
      generation = ap (λ (q : List ℕ × Option (List ℕ)). number_below (LAST_GENERATION + 1) q.0) g ∙ number_there (LAST_GENERATION + 1) name.generation (omega (arith, h.last)) (omega (arith, h.last));
      ends = ap (λ (q : List ℕ × Option (List ℕ)). q.1) g ∙ sym last;
    }

has_name : (bytes : List ℕ) (name : NameParts) → name_at (word_at bytes).0 ≡ Some name → HasName bytes name
has_name bytes name e =
    let s = name_sound (word_at bytes).0 name e in
    spelled_name bytes name (word_at bytes).1 s.0 (word_whole bytes ∙ ap (λ w. spaced w (word_at bytes).1) s.1 ∙ spaced_name name (word_at bytes).1) refl

-- where a part of it isn't there, the word is no name
pub no_name : (bytes : List ℕ) → ((name : NameParts) → HasName bytes name → ⊥) → name_at (word_at bytes).0 ≡ None
no_name bytes refuse = by_name (name_at (word_at bytes).0) refl
  where
    by_name : (o : Option NameParts) → name_at (word_at bytes).0 ≡ o → name_at (word_at bytes).0 ≡ None
    by_name None e = e
    by_name (Some name) e = absurd (refuse name (has_name bytes name e))

pub no_page : (bytes : List ℕ) → None ≡ number_below MOST_PAGES (part_at 46 bytes).0 → name_at (word_at bytes).0 ≡ None
no_page bytes e = no_name bytes (λ name h. let f : None ≡ Some name.page = e ∙ h.page in cc)

pub no_point : (bytes : List ℕ) → None ≡ (part_at 46 bytes).1 → name_at (word_at bytes).0 ≡ None
no_point bytes e = no_name bytes (λ name h. let f : None ≡ Some h.after_page = e ∙ h.page_ends in cc)

same_page : (bytes rest : List ℕ) (name : NameParts) (h : HasName bytes name) → Some rest ≡ (part_at 46 bytes).1 → rest ≡ h.after_page
same_page bytes rest name h e = some_is rest h.after_page (e ∙ h.page_ends)

pub no_slot : (bytes rest : List ℕ) → Some rest ≡ (part_at 46 bytes).1 → None ≡ number_below MOST_SLOTS (part_at 46 rest).0 → name_at (word_at bytes).0 ≡ None
no_slot bytes rest is e =
    no_name bytes (λ name h.
    let f : None ≡ Some name.slot = e ∙ ap (λ l. number_below MOST_SLOTS (part_at 46 l).0) (same_page bytes rest name h is) ∙ h.slot in cc)

pub no_second_point : (bytes rest : List ℕ) → Some rest ≡ (part_at 46 bytes).1 → None ≡ (part_at 46 rest).1 → name_at (word_at bytes).0 ≡ None
no_second_point bytes rest is e =
    no_name bytes (λ name h. let f : None ≡ Some h.after_slot = e ∙ ap (λ l. (part_at 46 l).1) (same_page bytes rest name h is) ∙ h.slot_ends in cc)

same_slot : (bytes rest last : List ℕ) (name : NameParts) (h : HasName bytes name) → Some rest ≡ (part_at 46 bytes).1 → Some last ≡ (part_at 46 rest).1 → last ≡ h.after_slot
same_slot bytes rest last name h is e = some_is last h.after_slot (e ∙ ap (λ l. (part_at 46 l).1) (same_page bytes rest name h is) ∙ h.slot_ends)

pub no_generation : (bytes rest last : List ℕ) → Some rest ≡ (part_at 46 bytes).1 → Some last ≡ (part_at 46 rest).1 → None ≡ number_below (LAST_GENERATION + 1) (part_at 32 last).0
    → name_at (word_at bytes).0 ≡ None
no_generation bytes rest last is more e =
    no_name bytes (λ name h.
    let f : None ≡ Some name.generation = e ∙ ap (λ l. number_below (LAST_GENERATION + 1) (part_at 32 l).0) (same_slot bytes rest last name h is more) ∙ h.generation in cc)

pub generation_zero : (bytes rest last : List ℕ) (n : ℕ) → Some rest ≡ (part_at 46 bytes).1 → Some last ≡ (part_at 46 rest).1 → Some n ≡ number_below (LAST_GENERATION + 1) (part_at 32 last).0 → n ≡ 0
    → name_at (word_at bytes).0 ≡ None
generation_zero bytes rest last n is more e zero =
    no_name bytes (λ name h.
    let f : n ≡ name.generation = some_is n name.generation (e ∙ ap (λ l. number_below (LAST_GENERATION + 1) (part_at 32 l).0) (same_slot bytes rest last name h is more) ∙ h.generation) in
    omega (arith, f, zero, h.valid.first))

-- the three parts, as they were read
pub record ReadsName (bytes : List ℕ) (name : NameParts) (last : Option (List ℕ)) : Type 0 where
  pub after_page : List ℕ
  pub after_slot : List ℕ
  pub page : Some name.page ≡ number_below MOST_PAGES (part_at 46 bytes).0
  pub page_ends : Some after_page ≡ (part_at 46 bytes).1
  pub slot : Some name.slot ≡ number_below MOST_SLOTS (part_at 46 after_page).0
  pub slot_ends : Some after_slot ≡ (part_at 46 after_page).1
  pub generation : Some name.generation ≡ number_below (LAST_GENERATION + 1) (part_at 32 after_slot).0
  pub ends : last ≡ (part_at 32 after_slot).1

spelled_by : (bytes : List ℕ) (name : NameParts) (last : Option (List ℕ)) → ReadsName bytes name last → bytes ≡ spaced (name_text name) last
spelled_by bytes name last r =
    let g : r.after_slot ≡ spaced (decimal name.generation) last = by_last last (front_is 32 (LAST_GENERATION + 1) name.generation r.after_slot last r.generation r.ends) in
    front_is 46 MOST_PAGES name.page bytes (Some r.after_page) r.page r.page_ends
    ∙ ap (λ l. decimal name.page ++ 46 ∷ l) (front_is 46 MOST_SLOTS name.slot r.after_page (Some r.after_slot) r.slot r.slot_ends ∙ ap (λ l. decimal name.slot ++ 46 ∷ l) g)
    ∙ sym (spaced_name name last)
  where
    by_last : (o : Option (List ℕ)) → r.after_slot ≡ ended_by 32 (decimal name.generation) o → r.after_slot ≡ spaced (decimal name.generation) o
    by_last None e = e
    by_last (Some rest) e = e

word_is : (bytes : List ℕ) (name : NameParts) (last : Option (List ℕ)) → IsName name → ReadsName bytes name last → word_at bytes ≡ (name_text name, last)
word_is bytes name last h r = ap word_at (spelled_by bytes name last r) ∙ word_again (name_text name) last (name_free name h)

pub name_there : (bytes : List ℕ) (name : NameParts) (last : Option (List ℕ)) → IsName name → ReadsName bytes name last → Some name ≡ name_at (word_at bytes).0
name_there bytes name last h r = sym (ap (λ (q : List ℕ × Option (List ℕ)). name_at q.0) (word_is bytes name last h r) ∙ name_again name h)

pub rest_there : (bytes : List ℕ) (name : NameParts) (last : Option (List ℕ)) → IsName name → ReadsName bytes name last → last ≡ (word_at bytes).1
rest_there bytes name last h r = sym (ap (λ (q : List ℕ × Option (List ℕ)). q.1) (word_is bytes name last h r))

-- words that are all of their bytes
number_free : (word : List ℕ) (n : ℕ) → number_at word ≡ Some n → Free 32 word
number_free word n e = let s = number_sound word n e in subst (Free 32) (sym s.text) (decimal_free 32 n (omega arith) s.small)

name_is_free : (word : List ℕ) (name : NameParts) → name_at word ≡ Some name → Free 32 word
name_is_free word name e = let s = name_sound word name e in subst (Free 32) (sym s.1) (name_free name s.0)

-- what is said of a word is said of bytes that are this word alone
pub record IsOfWords {A : Type 0} (at : List ℕ → Option A) : Type 0 where
  pub free : (word : List ℕ) (x : A) → at word ≡ Some x → Free 32 word

pub numbers : IsOfWords number_at
numbers = record { free = λ word n e. number_free word n e }

pub names : IsOfWords name_at
names = record { free = λ word name e. name_is_free word name e }

alone : (word : List ℕ) → Free 32 word → word_at word ≡ (word, None)
alone word free = word_again word None free

pub whole_none : {A : Type 0} (at : List ℕ → Option A) → IsOfWords at → (word : List ℕ) → None ≡ at (word_at word).0 → at word ≡ None
whole_none {A} at is word none = by_said (at word) refl
  where
    by_said : (o : Option A) → at word ≡ o → at word ≡ None
    by_said None e = e
    by_said (Some x) e =
        let f : None ≡ Some x = none ∙ ap (λ (q : List ℕ × Option (List ℕ)). at q.0) (alone word (is.free word x e)) ∙ e in absurd cc

pub whole_spaced : {A : Type 0} (at : List ℕ → Option A) → IsOfWords at → (word rest : List ℕ) → Some rest ≡ (word_at word).1 → at word ≡ None
whole_spaced {A} at is word rest more = by_said (at word) refl
  where
    by_said : (o : Option A) → at word ≡ o → at word ≡ None
    by_said None e = e
    by_said (Some x) e =
        let f : Some rest ≡ None = more ∙ ap (λ (q : List ℕ × Option (List ℕ)). q.1) (alone word (is.free word x e)) in absurd cc

pub whole_some : {A : Type 0} (at : List ℕ → Option A) (word : List ℕ) (x : A) → Some x ≡ at (word_at word).0 → None ≡ (word_at word).1 → at word ≡ Some x
whole_some at word x some last = ap at (word_whole word ∙ ap (spaced (word_at word).0) (sym last)) ∙ sym some

-- a name that was read, alone or not
alone_or_not : {R : Type 0} (now : R → List ℕ) (word : List ℕ) (name : NameParts) (rest : Option R) → Some name ≡ name_at (word_at word).0 → option_map now rest ≡ (word_at word).1 → name_at word ≡ if_none rest name
alone_or_not now word name None some last = whole_some name_at word name some last
alone_or_not now word name (Some rest) some more = whole_spaced name_at names word (now rest) more

pub name_whole : {R : Type 0} (read : Option (NameParts × Option R)) (now : R → List ℕ) (word : List ℕ)
    → option_map (λ p. p.0) read ≡ name_at (word_at word).0 → IfSome read (λ p. option_map now p.1 ≡ (word_at word).1) → name_at word ≡ whole_of read
name_whole None now word none rest = whole_none name_at names word none
name_whole (Some p) now word some rest = alone_or_not now word p.0 p.1 some rest

pub gives_name : (word : List ℕ) (result : Option NameParts) → name_at word ≡ result → ReadsAs (λ n. n) result (name_at word)
gives_name word None e = e
gives_name word (Some name) e = e

pub spells_name : (word : List ℕ) (result : Option NameParts) → name_at word ≡ result → IfSome result (SpellsName word)
spells_name word None e = tt
spells_name word (Some name) e = let s = name_sound word name e in record { valid = s.0; text = s.1 }
