-- A test of histories that computes, and is right where it says yes.
use Rattle.std.proofs.Common.{◌≡◌, ℕ, ◌+◌, Bool, true, false, ◌&&◌, ◌||◌, ◌==◌, List, [], ◌∷◌, get_or, Option, Some, None, refl, sym, ap, ◌∙◌, inl, inr, ◌^◌}
use Rattle.std.specs.Option.{is_none, MatchOption}
use Rattle.std.proofs.lemmas.Bool.{and_parts, or_cases, eqb-true}
use Rattle.object_graph.specs.NameParts.{NameParts}
use Rattle.object_graph.specs.Names.{name_eq}
use Rattle.object_graph.specs.declared.calls.Phase.TheVariants.{Copying, Closed, Sweeping}
use Rattle.object_graph.specs.declared.calls.Call.{Call}
use Rattle.object_graph.specs.declared.calls.Call.TheVariants.{Get, Number, New, Commit, OpenCut, Sweep, Reopen}
use Rattle.object_graph.specs.declared.calls.Reply.{Reply}
use Rattle.object_graph.specs.declared.calls.Reply.TheVariants.{Done, Ref, Num, Made, Committed, Cut, Freed, Reopened, Refused}
use Rattle.object_graph.specs.declared.calls.Refusal.{Refusal}
use Rattle.object_graph.specs.declared.calls.Refusal.TheVariants.{WrongPhase, Memory}
use Rattle.store_model.specs.Worlds.{World, OpenedCut, Doubt, no_doubt, commit_in_doubt, sweep_in_doubt, Note, Event}
use Rattle.store_model.specs.Texts.{refusal_numbers}
use Rattle.store_model.specs.Causes.{first_refusal, field_seen, number_seen, new_name}
use Rattle.store_model.specs.Replies.{AllowsReply, Answers, AnswersSweep, AnswersReopen, AnswersNew, MayFree, MayReopen, is_free, found_in, has_note, MayBeFound, names_in}
use Rattle.store_model.specs.Steps.{next}
use Rattle.store_model.specs.Histories.{IsLegal}
use Rattle.object_graph.proofs.Paths.{name_eq_same}
use Rattle.store_model.proofs.Spelled.{letter}
use Rattle.store_model.proofs.RefusalTexts.{refusal_kind, refusals_of}
use Rattle.store_model.proofs.Rounds.{may_free, may_free_by_test}

-- ---- refusals as two numbers: its kind and the number in its text

abbrev pub number_in : Refusal → ℕ
number_in why = letter (refusal_numbers why) 0

abbrev pub refusal_with : ℕ → ℕ → Refusal
refusal_with kind n = get_or (refusals_of n) kind Memory

pub refusal_again : (why : Refusal) → refusal_with (refusal_kind why) (number_in why) ≡ why
refusal_again (WrongPhase Copying) = refl
refusal_again (WrongPhase Closed) = refl
refusal_again (WrongPhase Sweeping) = refl
refusal_again _ = refl

abbrev pub same_refusal : Refusal → Refusal → Bool
same_refusal a b = (refusal_kind a == refusal_kind b) && (number_in a == number_in b)

pub refusal_is : (a b : Refusal) → same_refusal a b ≡ true → a ≡ b
refusal_is a b h =
    let s = and_parts (refusal_kind a == refusal_kind b) (number_in a == number_in b) h in
    sym (refusal_again a)
    ∙ (ap (λ k. refusal_with k (number_in a)) (eqb-true (refusal_kind a) (refusal_kind b) s.0)
    ∙ (ap (refusal_with (refusal_kind b)) (eqb-true (number_in a) (number_in b) s.1)
    ∙ refusal_again b))

-- ---- answers

abbrev pub same_ref : Option NameParts → Option NameParts → Bool
same_ref None None = true
same_ref (Some a) (Some b) = name_eq a b
same_ref None (Some b) = false
same_ref (Some a) None = false

ref_is : (a b : Option NameParts) → same_ref a b ≡ true → a ≡ b
ref_is None None h = refl
ref_is (Some a) (Some b) h = ap (λ (n : NameParts). Some n) (name_eq_same a b h)
ref_is None (Some b) h = cc
ref_is (Some a) None h = cc

-- this is the answer, where an answer is determined
abbrev pub is_reply : Reply → Reply → Bool
is_reply Done Done = true
is_reply (Ref a) (Ref b) = same_ref a b
is_reply (Num a) (Num b) = a == b
is_reply (Made a) (Made b) = name_eq a b
is_reply (Committed a) (Committed b) = a == b
is_reply (Cut a) (Cut b) = a == b
is_reply _ _ = false

reply_is : (a b : Reply) → is_reply a b ≡ true → a ≡ b
reply_is Done Done h = refl
reply_is (Ref a) (Ref b) h = ap (λ t. Ref t) (ref_is a b h)
reply_is (Num a) (Num b) h = ap (λ n. Num n) (eqb-true a b h)
reply_is (Made a) (Made b) h = ap (λ (n : NameParts). Made n) (name_eq_same a b h)
reply_is (Committed a) (Committed b) h = ap (λ n. Committed n) (eqb-true a b h)
reply_is (Cut a) (Cut b) h = ap (λ n. Cut n) (eqb-true a b h)
reply_is _ _ h = cc

abbrev pub is_made : Option NameParts → Reply → Bool
is_made None reply = false
is_made (Some name) reply = is_reply reply (Made name)

made_is : (o : Option NameParts) (reply : Reply) → is_made o reply ≡ true → AnswersNew o reply
made_is None reply h = cc
made_is (Some name) reply h = reply_is reply (Made name) h

abbrev pub may_free_now : Option OpenedCut → World → ℕ → ℕ → Bool
may_free_now None w page slots = false
may_free_now (Some cut) w page slots = may_free w cut.opening page slots

may_free_now_is : (o : Option OpenedCut) (w : World) (page slots : ℕ) → may_free_now o w page slots ≡ true → MatchOption o ⊥ (λ cut. MayFree w cut.opening page slots)
may_free_now_is None w page slots h = cc
may_free_now_is (Some cut) w page slots h = may_free_by_test w cut.opening page slots h

abbrev pub answers_sweep : World → ℕ → Reply → Bool
answers_sweep w page (Freed slots) = may_free_now w.cut w page slots
answers_sweep w page _ = false

answers_sweep_is : (w : World) (page : ℕ) (reply : Reply) → answers_sweep w page reply ≡ true → AnswersSweep w page reply
answers_sweep_is w page (Freed slots) h = may_free_now_is w.cut w page slots h
answers_sweep_is w page _ h = cc

-- a reopening that finds nothing freed
abbrev pub has_none : List NameParts → Bool
has_none [] = true
has_none (n ∷ ns) = false

none_is : (names : List NameParts) → has_none names ≡ true → names ≡ []
none_is [] h = refl
none_is (n ∷ ns) h = cc

-- the slots in which these names stand
abbrev pub slots_under : List NameParts → ℕ
slots_under [] = 0
slots_under (n ∷ ns) = 2 ^ n.slot + slots_under ns

abbrev pub same_names : List NameParts → List NameParts → Bool
same_names [] [] = true
same_names (a ∷ ms) (b ∷ ns) = name_eq a b && same_names ms ns
same_names [] (b ∷ ns) = false
same_names (a ∷ ms) [] = false

names_are : (ms ns : List NameParts) → same_names ms ns ≡ true → ms ≡ ns
names_are [] [] h = refl
names_are (a ∷ ms) (b ∷ ns) h =
    let s = and_parts (name_eq a b) (same_names ms ns) h in
    ap (λ (n : NameParts). n ∷ ms) (name_eq_same a b s.0) ∙ ap (λ (ks : List NameParts). b ∷ ks) (names_are ms ns s.1)
names_are [] (b ∷ ns) h = cc
names_are (a ∷ ms) [] h = cc

-- a sweep of the page may have freed these names
abbrev pub may_have_freed : World → ℕ → List NameParts → Bool
may_have_freed w page names = may_free_now w.cut w page (slots_under names) && same_names names (names_in w page (slots_under names))

have_freed : (w : World) (page : ℕ) (names : List NameParts) → may_have_freed w page names ≡ true → MayBeFound w page names
have_freed w page names h =
    let a = and_parts (may_free_now w.cut w page (slots_under names)) (same_names names (names_in w page (slots_under names))) h in
    inr (slots_under names, may_free_now_is w.cut w page (slots_under names) a.0, names_are names (names_in w page (slots_under names)) a.1)

abbrev pub may_reopen : World → Doubt → ℕ → List NameParts → Bool
may_reopen w no_doubt commits names = (commits == w.commits) && has_none names
may_reopen w (commit_in_doubt t) commits names = ((commits == w.commits) || (commits == w.commits + 1)) && has_none names
may_reopen w (sweep_in_doubt page) commits names = (commits == w.commits) && (has_none names || may_have_freed w page names)

may_reopen_is : (w : World) (doubt : Doubt) (commits : ℕ) (names : List NameParts) → may_reopen w doubt commits names ≡ true → MayReopen w doubt commits names
may_reopen_is w no_doubt commits names h =
    let a = and_parts (commits == w.commits) (has_none names) h in (eqb-true commits w.commits a.0, none_is names a.1)
may_reopen_is w (commit_in_doubt t) commits names h =
    let a = and_parts ((commits == w.commits) || (commits == w.commits + 1)) (has_none names) h in (
      elim (or_cases (commits == w.commits) (commits == w.commits + 1) a.0) [
        | inl e ↦ inl (eqb-true commits w.commits e)
        | inr e ↦ inr (eqb-true commits (w.commits + 1) e)
      ],
      none_is names a.1,
    )
may_reopen_is w (sweep_in_doubt page) commits names h =
    let a = and_parts (commits == w.commits) (has_none names || may_have_freed w page names) h in (
      eqb-true commits w.commits a.0,
      elim (or_cases (has_none names) (may_have_freed w page names) a.1) [
        | inl e ↦ inl (none_is names e)
        | inr e ↦ have_freed w page names e
      ],
    )

abbrev pub answers_reopen : World → List NameParts → Reply → Bool
answers_reopen w names (Reopened commits) = may_reopen w w.doubt commits names
answers_reopen w names _ = false

answers_reopen_is : (w : World) (note : Note) (reply : Reply) → answers_reopen w (found_in note) reply ≡ true → AnswersReopen w note reply
answers_reopen_is w note (Reopened commits) h = may_reopen_is w w.doubt commits (found_in note) h
answers_reopen_is w note _ h = cc

abbrev pub answers : World → Call → Note → Reply → Bool
answers w (Get t name field) note reply = is_reply reply (Ref (field_seen w t name field))
answers w (Number t name) note reply = is_reply reply (Num (number_seen w t name))
answers w (New t page) note reply = is_made (new_name w t page) reply
answers w (Commit t) note reply = is_reply reply (Committed (w.commits + 1))
answers w OpenCut note reply = is_reply reply (Cut (w.last_cut + 1))
answers w (Sweep page) note reply = answers_sweep w page reply
answers w Reopen note reply = answers_reopen w (found_in note) reply
answers w _ note reply = is_reply reply Done

answers_is : (w : World) (call : Call) (note : Note) (reply : Reply) → answers w call note reply ≡ true → Answers w call note reply
answers_is w (Get t name field) note reply h = reply_is reply (Ref (field_seen w t name field)) h
answers_is w (Number t name) note reply h = reply_is reply (Num (number_seen w t name)) h
answers_is w (New t page) note reply h = made_is (new_name w t page) reply h
answers_is w (Commit t) note reply h = reply_is reply (Committed (w.commits + 1)) h
answers_is w OpenCut note reply h = reply_is reply (Cut (w.last_cut + 1)) h
answers_is w (Sweep page) note reply h = answers_sweep_is w page reply h
answers_is w Reopen note reply h = answers_reopen_is w note reply h
answers_is w _ note reply h = reply_is reply Done h

-- ---- events

abbrev pub is_refusal : Option Refusal → Call → Refusal → Bool
is_refusal None call why = is_free call why
is_refusal (Some first) call why = same_refusal why first

is_refusal_is : (o : Option Refusal) (call : Call) (why : Refusal) → is_refusal o call why ≡ true → MatchOption o (is_free call why ≡ true) (λ first. why ≡ first)
is_refusal_is None call why h = h
is_refusal_is (Some first) call why h = refusal_is why first h

abbrev pub allows_reply : World → Call → Note → Reply → Bool
allows_reply w call note (Refused why) = is_refusal (first_refusal w call note) call why
allows_reply w call note reply = is_none (first_refusal w call note) && answers w call note reply

none_refuses : (o : Option Refusal) → is_none o ≡ true → o ≡ None
none_refuses None h = refl
none_refuses (Some why) h = cc

answer_allowed : (w : World) (call : Call) (note : Note) (reply : Reply) → (is_none (first_refusal w call note) && answers w call note reply) ≡ true
    → (first_refusal w call note ≡ None) × Answers w call note reply
answer_allowed w call note reply h =
    let a = and_parts (is_none (first_refusal w call note)) (answers w call note reply) h in
    (none_refuses (first_refusal w call note) a.0, answers_is w call note reply a.1)

allowed_by_test : (w : World) (call : Call) (note : Note) (reply : Reply) → allows_reply w call note reply ≡ true → AllowsReply w call note reply
allowed_by_test w call note (Refused why) h = is_refusal_is (first_refusal w call note) call why h
allowed_by_test w call note reply h = answer_allowed w call note reply h

-- each event of the history is allowed, as the test finds
abbrev pub is_legal : World → List Event → Bool
is_legal w [] = true
is_legal w (e ∷ events) = has_note e.entry.call e.entry.reply e.note && (allows_reply w e.entry.call e.note e.entry.reply && is_legal (next w e) events)

pub legal_by_test : (w : World) (events : List Event) → is_legal w events ≡ true → IsLegal w events
legal_by_test w [] h = tt
legal_by_test w (e ∷ events) h =
    let noted : Bool = has_note e.entry.call e.entry.reply e.note in
    let allowed : Bool = allows_reply w e.entry.call e.note e.entry.reply in
    let a = and_parts noted (allowed && is_legal (next w e) events) h in
    let b = and_parts allowed (is_legal (next w e) events) a.1 in
    ((a.0, allowed_by_test w e.entry.call e.note e.entry.reply b.0), legal_by_test (next w e) events b.1)
