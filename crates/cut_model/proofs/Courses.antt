-- A cut that runs through may end.
use Rattle.std.proofs.Common.{◌≡◌, ◌≢◌, ℕ, ◌+◌, ◌<◌, ◌≤◌, ◌==◌, Bool, true, false, not, cond, List, [], ◌∷◌, ◌++◌, Option, Some, None, refl, sym, subst, ap, ◌∙◌, ◌⊎◌, inl, inr, arith, ltb}
use borrow.Author.Tests.{ltb-false}
use Rattle.std.specs.List.{find, AllByRecursion}
use Rattle.std.specs.Option.{unwrap_or, option_map, MatchOption}
use Rattle.std.proofs.lemmas.Bool.{cases_Bool, eq-eqb, not-false}
use Rattle.object_graph.specs.NameParts.{NameParts}
use Rattle.object_graph.specs.declared.calls.Phase.{Phase}
use Rattle.object_graph.specs.declared.calls.Phase.TheVariants.{Copying, Closed, Sweeping}
use Rattle.object_graph.specs.declared.calls.Call.{Call}
use Rattle.object_graph.specs.declared.calls.Call.TheVariants.{New, OpenCut, Copy, HandIn, Close, Mark, Sweep, EndCut, DropCut, Reopen}
use Rattle.object_graph.specs.declared.calls.Reply.{Reply}
use Rattle.object_graph.specs.declared.calls.Reply.TheVariants.{Done, Cut, Refused}
use Rattle.object_graph.specs.declared.calls.Refusal.{Refusal}
use Rattle.object_graph.specs.declared.calls.Refusal.TheVariants.{DiskFault, CutThere, NoCut, WrongPhase, Broken, NoPage, AlreadyCopied, AlreadySwept, OtherCut, Uncopied, Unswept, Memory}
use Rattle.object_graph.specs.Slots.{below}
use Rattle.object_graph.specs.Members.{In}
use Rattle.store_model.specs.Worlds.{World, OpenedCut, Note, nothing, marks, Event}
use Rattle.store_model.specs.Causes.{has_page, first_met, first_refusal, when, broken, cut_there, spent, on_cut, is_phase, wrong_phase, no_page, already_copied, already_swept, other_cut, wrong_marks, missing, uncopied, unswept, new_name}
use Rattle.store_model.specs.Replies.{AllowsReply, Answers, is_free}
use Rattle.store_model.specs.Steps.{opening_of, with_page, with_new, cut_opened, has_swept, after_refusal, after_answer, after_reply, next}
use Rattle.store_model.specs.Histories.{after, IsLegal}
use Rattle.store_model.proofs.Allowed.{first_met_none, when_none}
use Rattle.store_model.proofs.Lists.{with_page_has, with_page_keeps}
use Rattle.store_model.proofs.Cuts.{below_bound}
use Rattle.store_model.proofs.Parts.{IsLegal-parts, after-append}
use Rattle.cut_model.proofs.Fits.{all_left, all_right}
use Rattle.cut_model.specs.Courses.{IsUndisturbing, IsCopyOf, RunsThrough}

-- ---- how far a cut is

abbrev pub rank : Phase → ℕ
rank Copying = 0
rank Closed = 1
rank Sweeping = 2

-- the cut is there, unbroken
pub record HasCut (w : World) (cut : OpenedCut) : Type 0 where
  pub there : w.cut ≡ Some cut
  pub sound : w.broken ≡ None

-- one cut later on
pub record IsLater (cut then_ : OpenedCut) : Type 0 where
  pub number : then_.number ≡ cut.number
  pub further : rank cut.phase ≤ rank then_.phase
  pub copied : (page : ℕ) → has_page cut.copied page ≡ true → has_page then_.copied page ≡ true
  pub swept : (page : ℕ) → has_page cut.swept page ≡ true → has_page then_.swept page ≡ true

same : (cut : OpenedCut) → IsLater cut cut
same cut = record { number = refl; further = omega arith; copied = λ p h. h; swept = λ p h. h }

pub later_still : (a b c : OpenedCut) → IsLater a b → IsLater b c → IsLater a c
later_still a b c p q = record {
  number = q.number ∙ p.number;
  further = let x = p.further in let y = q.further in omega arith;
  copied = λ page h. q.copied page (p.copied page h);
  swept = λ page h. q.swept page (p.swept page h);
}

-- a world goes on to another with one cut
abbrev pub GoesOn : World → OpenedCut → World → Type 0
GoesOn w cut after = (then_ : OpenedCut) × HasCut after then_ × IsLater cut then_ × (after.pages ≡ w.pages)

-- ---- the causes of a call on the cut

-- with the cut there and the world unbroken the causes are those on the cut
causes_on : (w : World) (cut : OpenedCut) (list : OpenedCut → List (Option Refusal)) → HasCut w cut → first_met (broken w ∷ on_cut w list) ≡ first_met (list cut)
causes_on w cut list has =
    ap (λ o. first_met (option_map (λ count. Broken count) o ∷ on_cut w list)) has.sound
    ∙ ap (λ o. first_met (unwrap_or (option_map list o) (Some NoCut ∷ []))) has.there

skip_met : (cause : Option Refusal) (rest : List (Option Refusal)) → cause ≡ None → first_met (cause ∷ rest) ≡ first_met rest
skip_met cause rest e = ap (λ c. first_met (c ∷ rest)) e

-- the phase is the one asked for
abbrev pub IsPhase : OpenedCut → Phase → Type 0
IsPhase cut phase = is_phase cut.phase phase ≡ true

right : (cut : OpenedCut) (phase : Phase) → IsPhase cut phase → wrong_phase cut phase ≡ None
right cut phase h = ap (λ b. when (not b) (WrongPhase cut.phase)) h

phase_asked : (cut : OpenedCut) (phase : Phase) (rest : List (Option Refusal)) → first_met (wrong_phase cut phase ∷ rest) ≡ None → IsPhase cut phase
phase_asked cut phase rest h = not-false (is_phase cut.phase phase) (when_none (not (is_phase cut.phase phase)) _ (first_met_none (wrong_phase cut phase) rest h).0)

rank_of : (a b : Phase) → is_phase a b ≡ true → rank a ≡ rank b
rank_of Copying Copying h = refl
rank_of Closed Closed h = refl
rank_of Sweeping Sweeping h = refl
rank_of Copying Closed h = cc
rank_of Copying Sweeping h = cc
rank_of Closed Copying h = cc
rank_of Closed Sweeping h = cc
rank_of Sweeping Copying h = cc
rank_of Sweeping Closed h = cc

-- ---- each event goes on

stays : (w after : World) (cut : OpenedCut) → HasCut w cut → after.cut ≡ w.cut → after.broken ≡ w.broken → after.pages ≡ w.pages → GoesOn w cut after
stays w after cut has a b c = (cut, record { there = a ∙ has.there; sound = b ∙ has.sound }, same cut, c)

changed : (w after : World) (cut : OpenedCut) (change : OpenedCut → OpenedCut) → HasCut w cut → after.cut ≡ option_map change w.cut → after.broken ≡ w.broken → after.pages ≡ w.pages
    → IsLater cut (change cut) → GoesOn w cut after
changed w after cut change has a b c later = (change cut, record { there = a ∙ ap (option_map change) has.there; sound = b ∙ has.sound }, later, c)

new_goes_on : (w : World) (t : ℕ) (name : Option NameParts) (cut : OpenedCut) → HasCut w cut → GoesOn w cut (with_new w t name)
new_goes_on w t None cut has = stays w w cut has refl refl refl
new_goes_on w t (Some name) cut has = stays w (with_new w t (Some name)) cut has refl refl refl

copied_later : (cut : OpenedCut) (page : ℕ) → IsLater cut (record cut { copied = with_page page cut.copied })
copied_later cut page = record { number = refl; further = omega arith; copied = λ p h. with_page_keeps page p cut.copied h; swept = λ p h. h }

swept_later : (cut : OpenedCut) (page : ℕ) → IsLater cut (record cut { swept = with_page page cut.swept })
swept_later cut page = record { number = refl; further = omega arith; copied = λ p h. h; swept = λ p h. with_page_keeps page p cut.swept h }

answer_goes_on : (w : World) (call : Call) (note : Note) (reply : Reply) (cut : OpenedCut) → HasCut w cut → (call ≡ EndCut → reply ≢ Done) → call ≢ DropCut → call ≢ Reopen
    → first_refusal w call note ≡ None → Answers w call note reply → GoesOn w cut (after_answer w call note reply)
answer_goes_on w (New t page) note reply cut has e d r may is = new_goes_on w t (new_name w t page) cut has
answer_goes_on w OpenCut note reply cut has e d r may is =
    let a = first_met_none (broken w) (cut_there w ∷ spent w.last_cut ∷ []) may in
    let b = (first_met_none (cut_there w) (spent w.last_cut ∷ []) a.1).0 in
    let c : cut_there w ≡ Some (CutThere cut.number) = ap (option_map (λ (c : OpenedCut). CutThere c.number)) has.there in
    cc
answer_goes_on w (Copy page) note reply cut has e d r may is = changed w _ cut (λ cut. record cut { copied = with_page page cut.copied }) has refl refl refl (copied_later cut page)
answer_goes_on w (HandIn page number seen) note reply cut has e d r may is = changed w _ cut (λ cut. record cut { copied = with_page page cut.copied }) has refl refl refl (copied_later cut page)
answer_goes_on w Close note reply cut has e d r may is =
    let h : first_met (wrong_phase cut Copying ∷ uncopied w cut ∷ []) ≡ None = sym (causes_on w cut (λ cut. wrong_phase cut Copying ∷ uncopied w cut ∷ []) has) ∙ may in
    let k = rank_of cut.phase Copying (phase_asked cut Copying (uncopied w cut ∷ []) h) in
    changed w _ cut (λ cut. record cut { phase = Closed }) has refl refl refl (record { number = refl; further = omega arith; copied = λ p h. h; swept = λ p h. h })
answer_goes_on w (Mark workers) note reply cut has e d r may is =
    changed w _ cut (λ cut. record cut { phase = Sweeping }) has refl refl refl (record { number = refl; further = at_most cut.phase; copied = λ p h. h; swept = λ p h. h })
  where
    at_most : (phase : Phase) → rank phase ≤ 2
    at_most Copying = omega arith
    at_most Closed = omega arith
    at_most Sweeping = omega arith
answer_goes_on w (Sweep page) note reply cut has e d r may is = changed w _ cut (has_swept page) has refl refl refl (swept_later cut page)
answer_goes_on w EndCut note reply cut has e d r may is = absurd (e refl is)
answer_goes_on w DropCut note reply cut has e d r may is = absurd (d refl)
answer_goes_on w Reopen note reply cut has e d r may is = absurd (r refl)
answer_goes_on w _ note reply cut has e d r may is = stays w _ cut has refl refl refl

refusal_goes_on : (w : World) (call : Call) (note : Note) (why : Refusal) (cut : OpenedCut) → HasCut w cut → why ≢ DiskFault → GoesOn w cut (after_refusal w call note why)
refusal_goes_on w call note DiskFault cut has h = absurd (h refl)
refusal_goes_on w call note _ cut has h = stays w w cut has refl refl refl

reply_goes_on : (w : World) (call : Call) (note : Note) (reply : Reply) (cut : OpenedCut) → HasCut w cut → reply ≢ Refused DiskFault → (call ≡ EndCut → reply ≢ Done) → call ≢ DropCut → call ≢ Reopen
    → AllowsReply w call note reply → GoesOn w cut (after_reply w call note reply)
reply_goes_on w call note (Refused why) cut has f e d r may = refusal_goes_on w call note why cut has (λ q. f (ap (λ (r : Refusal). Refused r) q))
reply_goes_on w call note reply cut has f e d r may = answer_goes_on w call note reply cut has e d r may.0 may.1

pub event_goes_on : (w : World) (e : Event) (cut : OpenedCut) → HasCut w cut → IsUndisturbing e → AllowsReply w e.entry.call e.note e.entry.reply → GoesOn w cut (next w e)
event_goes_on w e cut has u may = reply_goes_on w e.entry.call e.note e.entry.reply cut has u.no_fault u.no_end u.no_drop u.no_reopening may

pub history_goes_on : (w : World) (events : List Event) (cut : OpenedCut) → HasCut w cut → AllByRecursion IsUndisturbing events → IsLegal w events → GoesOn w cut (after w events)
history_goes_on w [] cut has u legal = stays w w cut has refl refl refl
history_goes_on w (e ∷ events) cut has u legal =
    let a = event_goes_on w e cut has u.0 legal.0.1 in
    let b = history_goes_on (next w e) events a.0 a.1 u.1 legal.1 in
    (b.0, b.1, later_still cut a.0 b.0 a.2 b.2, b.3 ∙ a.3)

-- ---- a call that isn't refused is answered

answered : (w : World) (call : Call) (note : Note) (reply : Reply) → first_refusal w call note ≡ None → ((why : Refusal) → is_free call why ≡ true → reply ≡ Refused why → ⊥)
    → AllowsReply w call note reply → (after_reply w call note reply ≡ after_answer w call note reply) × Answers w call note reply
answered w call note (Refused why) e f may = absurd (f why (subst (λ o. MatchOption o (is_free call why ≡ true) (λ first. why ≡ first)) e may) refl)
answered w call note reply e f may = (refl, may.1)

-- the cut after a change
is_changed : (w after : World) (cut : OpenedCut) (change : OpenedCut → OpenedCut) (then_ : OpenedCut) → HasCut w cut → after.cut ≡ option_map change w.cut → after.cut ≡ Some then_ → then_ ≡ change cut
is_changed w after cut change then_ has a b =
    let c : Some then_ ≡ Some (change cut) = sym b ∙ (a ∙ ap (option_map change) has.there) in cc

-- ---- copies

abbrev pub IsCopiedOrClosed : OpenedCut → ℕ → Type 0
IsCopiedOrClosed cut page = (has_page cut.copied page ≡ true) ⊎ (1 ≤ rank cut.phase)

stays_copied : (a b : OpenedCut) (page : ℕ) → IsLater a b → IsCopiedOrClosed a page → IsCopiedOrClosed b page
stays_copied a b page later h = elim h [ inl c ↦ inl (later.copied page c) | inr k ↦ inr (let l = later.further in omega arith) ]

not_copying : (phase : Phase) → is_phase phase Copying ≡ false → 1 ≤ rank phase
not_copying Copying h = cc
not_copying Closed h = omega arith
not_copying Sweeping h = omega arith

low_page : (w : World) (page : ℕ) → page < w.pages → no_page w page ≡ None
low_page w page h = elim (cases_Bool (ltb page w.pages)) [
  | inl e ↦ ap (λ b. when (not b) NoPage) e
  | inr e ↦ absurd (omega (arith, ltb-false, e))
]

copy_free : (page : ℕ) (why : Refusal) → is_free (Copy page) why ≡ true → ⊥
copy_free page Memory h = cc
copy_free page DiskFault h = cc
copy_free page _ h = cc

hand_free : (page number seen : ℕ) (why : Refusal) → is_free (HandIn page number seen) why ≡ true → ⊥
hand_free page number seen Memory h = cc
hand_free page number seen DiskFault h = cc
hand_free page number seen _ h = cc

copy_effect : (w : World) (cut then_ : OpenedCut) (page : ℕ) (note : Note) (reply : Reply) → HasCut w cut → page < w.pages → AllowsReply w (Copy page) note reply
    → IsLater cut then_ → (after_reply w (Copy page) note reply).cut ≡ Some then_ → IsCopiedOrClosed then_ page
copy_effect w cut then_ page note reply has low may later there = elim (cases_Bool (is_phase cut.phase Copying)) [
  | inr e ↦ stays_copied cut then_ page later (inr (not_copying cut.phase e))
  | inl phase ↦ elim (cases_Bool (has_page cut.copied page)) [
    | inl e ↦ inl (later.copied page e)
    | inr e ↦
        let none : first_refusal w (Copy page) note ≡ None =
        causes_on w cut (λ cut. wrong_phase cut Copying ∷ no_page w page ∷ already_copied cut page ∷ []) has
        ∙ (skip_met (wrong_phase cut Copying) (no_page w page ∷ already_copied cut page ∷ []) (right cut Copying phase)
        ∙ (skip_met (no_page w page) (already_copied cut page ∷ []) (low_page w page low)
        ∙ skip_met (already_copied cut page) [] (ap (λ b. when b (AlreadyCopied page)) e))) in
        let a = answered w (Copy page) note reply none (λ why f q. copy_free page why f) may in
        let q = is_changed w (after_answer w (Copy page) note reply) cut (λ cut. record cut { copied = with_page page cut.copied }) then_ has refl (sym (ap (λ (v : World). v.cut) a.0) ∙ there) in
        inl (subst (λ (c : OpenedCut). has_page c.copied page ≡ true) (sym q) (with_page_has page cut.copied))
  ]
]

hand_effect : (w : World) (cut then_ : OpenedCut) (page seen : ℕ) (note : Note) (reply : Reply) → HasCut w cut → AllowsReply w (HandIn page cut.number seen) note reply
    → IsLater cut then_ → (after_reply w (HandIn page cut.number seen) note reply).cut ≡ Some then_ → IsCopiedOrClosed then_ page
hand_effect w cut then_ page seen note reply has may later there = elim (cases_Bool (is_phase cut.phase Copying)) [
  | inr e ↦ stays_copied cut then_ page later (inr (not_copying cut.phase e))
  | inl phase ↦ elim (cases_Bool (has_page cut.copied page)) [
    | inl e ↦ inl (later.copied page e)
    | inr e ↦
        let this : (cut.number == cut.number) ≡ true = eq-eqb cut.number cut.number refl in
        let none : first_refusal w (HandIn page cut.number seen) note ≡ None =
        causes_on w cut (λ c. wrong_phase c Copying ∷ other_cut c cut.number ∷ already_copied c page ∷ []) has
        ∙ (skip_met (wrong_phase cut Copying) (other_cut cut cut.number ∷ already_copied cut page ∷ []) (right cut Copying phase)
        ∙ (skip_met (other_cut cut cut.number) (already_copied cut page ∷ []) (ap (λ b. when (not b) (OtherCut cut.number)) this)
        ∙ skip_met (already_copied cut page) [] (ap (λ b. when b (AlreadyCopied page)) e))) in
        let a = answered w (HandIn page cut.number seen) note reply none (λ why f q. hand_free page cut.number seen why f) may in
        let q = is_changed w (after_answer w (HandIn page cut.number seen) note reply) cut (λ cut. record cut { copied = with_page page cut.copied }) then_ has refl (sym (ap (λ (v : World). v.cut) a.0) ∙ there) in
        inl (subst (λ (c : OpenedCut). has_page c.copied page ≡ true) (sym q) (with_page_has page cut.copied))
  ]
]

copied_by : (w : World) (cut then_ : OpenedCut) (page number : ℕ) (call : Call) (note : Note) (reply : Reply) → HasCut w cut → page < w.pages → cut.number ≡ number → IsCopyOf number page call
    → AllowsReply w call note reply → IsLater cut then_ → (after_reply w call note reply).cut ≡ Some then_ → IsCopiedOrClosed then_ page
copied_by w cut then_ page number (Copy p) note reply has low is of may later there =
    subst (λ k. IsCopiedOrClosed then_ k) of (copy_effect w cut then_ p note reply has (subst (λ k. k < w.pages) (sym of) low) may later there)
copied_by w cut then_ page number (HandIn p n seen) note reply has low is of may later there =
    let q : n ≡ cut.number = of.1 ∙ sym is in
    subst (λ k. IsCopiedOrClosed then_ k) of.0
    (hand_effect w cut then_ p seen note reply has (subst (λ k. AllowsReply w (HandIn p k seen) note reply) q may) later
    (subst (λ k. (after_reply w (HandIn p k seen) note reply).cut ≡ Some then_) q there))
copied_by w cut then_ page number _ note reply has low is of may later there = absurd of

copies_effect : (w : World) (events : List Event) (cut : OpenedCut) (number page : ℕ) (e : Event) → (has : HasCut w cut) → page < w.pages → cut.number ≡ number
    → (u : AllByRecursion IsUndisturbing events) → (legal : IsLegal w events) → In e events → IsCopyOf number page e.entry.call
    → IsCopiedOrClosed (history_goes_on w events cut has u legal).0 page
unfolding event_goes_on history_goes_on
copies_effect w [] cut number page e has low is u legal m of = absurd m
copies_effect w (x ∷ events) cut number page e has low is u legal m of =
    let a = event_goes_on w x cut has u.0 legal.0.1 in
    let b = history_goes_on (next w x) events a.0 a.1 u.1 legal.1 in
    elim m [
      | inl q ↦ stays_copied a.0 b.0 page b.2
          (copied_by w cut a.0 page number x.entry.call x.note x.entry.reply has low is (subst (λ (k : Event). IsCopyOf number page k.entry.call) q of) legal.0.1 a.2 a.1.there)
      | inr r ↦ copies_effect (next w x) events a.0 number page e a.1 (subst (λ k. page < k) (sym a.3) low) (a.2.number ∙ is) u.1 legal.1 r of
    ]

-- ---- the closing

find_none_from : {A : Type 0} (p : A → Bool) (xs : List A) → ((x : A) → In x xs → p x ≡ false) → find p xs ≡ None
find_none_from p [] h = refl
find_none_from p (x ∷ xs) h = ap (λ b. cond b (Some x) (find p xs)) (h x (inl refl)) ∙ find_none_from p xs (λ y m. h y (inr m))

none_missing : (w : World) (pages : List ℕ) → ((page : ℕ) → page < w.pages → has_page pages page ≡ true) → missing w pages ≡ None
none_missing w pages h = find_none_from (λ page. not (has_page pages page)) (below w.pages) (λ page m. ap not (h page (below_bound w.pages page m)))

close_free : (why : Refusal) → is_free Close why ≡ true → ⊥
close_free Memory h = cc
close_free DiskFault h = cc
close_free _ h = cc

close_effect : (w : World) (cut then_ : OpenedCut) (note : Note) (reply : Reply) → HasCut w cut → ((page : ℕ) → page < w.pages → IsCopiedOrClosed cut page) → AllowsReply w Close note reply
    → IsLater cut then_ → (after_reply w Close note reply).cut ≡ Some then_ → 1 ≤ rank then_.phase
close_effect w cut then_ note reply has all may later there = elim (cases_Bool (is_phase cut.phase Copying)) [
  | inr e ↦ let k = not_copying cut.phase e in let l = later.further in omega arith
  | inl phase ↦
      let zero_rank = rank_of cut.phase Copying phase in
      let none : first_refusal w Close note ≡ None =
      causes_on w cut (λ cut. wrong_phase cut Copying ∷ uncopied w cut ∷ []) has
      ∙ (skip_met (wrong_phase cut Copying) (uncopied w cut ∷ []) (right cut Copying phase)
      ∙ skip_met (uncopied w cut) [] (ap (option_map (λ page. Uncopied page)) (none_missing w cut.copied (λ page low. elim (all page low) [ inl h ↦ h | inr k ↦ absurd (omega arith) ])))) in
      let a = answered w Close note reply none (λ why f q. close_free why f) may in
      let q = is_changed w (after_answer w Close note reply) cut (λ cut. record cut { phase = Closed }) then_ has refl (sym (ap (λ (v : World). v.cut) a.0) ∙ there) in
      subst (λ (c : OpenedCut). 1 ≤ rank c.phase) (sym q) (omega arith)
]

-- ---- the marks

mark_free : (workers : ℕ) (why : Refusal) → is_free (Mark workers) why ≡ true → ⊥
mark_free workers Memory h = cc
mark_free workers DiskFault h = cc
mark_free workers _ h = cc

not_closed : (phase : Phase) → 1 ≤ rank phase → is_phase phase Closed ≡ false → 2 ≤ rank phase
not_closed Copying h e = absurd (omega arith)
not_closed Closed h e = cc
not_closed Sweeping h e = omega arith

mark_effect : (w : World) (cut then_ : OpenedCut) (workers : ℕ) (reply : Reply) → HasCut w cut → 1 ≤ rank cut.phase → AllowsReply w (Mark workers) (marks (Some cut.number)) reply
    → IsLater cut then_ → (after_reply w (Mark workers) (marks (Some cut.number)) reply).cut ≡ Some then_ → 2 ≤ rank then_.phase
mark_effect w cut then_ workers reply has far may later there = elim (cases_Bool (is_phase cut.phase Closed)) [
  | inr e ↦ let k = not_closed cut.phase far e in let l = later.further in omega arith
  | inl phase ↦
      let this : (cut.number == cut.number) ≡ true = eq-eqb cut.number cut.number refl in
      let note : Note = marks (Some cut.number) in
      let none : first_refusal w (Mark workers) note ≡ None =
      causes_on w cut (λ c. wrong_phase c Closed ∷ wrong_marks c (Some cut.number) ∷ []) has
      ∙ (skip_met (wrong_phase cut Closed) (wrong_marks cut (Some cut.number) ∷ []) (right cut Closed phase)
      ∙ skip_met (wrong_marks cut (Some cut.number)) [] (ap (λ b. when (not b) (OtherCut cut.number)) this)) in
      let a = answered w (Mark workers) note reply none (λ why f q. mark_free workers why f) may in
      let q = is_changed w (after_answer w (Mark workers) note reply) cut (λ cut. record cut { phase = Sweeping }) then_ has refl (sym (ap (λ (v : World). v.cut) a.0) ∙ there) in
      subst (λ (c : OpenedCut). 2 ≤ rank c.phase) (sym q) (omega arith)
]

-- ---- sweeps

sweeping : (phase : Phase) → 2 ≤ rank phase → is_phase phase Sweeping ≡ true
sweeping Copying h = absurd (omega arith)
sweeping Closed h = absurd (omega arith)
sweeping Sweeping h = refl

sweep_free : (page : ℕ) (why : Refusal) → why ≢ DiskFault → is_free (Sweep page) why ≡ true → ⊥
sweep_free page Memory f h = cc
sweep_free page DiskFault f h = f refl
sweep_free page _ f h = cc

sweep_effect : (w : World) (cut then_ : OpenedCut) (page : ℕ) (note : Note) (reply : Reply) → HasCut w cut → page < w.pages → 2 ≤ rank cut.phase → reply ≢ Refused DiskFault
    → AllowsReply w (Sweep page) note reply → IsLater cut then_ → (after_reply w (Sweep page) note reply).cut ≡ Some then_ → has_page then_.swept page ≡ true
sweep_effect w cut then_ page note reply has low far no_fault may later there = elim (cases_Bool (has_page cut.swept page)) [
  | inl e ↦ later.swept page e
  | inr e ↦
      let none : first_refusal w (Sweep page) note ≡ None =
      causes_on w cut (λ cut. wrong_phase cut Sweeping ∷ no_page w page ∷ already_swept cut page ∷ []) has
      ∙ (skip_met (wrong_phase cut Sweeping) (no_page w page ∷ already_swept cut page ∷ []) (right cut Sweeping (sweeping cut.phase far))
      ∙ (skip_met (no_page w page) (already_swept cut page ∷ []) (low_page w page low)
      ∙ skip_met (already_swept cut page) [] (ap (λ b. when b (AlreadySwept page)) e))) in
      let a = answered w (Sweep page) note reply none (λ why f q. sweep_free page why (λ is. no_fault (q ∙ ap (λ (r : Refusal). Refused r) is)) f) may in
      let q = is_changed w (after_answer w (Sweep page) note reply) cut (has_swept page) then_ has refl (sym (ap (λ (v : World). v.cut) a.0) ∙ there) in
      subst (λ (c : OpenedCut). has_page c.swept page ≡ true) (sym q) (with_page_has page cut.swept)
]

sweeps_effect : (w : World) (events : List Event) (cut : OpenedCut) (page : ℕ) (e : Event) → (has : HasCut w cut) → page < w.pages → 2 ≤ rank cut.phase
    → (u : AllByRecursion IsUndisturbing events) → (legal : IsLegal w events) → In e events → e.entry.call ≡ Sweep page
    → has_page (history_goes_on w events cut has u legal).0.swept page ≡ true
unfolding event_goes_on history_goes_on
sweeps_effect w [] cut page e has low far u legal m of = absurd m
sweeps_effect w (x ∷ events) cut page e has low far u legal m of =
    let a = event_goes_on w x cut has u.0 legal.0.1 in
    let b = history_goes_on (next w x) events a.0 a.1 u.1 legal.1 in
    elim m [
      | inl q ↦
          let call : x.entry.call ≡ Sweep page = sym (ap (λ (k : Event). k.entry.call) q) ∙ of in
          b.2.swept page
          (sweep_effect w cut a.0 page x.note x.entry.reply has low far u.0.no_fault (subst (λ c. AllowsReply w c x.note x.entry.reply) call legal.0.1) a.2
          (subst (λ c. (after_reply w c x.note x.entry.reply).cut ≡ Some a.0) call a.1.there))
      | inr r ↦ sweeps_effect (next w x) events a.0 page e a.1 (subst (λ k. page < k) (sym a.3) low) (let l = a.2.further in omega arith) u.1 legal.1 r of
    ]

-- ---- the end

end_free : (why : Refusal) → is_free EndCut why ≡ true → ⊥
end_free Memory h = cc
end_free DiskFault h = cc
end_free _ h = cc

abbrev pub MayEnd : World → Type 0
MayEnd w = first_refusal w EndCut nothing ≡ None

end_effect : (w : World) (cut : OpenedCut) → HasCut w cut → 2 ≤ rank cut.phase → ((page : ℕ) → page < w.pages → has_page cut.swept page ≡ true) → MayEnd w
end_effect w cut has far all =
    causes_on w cut (λ cut. wrong_phase cut Sweeping ∷ unswept w cut ∷ []) has
    ∙ (skip_met (wrong_phase cut Sweeping) (unswept w cut ∷ []) (right cut Sweeping (sweeping cut.phase far))
    ∙ skip_met (unswept w cut) [] (ap (option_map (λ page. Unswept page)) (none_missing w cut.swept all)))

-- all of it, from a world with a cut
pub runs_through : (w : World) (events : List Event) (cut : OpenedCut) (number : ℕ) → HasCut w cut → cut.number ≡ number → AllByRecursion IsUndisturbing events → IsLegal w events
    → RunsThrough number w.pages events → MayEnd (after w events)
runs_through w events cut number has is undisturbed legal runs =
    let tail : List Event = runs.gap ++ runs.marking ∷ runs.sweeps in
    let rest : List Event = runs.closing ∷ tail in
    let l : IsLegal w (runs.copies ++ rest) = subst (IsLegal w) runs.is legal in
    let u : AllByRecursion IsUndisturbing (runs.copies ++ rest) = subst (AllByRecursion IsUndisturbing) runs.is undisturbed in
    let l1 = IsLegal-parts w runs.copies rest l in
    let u1 = all_left IsUndisturbing runs.copies rest u in
    let u2 = all_right IsUndisturbing runs.copies rest u in
    let a = history_goes_on w runs.copies cut has u1 l1.0 in
    let w1 : World = after w runs.copies in
    let n1 : (a.0).number ≡ number = let p = a.2.number in omega arith in
    let copied : (page : ℕ) → page < w1.pages → IsCopiedOrClosed a.0 page = λ page low.
    let low0 : page < w.pages = subst (λ k. page < k) a.3 low in
    let c = runs.copied page low0 in
    copies_effect w runs.copies cut number page c.0 has low0 is u1 l1.0 c.1 c.2 in
    let b = event_goes_on w1 runs.closing a.0 a.1 u2.0 l1.1.0.1 in
    let w2 : World = next w1 runs.closing in
    let closed : 1 ≤ rank (b.0).phase =
    close_effect w1 a.0 b.0 runs.closing.note runs.closing.entry.reply a.1 copied
    (subst (λ c. AllowsReply w1 c runs.closing.note runs.closing.entry.reply) runs.closed l1.1.0.1) b.2
    (subst (λ c. (after_reply w1 c runs.closing.note runs.closing.entry.reply).cut ≡ Some b.0) runs.closed b.1.there) in
    let l3 = IsLegal-parts w2 runs.gap (runs.marking ∷ runs.sweeps) l1.1.1 in
    let u3 = all_left IsUndisturbing runs.gap (runs.marking ∷ runs.sweeps) u2.1 in
    let u4 = all_right IsUndisturbing runs.gap (runs.marking ∷ runs.sweeps) u2.1 in
    let c = history_goes_on w2 runs.gap b.0 b.1 u3 l3.0 in
    let w3 : World = after w2 runs.gap in
    let still_closed : 1 ≤ rank (c.0).phase = let f = c.2.further in omega arith in
    let d = event_goes_on w3 runs.marking c.0 c.1 u4.0 l3.1.0.1 in
    let w4 : World = next w3 runs.marking in
    let same_number : number ≡ (c.0).number = let p = c.2.number in let q = b.2.number in omega arith in
    let note : runs.marking.note ≡ marks (Some (c.0).number) = runs.marked.1 ∙ ap (λ n. marks (Some n)) same_number in
    let marked_may : AllowsReply w3 (Mark runs.workers) (marks (Some (c.0).number)) runs.marking.entry.reply =
    subst (λ n. AllowsReply w3 (Mark runs.workers) n runs.marking.entry.reply) note (subst (λ c. AllowsReply w3 c runs.marking.note runs.marking.entry.reply) runs.marked.0 l3.1.0.1) in
    let marked_there : (after_reply w3 (Mark runs.workers) (marks (Some (c.0).number)) runs.marking.entry.reply).cut ≡ Some d.0 =
    subst (λ n. (after_reply w3 (Mark runs.workers) n runs.marking.entry.reply).cut ≡ Some d.0) note
    (subst (λ c. (after_reply w3 c runs.marking.note runs.marking.entry.reply).cut ≡ Some d.0) runs.marked.0 d.1.there) in
    let marked : 2 ≤ rank (d.0).phase = mark_effect w3 c.0 d.0 runs.workers runs.marking.entry.reply c.1 still_closed marked_may d.2 marked_there in
    let e = history_goes_on w4 runs.sweeps d.0 d.1 u4.1 l3.1.1 in
    let w5 : World = after w4 runs.sweeps in
    let far : 2 ≤ rank (e.0).phase = let f = e.2.further in omega arith in
    let pages4 : w4.pages ≡ w.pages = let p = d.3 in let q = c.3 in let r = b.3 in let s = a.3 in omega arith in
    let swept : (page : ℕ) → page < w5.pages → has_page (e.0).swept page ≡ true = λ page low.
    let low4 : page < w4.pages = subst (λ k. page < k) e.3 low in
    let s = runs.swept page (subst (λ k. page < k) pages4 low4) in
    sweeps_effect w4 runs.sweeps d.0 page s.0 d.1 low4 marked u4.1 l3.1.1 s.1 s.2 in
    let ends : MayEnd w5 = end_effect w5 e.0 e.1 far swept in
    let whole : after w events ≡ w5 =
    ap (after w) runs.is ∙ (after-append w runs.copies rest ∙ after-append w2 runs.gap (runs.marking ∷ runs.sweeps)) in
    subst MayEnd (sym whole) ends

-- from the opening on
pub cut_may_end : (w : World) (note : Note) (number : ℕ) (events : List Event) → AllowsReply w OpenCut note (Cut number) → IsLegal (after_reply w OpenCut note (Cut number)) events
    → AllByRecursion IsUndisturbing events → RunsThrough number w.pages events → AllowsReply (after (after_reply w OpenCut note (Cut number)) events) EndCut nothing Done
cut_may_end w note number events may legal u runs =
    let cut : OpenedCut = record { number = w.last_cut + 1; phase = Copying; copied = []; swept = []; opening = opening_of w } in
    let whole : w.broken ≡ None = none_broken w.broken (first_met_none (broken w) (cut_there w ∷ spent w.last_cut ∷ []) may.0).0 in
    let number_is : w.last_cut + 1 ≡ number = let q : Cut number ≡ Cut (w.last_cut + 1) = may.1 in let z : number ≡ w.last_cut + 1 = cc in sym z in
    (runs_through (cut_opened w) events cut number (record { there = refl; sound = whole }) number_is u legal runs, refl)
  where
    none_broken : (o : Option ℕ) → option_map (λ count. Broken count) o ≡ None → o ≡ None
    none_broken None h = refl
    none_broken (Some n) h = cc

pub cut_ends : (w : World) (note : Note) (number : ℕ) (events : List Event) (reply : Reply) → AllowsReply w OpenCut note (Cut number) → IsLegal (after_reply w OpenCut note (Cut number)) events
    → AllByRecursion IsUndisturbing events → RunsThrough number w.pages events → AllowsReply (after (after_reply w OpenCut note (Cut number)) events) EndCut nothing reply → reply ≡ Done
cut_ends w note number events reply may legal u runs ends =
    (answered (after (after_reply w OpenCut note (Cut number)) events) EndCut nothing reply (cut_may_end w note number events may legal u runs).0 (λ why f q. end_free why f) ends).1
