-- Each allowed event leaves the world lawful.
use Rattle.store_model.proofs.Lists.{find_none_each, in_below}
use Rattle.object_graph.specs.declared.calls.Phase.TheVariants.{Copying, Closed, Sweeping}
use Rattle.object_graph.specs.declared.calls.Phase.{Phase}
use Rattle.std.specs.List.{find}
use Rattle.std.proofs.Common.{◌≡◌, ◌≢◌, ℕ, suc, ◌<◌, Bool, true, false, ◌&&◌, ◌||◌, cond, List, [], ◌∷◌, map, length, replicate, Option, Some, None, refl, sym, subst, ap, ◌∙◌, ◌⊎◌, inl, inr, arith, ◌++◌, not}
use Rattle.std.specs.Option.{is_none, is_some, option_map, MatchOption, IsSomeAnd, unwrap_or}
use Rattle.std.specs.Prelude.{nat_lt}
use Rattle.std.proofs.lemmas.Bool.{and_parts, and_from, cases_Bool, not-false, ltb-true}
use Rattle.object_graph.specs.NameParts.{NameParts}
use Rattle.object_graph.specs.Names.{name_eq, root_name}
use Rattle.object_graph.specs.ObjectParts.{ObjectParts}
use Rattle.object_graph.specs.declared.calls.Call.{Call}
use Rattle.object_graph.specs.declared.calls.Call.TheVariants.{New, Commit, OpenCut, Copy, HandIn, Close, Mark, Sweep, EndCut, DropCut, Reopen, Begin, Get, Number, Set, Put, Abort}
use Rattle.object_graph.specs.declared.calls.Reply.{Reply}
use Rattle.object_graph.specs.declared.calls.Reply.TheVariants.{Refused, Freed}
use Rattle.object_graph.specs.declared.calls.Refusal.{Refusal}
use Rattle.object_graph.specs.declared.calls.Refusal.TheVariants.{DiskFault, Broken, NotOpen, NoPage, WrongPhase, AlreadySwept, Spent, Unswept, NoCut}
use Rattle.object_graph.specs.Graphs.{object_fields, is_at}
use Rattle.object_graph.specs.Slots.{below}
use Rattle.store_model.specs.Worlds.{World, Opening, OpenedCut, Doubt, no_doubt, commit_in_doubt, sweep_in_doubt, Note, Event, find_transaction, fresh_world, IsLost, is_freed, slots_of}
use Rattle.store_model.specs.Causes.{first_met, first_refusal, causes, when, broken, not_open, spent, new_name, has_page, missing, unswept, wrong_phase, is_phase, no_page, already_swept}
use Rattle.store_model.specs.Replies.{AllowsReply, Refuses, Answers, MayFree, MayFreeNow, names_in}
use Rattle.store_model.specs.Steps.{with_new, cut_opened, after_refusal, after_answer, after_reply, faults_in, doubt_after, next, has_swept, swept}
use Rattle.store_model.specs.Histories.{after, IsLegal}
use Rattle.store_model.specs.Lawful.{KeepsLost, KeepsLostOf, IsDoubtOf, IsUnsweptIn, IsLawful, IsOrderly, HasFreedSwept, IsPlaced}
use Rattle.store_model.proofs.Allowed.{first_met_none, when_none, with_page_cases}
use Rattle.object_graph.proofs.Members.{append_left, each_in}
use Rattle.object_graph.proofs.Paths.{has_name_in, in_has_name, has_object_in}
use Rattle.store_model.proofs.Opened.{nones}
use Rattle.store_model.proofs.Keeps.{Grows, still_freed, grows_answer, freed_grows, opening_keeps_lost, event_keeps_lost}
use Rattle.store_model.proofs.Orderly.{event_is_orderly, event_keeps_freed}

-- ---- the cut's opening

abbrev opening_in : OpenedCut → Opening
opening_in cut = cut.opening

abbrev swept_in : OpenedCut → List ℕ
swept_in cut = cut.swept

-- a cut goes, or keeps a part of it
abbrev Same : {B : Type 0} → (OpenedCut → B) → Option OpenedCut → Option OpenedCut → Type 0
Same part a b = (b ≡ None) ⊎ (option_map part b ≡ option_map part a)

lost_under : (w after : World) (a b : Option OpenedCut) → ((opening : Opening) → KeepsLost w opening → KeepsLost after opening) → Same opening_in a b
    → MatchOption a (Unit {0}) (KeepsLostOf w) → MatchOption b (Unit {0}) (KeepsLostOf after)
lost_under w after a None f same keeps = tt
lost_under w after None (Some cut) f same keeps = elim same [ inl e ↦ cc | inr e ↦ cc ]
lost_under w after (Some old) (Some cut) f same keeps = elim same [
  | inl e ↦ cc
  | inr e ↦ let is : old.opening ≡ cut.opening = cc in f cut.opening (subst (KeepsLost w) is keeps)
]

swept_under : (w after : World) (a b : Option OpenedCut) → Grows w.freed after.freed → Same opening_in a b → Same swept_in a b
    → MatchOption a (Unit {0}) (HasFreedSwept w) → MatchOption b (Unit {0}) (HasFreedSwept after)
swept_under w after a None grows same still keeps = tt
swept_under w after None (Some cut) grows same still keeps = elim same [ inl e ↦ cc | inr e ↦ cc ]
swept_under w after (Some old) (Some cut) grows same still keeps = elim same [
  | inl e ↦ cc
  | inr e ↦ elim still [
    | inl f ↦ cc
    | inr f ↦
        let is : cut.opening ≡ old.opening = cc in
        let at : cut.swept ≡ old.swept = cc in
        λ name lost swept. still_freed w.freed after.freed name grows
        (keeps name (subst (λ (o : Opening). IsLost o name) is lost) (subst (λ ps. has_page ps name.page ≡ true) at swept))
  ]
]

same_changed : {B : Type 0} (part : OpenedCut → B) (change : OpenedCut → OpenedCut) (o : Option OpenedCut) → ((cut : OpenedCut) → part (change cut) ≡ part cut) → Same part o (option_map change o)
same_changed part change None h = inl refl
same_changed part change (Some cut) h = inr (ap (λ b. Some b) (h cut))

same-with_new : {B : Type 0} (part : OpenedCut → B) (w : World) (t : ℕ) (name : Option NameParts) → Same part w.cut (with_new w t name).cut
same-with_new part w t None = inr refl
same-with_new part w t (Some name) = inr refl

opening_after_answer : (w : World) (call : Call) (note : Note) (reply : Reply) → call ≢ OpenCut → Same opening_in w.cut (after_answer w call note reply).cut
opening_after_answer w (New t page) note reply h = same-with_new opening_in w t (new_name w t page)
opening_after_answer w OpenCut note reply h = absurd (h refl)
opening_after_answer w (Copy page) note reply h = same_changed opening_in _ w.cut (λ cut. refl)
opening_after_answer w (HandIn page number seen) note reply h = same_changed opening_in _ w.cut (λ cut. refl)
opening_after_answer w Close note reply h = same_changed opening_in _ w.cut (λ cut. refl)
opening_after_answer w (Mark workers) note reply h = same_changed opening_in _ w.cut (λ cut. refl)
opening_after_answer w (Sweep page) note reply h = same_changed opening_in _ w.cut (λ cut. refl)
opening_after_answer w EndCut note reply h = inl refl
opening_after_answer w DropCut note reply h = inl refl
opening_after_answer w Reopen note reply h = inl refl
opening_after_answer w _ note reply h = inr refl

same_after_refusal : {B : Type 0} (part : OpenedCut → B) (w : World) (call : Call) (note : Note) (why : Refusal) → Same part w.cut (after_refusal w call note why).cut
same_after_refusal part w call note DiskFault = inr refl
same_after_refusal part w call note _ = inr refl

-- ---- what is swept

-- a sweep frees what was lost on its page
sweep_has_freed : (w : World) (page slots : ℕ) → MayFreeNow w page slots → MatchOption w.cut (Unit {0}) (HasFreedSwept w)
    → MatchOption (option_map (has_swept page) w.cut) (Unit {0}) (HasFreedSwept (swept w page slots))
sweep_has_freed w page slots may keeps = by_cut w.cut may keeps
  where
    by_cut : (o : Option OpenedCut) → MatchOption o ⊥ (λ cut. MayFree w cut.opening page slots) → MatchOption o (Unit {0}) (HasFreedSwept w)
        → MatchOption (option_map (has_swept page) o) (Unit {0}) (HasFreedSwept (swept w page slots))
    by_cut None m k = tt
    by_cut (Some cut) m k = λ name lost there. elim (cases_Bool (is_freed w name)) [
      | inl e ↦ still_freed w.freed (names_in w page slots ++ w.freed) name (names_in w page slots, refl) e
      | inr e ↦ elim (with_page_cases page name.page cut.swept there) [
        | inl q ↦
            let freed = m.complete name lost (sym q) (ap not e) in
            in_has_name (names_in w page slots ++ w.freed) name (append_left (names_in w page slots) w.freed name (has_name_in (names_in w page slots) name freed))
        | inr before ↦ let f = k name lost before in cc
      ]
    ]

swept_quietly : (w : World) (call : Call) (note : Note) (reply : Reply) → call ≢ OpenCut → Same swept_in w.cut (after_answer w call note reply).cut → MatchOption w.cut (Unit {0}) (HasFreedSwept w)
    → MatchOption (after_answer w call note reply).cut (Unit {0}) (HasFreedSwept (after_answer w call note reply))
swept_quietly w call note reply h still keeps =
    swept_under w (after_answer w call note reply) w.cut (after_answer w call note reply).cut (grows_answer w call note reply) (opening_after_answer w call note reply h) still keeps

swept_after_answer : (w : World) (call : Call) (note : Note) (reply : Reply) → Answers w call note reply → MatchOption w.cut (Unit {0}) (HasFreedSwept w)
    → MatchOption (after_answer w call note reply).cut (Unit {0}) (HasFreedSwept (after_answer w call note reply))
swept_after_answer w (New t page) note reply is keeps = swept_quietly w (New t page) note reply (λ e. cc) (same-with_new swept_in w t (new_name w t page)) keeps
swept_after_answer w OpenCut note reply is keeps = λ name lost there. cc
swept_after_answer w (Copy page) note reply is keeps = swept_quietly w (Copy page) note reply (λ e. cc) (same_changed swept_in _ w.cut (λ cut. refl)) keeps
swept_after_answer w (HandIn page number seen) note reply is keeps = swept_quietly w (HandIn page number seen) note reply (λ e. cc) (same_changed swept_in _ w.cut (λ cut. refl)) keeps
swept_after_answer w Close note reply is keeps = swept_quietly w Close note reply (λ e. cc) (same_changed swept_in _ w.cut (λ cut. refl)) keeps
swept_after_answer w (Mark workers) note reply is keeps = swept_quietly w (Mark workers) note reply (λ e. cc) (same_changed swept_in _ w.cut (λ cut. refl)) keeps
swept_after_answer w (Sweep page) note (Freed slots) is keeps = sweep_has_freed w page slots is keeps
swept_after_answer w (Sweep page) note _ is keeps = absurd is
swept_after_answer w EndCut note reply is keeps = tt
swept_after_answer w DropCut note reply is keeps = tt
swept_after_answer w Reopen note reply is keeps = tt
swept_after_answer w (Begin t) note reply is keeps = swept_quietly w (Begin t) note reply (λ e. cc) (inr refl) keeps
swept_after_answer w (Get t name field) note reply is keeps = swept_quietly w (Get t name field) note reply (λ e. cc) (inr refl) keeps
swept_after_answer w (Number t name) note reply is keeps = swept_quietly w (Number t name) note reply (λ e. cc) (inr refl) keeps
swept_after_answer w (Set t name field target) note reply is keeps = swept_quietly w (Set t name field target) note reply (λ e. cc) (inr refl) keeps
swept_after_answer w (Put t name value) note reply is keeps = swept_quietly w (Put t name value) note reply (λ e. cc) (inr refl) keeps
swept_after_answer w (Commit t) note reply is keeps = swept_quietly w (Commit t) note reply (λ e. cc) (inr refl) keeps
swept_after_answer w (Abort t) note reply is keeps = swept_quietly w (Abort t) note reply (λ e. cc) (inr refl) keeps

swept_after : (w : World) (call : Call) (note : Note) (reply : Reply) → IsLawful w → AllowsReply w call note reply
    → MatchOption (after_reply w call note reply).cut (Unit {0}) (HasFreedSwept (after_reply w call note reply))
swept_after w call note (Refused why) lawful may =
    swept_under w (after_refusal w call note why) w.cut (after_refusal w call note why).cut (freed_grows w call note (Refused why))
    (same_after_refusal opening_in w call note why) (same_after_refusal swept_in w call note why) lawful.swept
swept_after w call note reply lawful may = swept_after_answer w call note reply may.1 lawful.swept

-- ---- doubt

-- the first cause of every call but a reopening is that the world is broken
pub broken_comes_first : (w : World) (call : Call) (note : Note) → call ≢ Reopen → (rest : List (Option Refusal)) × (causes w call note ≡ broken w ∷ rest)
broken_comes_first w Reopen note h = absurd (h refl)
broken_comes_first w _ note h = (_, refl)

pub broken_refuses : (w : World) (call : Call) (note : Note) (count : ℕ) → call ≢ Reopen → w.broken ≡ Some count → first_refusal w call note ≡ Some (Broken count)
broken_refuses w call note count h is =
    let a = broken_comes_first w call note h in
    ap first_met a.1 ∙ ap (λ o. first_met (option_map (λ n. Broken n) o ∷ a.0)) is

unbroken : (w : World) (call : Call) (note : Note) → call ≢ Reopen → first_refusal w call note ≡ None → broken w ≡ None
unbroken w call note h may =
    let a = broken_comes_first w call note h in
    (first_met_none (broken w) a.0 (subst (λ cs. first_met cs ≡ None) a.1 may)).0

undoubted : (w : World) (doubt : Doubt) → IsDoubtOf w doubt → broken w ≡ None → doubt ≡ no_doubt
undoubted w no_doubt is h = refl
undoubted w (commit_in_doubt t) is h = absurd (some_broken w.broken (and_parts (is_some w.broken) (is_some (find_transaction w t)) is).0 h)
  where
    some_broken : (o : Option ℕ) → is_some o ≡ true → option_map (λ count. Broken count) o ≡ None → ⊥
    some_broken None e h = cc
    some_broken (Some n) e h = cc
undoubted w (sweep_in_doubt page) is h = absurd (some_broken w.broken is.broken h)
  where
    some_broken : (o : Option ℕ) → is_some o ≡ true → option_map (λ count. Broken count) o ≡ None → ⊥
    some_broken None e h = cc
    some_broken (Some n) e h = cc

doubt-with_new : (w : World) (t : ℕ) (name : Option NameParts) → (with_new w t name).doubt ≡ w.doubt
doubt-with_new w t None = refl
doubt-with_new w t (Some name) = refl

doubt-after_answer : (w : World) (call : Call) (note : Note) (reply : Reply) → w.doubt ≡ no_doubt → (after_answer w call note reply).doubt ≡ no_doubt
doubt-after_answer w (New t page) note reply e = doubt-with_new w t (new_name w t page) ∙ e
doubt-after_answer w Reopen note reply e = refl
doubt-after_answer w _ note reply e = e

doubt_stays : (w after : World) (doubt : Doubt) → after.transactions ≡ w.transactions → after.pages ≡ w.pages → after.cut ≡ w.cut → is_some after.broken ≡ true → IsDoubtOf w doubt
    → IsDoubtOf after doubt
doubt_stays w after no_doubt same pages cut e is = tt
doubt_stays w after (commit_in_doubt t) same pages cut e is =
    and_from (is_some after.broken) (is_some (find_transaction after t)) e
    (subst (λ ts. is_some (find_transaction (record w { transactions = ts }) t) ≡ true) (sym same) (and_parts (is_some w.broken) (is_some (find_transaction w t)) is).1)
doubt_stays w after (sweep_in_doubt page) same pages cut e is = record {
  broken = e;
  within = subst (λ (n : ℕ). page < n) (sym pages) is.within;
  cut = subst (λ (o : Option OpenedCut). IsSomeAnd o (IsUnsweptIn page)) (sym cut) is.cut;
}

-- a commit that is answered by a disk fault is of an open transaction
some_open : {A : Type 0} (o : Option A) → is_none o ≡ false → is_some o ≡ true
some_open None h = cc
some_open (Some x) h = refl

other_cause : (o : Option Refusal) (rest : List (Option Refusal)) → o ≢ Some DiskFault → first_met rest ≢ Some DiskFault → first_met (o ∷ rest) ≢ Some DiskFault
other_cause None rest a b = b
other_cause (Some why) rest a b = a

no_cause : (causes : List (Option Refusal)) (P : Type 0) → first_met causes ≢ Some DiskFault → MatchOption (first_met causes) P (λ first. DiskFault ≡ first) → first_met causes ≡ None
no_cause causes P h may = by_first (first_met causes) refl may
  where
    by_first : (o : Option Refusal) → first_met causes ≡ o → MatchOption o P (λ first. DiskFault ≡ first) → o ≡ None
    by_first None e may = refl
    by_first (Some why) e may = absurd (h (e ∙ ap (λ (r : Refusal). Some r) (sym may)))

broken_is : (o : Option ℕ) → option_map (λ count. Broken count) o ≢ Some DiskFault
broken_is None e = cc
broken_is (Some n) e = cc

when_is : (b : Bool) (why : Refusal) → why ≢ DiskFault → when b why ≢ Some DiskFault
when_is true why h e = h (let z : why ≡ DiskFault = cc in z)
when_is false why h e = cc

faulty_commit_is_open : (w : World) (t : ℕ) (note : Note) → Refuses w (Commit t) note DiskFault → is_some (find_transaction w t) ≡ true
faulty_commit_is_open w t note may =
    let none : first_refusal w (Commit t) note ≡ None = no_cause (causes w (Commit t) note) _
    (other_cause (broken w) (not_open w t ∷ spent w.commits ∷ []) (broken_is w.broken)
    (other_cause (not_open w t) (spent w.commits ∷ []) (when_is (is_none (find_transaction w t)) NotOpen (λ e. cc))
    (other_cause (spent w.commits) [] (when_is _ (Spent w.commits) (λ e. cc)) (λ e. cc)))) may in
    some_open (find_transaction w t) (when_none (is_none (find_transaction w t)) _ (nones (causes w (Commit t) note) none).1.0)

-- a sweep that is answered by a disk fault is of a page that the cut had not swept
same_phase : (p q : Phase) → is_phase p q ≡ true → p ≡ q
same_phase Copying Copying h = refl
same_phase Closed Closed h = refl
same_phase Sweeping Sweeping h = refl
same_phase Copying Closed h = cc
same_phase Copying Sweeping h = cc
same_phase Closed Copying h = cc
same_phase Closed Sweeping h = cc
same_phase Sweeping Copying h = cc
same_phase Sweeping Closed h = cc

module _ (w : World) (page : ℕ) where
  abbrev sweep_causes : OpenedCut → List (Option Refusal)
  sweep_causes cut = wrong_phase cut Sweeping ∷ no_page w page ∷ already_swept cut page ∷ []

  abbrev causes_by : Option OpenedCut → List (Option Refusal)
  causes_by o = unwrap_or (option_map sweep_causes o) (Some NoCut ∷ [])

  never_a_fault : (o : Option OpenedCut) → first_met (causes_by o) ≢ Some DiskFault
  never_a_fault None = λ e. cc
  never_a_fault (Some cut) =
      other_cause (wrong_phase cut Sweeping) (no_page w page ∷ already_swept cut page ∷ []) (when_is _ (WrongPhase cut.phase) (λ e. cc))
      (other_cause (no_page w page) (already_swept cut page ∷ []) (when_is _ NoPage (λ e. cc))
      (other_cause (already_swept cut page) [] (when_is _ (AlreadySwept page) (λ e. cc)) (λ e. cc)))

  pub unswept_where_none : (o : Option OpenedCut) → first_met (causes_by o) ≡ None → (page < w.pages) × IsSomeAnd o (IsUnsweptIn page)
  unswept_where_none None e = cc
  unswept_where_none (Some cut) e =
      let h = nones (sweep_causes cut) e in (
        ltb-true page w.pages (not-false (nat_lt page w.pages) (when_none (not (nat_lt page w.pages)) NoPage h.1.0)),
        record {
          sweeping = same_phase cut.phase Sweeping (not-false (is_phase cut.phase Sweeping) (when_none (not (is_phase cut.phase Sweeping)) (WrongPhase cut.phase) h.0));
          unswept = when_none (has_page cut.swept page) (AlreadySwept page) h.1.1.0;
        },
      )

  faulty_sweep_has_cut : (note : Note) → Refuses w (Sweep page) note DiskFault → (page < w.pages) × IsSomeAnd w.cut (IsUnsweptIn page)
  faulty_sweep_has_cut note may =
      let none : first_refusal w (Sweep page) note ≡ None = no_cause (causes w (Sweep page) note) _ (other_cause (broken w) (causes_by w.cut) (broken_is w.broken) (never_a_fault w.cut)) may in
      unswept_where_none w.cut (first_met_none (broken w) (causes_by w.cut) none).1

doubt_after_fault : (w : World) (call : Call) (note : Note) → IsLawful w → Refuses w call note DiskFault
    → IsDoubtOf (record w { broken = Some (faults_in note); doubt = doubt_after w call }) (doubt_after w call)
doubt_after_fault w (Commit t) note lawful may = faulty_commit_is_open w t note may
doubt_after_fault w (Sweep page) note lawful may = let a = faulty_sweep_has_cut w page note may in record { broken = refl; within = a.0; cut = a.1 }
doubt_after_fault w _ note lawful may = doubt_stays w (record w { broken = Some (faults_in note) }) w.doubt refl refl refl refl lawful.doubt

doubt_after_refusal : (w : World) (call : Call) (note : Note) (why : Refusal) → IsLawful w → Refuses w call note why
    → IsDoubtOf (after_refusal w call note why) (after_refusal w call note why).doubt
doubt_after_refusal w call note DiskFault lawful may = doubt_after_fault w call note lawful may
doubt_after_refusal w call note _ lawful may = lawful.doubt

is_reopen : (call : Call) → (call ≡ Reopen) ⊎ (call ≢ Reopen)
is_reopen Reopen = inl refl
is_reopen _ = inr (λ e. cc)

is_opening : (call : Call) → (call ≡ OpenCut) ⊎ (call ≢ OpenCut)
is_opening OpenCut = inl refl
is_opening _ = inr (λ e. cc)

doubt_after_answer : (w : World) (call : Call) (note : Note) (reply : Reply) → IsLawful w → first_refusal w call note ≡ None
    → IsDoubtOf (after_answer w call note reply) (after_answer w call note reply).doubt
doubt_after_answer w call note reply lawful may = elim (is_reopen call) [
  | inl e ↦ subst (λ c. IsDoubtOf (after_answer w c note reply) (after_answer w c note reply).doubt) (sym e) tt
  | inr h ↦
      subst (IsDoubtOf (after_answer w call note reply))
      (sym (doubt-after_answer w call note reply (undoubted w w.doubt lawful.doubt (unbroken w call note h may)))) tt
]

-- ---- each event

lost_after_answer : (w : World) (call : Call) (note : Note) (reply : Reply) → IsOrderly w → IsOrderly (after_answer w call note reply)
    → ((opening : Opening) → KeepsLost w opening → KeepsLost (after_answer w call note reply) opening)
    → MatchOption w.cut (Unit {0}) (KeepsLostOf w) → MatchOption (after_answer w call note reply).cut (Unit {0}) (KeepsLostOf (after_answer w call note reply))
lost_after_answer w call note reply orderly next f keeps = elim (is_opening call) [
  | inl e ↦ subst (λ c. MatchOption (after_answer w c note reply).cut (Unit {0}) (KeepsLostOf (after_answer w c note reply))) (sym e) (opening_keeps_lost (cut_opened w) orderly)
  | inr h ↦ lost_under w (after_answer w call note reply) w.cut (after_answer w call note reply).cut f (opening_after_answer w call note reply h) keeps
]

lost_after : (w : World) (call : Call) (note : Note) (reply : Reply) → IsLawful w → AllowsReply w call note reply → IsOrderly (after_reply w call note reply)
    → MatchOption (after_reply w call note reply).cut (Unit {0}) (KeepsLostOf (after_reply w call note reply))
lost_after w call note (Refused why) lawful may next =
    lost_under w (after_refusal w call note why) w.cut (after_refusal w call note why).cut
    (λ opening keeps. event_keeps_lost w opening call note (Refused why) lawful.orderly next may keeps) (same_after_refusal opening_in w call note why) lawful.lost
lost_after w call note reply lawful may next =
    lost_after_answer w call note reply lawful.orderly next (λ opening keeps. event_keeps_lost w opening call note reply lawful.orderly next may keeps) lawful.lost

doubt_after_reply : (w : World) (call : Call) (note : Note) (reply : Reply) → IsLawful w → AllowsReply w call note reply
    → IsDoubtOf (after_reply w call note reply) (after_reply w call note reply).doubt
doubt_after_reply w call note (Refused why) lawful may = doubt_after_refusal w call note why lawful may
doubt_after_reply w call note reply lawful may = doubt_after_answer w call note reply lawful may.0

pub event_is_lawful : (w : World) (call : Call) (note : Note) (reply : Reply) → IsLawful w → AllowsReply w call note reply → IsLawful (after_reply w call note reply)
event_is_lawful w call note reply lawful may =
    let next = event_is_orderly w call note reply lawful.orderly may in
    record {
      orderly = next;
      freed = event_keeps_freed w call note reply lawful.orderly lawful.freed may;
      lost = lost_after w call note reply lawful may next;
      swept = swept_after w call note reply lawful may;
      doubt = doubt_after_reply w call note reply lawful may;
    }

-- ---- a history

pub history_is_lawful : (w : World) (events : List Event) → IsLawful w → IsLegal w events → IsLawful (after w events)
history_is_lawful w [] lawful legal = lawful
history_is_lawful w (e ∷ events) lawful legal =
    history_is_lawful (next w e) events (event_is_lawful w e.entry.call e.note e.entry.reply lawful legal.0.1) legal.1

abbrev root_object : ObjectParts
root_object = record { name = root_name; number = 0; refs = replicate object_fields None }

one_counted : (b : Bool) → map (λ (o : ObjectParts). o.name.generation) (cond b (root_object ∷ []) []) ≡ map suc (below (length (cond b (root_object ∷ []) [])))
one_counted true = refl
one_counted false = refl

no_refs : (b : Bool) → ((b && false) || false) ≡ true → ⊥
no_refs true h = cc
no_refs false h = cc

pub fresh_is_orderly : (pages : ℕ) → 0 < pages → IsOrderly (fresh_world pages)
fresh_is_orderly pages some = record {
  root = refl;
  placed = ((some, omega arith), tt);
  own_placed = tt;
  whole = λ name target reached r. absurd (no_refs (name_eq root_name name) r);
  counted = λ page slot. one_counted (is_at page slot root_name);
  last = (refl, tt);
  distinct = λ number. omega arith;
  transactions = tt;
  apart = tt;
  freed_there = tt;
}

pub fresh_is_lawful_world : (pages : ℕ) → 0 < pages → IsLawful (fresh_world pages)
fresh_is_lawful_world pages some = record { orderly = fresh_is_orderly pages some; freed = tt; lost = tt; swept = tt; doubt = tt }

-- ---- an ended cut

none_unswept : (o : Option ℕ) → option_map (λ page. Unswept page) o ≡ None → o ≡ None
none_unswept None h = refl
none_unswept (Some page) h = cc

all_swept : (w : World) (cut : OpenedCut) (page : ℕ) → unswept w cut ≡ None → page < w.pages → has_page cut.swept page ≡ true
all_swept w cut page h within =
    let test : ℕ → Bool = λ page. not (has_page cut.swept page) in
    let none : find test (below w.pages) ≡ None = none_unswept (missing w cut.swept) h in
    not-false (has_page cut.swept page) (find_none_each test (below w.pages) page none (in_below w.pages page within))

-- where a cut may end all that was out of reach as it opened is freed
pub ended_has_freed : (w : World) (cut : OpenedCut) (note : Note) (name : NameParts) → IsLawful w → w.cut ≡ Some cut → first_refusal w EndCut note ≡ None → IsLost cut.opening name
    → is_freed w name ≡ true
ended_has_freed w cut note name lawful is may lost = by_cut w.cut is may lawful.lost lawful.swept
  where
    by_cut : (o : Option OpenedCut) → o ≡ Some cut → first_met (broken w ∷ unwrap_or (option_map (λ cut. wrong_phase cut Sweeping ∷ unswept w cut ∷ []) o) (Some NoCut ∷ [])) ≡ None
        → MatchOption o (Unit {0}) (KeepsLostOf w) → MatchOption o (Unit {0}) (HasFreedSwept w) → is_freed w name ≡ true
    by_cut None e h k s = cc
    by_cut (Some c) e h k s =
        let same : cut ≡ c = cc in
        let here : IsLost c.opening name = subst (λ (k : OpenedCut). IsLost k.opening name) same lost in
        let causes_met = nones (broken w ∷ wrong_phase c Sweeping ∷ unswept w c ∷ []) h in
        let there = has_object_in w.graph name (k.there name here.old) in
        let placed = each_in (λ (o : ObjectParts). IsPlaced w.pages (slots_of w) o.name) w.graph there.0 lawful.orderly.placed there.1 in
        let low : name.page < w.pages = subst (λ (n : NameParts). n.page < w.pages) there.2 placed.0 in
        s name here (all_swept w c name.page causes_met.1.1.0 low)
