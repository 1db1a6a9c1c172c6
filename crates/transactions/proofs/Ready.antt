-- What each call leaves is ready for the next.
use Rattle.std.proofs.Common.{◌≡◌, ◌≢◌, ℕ, Bool, true, false, Option, Some, None, List, [], ◌∷◌, Result, Err, IsErrAnd, IsTrue, refl, sym, subst, ap, ◌∙◌}
use Rattle.std.specs.Option.{is_some, is_none, option_map, unwrap_or, MatchOption}
use Rattle.std.specs.List.{AllByRecursion}
use Rattle.std.proofs.lemmas.Result.{err_from_is_err_and}
use Rattle.object_graph.specs.NameParts.{NameParts}
use Rattle.object_graph.specs.declared.calls.Call.{Call}
use Rattle.object_graph.specs.declared.calls.Call.TheVariants.{Begin, Get, Number, Set, Put, New, Commit, Abort, OpenCut, Copy, HandIn, Close, Mark, Sweep, EndCut, DropCut, Reopen}
use Rattle.object_graph.specs.declared.calls.Reply.{Reply}
use Rattle.object_graph.specs.declared.calls.Reply.TheVariants.{Committed, Refused}
use Rattle.object_graph.specs.declared.calls.Refusal.{Refusal}
use Rattle.object_graph.specs.declared.calls.Refusal.TheVariants.{NotOpen, Stranger, BadField, NoPage, Busy, TooWide, KnowsTooMany, PageFull, AlreadyOpen, TooMany, CutThere, NoCut, WrongPhase, AlreadyCopied, Uncopied, OtherCut, Unswept, Spent, DiskFault, Broken}
use Rattle.store_model.specs.Worlds.{World, Transaction, OpenedCut, Doubt, no_doubt, commit_in_doubt, sweep_in_doubt, nothing, find_transaction}
use Rattle.store_model.specs.Causes.{first_met, first_refusal, causes, when, strange_target, knows_too_many_for, field_seen, missing, wrong_marks, new_name, not_open, spent}
use Rattle.store_model.specs.Replies.{Refuses, AllowsReply, is_free, may_fail}
use Rattle.store_model.specs.Steps.{committed, with_new, after_answer, after_reply}
use Rattle.store_model.specs.Lawful.{IsDoubtOf}
use Rattle.store_model.proofs.Lawfulness.{event_is_lawful}
use Rattle.transactions.specs.Tables.{entry_of}
use Rattle.transactions.specs.Standing.{TransactionsParts, IsReady, IsReadyForSome, AreTransactionsOf}
use Rattle.transactions.specs.Calls.{AnswersIn, TransactsWell}
use Rattle.transactions.proofs.Begins.{opened_there}
use Rattle.transactions.proofs.Refusals.{refused}

-- ---- no cause is a disk fault

abbrev NoFault : Option Refusal → Type 0
NoFault o = o ≢ Some DiskFault

none_first : (os : List (Option Refusal)) → AllByRecursion NoFault os → first_met os ≢ Some DiskFault
none_first [] h = λ e. cc
none_first (None ∷ os) h = none_first os h.1
none_first (Some why ∷ os) h = h.0

when_other : (b : Bool) (why : Refusal) → why ≢ DiskFault → NoFault (when b why)
when_other true why h = λ e. h (let z : why ≡ DiskFault = cc in z)
when_other false why h = λ e. cc

mapped_other : {A : Type 0} (f : A → Refusal) (o : Option A) → ((x : A) → f x ≢ DiskFault) → NoFault (option_map f o)
mapped_other f None h = λ e. cc
mapped_other f (Some x) h = λ e. h x (let z : f x ≡ DiskFault = cc in z)

broken_other : (o : Option ℕ) → NoFault (option_map (λ count. Broken count) o)
broken_other o = mapped_other (λ count. Broken count) o (λ n e. cc)

busy_other : (o : Option ℕ) → NoFault (option_map (λ h. Busy h) o)
busy_other o = mapped_other (λ h. Busy h) o (λ n e. cc)

target_other : (w : World) (txn : ℕ) (target : Option NameParts) → NoFault (strange_target w txn target)
target_other w txn None = λ e. cc
target_other w txn (Some name) = when_other _ Stranger (λ e. cc)

known_other : (w : World) (txn : ℕ) (target : Option NameParts) → NoFault (knows_too_many_for w txn target)
known_other w txn None = λ e. cc
known_other w txn (Some name) = when_other _ KnowsTooMany (λ e. cc)

on_cut_other : (o : Option OpenedCut) (f : OpenedCut → List (Option Refusal)) → ((cut : OpenedCut) → AllByRecursion NoFault (f cut))
    → AllByRecursion NoFault (unwrap_or (option_map f o) (Some NoCut ∷ []))
on_cut_other None f h = ((λ e. cc), tt)
on_cut_other (Some cut) f h = h cut

marks_other : (cut : OpenedCut) (marks : Option ℕ) → NoFault (wrong_marks cut marks)
marks_other cut None = λ e. cc
marks_other cut (Some number) = when_other _ (OtherCut cut.number) (λ e. cc)

-- a call that can't fail isn't refused with a disk fault
no_fault : (w : World) (call : Call) → may_fail call ≡ false → AllByRecursion NoFault (causes w call nothing)
no_fault w (Begin t) h = (broken_other w.broken, (when_other _ AlreadyOpen (λ e. cc), (when_other _ TooMany (λ e. cc), tt)))
no_fault w (Get t name field) h =
    (broken_other w.broken, (when_other _ NotOpen (λ e. cc), (when_other _ Stranger (λ e. cc), (when_other _ BadField (λ e. cc), (busy_other _, (known_other w t (field_seen w t name field), tt))))))
no_fault w (Number t name) h = (broken_other w.broken, (when_other _ NotOpen (λ e. cc), (when_other _ Stranger (λ e. cc), (busy_other _, tt))))
no_fault w (Set t name field target) h =
    (broken_other w.broken, (when_other _ NotOpen (λ e. cc), (when_other _ Stranger (λ e. cc), (target_other w t target, (when_other _ BadField (λ e. cc), (busy_other _, (when_other _ TooWide (λ e. cc), tt)))))))
no_fault w (Put t name value) h =
    (broken_other w.broken, (when_other _ NotOpen (λ e. cc), (when_other _ Stranger (λ e. cc), (busy_other _, (when_other _ TooWide (λ e. cc), tt)))))
no_fault w (New t page) h =
    (broken_other w.broken, (when_other _ NotOpen (λ e. cc), (when_other _ NoPage (λ e. cc), (busy_other _, (when_other _ TooWide (λ e. cc), (when_other _ KnowsTooMany (λ e. cc), (when_other _ (PageFull page) (λ e. cc), tt)))))))
no_fault w (Abort t) h = (broken_other w.broken, (when_other _ NotOpen (λ e. cc), tt))
no_fault w (Commit t) h = cc
no_fault w OpenCut h = (broken_other w.broken, (mapped_other (λ (cut : OpenedCut). CutThere cut.number) w.cut (λ cut e. cc), (when_other _ (Spent w.last_cut) (λ e. cc), tt)))
no_fault w (Copy page) h =
    (broken_other w.broken, on_cut_other w.cut _ (λ cut. (when_other _ (WrongPhase cut.phase) (λ e. cc), (when_other _ NoPage (λ e. cc), (when_other _ (AlreadyCopied page) (λ e. cc), tt)))))
no_fault w (HandIn page number seen) h =
    (broken_other w.broken, on_cut_other w.cut _ (λ cut. (when_other _ (WrongPhase cut.phase) (λ e. cc), (when_other _ (OtherCut cut.number) (λ e. cc), (when_other _ (AlreadyCopied page) (λ e. cc), tt)))))
no_fault w Close h =
    (broken_other w.broken, on_cut_other w.cut _ (λ cut. (when_other _ (WrongPhase cut.phase) (λ e. cc), (mapped_other (λ page. Uncopied page) (missing w cut.copied) (λ page e. cc), tt))))
no_fault w (Mark workers) h = (broken_other w.broken, on_cut_other w.cut _ (λ cut. (when_other _ (WrongPhase cut.phase) (λ e. cc), (marks_other cut None, tt))))
no_fault w (Sweep page) h = cc
no_fault w EndCut h =
    (broken_other w.broken, on_cut_other w.cut _ (λ cut. (when_other _ (WrongPhase cut.phase) (λ e. cc), (mapped_other (λ page. Unswept page) (missing w cut.swept) (λ page e. cc), tt))))
no_fault w DropCut h = (broken_other w.broken, on_cut_other w.cut _ (λ cut. tt))
no_fault w Reopen h = cc

no_refusal : (w : World) (call : Call) → may_fail call ≡ false → Refuses w call nothing DiskFault → ⊥
no_refusal w call h may = by (first_refusal w call nothing) refl may
  where
    by : (o : Option Refusal) → first_refusal w call nothing ≡ o → MatchOption o (is_free call DiskFault ≡ true) (λ first. DiskFault ≡ first) → ⊥
    by None e free = let z : may_fail call ≡ true = free in let y : true ≡ false = sym z ∙ h in cc
    by (Some why) e same = none_first (causes w call nothing) (no_fault w call h) (e ∙ ap (λ (r : Refusal). Some r) (sym same))

-- so one that is refused leaves them standing for the world as it was
pub stands_refused : (s : TransactionsParts) (w : World) (call : Call) (why : Refusal) → may_fail call ≡ false → AreTransactionsOf s w → first_refusal w call nothing ≡ Some why
    → AnswersIn s w call (Refused why)
stands_refused s w call DiskFault h stands e = absurd (no_refusal w call h (refused w call DiskFault e))
stands_refused s w call why h stands e = record { allowed = refused w call why e; stands = stands }

-- and so where `?` hands on the refusal
pub hands_on : {T : Type 0} (reply : Result T Refusal → Reply) (result : Result T Refusal) (s : TransactionsParts) (w : World) (call : Call) (why : Refusal) → reply (Err why) ≡ Refused why
    → IsErrAnd result (λ (y : Refusal). y ≡ why) → may_fail call ≡ false → AreTransactionsOf s w → first_refusal w call nothing ≡ Some why → AnswersIn s w call (reply result)
hands_on reply result s w call why is handed h stands e =
    let p = err_from_is_err_and result handed in
    let same : reply result ≡ Refused why = ap reply (p.1 ∙ ap (λ (y : Refusal). Err y) p.2) ∙ is in
    subst (λ (x : Reply). AnswersIn s w call x) (sym same) (stands_refused s w call why h stands e)

-- ---- what isn't broken stays so

sound_answer : (w : World) (call : Call) (reply : Reply) → may_fail call ≡ false → (after_answer w call nothing reply).broken ≡ w.broken
sound_answer w (New t page) reply h = by (new_name w t page)
  where
    by : (name : Option NameParts) → (with_new w t name).broken ≡ w.broken
    by None = refl
    by (Some name) = refl
sound_answer w Reopen reply h = cc
sound_answer w _ reply h = refl

sound_after : (w : World) (call : Call) (reply : Reply) → may_fail call ≡ false → AllowsReply w call nothing reply → (after_reply w call nothing reply).broken ≡ w.broken
sound_after w call (Refused DiskFault) h may = absurd (no_refusal w call h may)
sound_after w call (Refused why) h may = refl
sound_after w call reply h may = sound_answer w call reply h

-- each answer leaves them ready, but for a call that may fail
pub ready_after : (old new : TransactionsParts) (w : World) (call : Call) (reply : Reply) → may_fail call ≡ false → IsReady old w → AnswersIn new w call reply
    → IsReady new (after_reply w call nothing reply)
ready_after old new w call reply h ready answer = record {
  lawful = event_is_lawful w call nothing reply ready.lawful answer.allowed;
  sound = sound_after w call reply h answer.allowed ∙ ready.sound;
  stands = answer.stands;
}

pub ready_for_some : (old new : TransactionsParts) (call : Call) (reply : Reply) → may_fail call ≡ false → IsReadyForSome old → TransactsWell old new call reply → IsReadyForSome new
ready_for_some old new call reply h some steps = (after_reply some.0 call nothing reply, ready_after old new some.0 call reply h some.1 (steps some.0 some.1))

-- ---- a commit

-- the world without its cut, and without the commits that came before
abbrev early : World → World
early w = record w { commits = 0; cut = None }

no_truth : (b : Bool) → b ≡ false → IsTrue b → ⊥
no_truth b is it = absurd cc

early_is_ready : (s : TransactionsParts) (w : World) → IsReady s w → IsReady s (early w)
early_is_ready s w h = record {
  lawful = record { orderly = h.lawful.orderly; freed = h.lawful.freed; lost = tt; swept = tt; doubt = undoubted w.doubt h.lawful.doubt };
  sound = h.sound;
  stands = record {
    fields = h.stands.fields;
    table = record { numbers = h.stands.table.numbers; each = h.stands.table.each };
    locks = record { pages = h.stands.locks.pages; admitted = h.stands.locks.admitted; shared = h.stands.locks.shared; exclusive = h.stands.locks.exclusive };
    frames = record {
      count = h.stands.frames.count;
      written = h.stands.frames.written;
      each = λ page low.
          let f = h.stands.frames.each page low in
          record { before = f.before; current = f.current; dirty = f.dirty; clean = f.clean };
    };
  };
}
  where
    undoubted : (doubt : Doubt) → IsDoubtOf w doubt → IsDoubtOf (early w) doubt
    undoubted no_doubt is = tt
    undoubted (commit_in_doubt t) is = is
    undoubted (sweep_in_doubt page) is = absurd (no_truth (is_some w.broken) (ap (λ (count : Option ℕ). is_some count) h.sound) is.broken)

none_met : (w : World) (txn : ℕ) → w.broken ≡ None → w.commits ≡ 0 → is_some (find_transaction w txn) ≡ true → first_refusal w (Commit txn) nothing ≡ None
none_met w txn sound first there =
    ap (λ b. first_met (option_map (λ count. Broken count) b ∷ not_open w txn ∷ spent w.commits ∷ [])) sound
    ∙ (ap (λ n. first_met (not_open w txn ∷ spent n ∷ [])) first ∙ by (find_transaction w txn) there)
  where
    by : (o : Option Transaction) → is_some o ≡ true → first_met (when (is_none o) NotOpen ∷ spent 0 ∷ []) ≡ None
    by None e = cc
    by (Some t) e = refl

-- they stand for the world after a commit, whether or not it can have one more
pub ready_finished : (old new : TransactionsParts) (txn : ℕ) → is_some (entry_of old.table txn) ≡ true → IsReadyForSome old → ((w : World) → IsReady old w → AreTransactionsOf new (committed w txn)) → IsReadyForSome new
ready_finished old new txn is_open some stands =
    let w = early some.0 in
    let ready = early_is_ready old some.0 some.1 in
    let there = opened_there (entry_of old.table txn) (find_transaction w txn) (ready.stands.table.each txn) is_open in (
      committed w txn,
      record {
        lawful = event_is_lawful w (Commit txn) nothing (Committed 1) ready.lawful (none_met w txn ready.sound refl there, refl);
        sound = ready.sound;
        stands = stands w ready;
      },
    )
