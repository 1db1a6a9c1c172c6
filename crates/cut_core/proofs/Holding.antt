-- What calls on the cut leave.
use Rattle.std.proofs.Common.{◌≡◌, ◌≢◌, ℕ, ◌+◌, ◌≤◌, ◌<◌, Bool, true, false, not, List, [], ◌∷◌, length, replicate, get_or, set, Option, Some, None, refl, sym, subst, ap, ◌∙◌, nat_le, nat_lt, arith}
use Rattle.std.specs.Option.{is_some, option_map, unwrap_or, MatchOption}
use Rattle.std.specs.List.{find}
use Rattle.object_graph.specs.Slots.{below}
use Rattle.transactions.proofs.Numbers.{found_in_list}
use Rattle.transactions.proofs.Unseen.{stands_same}
use Rattle.disk_trait.specs.declared.disk.Disk.{Ghosts as DiskOf}
use Rattle.transactions.proofs.FreeSlots.{find-below}
use Rattle.store_model.proofs.Cuts.{below_bound}
use Rattle.store_model.proofs.Lawfulness.{event_is_lawful}
use Rattle.std.proofs.lemmas.List.{length-replicate}
use Rattle.object_graph.specs.declared.calls.Phase.{Phase}
use Rattle.object_graph.specs.declared.calls.Phase.TheVariants as phase
use Rattle.object_graph.specs.declared.calls.Call.{Call}
use Rattle.object_graph.specs.NameParts.{NameParts}
use Rattle.object_graph.specs.declared.calls.Call.TheVariants.{Begin, Get, Number, Set, Put, New, Commit, Abort, OpenCut, Copy, EndCut, DropCut}
use Rattle.object_graph.specs.declared.calls.Reply.{Reply}
use Rattle.object_graph.specs.declared.calls.Reply.TheVariants.{Cut, Done, Refused}
use Rattle.object_graph.specs.declared.calls.Refusal.{Refusal}
use Rattle.object_graph.specs.declared.calls.Refusal.TheVariants.{Broken, NoCut, CutThere, Spent, WrongPhase, NoPage, AlreadyCopied, Unswept, DiskFault}
use Rattle.store_model.specs.Causes.{new_name, first_met, first_refusal, when, has_page, is_phase, wrong_phase, no_page, already_copied, unswept, spent}
use Rattle.object_graph.specs.declared.limits.TheConstants.{MOST_COUNTED, MOST_PAGES}
use Rattle.store_model.specs.Replies.{Allows, AllowsReply, is_free}
use Rattle.store_model.specs.Steps.{after_reply, after_answer, after_refusal, with_new, next}
use Rattle.store_model.specs.Worlds.{World, OpenedCut, Note, nothing, Event}
use Rattle.cut_model.specs.CutPages.{CopyParts, CutPage, bare_page, with_copy}
use Rattle.cut_model.specs.Frames.{copy_now}
use Rattle.store_model.specs.States.{state_of}
use Rattle.cut_model.specs.Standing.{CutBeside, IsCopying, IsInPhase, IsCutStanding, IsStanding}
use Rattle.cut_model.proofs.CutGraphs.{cut_graph_safe}
use Rattle.cut_model.proofs.Fits.{frame_keeps_cut}
use Rattle.cut_model.proofs.Openings.{get-replicate_same}
use Rattle.cut_model.proofs.Phases.{event_stands, has_copied}
use Rattle.cut_model.proofs.Turning.{changes_cut, turns_copy, turns_still, stands_after}
use Rattle.cut_core.specs.Joints.{copy_of_frame}
use Rattle.std.specs.Prelude.{Result, Ok, Err, OnOk, OnErr}
use Rattle.std.proofs.lemmas.Bool.{ltb-true, lt-leb}
use Rattle.page_buffer.specs.declared.frame.Frame.{Frame}
use Rattle.object_graph.specs.Replies.{done_reply}
use Rattle.cut_core.proofs.FrameCopies.{frame_copy}
use Rattle.cut_core.proofs.OneName.{one_name_each}
use Rattle.cut_builder.specs.CutParts as built
use Rattle.cut_builder.specs.CutParts.{CutParts, page_in_cut}
use Rattle.page_buffer.specs.Frames.{frame_at}
use Rattle.transactions.specs.Standing.{TransactionsParts, IsReady}
use Rattle.cut_core.specs.declared.held.Stage.{Stage}
use Rattle.cut_core.specs.declared.held.Stage.TheVariants.{Copying, Closed, Sweeping}
use Rattle.cut_core.specs.declared.held.HeldCut.{HeldCut}
use Rattle.cut_core.specs.declared.held.Held.{Held}
use Rattle.object_graph.specs.Names.{root_name}
use Rattle.object_graph.specs.Graphs.{has_name, has_object}
use Rattle.object_graph.specs.ObjectParts.{ObjectParts}
use Rattle.object_graph.proofs.Members.{each_in}
use Rattle.object_graph.proofs.Paths.{has_object_in}
use Rattle.std.proofs.lemmas.Bool.{and_parts}
use Rattle.store_model.specs.Lawful.{IsLawful, IsPlaced}
use Rattle.store_model.specs.Replies.{has_note}
use Rattle.store_model.specs.Worlds.{slots_of}
use Rattle.redo_journal.proofs.Moments.{if_some_map}
use Rattle.transactions.specs.Standing.{AreTransactionsOf}
use Rattle.cut_core.specs.Standing.{KeepsWorld, Stands, Steps}
use Rattle.cut_core.specs.declared.store.Store.{Store}
use Rattle.cut_core.proofs.Recorded.{undoubted}
use Rattle.cut_core.proofs.Standing.{same_state, note_is}
use Rattle.std.proofs.Common.{inl, inr}
use Rattle.object_graph.specs.declared.calls.Reply.TheVariants.{Committed}
use Rattle.store_model.specs.Worlds.{Transaction, transaction, find_transaction, view}
use Rattle.store_model.specs.Images.{shown_in}
use Rattle.store_model.specs.Steps.{committed}
use Rattle.cut_model.specs.Changes.{IsCutAfter}
use Rattle.cut_model.specs.CutPages.{with_commit}
use Rattle.cut_model.specs.Standing.{TurnsIn, TurnsOf, TurnsBeside}
use Rattle.cut_model.proofs.Turning.{turns_commit}
use Rattle.transactions.specs.Tables.{entry_of, pages_in}
use Rattle.transactions.proofs.Begins.{opened_there}
use Rattle.transactions.proofs.Numbers.{transaction_found}
use Rattle.transactions.proofs.Opened.{opened}
use Rattle.cut_core.specs.Holding.{AddsFrame, IsGivenUpTo}
use Rattle.cut_core.proofs.Staging.{entry_there}
use Rattle.cut_core.proofs.Standing.{none_first}
use Rattle.cut_core.specs.Calls.{IsOfStore, IsBuilt, is_of_cut, IsOfTransaction, IsOfCut, note_of, event_of}
use Rattle.cut_core.specs.Holding.{phase_of, beside_stage, beside_of, IsStage, IsHeldCut, IsHeld, Holds, IsButForCut, CutSteps, copy_refusal, Copies}

-- ---- causes

pub on_cut_none : (b : Option ℕ) (o : Option OpenedCut) (list : OpenedCut → List (Option Refusal)) → b ≡ None → o ≡ None
    → first_met (option_map (λ n. Broken n) b ∷ unwrap_or (option_map list o) (Some NoCut ∷ [])) ≡ Some NoCut
on_cut_none b o list calm is =
    ap (λ b. first_met (option_map (λ n. Broken n) b ∷ unwrap_or (option_map list o) (Some NoCut ∷ []))) calm
    ∙ ap (λ o. first_met (unwrap_or (option_map list o) (Some NoCut ∷ []))) is

pub on_cut_some : (b : Option ℕ) (o : Option OpenedCut) (cut : OpenedCut) (list : OpenedCut → List (Option Refusal)) → b ≡ None → o ≡ Some cut
    → first_met (option_map (λ n. Broken n) b ∷ unwrap_or (option_map list o) (Some NoCut ∷ [])) ≡ first_met (list cut)
on_cut_some b o cut list calm is =
    ap (λ b. first_met (option_map (λ n. Broken n) b ∷ unwrap_or (option_map list o) (Some NoCut ∷ []))) calm
    ∙ ap (λ o. first_met (unwrap_or (option_map list o) (Some NoCut ∷ []))) is

pub refuses : (w : World) (call : Call) (why : Refusal) → first_refusal w call nothing ≡ Some why → AllowsReply w call nothing (Refused why)
refuses w call why first = subst (λ (o : Option Refusal). MatchOption o (is_free call why ≡ true) (λ f. why ≡ f)) (sym first) refl

-- a refusal that leaves the world
pub unmoved : (held : Held) (w : World) (call : Call) (why : Refusal) → Holds held w → first_refusal w call nothing ≡ Some why → after_refusal w call nothing why ≡ w → CutSteps held w call (Refused why)
unmoved held w call why h first same = record { allowed = refuses w call why first; holds = subst (Holds held) (sym same) h }

-- ---- the world's cut

pub there : (w : World) (held : HeldCut) (o : Option OpenedCut) → IsHeld w (Some held) o → (cut : OpenedCut) × (o ≡ Some cut) × IsHeldCut w held cut
there w held None is = absurd is
there w held (Some cut) is = (cut, refl, is)

pub not_there : (w : World) (o : Option OpenedCut) → IsHeld w None o → o ≡ None
not_there w None is = refl
not_there w (Some cut) is = absurd is

pub in_phase : (w : World) (cut : OpenedCut) (p : Phase) (b : CutBeside) → w.cut ≡ Some cut → cut.phase ≡ p → IsStanding w b → IsInPhase w cut p b
in_phase w cut p b is phase s = subst (λ q. IsInPhase w cut q b) phase (subst (λ o. MatchOption o (Unit {0}) (IsCutStanding w b)) is s.cut)

-- ---- opening

module _ (held : Held) (w : World) (h : Holds held w) (calm : w.broken ≡ None) where
  none_held : held.cut ≡ None → w.cut ≡ None
  none_held none = not_there w w.cut (subst (λ o. IsHeld w o w.cut) none h.cut)

  open_first : held.cut ≡ None → first_refusal w OpenCut nothing ≡ first_met (spent held.last_cut ∷ [])
  open_first none =
      ap (λ b. first_met (option_map (λ n. Broken n) b ∷ option_map (λ (cut : OpenedCut). CutThere cut.number) w.cut ∷ spent w.last_cut ∷ [])) calm
      ∙ (ap (λ o. first_met (option_map (λ (cut : OpenedCut). CutThere cut.number) o ∷ spent w.last_cut ∷ [])) (none_held none) ∙ ap (λ n. first_met (spent n ∷ [])) (sym h.last))

  pub opened_steps : (cut : HeldCut) → held.cut ≡ None → nat_le MOST_COUNTED held.last_cut ≡ false → cut.number ≡ held.last_cut + 1
      → cut.stage ≡ Copying (record { number = held.last_cut + 1; start = w.commits; pages = replicate w.pages bare_page }) → cut.swept.items ≡ replicate w.pages false
      → CutSteps (record { cut = Some cut; last_cut = held.last_cut + 1 }) w OpenCut (Cut (held.last_cut + 1))
  opened_steps cut none few number stage swept =
      let may : first_refusal w OpenCut nothing ≡ None = open_first none ∙ ap (λ b. first_met (when b (Spent held.last_cut) ∷ [])) few in
      let allowed : AllowsReply w OpenCut nothing (Cut (held.last_cut + 1)) = (may, ap (λ n. Cut (n + 1)) h.last) in
      record {
        allowed = allowed;
        holds = record {
          some = h.some;
          few = h.few;
          last = ap (λ n. n + 1) h.last;
          cut = record {
            number = number ∙ ap (λ n. n + 1) h.last;
            before = subst (λ n. n ≤ w.last_cut + 1) (sym (number ∙ ap (λ n. n + 1) h.last)) (refl_le (w.last_cut + 1));
            phase = ap phase_of stage;
            stage = subst (λ s. IsStage w cut.number s) (sym stage) (sym number, refl_le w.commits);
            count = ap length swept ∙ length-replicate w.pages false;
            swept = λ page low. ap (λ xs. get_or xs page false) swept ∙ get-replicate_same w.pages page false;
          };
          standing = event_stands w OpenCut nothing (Cut (held.last_cut + 1)) (beside_of held.cut) (beside_stage cut.stage) h.standing allowed (ap beside_stage stage);
        };
      }
    where
      refl_le : (n : ℕ) → n ≤ n
      refl_le n = omega (arith)

-- where the number of commits, the pages and the limit are those that the call was given
pub opened_at : (held : Held) (w : World) (cut : HeldCut) (pages commits : ℕ) → Holds held w → w.broken ≡ None → w.pages ≡ pages → w.commits ≡ commits → held.cut ≡ None
    → held.last_cut < MOST_COUNTED → cut.number ≡ held.last_cut + 1
    → cut.stage ≡ Copying (record { number = held.last_cut + 1; start = commits; pages = replicate pages bare_page }) → cut.swept.items ≡ replicate pages false
    → CutSteps (record { cut = Some cut; last_cut = held.last_cut + 1 }) w OpenCut (Cut (held.last_cut + 1))
opened_at held w cut pages commits h calm same_pages same_commits none few number stage swept =
    opened_steps held w h calm cut none (lt-leb MOST_COUNTED held.last_cut few) number
    (stage ∙ ap (λ n. Copying (record { number = held.last_cut + 1; start = n; pages = replicate pages bare_page })) (sym same_commits)
    ∙ ap (λ n. Copying (record { number = held.last_cut + 1; start = w.commits; pages = replicate n bare_page })) (sym same_pages))
    (swept ∙ ap (λ n. replicate n false) (sym same_pages))

-- ---- copying

pub same_cut : (held : Held) (cut : HeldCut) (w : World) → held.cut ≡ Some cut → Holds held w → Holds (record { cut = Some cut; last_cut = held.last_cut }) w
same_cut held cut w is h = record {
  some = h.some;
  few = h.few;
  last = h.last;
  cut = subst (λ o. IsHeld w o w.cut) is h.cut;
  standing = subst (λ o. IsStanding w (beside_of o)) is h.standing;
}

-- the copy of a frame leaves one name at each place
pub copy_names : (s : TransactionsParts) (cut : CutParts) (page at commits : ℕ) (c : CopyParts) (frame : Frame) (w : World) → Copies s cut w → w.commits ≡ commits → (count : ℕ) → count ≡ length s.frames
    → page < count → at ≡ page → c ≡ copy_of_frame commits frame → frame ≡ frame_at s.frames page
    → built.HasOneNameEach (set cut.pages at (with_copy c (page_in_cut cut.pages at)))
copy_names s cut page at commits c frame w k is count counted few at_is c_is frame_is =
    let low : page < w.pages = subst (λ n. page < n) (counted ∙ k.ready.stands.frames.count) few in
    let within : page < length cut.pages = subst (λ n. page < n) (sym k.copying.all) low in
    let copy : c ≡ copy_now w page = c_is ∙ (ap (copy_of_frame commits) frame_is ∙ (ap (λ n. copy_of_frame n (frame_at s.frames page)) (sym is) ∙ frame_copy s w page k.ready low)) in
    let sound = frame_keeps_cut w k.opened.opening cut.pages page k.ready.lawful.orderly k.copying.keeps k.copying.sound within in
    subst (λ p. built.HasOneNameEach (set cut.pages p (with_copy c (page_in_cut cut.pages p)))) (sym at_is)
    (subst (λ d. built.HasOneNameEach (set cut.pages page (with_copy d (page_in_cut cut.pages page)))) (sym copy)
    (one_name_each w k.opened.opening (set cut.pages page (with_copy (copy_now w page) (page_in_cut cut.pages page))) k.ready.lawful.orderly k.copying.keeps
    (λ o m. cut_graph_safe (state_of w) k.opened.opening (set cut.pages page (with_copy (copy_now w page) (page_in_cut cut.pages page))) o sound m)))

copy_first : (w : World) (cut : OpenedCut) (pages : List CutPage) (page count : ℕ) → w.broken ≡ None → w.cut ≡ Some cut → cut.phase ≡ phase.Copying → count ≡ w.pages → IsCopying w cut pages
    → first_refusal w (Copy page) nothing ≡ copy_refusal count pages page
copy_first w cut pages page count calm is at same copying =
    on_cut_some w.broken w.cut cut (λ cut. wrong_phase cut phase.Copying ∷ no_page w page ∷ already_copied cut page ∷ []) calm is
    ∙ (ap (λ p. first_met (when (not (is_phase p phase.Copying)) (WrongPhase p) ∷ no_page w page ∷ already_copied cut page ∷ [])) at
    ∙ (by (nat_lt page w.pages) refl ∙ ap (λ n. copy_refusal n pages page) (sym same)))
  where
    by : (b : Bool) → nat_lt page w.pages ≡ b → first_met (no_page w page ∷ already_copied cut page ∷ []) ≡ copy_refusal w.pages pages page
    by false e =
        ap (λ b. first_met (when (not b) NoPage ∷ already_copied cut page ∷ [])) e
        ∙ sym (ap (λ b. first_met (when (not b) NoPage ∷ when (is_some (page_in_cut pages page).copy) (AlreadyCopied page) ∷ [])) e)
    by true e = ap (λ b. first_met (no_page w page ∷ when b (AlreadyCopied page) ∷ [])) (sym (copying.copied page (ltb-true page w.pages e)))

pub some_same : {A : Type 0} (a b : A) → Some a ≡ Some b → a ≡ b
some_same a b e = ap (λ o. unwrap_or o a) e

-- a page that isn't copied leaves the world
copy_unmoved : (w : World) (count page : ℕ) (pages : List CutPage) (why : Refusal) → copy_refusal count pages page ≡ Some why → after_refusal w (Copy page) nothing why ≡ w
copy_unmoved w count page pages why is = by (nat_lt page count) (is_some (page_in_cut pages page).copy) is
  where
    by : (a b : Bool) → first_met (when (not a) NoPage ∷ when b (AlreadyCopied page) ∷ []) ≡ Some why → after_refusal w (Copy page) nothing why ≡ w
    by false b e = (let same : NoPage ≡ why = some_same NoPage why e in subst (λ y. after_refusal w (Copy page) nothing y ≡ w) same refl)
    by true true e = (let same : AlreadyCopied page ≡ why = some_same (AlreadyCopied page) why e in subst (λ y. after_refusal w (Copy page) nothing y ≡ w) same refl)
    by true false e = absurd cc

module _ (held : HeldCut) (cut after : CutParts) (last page commits : ℕ) (s : TransactionsParts) (w : World) where
  abbrev old : Held
  old = record { cut = Some held; last_cut = last }

  abbrev new : Held
  new = record { cut = Some (record { number = held.number; stage = Copying after; swept = held.swept }); last_cut = last }

  pub copied_steps : (result : Result (Unit {0}) Refusal) → held.stage ≡ Copying cut → Holds old w → IsReady s w → w.commits ≡ commits
      → OnOk result (after ≡ built.with_cut_page cut page (with_copy (copy_of_frame commits (frame_at s.frames page)) (page_in_cut cut.pages page)))
      → OnOk result (page < length s.frames) → OnOk result (copy_refusal (length s.frames) cut.pages page ≡ None)
      → OnErr result (after ≡ cut) → ((why : Refusal) → result ≡ Err why → copy_refusal (length s.frames) cut.pages page ≡ Some why)
      → CutSteps new w (Copy page) (done_reply result)
  copied_steps result stage h ready same copied within may unchanged why =
      let c = there w held w.cut h.cut in
      let at : c.0.phase ≡ phase.Copying = sym c.2.phase ∙ ap phase_of stage in
      let copying : IsCopying w c.0 cut.pages = subst (λ t. IsCopying w c.0 (beside_stage t).pages) stage (in_phase w c.0 phase.Copying (beside_stage held.stage) c.1 at h.standing) in
      let first = copy_first w c.0 cut.pages page (length s.frames) ready.sound c.1 at ready.stands.frames.count copying in
      by result c.0 c.1 c.2 at copying first copied within may unchanged why
    where
      by : (r : Result (Unit {0}) Refusal) (c : OpenedCut) → w.cut ≡ Some c → IsHeldCut w held c → c.phase ≡ phase.Copying → IsCopying w c cut.pages
          → first_refusal w (Copy page) nothing ≡ copy_refusal (length s.frames) cut.pages page
          → OnOk r (after ≡ built.with_cut_page cut page (with_copy (copy_of_frame commits (frame_at s.frames page)) (page_in_cut cut.pages page)))
          → OnOk r (page < length s.frames) → OnOk r (copy_refusal (length s.frames) cut.pages page ≡ None)
          → OnErr r (after ≡ cut) → ((why : Refusal) → r ≡ Err why → copy_refusal (length s.frames) cut.pages page ≡ Some why)
          → CutSteps new w (Copy page) (done_reply r)
      by (Err reason) c is k at copying first copied within may unchanged why =
          let back : record { number = held.number; stage = Copying after; swept = held.swept } ≡ held = (λ i. record { number = held.number; stage = (ap Copying unchanged ∙ sym stage) i; swept = held.swept }) in
          unmoved new w (Copy page) reason (subst (λ x. Holds (record { cut = Some x; last_cut = last }) w) (sym back) h) (first ∙ why reason refl)
          (copy_unmoved w (length s.frames) page cut.pages reason (why reason refl))
      by (Ok x) c is k at copying first copied within may unchanged why =
          let low : page < w.pages = subst (λ n. page < n) ready.stands.frames.count within in
          let inside : page < length cut.pages = subst (λ n. page < n) (sym copying.all) low in
          let copy : copy_of_frame commits (frame_at s.frames page) ≡ copy_now w page = ap (λ n. copy_of_frame n (frame_at s.frames page)) (sym same) ∙ frame_copy s w page ready low in
          let pages : after.pages ≡ set cut.pages page (with_copy (copy_now w page) (page_in_cut cut.pages page)) =
          ap (λ (p : CutParts). p.pages) copied ∙ ap (λ d. set cut.pages page (with_copy d (page_in_cut cut.pages page))) copy in
          let allowed : AllowsReply w (Copy page) nothing Done = (first ∙ may, refl) in
          let from : IsStanding w (beside_stage (Copying cut)) = subst (λ t. IsStanding w (beside_stage t)) stage h.standing in
          record {
            allowed = allowed;
            holds = record {
              some = h.some;
              few = h.few;
              last = h.last;
              cut = subst (λ o. IsHeld (after_reply w (Copy page) nothing Done) new.cut (option_map (has_copied page) o)) (sym is) (record {
                number = k.number;
                before = k.before;
                phase = sym at;
                stage = subst (λ (p : CutParts). IsStage w held.number (Copying p)) (sym copied) (subst (λ t. IsStage w held.number t) stage k.stage);
                count = k.count;
                swept = k.swept;
              });
              standing = event_stands w (Copy page) nothing Done (beside_stage (Copying cut)) (beside_stage (Copying after)) from allowed
                  (turns_copy w c page (beside_stage (Copying cut)) (beside_stage (Copying after)) is at (inside, pages) refl);
            };
          }

  -- the copy is the page's frame as it stands
  pub copied_adds : (result : Result (Unit {0}) Refusal) → held.stage ≡ Copying cut → Holds old w → IsReady s w → w.commits ≡ commits
      → OnOk result (after ≡ built.with_cut_page cut page (with_copy (copy_of_frame commits (frame_at s.frames page)) (page_in_cut cut.pages page)))
      → OnOk result (page < length s.frames) → OnOk result (AddsFrame w page (beside_stage held.stage) (beside_stage (Copying after)))
  copied_adds (Err why) stage h ready same copied within = tt
  copied_adds (Ok done) stage h ready same copied within =
      let c = there w held w.cut h.cut in
      let at : c.0.phase ≡ phase.Copying = sym c.2.phase ∙ ap phase_of stage in
      let copying : IsCopying w c.0 cut.pages = subst (λ t. IsCopying w c.0 (beside_stage t).pages) stage (in_phase w c.0 phase.Copying (beside_stage held.stage) c.1 at h.standing) in
      let low : page < w.pages = subst (λ n. page < n) ready.stands.frames.count within in
      let inside : page < length cut.pages = subst (λ n. page < n) (sym copying.all) low in
      let copy : copy_of_frame commits (frame_at s.frames page) ≡ copy_now w page = ap (λ n. copy_of_frame n (frame_at s.frames page)) (sym same) ∙ frame_copy s w page ready low in
      let pages : after.pages ≡ set cut.pages page (with_copy (copy_now w page) (page_in_cut cut.pages page)) =
      ap (λ (p : CutParts). p.pages) copied ∙ ap (λ d. set cut.pages page (with_copy d (page_in_cut cut.pages page))) copy in
      subst (λ t. AddsFrame w page (beside_stage t) (beside_stage (Copying after))) (sym stage) (inside, pages)

-- ---- the end

pub few_swept : (held : Held) (cut : HeldCut) (w : World) (items : List Bool) → held.cut ≡ Some cut → Holds held w → items ≡ cut.swept.items → length items ≤ MOST_PAGES
few_swept held cut w items is h same =
    let c = there w cut w.cut (subst (λ o. IsHeld w o w.cut) is h.cut) in
    subst (λ n. n ≤ MOST_PAGES) (sym (ap length same ∙ c.2.count)) h.few

pub no_page_found : (p : ℕ → Bool) (n : ℕ) → ((j : ℕ) → j < n → p j ≡ false) → find p (below n) ≡ None
no_page_found p n none = by (find p (below n)) refl
  where
    by : (o : Option ℕ) → find p (below n) ≡ o → find p (below n) ≡ None
    by None e = e
    by (Some k) e =
        let m = found_in_list p (below n) k e in
        let low : k < n = below_bound n k m.0 in
        let bad : true ≡ false = sym m.1 ∙ none k low in absurd cc

module _ (held : Held) (cut : HeldCut) (w : World) (items : List Bool) (is : held.cut ≡ Some cut) (h : Holds held w) (calm : w.broken ≡ None)
    (sweeping : is_phase (phase_of cut.stage) phase.Sweeping ≡ true) (same : items ≡ cut.swept.items) where
  abbrev its : (c : OpenedCut) × (w.cut ≡ Some c) × IsHeldCut w cut c
  its = there w cut w.cut (subst (λ o. IsHeld w o w.cut) is h.cut)

  end_first : first_refusal w EndCut nothing ≡ first_met (unswept w its.0 ∷ [])
  end_first =
      on_cut_some w.broken w.cut its.0 (λ cut. wrong_phase cut phase.Sweeping ∷ unswept w cut ∷ []) calm its.1
      ∙ ap (λ b. first_met (when (not b) (WrongPhase its.0.phase) ∷ unswept w its.0 ∷ [])) (ap (λ p. is_phase p phase.Sweeping) (sym its.2.phase) ∙ sweeping)

  swept_there : (page : ℕ) → page < w.pages → get_or items page false ≡ has_page its.0.swept page
  swept_there page low = ap (λ xs. get_or xs page false) same ∙ its.2.swept page low

  pub unswept_steps : (page : ℕ) → (page < length items) × (get_or items page false ≡ false) → ((p : ℕ) → p < page → get_or items p false ≡ true)
      → CutSteps held w EndCut (Refused (Unswept page))
  unswept_steps page some least =
      let count : length items ≡ w.pages = ap length same ∙ its.2.count in
      let low : page < w.pages = subst (λ n. page < n) count some.0 in
      let found : find (λ p. not (has_page its.0.swept p)) (below w.pages) ≡ Some page =
      find-below (λ p. not (has_page its.0.swept p)) w.pages page low (ap not (sym (swept_there page low) ∙ some.1))
      (λ j before. let near : j < w.pages = omega (arith, before, low) in ap not (sym (swept_there j near) ∙ least j before)) in
      unmoved held w EndCut (Unswept page) h (end_first ∙ ap (λ o. first_met (option_map (λ (p : ℕ). Unswept p) o ∷ [])) found) refl

  pub ended_steps : ((p : ℕ) → p < length items → get_or items p false ≡ true) → CutSteps (record { cut = None; last_cut = held.last_cut }) w EndCut Done
  ended_steps all =
      let count : length items ≡ w.pages = ap length same ∙ its.2.count in
      let none : find (λ p. not (has_page its.0.swept p)) (below w.pages) ≡ None =
      no_page_found (λ p. not (has_page its.0.swept p)) w.pages
      (λ j low. let within : j < length items = subst (λ n. j < n) (sym count) low in ap not (sym (swept_there j low) ∙ all j within)) in
      let allowed : AllowsReply w EndCut nothing Done = (end_first ∙ ap (λ o. first_met (option_map (λ (p : ℕ). Unswept p) o ∷ [])) none, refl) in
      record {
        allowed = allowed;
        holds = record {
          some = h.some;
          few = h.few;
          last = h.last;
          cut = tt;
          standing = record { lawful = event_is_lawful w EndCut nothing Done h.standing.lawful allowed; cut = tt };
        };
      }

-- ---- calls that leave the cut

-- what two worlds have in common
pub record KeepsCut (w after : World) : Type 0 where
  pub pages : after.pages ≡ w.pages
  pub last : after.last_cut ≡ w.last_cut
  pub cut : after.cut ≡ w.cut
  pub commits : w.commits ≤ after.commits

pub stage_next : (w after : World) (number : ℕ) (stage : Stage) → w.commits ≤ after.commits → IsStage w number stage → IsStage after number stage
stage_next w after number (Copying cut) later is = (is.0, omega (arith, later, is.1))
stage_next w after number (Closed given) later is = is
stage_next w after number (Sweeping marked) later is = is

pub held_next : (w after : World) (held : Option HeldCut) (o : Option OpenedCut) → after.pages ≡ w.pages → after.last_cut ≡ w.last_cut → w.commits ≤ after.commits → IsHeld w held o → IsHeld after held o
held_next w after None None pages last later is = tt
held_next w after None (Some cut) pages last later is = absurd is
held_next w after (Some held) None pages last later is = absurd is
held_next w after (Some held) (Some cut) pages last later is = record {
  number = is.number;
  before = subst (λ n. held.number ≤ n) (sym last) is.before;
  phase = is.phase;
  stage = stage_next w after held.number held.stage later is.stage;
  count = is.count ∙ sym pages;
  swept = λ page low. is.swept page (subst (λ n. page < n) pages low);
}

pub kept_held : (held : Held) (w after : World) → KeepsCut w after → IsStanding after (beside_of held.cut) → Holds held w → Holds held after
kept_held held w after k standing h = record {
  some = subst (λ n. 0 < n) (sym k.pages) h.some;
  few = subst (λ n. n ≤ MOST_PAGES) (sym k.pages) h.few;
  last = h.last ∙ sym k.last;
  cut = subst (λ o. IsHeld after held.cut o) (sym k.cut) (held_next w after held.cut w.cut k.pages k.last k.commits h.cut);
  standing = standing;
}

commits_stay : (n : ℕ) → n ≤ n
commits_stay n = omega (arith)

new_keeps : (w : World) (txn : ℕ) (name : Option NameParts) → KeepsCut w (with_new w txn name)
new_keeps w txn None = record { pages = refl; last = refl; cut = refl; commits = commits_stay w.commits }
new_keeps w txn (Some name) = record { pages = refl; last = refl; cut = refl; commits = commits_stay w.commits }

answer_keeps : (w : World) (call : Call) (note : Note) (reply : Reply) → IsOfTransaction call → KeepsCut w (after_answer w call note reply)
answer_keeps w (Begin txn) note reply of = record { pages = refl; last = refl; cut = refl; commits = commits_stay w.commits }
answer_keeps w (Get txn name field) note reply of = record { pages = refl; last = refl; cut = refl; commits = commits_stay w.commits }
answer_keeps w (Number txn name) note reply of = record { pages = refl; last = refl; cut = refl; commits = commits_stay w.commits }
answer_keeps w (Set txn name field target) note reply of = record { pages = refl; last = refl; cut = refl; commits = commits_stay w.commits }
answer_keeps w (Put txn name value) note reply of = record { pages = refl; last = refl; cut = refl; commits = commits_stay w.commits }
answer_keeps w (New txn page) note reply of = new_keeps w txn (new_name w txn page)
answer_keeps w (Abort txn) note reply of = record { pages = refl; last = refl; cut = refl; commits = commits_stay w.commits }
answer_keeps w _ note reply of = absurd of

pub refusal_keeps : (w : World) (call : Call) (note : Note) (why : Refusal) → KeepsCut w (after_refusal w call note why)
refusal_keeps w call note DiskFault = record { pages = refl; last = refl; cut = refl; commits = commits_stay w.commits }
refusal_keeps w call note _ = record { pages = refl; last = refl; cut = refl; commits = commits_stay w.commits }

reply_keeps : (w : World) (call : Call) (note : Note) (reply : Reply) → IsOfTransaction call → KeepsCut w (after_reply w call note reply)
reply_keeps w call note (Refused why) of = refusal_keeps w call note why
reply_keeps w call note reply of = answer_keeps w call note reply of

leaves_cut : (call : Call) → IsOfTransaction call → changes_cut call ≡ false
leaves_cut (Begin txn) of = refl
leaves_cut (Get txn name field) of = refl
leaves_cut (Number txn name) of = refl
leaves_cut (Set txn name field target) of = refl
leaves_cut (Put txn name value) of = refl
leaves_cut (New txn page) of = refl
leaves_cut (Abort txn) of = refl
leaves_cut _ of = absurd of

-- a call of a transaction leaves what is held
pub transact_holds : (held : Held) (w : World) (e : Event) → IsOfTransaction e.entry.call → Allows w e → Holds held w → Holds held (next w e)
transact_holds held w e of may h =
    kept_held held w (next w e) (reply_keeps w e.entry.call e.note e.entry.reply of)
    (stands_after w e (beside_of held.cut) (beside_of held.cut) h.standing may (turns_still w e.entry.call e.entry.reply (beside_of held.cut) (leaves_cut e.entry.call of))) h

-- so does a refusal
pub refused_holds : (held : Held) (w : World) (call : Call) (note : Note) (why : Refusal) → AllowsReply w call note (Refused why) → Holds held w → Holds held (after_refusal w call note why)
refused_holds held w call note why may h =
    kept_held held w (after_refusal w call note why) (refusal_keeps w call note why)
    (event_stands w call note (Refused why) (beside_of held.cut) (beside_of held.cut) h.standing may refl) h

pub dropped_steps : (held : Held) (cut : HeldCut) (w : World) → held.cut ≡ Some cut → Holds held w → w.broken ≡ None → CutSteps (record { cut = None; last_cut = held.last_cut }) w DropCut Done
dropped_steps held cut w is h calm =
    let c = there w cut w.cut (subst (λ o. IsHeld w o w.cut) is h.cut) in
    let allowed : AllowsReply w DropCut nothing Done = (on_cut_some w.broken w.cut c.0 (λ cut. []) calm c.1, refl) in
    record {
      allowed = allowed;
      holds = record {
        some = h.some;
        few = h.few;
        last = h.last;
        cut = tt;
        standing = record { lawful = event_is_lawful w DropCut nothing Done h.standing.lawful allowed; cut = tt };
      };
    }

-- ---- the store beside another cut

pub cut_noted : (w : World) (call : Call) (reply : Reply) → IsOfCut call → (after_reply w call nothing reply).broken ≡ None → has_note call reply nothing ≡ true
cut_noted w OpenCut (Refused DiskFault) of sound = absurd cc
cut_noted w OpenCut (Refused why) of sound = refl
cut_noted w OpenCut reply of sound = refl
cut_noted w (Copy page) (Refused DiskFault) of sound = absurd cc
cut_noted w (Copy page) (Refused why) of sound = refl
cut_noted w (Copy page) reply of sound = refl
cut_noted w EndCut (Refused DiskFault) of sound = absurd cc
cut_noted w EndCut (Refused why) of sound = refl
cut_noted w EndCut reply of sound = refl
cut_noted w DropCut (Refused DiskFault) of sound = absurd cc
cut_noted w DropCut (Refused why) of sound = refl
cut_noted w DropCut reply of sound = refl
cut_noted w _ reply of sound = absurd of

refused_rest : (w : World) (call : Call) (why : Refusal) → Refused why ≢ Refused DiskFault → IsButForCut w (after_refusal w call nothing why)
refused_rest w call DiskFault other = absurd (other refl)
refused_rest w call _ other = (w.cut, w.last_cut, refl)

pub cut_rest : (w : World) (call : Call) (reply : Reply) → IsOfCut call → reply ≢ Refused DiskFault → IsButForCut w (after_reply w call nothing reply)
cut_rest w call (Refused why) of other = refused_rest w call why other
cut_rest w OpenCut reply of other = (_, _, refl)
cut_rest w (Copy page) reply of other = (_, _, refl)
cut_rest w EndCut reply of other = (_, _, refl)
cut_rest w DropCut reply of other = (_, _, refl)
cut_rest w _ reply of other = absurd of

abbrev pub with_another : World → Option OpenedCut → ℕ → World
with_another w cut last = record w { cut = cut; last_cut = last }

still_beside : (s : TransactionsParts) (w : World) (cut : Option OpenedCut) (last : ℕ) → AreTransactionsOf s w → AreTransactionsOf s (with_another w cut last)
still_beside s w cut last h = stands_same s w (with_another w cut last) (record { pages = refl; graph = refl; freed = refl; transactions = refl }) h

module _ {D : Type 0} (disks : DiskOf D) where
  pub stands_beside : (store : Store D) (w : World) (cut : Option OpenedCut) (last : ℕ) → w.broken ≡ None → Stands disks store w → IsLawful (with_another w cut last)
      → Stands disks store (with_another w cut last)
  stands_beside store w cut last calm h lawful = record {
    lawful = lawful;
    transactions = still_beside store.transactions w cut last h.transactions;
    commits = h.commits;
    broken = h.broken;
    long = h.long;
    pages = h.pages;
    counted = h.counted;
    disk = if_some_map (disks.content store.disk) (KeepsWorld store.journal (disks.may_leave store.disk) w) (KeepsWorld store.journal (disks.may_leave store.disk) (with_another w cut last)) (λ file is k. record {
      stands = λ image left. same_state w (with_another w cut last) image (undoubted w h.lawful calm) refl refl (k.stands image left);
      synced = k.synced;
      own = k.own;
    }) h.disk;
  }

  module _ (store : Store D) (new : Held) (call : Call) (reply : Reply) (count : ℕ) (w : World) (of : IsOfCut call) (whole : store.broken ≡ None) (h : Stands disks store w)
      (other : reply ≢ Refused DiskFault) (steps : CutSteps new w call reply) where
    rest : IsButForCut w (after_reply w call nothing reply)
    rest = cut_rest w call reply of other

    unbroken : (after_reply w call nothing reply).broken ≡ None
    unbroken = ap (λ (v : World). v.broken) rest.2 ∙ (sym h.broken ∙ whole)

    quiet : note_of reply count ≡ nothing
    quiet = note_is w call reply count unbroken

    pub cut_steps : Steps disks store (event_of call reply count) w
    cut_steps =
        subst (λ (n : Note). Steps disks store (record { entry = record { lane = 1; call = call; reply = reply }; note = n }) w) (sym quiet) (record {
          allowed = (cut_noted w call reply of unbroken, steps.allowed);
          stands = subst (Stands disks store) (sym rest.2)
              (stands_beside store w rest.0 rest.1 (sym h.broken ∙ whole) h (subst IsLawful rest.2 steps.holds.standing.lawful));
        })

    pub cut_holds : Holds new (next w (event_of call reply count))
    cut_holds = subst (λ (n : Note). Holds new (next w (record { entry = record { lane = 1; call = call; reply = reply }; note = n }))) (sym quiet) steps.holds

-- the root stands on a page
pub some_pages : (w : World) → IsLawful w → 0 < w.pages
some_pages w lawful =
    let both = and_parts (has_object w.graph root_name) (not (has_name w.freed root_name)) lawful.orderly.root in
    let r = has_object_in w.graph root_name both.0 in
    let placed = each_in (λ (o : ObjectParts). IsPlaced w.pages (slots_of w) o.name) w.graph r.0 lawful.orderly.placed r.1 in
    subst (λ (n : NameParts). n.page < w.pages) r.2 placed.0

-- nothing is open, and no cut is there
pub none_held_yet : (w : World) → IsLawful w → w.last_cut ≡ 0 → w.cut ≡ None → w.pages ≤ MOST_PAGES → Holds (record { cut = None; last_cut = 0 }) w
none_held_yet w lawful last none few = record {
  some = some_pages w lawful;
  few = few;
  last = sym last;
  cut = subst (λ o. IsHeld w None o) (sym none) tt;
  standing = record { lawful = lawful; cut = subst (λ o. MatchOption o (Unit {0}) (IsCutStanding w (beside_of None))) (sym none) tt };
}

-- ---- a commit

pub may_commit : (s : TransactionsParts) (w : World) (txn commits : ℕ) → IsReady s w → is_some (entry_of s.table txn) ≡ true → w.commits ≡ commits → commits < MOST_COUNTED
    → AllowsReply w (Commit txn) nothing (Committed (w.commits + 1))
may_commit s w txn commits ready there same few =
    (none_first w txn commits ready.sound (opened_there (entry_of s.table txn) (find_transaction w txn) (ready.stands.table.each txn) there) same (lt-leb MOST_COUNTED commits few), refl)

commit_next : (held new : Held) (w : World) (txn : ℕ) → Holds held w → AllowsReply w (Commit txn) nothing (Committed (w.commits + 1)) → TurnsOf w (Commit txn) (beside_of held.cut) (beside_of new.cut)
    → new.last_cut ≡ held.last_cut → IsHeld (committed w txn) new.cut w.cut → Holds new (committed w txn)
commit_next held new w txn h may turns last cut = record {
  some = h.some;
  few = h.few;
  last = last ∙ h.last;
  cut = cut;
  standing = event_stands w (Commit txn) nothing (Committed (w.commits + 1)) (beside_of held.cut) (beside_of new.cut) h.standing may turns;
}

later_by_one : (n : ℕ) → n ≤ n + 1
later_by_one n = omega (arith)

-- where no cut is there
pub commit_without : (held : Held) (w : World) (txn : ℕ) → held.cut ≡ None → Holds held w → AllowsReply w (Commit txn) nothing (Committed (w.commits + 1)) → Holds held (committed w txn)
commit_without held w txn none h may =
    let no_cut = not_there w w.cut (subst (λ o. IsHeld w o w.cut) none h.cut) in
    commit_next held held w txn h may
    (subst (λ o. MatchOption o (beside_of held.cut ≡ beside_of held.cut) (TurnsBeside w (Commit txn) (beside_of held.cut) (beside_of held.cut))) (sym no_cut) refl)
    refl (held_next w (committed w txn) held.cut w.cut refl refl (later_by_one w.commits) h.cut)

-- where it is closed
still_phase : (w : World) (cut : OpenedCut) (stage : Stage) (call : Call) (b : CutBeside) → ((c : CutParts) → stage ≡ Copying c → ⊥) → cut.phase ≡ phase_of stage → TurnsIn w cut cut.phase call b b
still_phase w cut (Copying c) call b other at = absurd (other c refl)
still_phase w cut (Closed given) call b other at = subst (λ p. TurnsIn w cut p call b b) (sym at) refl
still_phase w cut (Sweeping marked) call b other at = subst (λ p. TurnsIn w cut p call b b) (sym at) refl

pub commit_closed : (held : Held) (cut : HeldCut) (w : World) (txn : ℕ) → held.cut ≡ Some cut → ((c : CutParts) → cut.stage ≡ Copying c → ⊥) → Holds held w
    → AllowsReply w (Commit txn) nothing (Committed (w.commits + 1)) → Holds held (committed w txn)
commit_closed held cut w txn is other h may =
    let c = there w cut w.cut (subst (λ o. IsHeld w o w.cut) is h.cut) in
    commit_next held held w txn h may
    (subst (λ o. MatchOption o (beside_of held.cut ≡ beside_of held.cut) (TurnsBeside w (Commit txn) (beside_of held.cut) (beside_of held.cut))) (sym c.1)
    (still_phase w c.0 cut.stage (Commit txn) (beside_of held.cut) other (sym c.2.phase)))
    refl (held_next w (committed w txn) held.cut w.cut refl refl (later_by_one w.commits) h.cut)

-- where it is copied
cut_after : (w : World) (txn moment : ℕ) (written : List ℕ) (old new : CutParts) → moment ≡ w.commits + 1 → ((page : ℕ) → has_page written page ≡ has_page (transaction w txn).pages_written page)
    → IsGivenUpTo w txn moment written old new → IsCutAfter w (transaction w txn) old.pages new.pages
cut_after w txn moment written old new is same g = record {
  all = g.all;
  others = λ page e. g.others page (same page ∙ e);
  made = λ page. (page_in_cut new.pages page).born;
  is_made = λ page h. (g.given page (same page ∙ h)).made;
  written = λ page low h.
      let given = g.given page (same page ∙ h) in
      inl (given.is ∙ ap (λ n. with_commit (shown_in w (view w (transaction w txn)) page) n (page_in_cut new.pages page).born (page_in_cut old.pages page)) is);
}

pub commit_copying : (held : Held) (cut : HeldCut) (old new : CutParts) (w : World) (txn moment commits : ℕ) (s : TransactionsParts) → held.cut ≡ Some cut → cut.stage ≡ Copying old → Holds held w → IsReady s w
    → is_some (entry_of s.table txn) ≡ true → w.commits ≡ commits → commits < MOST_COUNTED → moment ≡ w.commits + 1
    → (Copies s old w → IsGivenUpTo w txn moment (pages_in (entry_of s.table txn)) old new)
    → Holds (record { cut = Some (record { number = cut.number; stage = Copying new; swept = cut.swept }); last_cut = held.last_cut }) (committed w txn)
commit_copying held cut old new w txn moment commits s is stage h ready open_now same few moment_is give =
    let c = there w cut w.cut (subst (λ o. IsHeld w o w.cut) is h.cut) in
    let at : c.0.phase ≡ phase.Copying = sym c.2.phase ∙ ap phase_of stage in
    let beside : beside_of held.cut ≡ beside_stage (Copying old) = ap beside_of is ∙ ap beside_stage stage in
    let standing : IsStanding w (beside_stage (Copying old)) = subst (IsStanding w) beside h.standing in
    let copying : IsCopying w c.0 old.pages = in_phase w c.0 phase.Copying (beside_stage (Copying old)) c.1 at standing in
    let own : IsStage w cut.number (Copying old) = subst (IsStage w cut.number) stage c.2.stage in
    let given = give (record { ready = ready; opened = c.0; is = c.1; copying = copying; start = own.1 }) in
    let entry = entry_there (entry_of s.table txn) open_now in
    let o = opened s s w txn entry.0 refl entry.1 ready in
    let pages : (page : ℕ) → has_page (pages_in (entry_of s.table txn)) page ≡ has_page (transaction w txn).pages_written page =
    (λ page. ap (λ e. has_page (pages_in e) page) entry.1 ∙ (o.entry.written.each page ∙ sym (ap (λ (x : Transaction). has_page x.pages_written page) (transaction_found w txn o.of o.found)))) in
    let after = cut_after w txn moment (pages_in (entry_of s.table txn)) old new moment_is pages given in
    commit_next held (record { cut = Some (record { number = cut.number; stage = Copying new; swept = cut.swept }); last_cut = held.last_cut }) w txn h (may_commit s w txn commits ready open_now same few)
    (subst (λ b. TurnsOf w (Commit txn) b (beside_stage (Copying new))) (sym beside) (turns_commit w c.0 txn (beside_stage (Copying old)) (beside_stage (Copying new)) c.1 at after refl))
    refl
    (subst (λ o. IsHeld (committed w txn) (Some (record { number = cut.number; stage = Copying new; swept = cut.swept })) o) (sym c.1) (record {
      number = c.2.number;
      before = c.2.before;
      phase = sym at;
      stage = (given.number ∙ own.0, let g = given.start in let a = own.1 in omega (arith, g, a));
      count = c.2.count;
      swept = c.2.swept;
    }))

-- ---- which call

pub of_cut : (call : Call) → is_of_cut call ≡ true → IsOfCut call
of_cut OpenCut e = tt
of_cut (Copy page) e = tt
of_cut EndCut e = tt
of_cut DropCut e = tt
of_cut _ e = cc

not_cut : (call : Call) → IsOfCut call → is_of_cut call ≡ false → ⊥
not_cut OpenCut of e = cc
not_cut (Copy page) of e = cc
not_cut EndCut of e = cc
not_cut DropCut of e = cc
not_cut _ of e = of

pub of_store : (call : Call) → IsBuilt call → is_of_cut call ≡ false → IsOfStore call
of_store call (inl of) e = of
of_store call (inr of) e = absurd (not_cut call of e)
