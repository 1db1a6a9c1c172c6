-- What a sweep leaves.
use Rattle.std.proofs.Common.{◌≡◌, ◌≢◌, inl, inr, ⊎_elim, ℕ, ◌+◌, ◌<◌, ◌≤◌, ◌==◌, ◌&&◌, Bool, true, false, not, List, [], ◌∷◌, ◌++◌, length, map, filter, cond, get_or, set, Option, Some, None, refl, sym, subst, ap, ◌∙◌, nat_lt, arith}
use Rattle.std.specs.Prelude.{IfSome, IsSomeAnd}
use Rattle.std.specs.Option.{option_map, unwrap_or, MatchOption}
use Rattle.std.specs.List.{AllByRecursion}
use Rattle.std.proofs.lemmas.Bool.{cases_eq, cases_Bool, ltb-true, not-false}
use Rattle.std.proofs.lemmas.List.{get_or-set_same, get_or-set_other, length-set}
use Rattle.std.proofs.lemmas.Nat.Bits.{bit_at-zero}
use Rattle.object_graph.specs.NameParts.{NameParts}
use Rattle.object_graph.specs.SlotParts.{SlotParts}
use Rattle.object_graph.specs.ObjectParts.{ObjectParts}
use Rattle.object_graph.specs.Slots.{has_slot}
use Rattle.object_graph.specs.Graphs.{has_name, objects_at}
use Rattle.object_graph.specs.declared.calls.Phase.TheVariants as phase
use Rattle.object_graph.specs.declared.calls.Call.TheVariants.{Sweep}
use Rattle.object_graph.specs.declared.calls.Reply.TheVariants.{Freed, Refused}
use Rattle.object_graph.specs.declared.calls.Refusal.{Refusal}
use Rattle.object_graph.specs.declared.calls.Refusal.TheVariants.{NoCut, WrongPhase, NoPage, AlreadySwept, DiskFault}
use Rattle.object_graph.proofs.Members.{In, each_in}
use Rattle.object_graph.proofs.Paths.{has_name_in, has_object_in}
use Rattle.object_graph.specs.declared.calls.Phase.{Phase}
use Rattle.store_model.proofs.Shown.{in_unfreed_at}
use Rattle.disk_trait.specs.Causes.{SameTold}
use Rattle.disk_trait.specs.declared.disk.Disk.{Ghosts as DiskOf}
use Rattle.page_image.specs.Pages.{PageParts, slot_at}
use Rattle.page_image.specs.Slots.{fresh_slot}
use Rattle.page_buffer.specs.Frames.{blank_frame, frame_at, with_frame, freed_page, freed_frame}
use Rattle.page_buffer.specs.declared.frame.Frame.{Frame}
use Rattle.redo_journal.specs.Journals.{JournalParts}
use Rattle.redo_journal.proofs.Moments.{if_some_map}
use Rattle.store_model.specs.Causes.{first_met, first_refusal, when, has_page, is_phase, wrong_phase, no_page, already_swept, broken}
use Rattle.store_model.specs.Images.{shown_slot, slot_with, unfreed_at}
use Rattle.store_model.specs.Lawful.{IsPlaced}
use Rattle.store_model.specs.Replies.{Allows, AllowsReply, IsGarbage, MayFree, MayFreeNow, names_in}
use Rattle.store_model.specs.States.{state_of}
use Rattle.store_model.specs.Steps.{next, swept, with_page, has_swept}
use Rattle.store_model.specs.Worlds.{World, OpenedCut, Opening, nothing, faults, is_unfreed, unfreed, slots_of, fields_of, sweep_in_doubt}
use Rattle.store_model.proofs.Allowed.{when_none, with_page_cases}
use Rattle.store_model.proofs.Lawfulness.{event_is_lawful}
use Rattle.store_model.proofs.Lists.{with_page_has, with_page_keeps}
use Rattle.store_model.proofs.Opened.{nones}
use Rattle.image_model.specs.Records.{IsOfSweep, sweep_record}
use Rattle.image_model.specs.Stands.{StandsForWorld}
use Rattle.image_model.proofs.Doubts.{stands_as_before, stands_with_sweep}
use Rattle.image_model.proofs.SweptImages.{sweep_makes}
use Rattle.cut_model.specs.Doomed.{AreDoomedOn}
use Rattle.cut_model.specs.Standing.{IsGiven, IsStanding}
use Rattle.cut_model.proofs.Phases.{event_stands, cut_none, right_phase, doomed_sweep_is_allowed}
use Rattle.cut_model.proofs.Turning.{turns_still}
use Rattle.cut_builder.specs.CutParts.{MarkedParts}
use Rattle.transactions.specs.Calls.{AreOutOfReach}
use Rattle.transactions.specs.Standing.{TransactionsParts, IsReady, image_in, AreTransactionsOf}
use Rattle.transactions.proofs.Shown.{get-shown}
use Rattle.transactions.proofs.Sweeping.{sweep_stands}
use Rattle.transactions.proofs.Unseen.{stands_same}
use Rattle.cut_core.specs.Calls.{event_of}
use Rattle.cut_core.specs.Given.{KeepsGiven}
use Rattle.cut_core.specs.Holding.{phase_of, beside_stage, beside_of, IsStage, IsHeldCut, IsHeld, Holds}
use Rattle.cut_core.specs.Seen.{StandsForEither}
use Rattle.cut_core.specs.Standing.{KeepsWorld, Stands, Steps}
use Rattle.cut_core.specs.Sweeping.{sweep_refusal}
use Rattle.cut_core.specs.Writing.{KeepsState, StandsForOneOf}
use Rattle.cut_core.specs.declared.store.Store.{Store}
use Rattle.cut_core.specs.declared.held.Stage.TheVariants.{Sweeping}
use Rattle.cut_core.specs.declared.held.HeldCut.{HeldCut}
use Rattle.cut_core.specs.declared.held.Held.{Held}
use Rattle.cut_core.proofs.Holding.{on_cut_none, on_cut_some, refuses, there, not_there, in_phase, stage_next}
use Rattle.cut_core.proofs.Recorded.{undoubted, may_fail_there, recorded_stands, unrecorded_stands, IsStaged, staged_by}
use Rattle.cut_core.proofs.Standing.{is_ready, same_state}

-- ---- causes

pub no_cut_to_sweep : (held : Held) (w : World) (page : ℕ) → held.cut ≡ None → Holds held w → w.broken ≡ None → first_refusal w (Sweep page) nothing ≡ Some NoCut
no_cut_to_sweep held w page none h calm =
    on_cut_none w.broken w.cut (λ cut. wrong_phase cut phase.Sweeping ∷ no_page w page ∷ already_swept cut page ∷ []) calm (not_there w w.cut (subst (λ o. IsHeld w o w.cut) none h.cut))

-- behind a cause that is met the others aren't looked at
met_before : (first : Option Refusal) (why : Refusal) (a b : Option Refusal) → first_met (first ∷ Some why ∷ a ∷ []) ≡ first_met (first ∷ Some why ∷ b ∷ [])
met_before None why a b = refl
met_before (Some other) why a b = refl

-- the causes of the world are those of what is held
pub sweep_first : (held : Held) (cut : HeldCut) (w : World) (page : ℕ) → held.cut ≡ Some cut → Holds held w → w.broken ≡ None → first_refusal w (Sweep page) nothing ≡ sweep_refusal cut page
sweep_first held cut w page is h calm =
    let c = there w cut w.cut (subst (λ o. IsHeld w o w.cut) is h.cut) in
    on_cut_some w.broken w.cut c.0 (λ cut. wrong_phase cut phase.Sweeping ∷ no_page w page ∷ already_swept cut page ∷ []) calm c.1
    ∙ (ap (λ p. first_met (when (not (is_phase p phase.Sweeping)) (WrongPhase p) ∷ no_page w page ∷ already_swept c.0 page ∷ [])) (sym c.2.phase)
    ∙ (by c.0 c.2 (nat_lt page w.pages) refl
    ∙ ap (λ n. first_met (when (not (is_phase (phase_of cut.stage) phase.Sweeping)) (WrongPhase (phase_of cut.stage)) ∷ when (not (nat_lt page n)) NoPage ∷ when (get_or cut.swept.items page false) (AlreadySwept page) ∷ []))
    (sym c.2.count)))
  where
    wrong : Option Refusal
    wrong = when (not (is_phase (phase_of cut.stage) phase.Sweeping)) (WrongPhase (phase_of cut.stage))

    by : (c : OpenedCut) → IsHeldCut w cut c → (b : Bool) → nat_lt page w.pages ≡ b
        → first_met (wrong ∷ no_page w page ∷ already_swept c page ∷ []) ≡ first_met (wrong ∷ no_page w page ∷ when (get_or cut.swept.items page false) (AlreadySwept page) ∷ [])
    by c is true e = ap (λ b. first_met (wrong ∷ no_page w page ∷ when b (AlreadySwept page) ∷ [])) (sym (is.swept page (ltb-true page w.pages e)))
    by c is false e =
        ap (λ b. first_met (wrong ∷ when (not b) NoPage ∷ already_swept c page ∷ [])) e
        ∙ (met_before wrong NoPage (already_swept c page) (when (get_or cut.swept.items page false) (AlreadySwept page))
        ∙ sym (ap (λ b. first_met (wrong ∷ when (not b) NoPage ∷ when (get_or cut.swept.items page false) (AlreadySwept page) ∷ [])) e))

-- ---- the doomed slots

-- the cut has as many pages as were noted
pub swept_within : (cut : HeldCut) (marked : MarkedParts) (last page : ℕ) (w : World) → cut.stage ≡ Sweeping marked → Holds (record { cut = Some cut; last_cut = last }) w → page < length cut.swept.items
    → page < length marked.cut.pages
swept_within cut marked last page w stage h low =
    let c = there w cut w.cut h.cut in
    let given : IsGiven w c.0 (beside_stage (Sweeping marked)) =
    in_phase w c.0 phase.Sweeping (beside_stage (Sweeping marked)) c.1 (sym c.2.phase ∙ ap phase_of stage) (subst (λ s. IsStanding w (beside_stage s)) stage h.standing) in
    subst (λ n. page < n) (c.2.count ∙ sym given.all) low

pub doomed_may_go : (held : Held) (w : World) (page slots : ℕ) → Holds held w → first_refusal w (Sweep page) nothing ≡ None → AreDoomedOn (beside_of held.cut).starts (beside_of held.cut).pages page slots
    → AllowsReply w (Sweep page) nothing (Freed slots)
doomed_may_go held w page slots h may doomed = doomed_sweep_is_allowed w page slots nothing (beside_of held.cut) h.standing may doomed

-- ---- what may be freed

pub free_now : (w : World) (page slots : ℕ) → MayFreeNow w page slots → (cut : OpenedCut) × (w.cut ≡ Some cut) × MayFree w cut.opening page slots
free_now w page slots may = by w.cut refl may
  where
    by : (o : Option OpenedCut) → w.cut ≡ o → MatchOption o ⊥ (λ cut. MayFree w cut.opening page slots) → (cut : OpenedCut) × (w.cut ≡ Some cut) × MayFree w cut.opening page slots
    by None is m = absurd m
    by (Some cut) is m = (cut, is, m)

is_sweeping : (p : Phase) → is_phase p phase.Sweeping ≡ true → p ≡ phase.Sweeping
is_sweeping phase.Sweeping e = refl
is_sweeping phase.Copying e = absurd cc
is_sweeping phase.Closed e = absurd cc

-- the cut of a page that may be swept
pub record IsToSweep (w : World) (page : ℕ) : Type 0 where
  pub cut : OpenedCut
  pub is : w.cut ≡ Some cut
  pub sweeping : cut.phase ≡ phase.Sweeping
  pub low : page < w.pages
  pub unswept : has_page cut.swept page ≡ false

pub to_sweep : (w : World) (page : ℕ) → first_refusal w (Sweep page) nothing ≡ None → IsToSweep w page
to_sweep w page may = by w.cut refl may
  where
    by : (o : Option OpenedCut) → w.cut ≡ o → first_met (broken w ∷ unwrap_or (option_map (λ cut. wrong_phase cut phase.Sweeping ∷ no_page w page ∷ already_swept cut page ∷ []) o) (Some NoCut ∷ [])) ≡ None → IsToSweep w page
    by None is e = let a = nones (broken w ∷ Some NoCut ∷ []) e in let z : ⊥ = cc in absurd z
    by (Some cut) is e =
        let a = cut_none w (λ cut. wrong_phase cut phase.Sweeping ∷ no_page w page ∷ already_swept cut page ∷ []) cut e in
        record {
          cut = cut;
          is = is;
          sweeping = is_sweeping cut.phase (right_phase cut phase.Sweeping a.0);
          low = ltb-true page w.pages (not-false (nat_lt page w.pages) (when_none (not (nat_lt page w.pages)) NoPage a.1.0));
          unswept = when_none (has_page cut.swept page) (AlreadySwept page) a.1.1.0;
        }

pub sweep_out : (w : World) (page slots : ℕ) → AllowsReply w (Sweep page) nothing (Freed slots) → AreOutOfReach w page slots
sweep_out w page slots may = λ name there.
    let f = free_now w page slots may.1 in
    (each_in (IsGarbage w f.0.opening) (names_in w page slots) name f.2.safe (has_name_in (names_in w page slots) name there)).out

-- in a place where an object isn't freed the image shows one
shown_used : (w : World) (page slot : ℕ) (o : ObjectParts) (us : List ObjectParts) → unfreed_at w.graph w.freed page slot ≡ us → In o us → (shown_slot (fields_of w page) w.graph w.freed page slot).in_use ≡ true
shown_used w page slot o [] is m = absurd m
shown_used w page slot o (u ∷ us) is m = ap (λ us. (slot_with (fields_of w page) us (length (objects_at w.graph page slot))).in_use) is

-- each doomed slot is in use in the committed image
pub sweep_used : (s : TransactionsParts) (held : Held) (w : World) (page slots : ℕ) → IsReady s w → Holds held w → first_refusal w (Sweep page) nothing ≡ None
    → AreDoomedOn (beside_of held.cut).starts (beside_of held.cut).pages page slots → (slot : ℕ) → has_slot slots slot ≡ true → (slot_at (frame_at s.frames page).before slot).in_use ≡ true
sweep_used s held w page slots ready h may doomed slot on =
    let c = to_sweep w page may in
    let given : IsGiven w c.cut (beside_of held.cut) = in_phase w c.cut phase.Sweeping (beside_of held.cut) c.is c.sweeping h.standing in
    let n = (doomed slot).0 on in
    let safe = given.doomed.safe n.0 n.1 (subst (λ p. has_page c.cut.swept p ≡ false) (sym n.2) c.unswept) in
    let a = has_object_in w.graph n.0 safe.there in
    let o : ObjectParts = a.0 in
    let u : is_unfreed w.freed o ≡ true = subst (λ k. not (has_name w.freed k) ≡ true) (sym a.2) safe.unfreed in
    let at_page : o.name.page ≡ page = ap (λ (k : NameParts). k.page) a.2 ∙ n.2 in
    let at_slot : o.name.slot ≡ slot = ap (λ (k : NameParts). k.slot) a.2 ∙ n.3 in
    let m : In o (unfreed_at w.graph w.freed page slot) =
    subst (λ p. In o (unfreed_at w.graph w.freed p slot)) at_page (subst (λ k. In o (unfreed_at w.graph w.freed o.name.page k)) at_slot (in_unfreed_at w.graph w.freed o a.1 u)) in
    let placed = each_in (λ (x : ObjectParts). IsPlaced w.pages (slots_of w) x.name) w.graph o ready.lawful.orderly.placed a.1 in
    let within : slot < slots_of w page = subst (λ p. slot < slots_of w p) at_page (subst (λ k. k < slots_of w o.name.page) at_slot placed.1) in
    let before : (frame_at s.frames page).before ≡ image_in w w.graph page = (ready.stands.frames.each page c.low).before in
    ap (λ (p : PageParts). (slot_at p slot).in_use) before
    ∙ (ap (λ (x : SlotParts). x.in_use) (get-shown (slots_of w page) (fields_of w page) w.graph w.freed page slot fresh_slot within)
    ∙ shown_used w page slot o (unfreed_at w.graph w.freed page slot) refl m)

-- the image that is written is that of the page after the sweep
pub sweep_image : (s : TransactionsParts) (w : World) (page slots : ℕ) → IsReady s w → page < w.pages → ((slot : ℕ) → has_slot slots slot ≡ true → (slot_at (frame_at s.frames page).before slot).in_use ≡ true)
    → IsOfSweep w page slots (freed_page slots (frame_at s.frames page).before)
sweep_image s w page slots ready within used =
    let low : page < length s.frames = subst (λ n. page < n) (sym ready.stands.frames.count) within in
    let new : Frame = freed_frame slots (frame_at s.frames page) in
    let after = sweep_stands s (record s { frames = with_frame s.frames page new }) w page slots ready low used refl in
    let before = (after.frames.each page within).before in
    let same : freed_page slots (frame_at s.frames page).before ≡ image_in (swept w page slots) w.graph page =
    sym (ap (λ (f : Frame). f.before) (get_or-set_same s.frames page new blank_frame low)) ∙ before in
    record { number = ap (λ (p : PageParts). p.number) same; shows = ap (λ (p : PageParts). p.slots) same }

-- ---- what is held

-- the pages that are swept, with one more
pub has_swept_too : (page p : ℕ) (pages : List ℕ) (items : List Bool) → page < length items → p < length items → get_or items p false ≡ has_page pages p → get_or (set items page true) p false ≡ has_page (with_page page pages) p
has_swept_too page p pages items low within same = elim (cases_eq p page) [
  | inl here ↦
      subst (λ q. get_or (set items page true) q false ≡ has_page (with_page page pages) q) (sym here)
      (get_or-set_same items page true false low ∙ sym (with_page_has page pages))
  | inr away ↦ get_or-set_other items page p true false away ∙ (same ∙ kept (has_page pages p) refl away)
]
  where
    kept : (b : Bool) → has_page pages p ≡ b → p ≢ page → has_page pages p ≡ has_page (with_page page pages) p
    kept true e away = e ∙ sym (with_page_keeps page p pages e)
    kept false e away = elim (cases_Bool (has_page (with_page page pages) p)) [
      | inl h ↦ ⊎_elim (λ same. absurd (away (sym same))) (λ (there : has_page pages p ≡ true). let bad : true ≡ false = sym there ∙ e in cc) (with_page_cases page p pages h)
      | inr h ↦ e ∙ sym h
    ]

pub swept_holds : (held : Held) (cut after : HeldCut) (w : World) (page slots : ℕ) → held.cut ≡ Some cut → after.number ≡ cut.number → after.stage ≡ cut.stage → after.swept.items ≡ set cut.swept.items page true
    → Holds held w → AllowsReply w (Sweep page) nothing (Freed slots) → Holds (record { cut = Some after; last_cut = held.last_cut }) (swept w page slots)
swept_holds held cut after w page slots is number stage items h may =
    let c = there w cut w.cut (subst (λ o. IsHeld w o w.cut) is h.cut) in
    let low : page < length cut.swept.items = subst (λ n. page < n) (sym c.2.count) (to_sweep w page may.0).low in
    let same : beside_stage after.stage ≡ beside_of held.cut = ap beside_stage stage ∙ sym (ap beside_of is) in
    record {
      some = h.some;
      few = h.few;
      last = h.last;
      cut = subst (λ o. IsHeld (swept w page slots) (Some after) (option_map (has_swept page) o)) (sym c.1) (record {
        number = number ∙ c.2.number;
        before = subst (λ n. n ≤ w.last_cut) (sym number) c.2.before;
        phase = ap phase_of stage ∙ c.2.phase;
        stage = subst (λ s. IsStage (swept w page slots) after.number s) (sym stage) (subst (λ n. IsStage (swept w page slots) n cut.stage) (sym number) (stage_next w (swept w page slots) cut.number cut.stage (commits_stay w.commits) c.2.stage));
        count = ap length items ∙ (length-set cut.swept.items page true ∙ c.2.count);
        swept = λ p within.
            ap (λ xs. get_or xs p false) items
            ∙ has_swept_too page p c.0.swept cut.swept.items low (subst (λ n. p < n) (sym c.2.count) within) (c.2.swept p within);
      });
      standing = subst (IsStanding (swept w page slots)) (sym same)
          (event_stands w (Sweep page) nothing (Freed slots) (beside_of held.cut) (beside_of held.cut) h.standing may (turns_still w (Sweep page) (Freed slots) (beside_of held.cut) refl));
    }
  where
    commits_stay : (n : ℕ) → n ≤ n
    commits_stay n = omega (arith)

-- ---- the store after a sweep

-- no name stands in a slot of the empty set
none_in : (page : ℕ) (os : List ObjectParts) → map (λ o. o.name) (filter (λ o. (o.name.page == page) && has_slot 0 o.name.slot) os) ≡ []
none_in page [] = refl
none_in page (o ∷ os) =
    ap (λ b. map (λ o. o.name) (cond b (o ∷ filter (λ o. (o.name.page == page) && has_slot 0 o.name.slot) os) (filter (λ o. (o.name.page == page) && has_slot 0 o.name.slot) os)))
    (off (o.name.page == page) (has_slot 0 o.name.slot) (ap (λ n. n == 1) (bit_at-zero o.name.slot))) ∙ none_in page os
  where
    off : (a b : Bool) → b ≡ false → (a && b) ≡ false
    off true b e = e
    off false b e = refl

nothing_in : (w : World) (page : ℕ) → names_in w page 0 ≡ []
nothing_in w page = none_in page (unfreed w)

abbrev pub broken_in_sweep : World → ℕ → ℕ → World
broken_in_sweep w count page = record w { broken = Some count; doubt = sweep_in_doubt page }

still_transactions : (s : TransactionsParts) (w : World) (count page : ℕ) → AreTransactionsOf s w → AreTransactionsOf s (broken_in_sweep w count page)
still_transactions s w count page h = stands_same s w (broken_in_sweep w count page) (record { pages = refl; graph = refl; freed = refl; transactions = refl }) h

garbage_still : (w : World) (count page : ℕ) (opening : Opening) (names : List NameParts) → AllByRecursion (IsGarbage w opening) names → AllByRecursion (IsGarbage (broken_in_sweep w count page) opening) names
garbage_still w count page opening [] h = tt
garbage_still w count page opening (n ∷ ns) h = (record { old = h.0.old; out = h.0.out }, garbage_still w count page opening ns h.1)

free_still : (w : World) (count page slots : ℕ) → MayFreeNow w page slots → MayFreeNow (broken_in_sweep w count page) page slots
free_still w count page slots may =
    let f = free_now w page slots may in
    subst (λ o. MatchOption o ⊥ (λ cut. MayFree (broken_in_sweep w count page) cut.opening page slots)) (sym f.1)
    (record { one_each = f.2.one_each; safe = garbage_still w count page f.0.opening (names_in w page slots) f.2.safe; complete = f.2.complete })

-- a file that stands for the state before or after a sweep stands for the world before or after it
pub either_swept : (w : World) (page slots : ℕ) (file : List ℕ) → StandsForOneOf w.pages (state_of w) (state_of (swept w page slots)) file → StandsForEither w (swept w page slots) file
either_swept w page slots file stands = ⊎_elim (λ s. inl (stands_as_before file w s)) (λ t. inr (stands_as_before file (swept w page slots) t)) stands

-- so it does for the world that a fault in it leaves
failed_stands : (w : World) (count page slots : ℕ) (file : List ℕ) → MayFreeNow w page slots → StandsForOneOf w.pages (state_of w) (state_of (swept w page slots)) file → StandsForWorld file (broken_in_sweep w count page)
failed_stands w count page slots file may stands =
    ⊎_elim (λ s. stands_as_before file (broken_in_sweep w count page) s) (λ t. stands_with_sweep file (broken_in_sweep w count page) page slots refl (free_still w count page slots may) t) stands

pub either_unswept : (w : World) (count page slots : ℕ) (file : List ℕ) → MayFreeNow w page slots → StandsForOneOf w.pages (state_of w) (state_of (swept w page slots)) file → StandsForEither w (broken_in_sweep w count page) file
either_unswept w count page slots file may stands = inr (failed_stands w count page slots file may stands)

module _ {D : Type 0} (disks : DiskOf D) where
  none_steps : (store : Store D) (page count : ℕ) (w : World) → Stands disks store w → store.broken ≡ None → AllowsReply w (Sweep page) nothing (Freed 0) → Steps disks store (event_of (Sweep page) (Freed 0) count) w
  none_steps store page count w h sound may =
      let freed : names_in w page 0 ++ w.freed ≡ w.freed = ap (λ ns. ns ++ w.freed) (nothing_in w page) in
      record {
        allowed = (refl, may);
        stands = record {
          lawful = event_is_lawful w (Sweep page) nothing (Freed 0) h.lawful may;
          transactions = stands_same store.transactions w (swept w page 0) (record { pages = refl; graph = refl; freed = freed; transactions = refl }) h.transactions;
          commits = h.commits;
          broken = h.broken;
          long = h.long;
          pages = h.pages;
          counted = h.counted;
          disk = if_some_map (disks.content store.disk) (KeepsWorld store.journal (disks.may_leave store.disk) w) (KeepsWorld store.journal (disks.may_leave store.disk) (swept w page 0)) (λ file is k. record {
            stands = λ image left. same_state w (swept w page 0) image (undoubted w h.lawful (sym h.broken ∙ sound)) refl (ap (λ ns. state_of (record w { freed = ns })) freed) (k.stands image left);
            synced = k.synced;
            own = k.own;
          }) h.disk;
        };
      }

  -- nothing was doomed
  pub idle_steps : (store : Store D) (page slots count : ℕ) (w : World) → Stands disks store w → store.broken ≡ None → slots ≡ 0 → AllowsReply w (Sweep page) nothing (Freed slots)
      → Steps disks store (event_of (Sweep page) (Freed slots) count) w
  idle_steps store page slots count w h sound empty may =
      subst (λ n. AllowsReply w (Sweep page) nothing (Freed n) → Steps disks store (event_of (Sweep page) (Freed n) count) w) (sym empty) (none_steps store page count w h sound) may

  -- the record was written, and the slots are freed
  pub sweep_steps : (old : Store D) (freed : TransactionsParts) (journal : JournalParts) (disk : D) (page slots count : ℕ) (w : World)
      → Stands disks old w → old.broken ≡ None → AllowsReply w (Sweep page) nothing (Freed slots) → AreTransactionsOf freed (swept w page slots)
      → disks.size disk ≡ disks.size old.disk → journal.pages ≡ old.journal.pages → old.commits ≡ journal.base + journal.commits
      → ((file : List ℕ) → disks.content old.disk ≡ Some file → IsSomeAnd (disks.content disk) (KeepsState journal (disks.may_leave disk) (state_of (swept w page slots))))
      → SameTold (disks.content old.disk) (disks.content disk)
      → Steps disks (record { transactions = freed; journal = journal; disk = disk; commits = old.commits; broken = old.broken }) (event_of (Sweep page) (Freed slots) count) w
  sweep_steps old freed journal disk page slots count w h sound may stands long pages counted keeps told = record {
    allowed = (refl, may);
    stands = recorded_stands disks old freed journal disk old.commits w (swept w page slots) h sound
        (event_is_lawful w (Sweep page) nothing (Freed slots) h.lawful may) stands refl refl h.commits long pages counted keeps told;
  }

  -- a device call failed: the sweep is in doubt
  pub unswept_steps : (old : Store D) (journal : JournalParts) (disk : D) (page slots count : ℕ) (w : World)
      → Stands disks old w → AllowsReply w (Sweep page) nothing (Freed slots)
      → disks.size disk ≡ disks.size old.disk
      → ((file : List ℕ) → disks.content old.disk ≡ Some file → (image : List ℕ) → disks.may_leave disk image → StandsForOneOf w.pages (state_of w) (state_of (swept w page slots)) image)
      → SameTold (disks.content old.disk) (disks.content disk)
      → Steps disks (record { transactions = old.transactions; journal = journal; disk = disk; commits = old.commits; broken = Some count }) (event_of (Sweep page) (Refused DiskFault) count) w
  unswept_steps old journal disk page slots count w h may long leaves told =
      let fails = may_fail_there w (Sweep page) count may.0 refl in
      record {
        allowed = (refl, fails);
        stands = unrecorded_stands disks old journal disk count w (broken_in_sweep w count page) h
            (event_is_lawful w (Sweep page) (faults count) (Refused DiskFault) h.lawful fails)
            (still_transactions old.transactions w count page h.transactions) refl refl refl long
            (λ file is image left. failed_stands w count page slots image may.1 (leaves file is image left)) told;
      }

-- a sweep of the doomed slots of a page beside a store
pub record IsSweepOf {D : Type 0} (disks : DiskOf D) (old : Store D) (page slots : ℕ) (w : World) : Type 0 where
  pub may : AllowsReply w (Sweep page) nothing (Freed slots)
  pub low : page < length old.transactions.frames
  pub used : (slot : ℕ) → has_slot slots slot ≡ true → (slot_at (frame_at old.transactions.frames page).before slot).in_use ≡ true
  pub ready : IsReady old.transactions w
  pub out : AreOutOfReach w page slots

module _ {D : Type 0} (disks : DiskOf D) where
  pub is_sweep : (old : Store D) (held : Held) (page slots : ℕ) (w : World) → old.broken ≡ None → ((w : World) → Holds held w → w.broken ≡ None → first_refusal w (Sweep page) nothing ≡ None)
      → AreDoomedOn (beside_of held.cut).starts (beside_of held.cut).pages page slots → Stands disks old w → Holds held w → IsSweepOf disks old page slots w
  is_sweep old held page slots w sound may doomed h holds =
      let first = may w holds (sym h.broken ∙ sound) in
      let ready = is_ready disks old w sound h in
      let allowed = doomed_may_go held w page slots holds first doomed in
      record {
        may = allowed;
        low = subst (λ n. page < n) (sym ready.stands.frames.count) (to_sweep w page first).low;
        used = sweep_used old.transactions held w page slots ready holds first doomed;
        ready = ready;
        out = sweep_out w page slots allowed;
      }

  -- the record of a sweep is staged
  pub is_staged : (honest : (disk : D) (c : List ℕ) → disks.content disk ≡ Some c → disks.may_leave disk c)
      → (old : Store D) (staged : JournalParts) (page slots : ℕ) (w : World) → Stands disks old w → old.broken ≡ None → IsSweepOf disks old page slots w
      → staged ≡ record old.journal { staged = Some (sweep_record (freed_page slots (frame_at old.transactions.frames page).before)) }
      → IsStaged disks old staged (sweep_record (freed_page slots (frame_at old.transactions.frames page).before)) (state_of (swept w page slots)) w
  is_staged honest old staged page slots w h sound k is =
      staged_by disks honest old staged (sweep_record (freed_page slots (frame_at old.transactions.frames page).before)) (state_of (swept w page slots)) w h sound is
      (sweep_makes w page slots nothing (freed_page slots (frame_at old.transactions.frames page).before) h.lawful k.may
      (sweep_image old.transactions w page slots k.ready (to_sweep w page k.may.0).low k.used))

-- what was given out stays, whatever is swept
pub given_swept : (held : Held) (cut after : HeldCut) → held.cut ≡ Some cut → after.number ≡ cut.number → after.stage ≡ cut.stage → KeepsGiven held (record { cut = Some after; last_cut = held.last_cut })
given_swept held cut after is number stage = λ n pages h. record {
  before = h.before;
  same = λ e.
      let was = subst (λ o. IfSome o (λ (c : HeldCut). c.number ≡ n → (is_phase (phase_of c.stage) phase.Copying ≡ false) × ((beside_stage c.stage).pages ≡ pages))) is h.same (sym number ∙ e) in
      (ap (λ s. is_phase (phase_of s) phase.Copying) stage ∙ was.0, ap (λ s. (beside_stage s).pages) stage ∙ was.1);
}

-- a refusal leaves the store
refused_world : (w : World) (page : ℕ) (why : Refusal) (count : ℕ) → why ≢ DiskFault → next w (event_of (Sweep page) (Refused why) count) ≡ w
refused_world w page DiskFault count other = absurd (other refl)
refused_world w page _ count other = refl

refused_note : (w : World) (page : ℕ) (why : Refusal) (count : ℕ) → why ≢ DiskFault → first_refusal w (Sweep page) nothing ≡ Some why → Allows w (event_of (Sweep page) (Refused why) count)
refused_note w page DiskFault count other first = absurd (other refl)
refused_note w page why count other first = (refl, refuses w (Sweep page) why first)

module _ {D : Type 0} (disks : DiskOf D) where
  pub refused_sweep : (store : Store D) (page : ℕ) (why : Refusal) (count : ℕ) (w : World) → Stands disks store w → first_refusal w (Sweep page) nothing ≡ Some why → why ≢ DiskFault
      → Steps disks store (event_of (Sweep page) (Refused why) count) w
  refused_sweep store page why count w h first other = record {
    allowed = refused_note w page why count other first;
    stands = subst (Stands disks store) (sym (refused_world w page why count other)) h;
  }
