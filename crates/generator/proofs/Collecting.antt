-- What the calls of a collection may be answered, and how far its cut is afterwards.
use Rattle.std.proofs.Common.{◌≡◌, ℕ, ◌+◌, ◌<◌, ◌≤◌, ◌==◌, Bool, true, false, not, ◌||◌, cond, List, [], ◌∷◌, Option, Some, None, refl, sym, subst, ap, ◌∙◌, ◌⊎◌, inl, inr, arith}
use Rattle.std.specs.List.{find}
use Rattle.std.specs.Option.{option_map, unwrap_or, MatchOption}
use Rattle.std.specs.Prelude.{nat_lt, IfSome, IsSomeAnd}
use Rattle.std.proofs.lemmas.Bool.{cases_Bool, eq-eqb, eqb-true, lt-ltb, ltb-true, cases_lt}
use Rattle.object_graph.specs.Members.{In}
use Rattle.object_graph.specs.Slots.{below}
use Rattle.object_graph.specs.declared.calls.Phase.{Phase}
use Rattle.object_graph.specs.declared.calls.Phase.TheVariants.{Copying, Closed, Sweeping}
use Rattle.object_graph.specs.declared.calls.Call.TheVariants.{OpenCut, Copy, Close, Mark, Sweep, EndCut}
use Rattle.object_graph.specs.declared.calls.Refusal.{Refusal}
use Rattle.object_graph.specs.declared.calls.Refusal.TheVariants.{NoPage, CutThere, NoCut, WrongPhase, AlreadyCopied, Uncopied, AlreadySwept, Unswept, OtherCut, Memory, DiskFault}
use Rattle.store_model.specs.Worlds.{World, OpenedCut, Note}
use Rattle.store_model.specs.Causes.{has_page, first_met, first_refusal, when, broken, on_cut, cut_there, spent, is_phase, wrong_phase, no_page, already_copied, already_swept, missing, uncopied, unswept, other_cut, wrong_marks, marks_number}
use Rattle.store_model.specs.Replies.{is_free}
use Rattle.store_model.specs.Steps.{with_page, with_cut, cut_opened, swept, has_swept}
use Rattle.store_model.proofs.Cuts.{below_bound}
use Rattle.generator.specs.Rounds.{store_pages}
use Rattle.generator.specs.Between.{IsResting, IsCollecting, IsOnlyStopped}
use Rattle.generator.proofs.Alone.{skip, unbroken, uncounted}

-- ---- numbers below another

not_below : (n m : ℕ) → m ≤ n → nat_lt n m ≡ false
not_below n m le = elim (cases_Bool (nat_lt n m)) [ inl e ↦ let low = ltb-true n m e in absurd (omega arith) | inr e ↦ e ]

-- the numbers below the next one are this one and those below it
one_more : (page other : ℕ) → ((page == other) || nat_lt other page) ≡ nat_lt other (page + 1)
one_more page other = elim (cases_Bool (page == other)) [
  | inl e ↦ ap (λ b. b || nat_lt other page) e ∙ sym (lt-ltb other (page + 1) (let same = eqb-true page other e in omega arith))
  | inr e ↦ ap (λ b. b || nat_lt other page) e ∙ elim (cases_lt other page) [
    | inl low ↦ lt-ltb other page low ∙ sym (lt-ltb other (page + 1) (omega arith))
    | inr high ↦ not_below other page high ∙ sym (not_below other (page + 1) (elim (cases_lt page other) [
      | inl above ↦ omega arith
      | inr same ↦ let z = eq-eqb page other (omega arith) in cc
    ]))
  ]
]

added : (page : ℕ) (pages : List ℕ) → ((other : ℕ) → has_page pages other ≡ nat_lt other page) → (other : ℕ) → has_page (with_page page pages) other ≡ nat_lt other (page + 1)
added page pages are other =
    ap (λ b. has_page (cond b pages (page ∷ pages)) other) (are page ∙ not_below page page (omega arith))
    ∙ (ap (λ b. (page == other) || b) (are other) ∙ one_more page other)

find_nothing : (p : ℕ → Bool) (xs : List ℕ) → ((x : ℕ) → In x xs → p x ≡ false) → find p xs ≡ None
find_nothing p [] h = refl
find_nothing p (x ∷ xs) h = ap (λ b. cond b (Some x) (find p xs)) (h x (inl refl)) ∙ find_nothing p xs (λ y m. h y (inr m))

none_missing : (w : World) (pages : List ℕ) → w.pages ≡ store_pages → ((page : ℕ) → has_page pages page ≡ nat_lt page store_pages) → missing w pages ≡ None
none_missing w pages right are =
    find_nothing (λ page. not (has_page pages page)) (below w.pages)
    (λ page m. ap not (are page ∙ lt-ltb page store_pages (let low = below_bound w.pages page m in omega arith)))

-- ---- its opening

pub open_may : (w : World) (note : Note) → IsResting w → first_refusal w OpenCut note ≡ None
open_may w note r =
    skip (broken w) _ (unbroken w r.sound) ∙ (skip (cut_there w) _ (ap (option_map (λ (cut : OpenedCut). CutThere cut.number)) r.no_cut)
    ∙ skip (spent w.last_cut) [] (uncounted w.last_cut (let s = r.sound in let c = s.cuts in let f = s.few in omega arith)))

pub opens : (w : World) → IsResting w → w.last_cut < w.commits → IsCollecting Copying 0 0 (cut_opened w)
opens w r low = record {
  sound = record { right = r.sound.right; whole = r.sound.whole; cuts = omega arith; few = r.sound.few };
  closed = r.closed;
  cut = _;
  there = refl;
  in_phase = refl;
  copies = λ page. sym (not_below page 0 (omega arith));
  sweeps = λ page. sym (not_below page 0 (omega arith));
}

-- ---- the cut that is there

phase_is : (a b : Phase) → a ≡ b → is_phase a b ≡ true
phase_is a b e = subst (λ (p : Phase). is_phase a p ≡ true) e (itself a)
  where
    itself : (p : Phase) → is_phase p p ≡ true
    itself Copying = refl
    itself Closed = refl
    itself Sweeping = refl

module _ (phase : Phase) (copied swept_ : ℕ) (w : World) (a : IsCollecting phase copied swept_ w) where
  abbrev pub cut : OpenedCut
  cut = a.cut

  on_it : (list : OpenedCut → List (Option Refusal)) → first_met (broken w ∷ on_cut w list) ≡ first_met (list cut)
  on_it list = skip (broken w) _ (unbroken w a.sound) ∙ ap (λ o. first_met (unwrap_or (option_map list o) (Some NoCut ∷ []))) a.there

  right_phase : wrong_phase cut phase ≡ None
  right_phase = ap (λ b. when (not b) (WrongPhase cut.phase)) (phase_is cut.phase phase a.in_phase)

  right_page : (page : ℕ) → page < store_pages → no_page w page ≡ None
  right_page page low = ap (λ b. when (not b) NoPage) (lt-ltb page w.pages (let p = a.sound.right in omega arith))

pub copy_may : (w : World) (page swept_ : ℕ) (note : Note) → IsCollecting Copying page swept_ w → page < store_pages → first_refusal w (Copy page) note ≡ None
copy_may w page swept_ note a low =
    on_it Copying page swept_ w a (λ cut. wrong_phase cut Copying ∷ no_page w page ∷ already_copied cut page ∷ [])
    ∙ (skip (wrong_phase a.cut Copying) _ (right_phase Copying page swept_ w a) ∙ (skip (no_page w page) _ (right_page Copying page swept_ w a page low)
    ∙ skip (already_copied a.cut page) [] (ap (λ b. when b (AlreadyCopied page)) (a.copies page ∙ not_below page page (omega arith)))))

pub close_may : (w : World) (swept_ : ℕ) (note : Note) → IsCollecting Copying store_pages swept_ w → first_refusal w Close note ≡ None
close_may w swept_ note a =
    on_it Copying store_pages swept_ w a (λ cut. wrong_phase cut Copying ∷ uncopied w cut ∷ [])
    ∙ (skip (wrong_phase a.cut Copying) _ (right_phase Copying store_pages swept_ w a)
    ∙ skip (uncopied w a.cut) [] (ap (option_map (λ page. Uncopied page)) (none_missing w a.cut.copied a.sound.right a.copies)))

pub sweep_may : (w : World) (copied page : ℕ) (note : Note) → IsCollecting Sweeping copied page w → page < store_pages → first_refusal w (Sweep page) note ≡ None
sweep_may w copied page note a low =
    on_it Sweeping copied page w a (λ cut. wrong_phase cut Sweeping ∷ no_page w page ∷ already_swept cut page ∷ [])
    ∙ (skip (wrong_phase a.cut Sweeping) _ (right_phase Sweeping copied page w a) ∙ (skip (no_page w page) _ (right_page Sweeping copied page w a page low)
    ∙ skip (already_swept a.cut page) [] (ap (λ b. when b (AlreadySwept page)) (a.sweeps page ∙ not_below page page (omega arith)))))

pub end_may : (w : World) (copied : ℕ) (note : Note) → IsCollecting Sweeping copied store_pages w → first_refusal w EndCut note ≡ None
end_may w copied note a =
    on_it Sweeping copied store_pages w a (λ cut. wrong_phase cut Sweeping ∷ unswept w cut ∷ [])
    ∙ (skip (wrong_phase a.cut Sweeping) _ (right_phase Sweeping copied store_pages w a)
    ∙ skip (unswept w a.cut) [] (ap (option_map (λ page. Unswept page)) (none_missing w a.cut.swept a.sound.right a.sweeps)))

-- marks that are none tell want of memory, and others are of the cut that is there
mark_may : (w : World) (copied swept_ workers : ℕ) (note : Note) → (a : IsCollecting Closed copied swept_ w)
    → first_refusal w (Mark workers) note ≡ first_met (wrong_marks a.cut (marks_number note) ∷ [])
mark_may w copied swept_ workers note a =
    on_it Closed copied swept_ w a (λ cut. wrong_phase cut Closed ∷ wrong_marks cut (marks_number note) ∷ [])
    ∙ skip (wrong_phase a.cut Closed) _ (right_phase Closed copied swept_ w a)

pub mark_stops : (w : World) (copied swept_ workers : ℕ) → IsCollecting Closed copied swept_ w → IsOnlyStopped w (Mark workers)
mark_stops w copied swept_ workers a note why present may = by_marks (marks_number note) refl
  where
    free : (why : Refusal) → is_free (Mark workers) why ≡ true → (why ≡ Memory) ⊎ (why ≡ DiskFault)
    free Memory h = inl refl
    free DiskFault h = inr refl
    free _ h = cc

    by_marks : (m : Option ℕ) → marks_number note ≡ m → (why ≡ Memory) ⊎ (why ≡ DiskFault)
    by_marks None e =
        inl (subst (λ (o : Option Refusal). MatchOption o (is_free (Mark workers) why ≡ true) (λ first. why ≡ first))
        (mark_may w copied swept_ workers note a ∙ ap (λ m. first_met (wrong_marks a.cut m ∷ [])) e) may)
    by_marks (Some number) e =
        let there : a.cut.number ≡ number =
        subst (λ (o : Option OpenedCut). IsSomeAnd o (λ cut. cut.number ≡ number)) a.there
        (subst (λ (m : Option ℕ). IfSome m (λ n. IsSomeAnd w.cut (λ cut. cut.number ≡ n))) e present) in
        free why (subst (λ (o : Option Refusal). MatchOption o (is_free (Mark workers) why ≡ true) (λ first. why ≡ first))
        (mark_may w copied swept_ workers note a ∙ (ap (λ m. first_met (wrong_marks a.cut m ∷ [])) e
        ∙ skip (other_cut a.cut number) [] (ap (λ b. when (not b) (OtherCut a.cut.number)) (eq-eqb a.cut.number number there)))) may)

-- ---- the cut after a call

changed : (w : World) (copied swept_ : ℕ) (phase : Phase) → (a : IsCollecting phase copied swept_ w) → (change : OpenedCut → OpenedCut) → option_map change w.cut ≡ Some (change a.cut)
changed w copied swept_ phase a change = ap (option_map change) a.there

pub copies : (w : World) (page swept_ : ℕ) → IsCollecting Copying page swept_ w → IsCollecting Copying (page + 1) swept_ (with_cut w (λ cut. record cut { copied = with_page page cut.copied }))
copies w page swept_ a = record {
  sound = a.sound;
  closed = a.closed;
  cut = record (a.cut) { copied = with_page page a.cut.copied };
  there = changed w page swept_ Copying a (λ cut. record cut { copied = with_page page cut.copied });
  in_phase = a.in_phase;
  copies = added page a.cut.copied a.copies;
  sweeps = a.sweeps;
}

pub closes : (w : World) (copied swept_ : ℕ) → IsCollecting Copying copied swept_ w → IsCollecting Closed copied swept_ (with_cut w (λ cut. record cut { phase = Closed }))
closes w copied swept_ a = record {
  sound = a.sound;
  closed = a.closed;
  cut = record (a.cut) { phase = Closed };
  there = changed w copied swept_ Copying a (λ cut. record cut { phase = Closed });
  in_phase = refl;
  copies = a.copies;
  sweeps = a.sweeps;
}

pub is_marked : (w : World) (copied swept_ : ℕ) → IsCollecting Closed copied swept_ w → IsCollecting Sweeping copied swept_ (with_cut w (λ cut. record cut { phase = Sweeping }))
is_marked w copied swept_ a = record {
  sound = a.sound;
  closed = a.closed;
  cut = record (a.cut) { phase = Sweeping };
  there = changed w copied swept_ Closed a (λ cut. record cut { phase = Sweeping });
  in_phase = refl;
  copies = a.copies;
  sweeps = a.sweeps;
}

pub sweeps : (w : World) (copied page slots : ℕ) → IsCollecting Sweeping copied page w → IsCollecting Sweeping copied (page + 1) (swept w page slots)
sweeps w copied page slots a = record {
  sound = a.sound;
  closed = a.closed;
  cut = has_swept page a.cut;
  there = changed w copied page Sweeping a (has_swept page);
  in_phase = a.in_phase;
  copies = a.copies;
  sweeps = added page a.cut.swept a.sweeps;
}

pub ends : (w : World) (copied swept_ : ℕ) → IsCollecting Sweeping copied swept_ w → IsResting (record w { cut = None })
ends w copied swept_ a = record { sound = a.sound; closed = a.closed; no_cut = refl }
