-- The pages whose frames a call changed.
use Rattle.std.proofs.Common.{◌≡◌, ◌≢◌, inl, inr, ℕ, ◌<◌, ◌≤◌, ◌==◌, Bool, true, false, not, ◌&&◌, cond, List, [], ◌∷◌, length, get_or, Option, Some, None, refl, sym, subst, ap, ◌∙◌, arith}
use Rattle.std.specs.Prelude.{nat_lt}
use Rattle.std.specs.Bool.{then_some}
use Rattle.std.specs.List.{slice_get}
use Rattle.std.specs.Option.{unwrap_or}
use Rattle.std.proofs.lemmas.List.{get_or_past}
use Rattle.std.proofs.lemmas.Bool.{cases_Bool, cases_lt, eq-eqb, eqb-true, ne_eqb, lt-ltb, ltb-true, ltb-false}
use Rattle.std.proofs.lemmas.Option.{slice_get-get_or, slice_get_past}
use Rattle.object_graph.specs.Slots.{below}
use Rattle.object_graph.specs.declared.calls.Call.{Call}
use Rattle.object_graph.specs.declared.calls.Call.TheVariants.{Set, Put, New, Commit, Abort, OpenCut, Copy, Sweep, EndCut, DropCut, Reopen}
use Rattle.object_graph.specs.declared.calls.Reply.{Reply}
use Rattle.object_graph.specs.declared.calls.Reply.TheVariants.{Freed, Refused}
use Rattle.object_graph.proofs.Members.{any_in, in_any}
use Rattle.store_model.specs.Worlds.{World, Transaction, find_transaction, fresh_transaction}
use Rattle.store_model.specs.Causes.{has_page}
use Rattle.store_model.proofs.Lists.{in_below}
use Rattle.store_model.proofs.Cuts.{below_bound}
use Rattle.store_model.proofs.Flats.{length_below, get_below}
use Rattle.page_buffer.specs.Frames.{blank_frame, with_frame}
use Rattle.page_buffer.specs.declared.frame.Frame.{Frame}
use Rattle.transactions.specs.Calls.{ChangesFramesOf}
use Rattle.transactions.specs.Standing.{TransactionsParts, AreAlike, IsTable, AreTransactionsOf, wrote}
use Rattle.transactions.specs.Tables.{OpenParts, Entries, IsAscending, entry_of, pages_in}
use Rattle.transactions.proofs.Entries.{or_false}
use Rattle.transactions.proofs.PagesChanged.{changes_of_one}
use Rattle.cut_core.specs.Calls.{is_of_cut}
use Rattle.cut_core.specs.Touched.{frees_some, may_touch, AreTouched, pages_ended, touched_after, TouchesWell}

-- ---- all pages of a store

pub page_of_all : (n at : ℕ) → then_some (nat_lt at n) at ≡ slice_get (below n) at
page_of_all n at = elim (cases_Bool (nat_lt at n)) [
  | inl low ↦
      let l = length_below n in
      let lt : at < n = ltb-true at n low in
      ap (λ b. then_some b at) low ∙ (ap (λ (p : ℕ). Some p) (sym (get_below n at lt)) ∙ sym (slice_get-get_or (below n) at 0 (omega arith)))
  | inr high ↦
      let l = length_below n in
      let past : n ≤ at = ltb-false at n high in
      ap (λ b. then_some b at) high ∙ sym (slice_get_past (below n) at (omega arith))
]

below_has : (n page : ℕ) → page < n → has_page (below n) page ≡ true
below_has n page low = in_any (λ p. p == page) (below n) page (in_below n page low) (eq-eqb page page refl)

below_within : (n page : ℕ) → has_page (below n) page ≡ true → page < n
below_within n page on =
    let a = any_in (λ p. p == page) (below n) on in
    subst (λ p. p < n) (eqb-true a.0 page a.2) (below_bound n a.0 a.1)

below_exact : (n page : ℕ) → has_page (below n) page ≡ nat_lt page n
below_exact n page = elim (cases_Bool (has_page (below n) page)) [
  | inl on ↦ on ∙ sym (lt-ltb page n (below_within n page on))
  | inr off ↦ elim (cases_Bool (nat_lt page n)) [
    | inl low ↦ let z : true ≡ false = sym (below_has n page (ltb-true page n low)) ∙ off in absurd cc
    | inr high ↦ off ∙ sym high
  ]
]

below_ascends : (n : ℕ) → IsAscending (below n)
below_ascends n i j lt within =
    let l = length_below n in
    let a : get_or (below n) i 0 ≡ i = get_below n i (omega arith) in
    let b : get_or (below n) j 0 ≡ j = get_below n j (omega arith) in
    omega (arith, a, b)

-- ---- frames

pub none_changed : (frames : List Frame) → ChangesFramesOf [] frames frames
none_changed frames = record { count = refl; within = λ page on. absurd cc; others = λ page off. refl }

pub nothing_changed : (old new : List Frame) → new ≡ old → ChangesFramesOf [] old new
nothing_changed old new same = subst (λ fs. ChangesFramesOf [] old fs) (sym same) (none_changed old)

-- all frames were read anew
pub all_changed : (old new : List Frame) → length new ≡ length old → ChangesFramesOf (below (length old)) old new
all_changed old new count = record {
  count = count;
  within = λ page on. below_within (length old) page on;
  others = λ page off.
      let past : length old ≤ page = elim (cases_lt page (length old)) [
        | inl low ↦ (let z : true ≡ false = sym (below_has (length old) page low) ∙ off in absurd cc)
        | inr high ↦ high
      ] in
      get_or_past new page blank_frame (omega arith) ∙ sym (get_or_past old page blank_frame past);
}

-- ---- calls

-- no call of a transaction that only reads, and none on the cut that isn't a sweep, touches a frame
abbrev is_quiet : Call → Bool
is_quiet (Set txn name field target) = false
is_quiet (Put txn name value) = false
is_quiet (New txn page) = false
is_quiet (Commit txn) = false
is_quiet (Abort txn) = false
is_quiet (Sweep page) = false
is_quiet Reopen = false
is_quiet call = true

quiet_touches : (n : ℕ) (ended : List ℕ) (call : Call) (reply : Reply) → is_quiet call ≡ true → touched_after n ended call reply ≡ []
quiet_touches n ended call (Refused why) quiet = refl
quiet_touches n ended (Set txn name field target) reply quiet = absurd cc
quiet_touches n ended (Put txn name value) reply quiet = absurd cc
quiet_touches n ended (New txn page) reply quiet = absurd cc
quiet_touches n ended (Commit txn) reply quiet = absurd cc
quiet_touches n ended (Abort txn) reply quiet = absurd cc
quiet_touches n ended (Sweep page) reply quiet = absurd cc
quiet_touches n ended Reopen reply quiet = absurd cc
quiet_touches n ended call reply quiet = refl

quiet_frames : (old new : TransactionsParts) (call : Call) (reply : Reply) → is_quiet call ≡ true → new.frames ≡ old.frames → TouchesWell old new call reply
quiet_frames old new call reply quiet same =
    subst (λ ps. ChangesFramesOf ps old.frames new.frames) (sym (quiet_touches (length old.frames) (pages_ended old.table call) call reply quiet)) (nothing_changed old.frames new.frames same)

quiet_on_cut : (call : Call) → is_of_cut call ≡ true → is_quiet call ≡ true
quiet_on_cut OpenCut on = refl
quiet_on_cut (Copy page) on = refl
quiet_on_cut EndCut on = refl
quiet_on_cut DropCut on = refl
quiet_on_cut _ on = absurd cc

pub cut_frames : (s : TransactionsParts) (call : Call) (reply : Reply) → is_of_cut call ≡ true → TouchesWell s s call reply
cut_frames s call reply on = quiet_frames s s call reply (quiet_on_cut call on) refl

-- a sweep that frees
pub swept_frames : (old new : TransactionsParts) (page slots : ℕ) (frame : Frame) → page < length old.frames → slots ≢ 0 → new.frames ≡ with_frame old.frames page frame → TouchesWell old new (Sweep page) (Freed slots)
swept_frames old new page slots frame low some same =
    subst (λ b. ChangesFramesOf (cond (not b) (page ∷ []) []) old.frames new.frames) (sym (ne_eqb slots 0 some)) (changes_of_one old.frames new.frames page page frame low refl same)

-- ---- what contracts see

one_ascends : (page : ℕ) → IsAscending (page ∷ [])
one_ascends page i j lt within = absurd (omega arith)

pub none_ascends : IsAscending []
none_ascends i j lt within = absurd (omega arith)

some_ascends : (b : Bool) (page : ℕ) → IsAscending (cond b (page ∷ []) [])
some_ascends true page = one_ascends page
some_ascends false page = none_ascends

touch_ascends : (n : ℕ) (ended : List ℕ) (call : Call) (reply : Reply) → IsAscending ended → IsAscending (touched_after n ended call reply)
touch_ascends n ended call (Refused why) h = none_ascends
touch_ascends n ended (Set txn name field target) reply h = one_ascends name.page
touch_ascends n ended (Put txn name value) reply h = one_ascends name.page
touch_ascends n ended (New txn page) reply h = one_ascends page
touch_ascends n ended (Commit txn) reply h = h
touch_ascends n ended (Abort txn) reply h = h
touch_ascends n ended (Sweep page) reply h = some_ascends (frees_some reply) page
touch_ascends n ended Reopen reply h = below_ascends n
touch_ascends n ended call reply h = none_ascends

ended_exact : (w : World) (table : Entries) (txn page : ℕ) → IsTable w table → has_page (pages_in (entry_of table txn)) page ≡ wrote w txn page
ended_exact w table txn page h = by (entry_of table txn) (find_transaction w txn) (h.each txn)
  where
    by : (o : Option OpenParts) (t : Option Transaction) → AreAlike o t → has_page (pages_in o) page ≡ has_page (unwrap_or t (fresh_transaction txn)).pages_written page
    by None None a = refl
    by None (Some t) a = absurd a
    by (Some e) None a = absurd a
    by (Some e) (Some t) a = a.written.each page

swept_exact : (b : Bool) (at page : ℕ) → has_page (cond b (at ∷ []) []) page ≡ (b && (at == page))
swept_exact true at page = or_false (at == page)
swept_exact false at page = refl

touch_exact : (w : World) (table : Entries) (n : ℕ) (call : Call) (reply : Reply) (page : ℕ) → n ≡ w.pages → IsTable w table
    → has_page (touched_after n (pages_ended table call) call reply) page ≡ may_touch w call reply page
touch_exact w table n call (Refused why) page is h = refl
touch_exact w table n (Set txn name field target) reply page is h = or_false (name.page == page)
touch_exact w table n (Put txn name value) reply page is h = or_false (name.page == page)
touch_exact w table n (New txn at) reply page is h = or_false (at == page)
touch_exact w table n (Commit txn) reply page is h = ended_exact w table txn page h
touch_exact w table n (Abort txn) reply page is h = ended_exact w table txn page h
touch_exact w table n (Sweep at) reply page is h = swept_exact (frees_some reply) at page
touch_exact w table n Reopen reply page is h = below_exact n page ∙ ap (nat_lt page) is
touch_exact w table n call reply page is h = refl

pub are_touched : (s new : TransactionsParts) (w : World) (call : Call) (reply : Reply) (count : ℕ) (ended : List ℕ) → AreTransactionsOf s w → TouchesWell s new call reply → count ≡ length new.frames
    → ended ≡ pages_ended s.table call → IsAscending ended → AreTouched w call reply s.frames new.frames (touched_after count ended call reply)
are_touched s new w call reply count ended stands changed is those ascending =
    subst (λ n. AreTouched w call reply s.frames new.frames (touched_after n ended call reply)) (sym (is ∙ changed.count))
    (subst (λ ps. AreTouched w call reply s.frames new.frames (touched_after (length s.frames) ps call reply)) (sym those)
    (record {
      ascending = touch_ascends (length s.frames) (pages_ended s.table call) call reply (subst IsAscending those ascending);
      exact = λ page. touch_exact w s.table (length s.frames) call reply page stands.frames.count stands.table;
      frames = changed;
    }))
