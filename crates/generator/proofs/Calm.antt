-- Which runs have seen a fault of the disk.
use Rattle.std.proofs.Common.{◌≡◌, ◌≢◌, refl, sym, ap, ◌∙◌, subst, ℕ, ◌+◌, ◌==◌, Bool, true, false, Option, Some, None, List, [], ◌∷◌, ◌++◌, append_assoc, if◌then◌else◌}
use Rattle.std.specs.List.{AllByRecursion}
use Rattle.std.specs.Prelude.{is_some}
use Rattle.disk_trait.specs.declared.disk.Disk.{Ghosts as DiskOf}
use Rattle.disk_trait.specs.Causes.{Rose}
use Rattle.object_graph.specs.NameParts.{NameParts}
use Rattle.object_graph.specs.Names.{root_name}
use Rattle.object_graph.specs.declared.calls.Call.{Call}
use Rattle.object_graph.specs.declared.calls.Call.TheVariants.{Set, Commit}
use Rattle.object_graph.specs.declared.calls.Reply.TheVariants.{Done, Committed, Refused}
use Rattle.object_graph.specs.declared.calls.Refusal.{Refusal}
use Rattle.object_graph.specs.declared.calls.Refusal.TheVariants.{Memory, DiskFault}
use Rattle.object_graph.specs.declared.calls.Entry.{Entry}
use Rattle.store_model.specs.Worlds.{World, Event}
use Rattle.store_model.specs.Steps.{next}
use Rattle.store_model.specs.Histories.{after, is_refused}
use Rattle.store_model.proofs.Parts.{after-append}
use Rattle.cut_core.specs.Seen.{Seen}
use Rattle.store_machine.specs.Faults.{NoneFailed}
use Rattle.generator.specs.Draws.{page_drawn, field_drawn, keep_drawn}
use Rattle.generator.specs.Rounds.{caller_entry, made_on, kept_in, writes_of, transaction_of, IsRound, AreRounds, StopsRound, entries_of, joined_rounds}
use Rattle.generator.specs.Making.{HasRun, HasStopped}
use Rattle.generator.specs.declared.asking.Stop.TheVariants.{Memory as ByMemory, DiskFault as ByDisk}
use Rattle.generator.specs.declared.summary.Tally.{Tally}

-- ---- no reply of a round is a fault

abbrev pub IsCalm : Entry → Type 0
IsCalm e = e.reply ≢ Refused DiskFault

abbrev pub AreCalm : List Entry → Type 0
AreCalm entries = AllByRecursion IsCalm entries

calm_join : (es fs : List Entry) → AreCalm es → AreCalm fs → AreCalm (es ++ fs)
calm_join [] fs a b = b
calm_join (e ∷ es) fs a b = (a.0, calm_join es fs a.1 b)

calm_front : (es fs : List Entry) → AreCalm (es ++ fs) → AreCalm es
calm_front [] fs a = tt
calm_front (e ∷ es) fs a = (a.0, calm_front es fs a.1)

made_calm : (page : ℕ) (made : Option NameParts) → made_on page made ≢ Refused DiskFault
made_calm page None = λ e. cc
made_calm page (Some name) = λ e. cc

kept_calm : (name : NameParts) (x : ℕ) (old : Option NameParts) → AreCalm (kept_in name x old)
kept_calm name x None = tt
kept_calm name x (Some old) = by_test (keep_drawn x == 1)
  where
    by_test : (b : Bool) → AreCalm (if b then caller_entry (Set 1 name 0 (Some old)) Done ∷ [] else [])
    by_test true = (λ e. cc, tt)
    by_test false = tt

writes_calm : (x i : ℕ) (old made : Option NameParts) → AreCalm (writes_of x i old made)
writes_calm x i old None = (λ e. cc, tt)
writes_calm x i old (Some name) =
    (λ e. cc, calm_join (kept_in name x old) (caller_entry (Set 1 root_name (field_drawn x) (Some name)) Done ∷ []) (kept_calm name x old) (λ e. cc, tt))

transaction_calm : (x i : ℕ) (old made : Option NameParts) → AreCalm (transaction_of x i old made)
transaction_calm x i old made =
    (λ e. cc, (λ e. cc, (made_calm (page_drawn x) made, calm_join (writes_of x i old made) (caller_entry (Commit 1) (Committed (i + 1)) ∷ []) (writes_calm x i old made) (λ e. cc, tt))))

answered_calm : (entries : List Entry) → AllByRecursion (λ (e : Entry). is_refused e.reply ≡ false) entries → AreCalm entries
answered_calm [] h = tt
answered_calm (e ∷ entries) h =
    (λ fault. let z : is_refused e.reply ≡ true = ap is_refused fault in let y = h.0 in cc, answered_calm entries h.1)

round_calm : (x i : ℕ) (entries : List Entry) → IsRound x i entries → AreCalm entries
round_calm x i entries r =
    subst AreCalm (sym r.are) (calm_join (transaction_of x i r.old r.made) r.collected (transaction_calm x i r.old r.made) (answered_calm r.collected r.answered.none_refused))

rounds_calm : (from i : ℕ) (rounds : List (List Entry)) → AreRounds from i rounds → AreCalm (joined_rounds rounds)
rounds_calm from i [] h = tt
rounds_calm from i (round ∷ rounds) h = calm_join round (joined_rounds rounds) (round_calm _ i round h.0) (rounds_calm from (i + 1) rounds h.1)

-- up to the call that stops it
stopping_calm : (x i : ℕ) (why : Refusal) (entries : List Entry) → why ≢ DiskFault → StopsRound x i why entries → AreCalm entries
stopping_calm x i why entries other s =
    subst AreCalm (sym s.are)
    (calm_join s.first (caller_entry s.call (Refused why) ∷ []) (calm_front s.first (caller_entry s.call s.answer ∷ s.later) (round_calm x i _ s.round))
    (λ e. other (same_why why DiskFault e), tt))
  where
    same_why : (a b : Refusal) → Refused a ≡ Refused b → a ≡ b
    same_why a b e = cc

none_failed : (history : List Event) → AreCalm (entries_of history) → NoneFailed history
none_failed [] h = tt
none_failed (e ∷ history) h = (h.0, none_failed history h.1)

-- ---- the last event

record EndsIn (history : List Event) (last : Entry) : Type 0 where
  before : List Event
  event : Event
  is : history ≡ before ++ event ∷ []
  entry_is : event.entry ≡ last

head_is : (a b : Entry) (es fs : List Entry) → ◌≡◌ {A = List Entry} (a ∷ es) (b ∷ fs) → a ≡ b
head_is a b es fs e = cc

tail_is : (a b : Entry) (es fs : List Entry) → ◌≡◌ {A = List Entry} (a ∷ es) (b ∷ fs) → es ≡ fs
tail_is a b es fs e = cc

none_is : (es : List Entry) (last : Entry) → ◌≡◌ {A = List Entry} [] (es ++ last ∷ []) → ⊥
none_is [] last e = cc
none_is (x ∷ es) last e = cc

ends_in : (history : List Event) (es : List Entry) (last : Entry) → entries_of history ≡ es ++ last ∷ [] → EndsIn history last
ends_in [] es last e = absurd (none_is es last e)
ends_in (x ∷ history) [] last e =
    record { before = []; event = x; is = ap (λ h. x ∷ h) (nothing_left history (tail_is x.entry last (entries_of history) [] e)); entry_is = head_is x.entry last (entries_of history) [] e }
  where
    nothing_left : (h : List Event) → entries_of h ≡ [] → h ≡ []
    nothing_left [] q = refl
    nothing_left (y ∷ h) q = cc
ends_in (x ∷ history) (y ∷ es) last e =
    let r = ends_in history es last (tail_is x.entry y (entries_of history) (es ++ last ∷ []) e) in
    record { before = x ∷ r.before; event = r.event; is = ap (λ h. x ∷ h) r.is; entry_is = r.entry_is }

breaks : (w : World) (e : Event) (call : Call) → e.entry ≡ caller_entry call (Refused DiskFault) → is_some (next w e).broken ≡ true
breaks w e call is = ap is_some (broken_now e.entry is)
  where
    broken_at : Entry → Option ℕ
    broken_at x = (next w (record { entry = x; note = e.note })).broken

    broken_now : (x : Entry) → x ≡ caller_entry call (Refused DiskFault) → broken_at x ≡ broken_at (caller_entry call (Refused DiskFault))
    broken_now x q = ap broken_at q

module _ {D : Type 0} (disks : DiskOf D) where
  pub run_calm : (a b : Seen D) (from count : ℕ) (tally : Tally) → HasRun disks a b from count tally → disks.fault_count b.disk ≡ disks.fault_count a.disk
  run_calm a b from count tally r =
      r.acts.calm (none_failed r.history (subst AreCalm (sym r.follows.are) (rounds_calm from 0 r.follows.rounds r.follows.each)))

  pub memory_calm : (a b : Seen D) (from count : ℕ) → HasStopped disks a b from count ByMemory → disks.fault_count b.disk ≡ disks.fault_count a.disk
  memory_calm a b from count s =
      s.acts.calm (none_failed s.history (subst AreCalm (sym s.follows.are)
      (calm_join (joined_rounds s.follows.rounds) s.follows.last (rounds_calm from 0 s.follows.rounds s.follows.each) (stopping_calm _ _ Memory s.follows.last (λ e. cc) s.follows.stops))))

  pub fault_rose : (a b : Seen D) (from count : ℕ) → a.world.broken ≡ None → HasStopped disks a b from count ByDisk → Rose (disks.fault_count a.disk) (disks.fault_count b.disk)
  fault_rose a b from count whole s =
      let t = s.follows.stops in
      let end = ends_in s.history (joined_rounds s.follows.rounds ++ t.first) (caller_entry t.call (Refused DiskFault))
      (s.follows.are ∙ (ap (λ es. joined_rounds s.follows.rounds ++ es) t.are ∙ sym (append_assoc (joined_rounds s.follows.rounds) t.first (caller_entry t.call (Refused DiskFault) ∷ [])))) in
      let last : b.world ≡ next (after a.world end.before) end.event =
      s.legal.last_is ∙ (ap (after a.world) end.is ∙ after-append a.world end.before (end.event ∷ [])) in
      s.acts.cause whole (ap (λ (w : World). is_some w.broken) last ∙ breaks (after a.world end.before) end.event t.call end.entry_is)
