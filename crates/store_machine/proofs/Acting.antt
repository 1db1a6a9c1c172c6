-- Calls one after the other.
use Rattle.std.proofs.Common.{◌≡◌, ◌≢◌, refl, sym, ap, ◌∙◌, subst, ℕ, Bool, true, false, inl, inr, ⊎_elim, List, [], ◌∷◌, ◌++◌, Option, Some, None, arith}
use Rattle.std.specs.Prelude.{IfSome, is_some}
use Rattle.object_graph.specs.declared.calls.Call.{Call}
use Rattle.object_graph.specs.declared.calls.Call.TheVariants.{Reopen}
use Rattle.object_graph.specs.declared.calls.Reply.{Reply}
use Rattle.object_graph.specs.declared.calls.Reply.TheVariants.{Refused, Reopened}
use Rattle.object_graph.specs.declared.calls.Refusal.{Refusal}
use Rattle.object_graph.specs.declared.calls.Refusal.TheVariants.{DiskFault, Memory}
use Rattle.disk_trait.specs.declared.disk.Disk.{Ghosts as DiskOf}
use Rattle.disk_trait.specs.Causes.{Rose}
use Rattle.disk_trait.specs.DiskFacts.{LeavesOnly, KeepsDisk}
use Rattle.store_model.specs.Worlds.{World, Event, Note, nothing, faults, found}
use Rattle.store_model.specs.Faults.{counts_noted}
use Rattle.store_model.specs.Replies.{Allows}
use Rattle.store_model.specs.Steps.{next}
use Rattle.store_model.specs.Histories.{after, HasPresentMarks}
use Rattle.image_model.specs.Stands.{StandsForWorld}
use Rattle.cut_core.specs.Calls.{event_of, note_of}
use Rattle.cut_core.specs.Reopening.{Happens, IsNoteOf, IsOfReopening, IsOpenedAnew}
use Rattle.cut_core.specs.Seen.{Seen, StandsForEither}
use Rattle.store_machine.specs.Acts.{Acts, Answered, StepsTo, RunsTo, StandsForFront, event_with}
use Rattle.store_model.proofs.FaultCounts.{none_ascends, ascend_over_parts}
use Rattle.store_machine.proofs.Moments.{if_some_map, if_some_told, if_some_both, leaves_more, leaves_then, front_none, front_all, front_before, front_after}
use Rattle.store_machine.proofs.Counts.{all_before, all_after, ascend_once, ascend_noted, present_marks, breaks, step_breaks, rose_later, rose_before, none_or_some, broken_not_none}
use Rattle.store_machine.proofs.Running.{runs_join, told_run}

module _ {D : Type 0} (disks : DiskOf D) where
  -- each crash now leaves the store's world, where the disk tells
  abbrev pub NowStands : Seen D → Type 0
  NowStands s = IfSome (disks.content s.disk) (λ _. (file : List ℕ) → disks.may_leave s.disk file → StandsForWorld file s.world)

  nothing_left : (s : Seen D) → ((disk : D) (file : List ℕ) → disks.left_since disk (disks.moment disk) file → disks.may_leave disk file)
      → ((file : List ℕ) → disks.may_leave s.disk file → StandsForWorld file s.world) → LeavesOnly disks s.disk s.disk (StandsForFront s.world [])
  nothing_left s only_now now = record {
    later = omega arith;
    each = λ file left. front_none s.world [] file (now file (only_now s.disk file left));
    before = λ t file le left. inl left;
  }

  pub acts_nothing : (s : Seen D) → ((disk : D) (file : List ℕ) → disks.left_since disk (disks.moment disk) file → disks.may_leave disk file) → NowStands s
      → Acts disks s s []
  acts_nothing s only_now now = record {
    runs = refl;
    keeps = record { size = refl; told = refl; later = omega arith };
    any_moment = if_some_map (disks.content s.disk) (nothing_left s only_now) now;
    now = now;
    faults = none_ascends (disks.fault_count s.disk) (disks.fault_count s.disk) [] refl (omega arith);
    calm = λ none. refl;
    cause = λ none some. absurd (broken_not_none s.world.broken none some);
  }

  either_front : (old new : Seen D) (e : Event) (file : List ℕ) → new.world ≡ next old.world e → StandsForEither old.world new.world file → StandsForFront old.world (e ∷ []) file
  either_front old new e file is s = ⊎_elim (λ a. front_none old.world (e ∷ []) file a) (λ b. front_all old.world new.world (e ∷ []) file is b) s

  pub acts_once : (old new : Seen D) (call : Call) (reply : Reply) → Allows old.world (event_of call reply (disks.fault_count new.disk)) → new.world ≡ next old.world (event_of call reply (disks.fault_count new.disk))
      → IfSome (disks.content old.disk) (λ _. LeavesOnly disks old.disk new.disk (StandsForEither old.world new.world)) → NowStands new
      → (reply ≡ Refused DiskFault → Rose (disks.fault_count old.disk) (disks.fault_count new.disk)) → (reply ≢ Refused DiskFault → disks.fault_count new.disk ≡ disks.fault_count old.disk) → KeepsDisk disks old.disk new.disk
      → Acts disks old new (event_of call reply (disks.fault_count new.disk) ∷ [])
  acts_once old new call reply allowed is moments now fault calm keeps = record {
    runs = (new.world, record { lane = refl; marks = present_marks old.world call reply (disks.fault_count new.disk); is = inl (allowed, is) }, refl);
    keeps = keeps;
    any_moment = if_some_map (disks.content old.disk)
        (leaves_more disks old.disk new.disk (StandsForEither old.world new.world) (StandsForFront old.world (event_of call reply (disks.fault_count new.disk) ∷ []))
        (λ file s. either_front old new (event_of call reply (disks.fault_count new.disk)) file is s)) moments;
    now = now;
    faults = ascend_once call reply (disks.fault_count old.disk) (disks.fault_count new.disk) fault keeps.later;
    calm = λ none. calm none.0;
    cause = λ none some. fault (breaks old.world new.world call reply (note_of reply (disks.fault_count new.disk)) is none some);
  }

  pub answered_once : (old new : Seen D) (call : Call) (reply : Reply) → Allows old.world (event_of call reply (disks.fault_count new.disk)) → new.world ≡ next old.world (event_of call reply (disks.fault_count new.disk))
      → IfSome (disks.content old.disk) (λ _. LeavesOnly disks old.disk new.disk (StandsForEither old.world new.world)) → NowStands new
      → (reply ≡ Refused DiskFault → Rose (disks.fault_count old.disk) (disks.fault_count new.disk)) → (reply ≢ Refused DiskFault → disks.fault_count new.disk ≡ disks.fault_count old.disk) → KeepsDisk disks old.disk new.disk
      → Answered disks old new call reply
  answered_once old new call reply allowed is moments now fault calm keeps =
      record { note = note_of reply (disks.fault_count new.disk); acts = acts_once old new call reply allowed is moments now fault calm keeps }

  left_still : (disk : D) (P : List ℕ → Type 0) → ((d : D) (file : List ℕ) → disks.left_since d (disks.moment d) file → disks.may_leave d file)
      → ((file : List ℕ) → disks.may_leave disk file → P file) → LeavesOnly disks disk disk P
  left_still disk P only_now now = record {
    later = omega arith;
    each = λ file left. now file (only_now disk file left);
    before = λ t file le left. inl left;
  }

  -- a call that leaves the disk as it is, and notes no fault
  pub acts_still : (old new : Seen D) (call : Call) (reply : Reply) (note : Note) → ((d : D) (file : List ℕ) → disks.left_since d (disks.moment d) file → disks.may_leave d file)
      → Allows old.world (event_with call reply note) → new.world ≡ next old.world (event_with call reply note) → new.disk ≡ old.disk → NowStands new
      → HasPresentMarks old.world call note → counts_noted (event_with call reply note ∷ []) ≡ [] → reply ≢ Refused DiskFault
      → Acts disks old new (event_with call reply note ∷ [])
  acts_still old new call reply note only_now allowed is same now marks counts never =
      let moments : IfSome (disks.content old.disk) (λ _. LeavesOnly disks old.disk old.disk (StandsForFront old.world (event_with call reply note ∷ []))) =
      if_some_map (disks.content old.disk)
      (λ stands. left_still old.disk (StandsForFront old.world (event_with call reply note ∷ [])) only_now
      (λ file left. front_all old.world new.world (event_with call reply note ∷ []) file is (stands file left)))
      (subst (λ (d : D). IfSome (disks.content d) (λ _. (file : List ℕ) → disks.may_leave d file → StandsForWorld file new.world)) same now) in
      record {
        runs = (new.world, record { lane = refl; marks = marks; is = inl (allowed, is) }, refl);
        keeps = subst (λ (d : D). KeepsDisk disks old.disk d) (sym same) (record { size = refl; told = refl; later = omega arith });
        any_moment = subst (λ (d : D). IfSome (disks.content old.disk) (λ _. LeavesOnly disks old.disk d (StandsForFront old.world (event_with call reply note ∷ [])))) (sym same) moments;
        now = now;
        faults = none_ascends (disks.fault_count old.disk) (disks.fault_count new.disk) (event_with call reply note ∷ []) counts (omega (arith, ap disks.fault_count same));
        calm = λ none. ap disks.fault_count same;
        cause = λ none some. absurd (never (breaks old.world new.world call reply note is none some));
      }

  after_front : (a b : Seen D) (history : List Event) → RunsTo (is_some (disks.content a.disk)) a.world history b.world → is_some (disks.content a.disk) ≡ true → b.world ≡ after a.world history
  after_front a b history r told = (told_run (is_some (disks.content a.disk)) a.world b.world history told r).last_is

  pub acts_join : (a b c : Seen D) (history part : List Event) → Acts disks a b history → Acts disks b c part
      → Acts disks a c (history ++ part)
  acts_join a b c history part x y = record {
    runs = runs_join (is_some (disks.content a.disk)) a.world b.world c.world history part x.runs
        (subst (λ (told : Bool). RunsTo told b.world part c.world) x.keeps.told y.runs);
    keeps = record { size = y.keeps.size ∙ x.keeps.size; told = y.keeps.told ∙ x.keeps.told; later = omega (arith, x.keeps.later, y.keeps.later) };
    any_moment = if_some_both (disks.content a.disk) (disks.content b.disk) x.keeps.told
        (λ told (p : LeavesOnly disks a.disk b.disk (StandsForFront a.world history)) (q : LeavesOnly disks b.disk c.disk (StandsForFront b.world part)).
        leaves_then disks a.disk b.disk c.disk (StandsForFront a.world (history ++ part))
        (leaves_more disks a.disk b.disk (StandsForFront a.world history) (StandsForFront a.world (history ++ part)) (λ file s. front_before a.world history part file s) p)
        (leaves_more disks b.disk c.disk (StandsForFront b.world part) (StandsForFront a.world (history ++ part)) (λ file s. front_after a.world b.world history part file (after_front a b history x.runs told) s) q))
        x.any_moment y.any_moment;
    now = y.now;
    faults = ascend_over_parts (disks.fault_count a.disk) (disks.fault_count b.disk) (disks.fault_count c.disk) history part x.faults y.faults;
    calm = λ none. y.calm (all_after history part none) ∙ x.calm (all_before history part none);
    cause = λ none some. none_or_some b.world.broken
        (λ mid. rose_later (disks.fault_count a.disk) (disks.fault_count b.disk) (disks.fault_count c.disk) x.faults.later (y.cause mid some))
        (λ mid. rose_before (disks.fault_count a.disk) (disks.fault_count b.disk) (disks.fault_count c.disk) (x.cause none mid) y.faults.later);
  }

  -- ---- a reopening

  -- a reopening's note, and the step that it makes
  record Reopening (told : Bool) (w v : World) (reply : Reply) (count : ℕ) : Type 0 where
    note : Note
    is_note : IsNoteOf reply count note
    step : StepsTo told w (event_with Reopen reply note) v

  told_step : (told : Bool) (w v : World) (reply : Reply) (count : ℕ) → Happens w Reopen reply count v → Reopening told w v reply count
  told_step told w v reply count h = record { note = h.note; is_note = h.is_note; step = record { lane = refl; marks = tt; is = inl (h.allowed, h.is) } }

  refused_anew : (w v : World) (why : Refusal) (count : ℕ) → (Refused why ≢ Refused DiskFault → v ≡ w) → (Refused why ≡ Refused DiskFault → v ≡ next w (event_of Reopen (Refused why) count))
      → Reopening false w v (Refused why) count
  refused_anew w v DiskFault count kept broken = record { note = faults count; is_note = refl; step = record { lane = refl; marks = tt; is = inl ((refl, refl), broken refl) } }
  refused_anew w v Memory count kept broken = record { note = nothing; is_note = refl; step = record { lane = refl; marks = tt; is = inl ((refl, refl), kept (λ e. cc)) } }
  refused_anew w v _ count kept broken = record { note = nothing; is_note = refl; step = record { lane = refl; marks = tt; is = inr (refl, record { call = refl; finds = kept (λ e. cc) }) } }

  untold_step : (w v : World) (reply : Reply) (count : ℕ) → IsOfReopening reply → ((commits : ℕ) → reply ≡ Reopened commits → IsOpenedAnew w commits v)
      → ((why : Refusal) → reply ≡ Refused why → why ≢ DiskFault → v ≡ w) → (reply ≡ Refused DiskFault → v ≡ next w (event_of Reopen reply count)) → Reopening false w v reply count
  untold_step w v (Reopened commits) count answer anew kept broken =
      record { note = found []; is_note = ([], refl); step = record { lane = refl; marks = tt; is = inr (refl, record { call = refl; finds = anew commits refl }) } }
  untold_step w v (Refused why) count answer anew kept broken = refused_anew w v why count (λ other. kept why refl (λ e. other (ap (λ y. Refused y) e))) broken
  untold_step w v _ count answer anew kept broken = absurd answer

  reopens : (o : Option (List ℕ)) (w v : World) (reply : Reply) (count : ℕ) → IsOfReopening reply → IfSome o (λ file. Happens w Reopen reply count v)
      → ((commits : ℕ) → reply ≡ Reopened commits → o ≡ None → IsOpenedAnew w commits v)
      → ((why : Refusal) → reply ≡ Refused why → why ≢ DiskFault → v ≡ w) → (reply ≡ Refused DiskFault → v ≡ next w (event_of Reopen reply count)) → Reopening (is_some o) w v reply count
  reopens None w v reply count answer happens anew kept broken = untold_step w v reply count answer (λ commits is. anew commits is refl) kept broken
  reopens (Some file) w v reply count answer happens anew kept broken = told_step true w v reply count happens

  pub answered_reopen : (old new : Seen D) (reply : Reply) → IsOfReopening reply → IfSome (disks.content old.disk) (λ file. Happens old.world Reopen reply (disks.fault_count new.disk) new.world)
      → ((commits : ℕ) → reply ≡ Reopened commits → disks.content old.disk ≡ None → IsOpenedAnew old.world commits new.world)
      → ((why : Refusal) → reply ≡ Refused why → why ≢ DiskFault → new.world ≡ old.world) → (reply ≡ Refused DiskFault → new.world ≡ next old.world (event_of Reopen reply (disks.fault_count new.disk)))
      → IfSome (disks.content old.disk) (λ _. LeavesOnly disks old.disk new.disk (StandsForEither old.world new.world)) → NowStands new
      → (reply ≡ Refused DiskFault → Rose (disks.fault_count old.disk) (disks.fault_count new.disk)) → (reply ≢ Refused DiskFault → disks.fault_count new.disk ≡ disks.fault_count old.disk) → KeepsDisk disks old.disk new.disk
      → Answered disks old new Reopen reply
  answered_reopen old new reply answer happens anew kept broken moments now fault calm keeps =
      let r = reopens (disks.content old.disk) old.world new.world reply (disks.fault_count new.disk) answer happens anew kept broken in
      let runs : RunsTo (is_some (disks.content old.disk)) old.world (event_with Reopen reply r.note ∷ []) new.world = (new.world, r.step, refl) in
      record {
        note = r.note;
        acts = record {
          runs = runs;
          keeps = keeps;
          any_moment = if_some_told (disks.content old.disk)
              (λ told. leaves_more disks old.disk new.disk (StandsForEither old.world new.world) (StandsForFront old.world (event_with Reopen reply r.note ∷ []))
              (λ file s. either_front old new (event_with Reopen reply r.note) file (after_front old new (event_with Reopen reply r.note ∷ []) runs told) s)) moments;
          now = now;
          faults = ascend_noted Reopen reply r.note (disks.fault_count old.disk) (disks.fault_count new.disk) r.is_note fault keeps.later;
          calm = λ none. calm none.0;
          cause = λ none some. fault (step_breaks (is_some (disks.content old.disk)) old.world new.world Reopen reply r.note r.step none some);
        };
      }
