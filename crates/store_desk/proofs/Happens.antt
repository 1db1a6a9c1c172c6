-- What one event of the core does.
use Rattle.std.proofs.Common.{◌≡◌, ◌≢◌, refl, sym, ap, ◌∙◌, subst, ℕ, inl, inr, ⊎_elim, List, [], ◌∷◌, Option, Some, None, arith}
use Rattle.std.specs.Prelude.{IfSome, IfOk, IsTrue, is_some, unwrap_or, Result, Ok, Err}
use Rattle.object_graph.specs.NameParts.{NameParts}
use Rattle.object_graph.specs.declared.calls.Call.{Call}
use Rattle.object_graph.specs.declared.calls.Call.TheVariants.{Close, Mark, Reopen}
use Rattle.object_graph.specs.declared.calls.Refusal.{Refusal}
use Rattle.object_graph.specs.declared.calls.Refusal.TheVariants.{DiskFault}
use Rattle.object_graph.specs.declared.calls.Reply.{Reply}
use Rattle.object_graph.specs.declared.calls.Reply.TheVariants.{Done, Refused, Reopened}
use Rattle.disk_trait.specs.declared.disk.Disk.{Ghosts as DiskOf}
use Rattle.disk_trait.specs.Causes.{Rose}
use Rattle.disk_trait.specs.DiskFacts.{LeavesOnly, KeepsDisk}
use Rattle.store_model.specs.Worlds as model
use Rattle.store_model.specs.Worlds.{World, nothing, faults, images, marks, found}
use Rattle.store_model.specs.Faults.{FaultsAscend, counts_noted}
use Rattle.store_model.specs.Replies.{Allows, has_note}
use Rattle.store_model.specs.Steps.{next}
use Rattle.store_model.proofs.FaultCounts.{none_ascends}
use Rattle.image_model.specs.Stands.{StandsForWorld}
use Rattle.cut_model.specs.CutPages.{CutPage}
use Rattle.cut_builder.specs.CutParts.{ClosedParts, MarkedParts}
use Rattle.cut_core.specs.Calls.{event_of, note_of}
use Rattle.cut_core.specs.Given.{HasGiven, IsCutOf, close_event, closed_note, closed_reply, mark_event, marked_reply}
use Rattle.cut_core.specs.Reopening.{Happens, IsNoteOf, IsOpenedAnew, IsOfReopening}
use Rattle.cut_core.specs.Seen.{Seen, StandsForEither}
use Rattle.store_machine.proofs.Counts.{ascend_once, breaks, broken_not_none}
use Rattle.store_machine.proofs.Moments.{if_some_map}
use Rattle.store_machine.proofs.Marked.{mark_never_fails, refused_other}
use Rattle.store_machine.proofs.Pages.{pages-after_reply}
use Rattle.store_desk.specs.Chronicles.{IsKnown, KeepsCut}
use Rattle.store_desk.specs.Events.{entry, note_in, told, Keeps, plain_note}
use Rattle.store_desk.specs.Happenings.{Happened, FindsFreed, reopening}
use Rattle.store_desk.specs.declared.event.Event.{Event}
use Rattle.store_desk.specs.declared.event.Note.{Note}
use Rattle.store_desk.specs.declared.event.Note.TheVariants.{Marks}

-- an event of a lane
abbrev pub event : ℕ → Call → Reply → Note → Event
event lane call reply note = record { entry = entry lane call reply; note = note }

-- the same for the model
abbrev pub happening : ℕ → Call → Reply → model.Note → model.Event
happening lane call reply note = record { entry = entry lane call reply; note = note }

-- no event changes the number of pages
same_pages : (w v : World) (e : model.Event) → v ≡ next w e → v.pages ≡ w.pages
same_pages w v e is = ap (λ (x : World). x.pages) is ∙ pages-after_reply w e.entry.call e.note e.entry.reply

-- ---- notes

-- after a disk fault the world has the disk's count
noted : (w v : World) (call : Call) (reply : Reply) (n : ℕ) → v ≡ next w (event_of call reply n) → note_in (plain_note reply v.broken) ≡ note_of reply n
noted w v call (Refused DiskFault) n is = ap (λ (x : World). faults (unwrap_or x.broken 0)) is
noted w v call (Refused why) n is = refl
noted w v call reply n is = refl

gives_nothing : (reply : Reply) (broken : Option ℕ) (cut : ClosedParts) → Keeps (plain_note reply broken) cut → ⊥
gives_nothing (Refused DiskFault) broken cut keeps = keeps
gives_nothing (Refused why) broken cut keeps = keeps
gives_nothing reply broken cut keeps = keeps

module _ {D : Type 0} (disks : DiskOf D) (old new : Seen D) where
  abbrev Either : Type 0
  Either = IfSome (disks.content old.disk) (λ _. LeavesOnly disks old.disk new.disk (StandsForEither old.world new.world))

  abbrev NowStands : Type 0
  NowStands = IfSome (disks.content new.disk) (λ _. (file : List ℕ) → disks.may_leave new.disk file → StandsForWorld file new.world)

  abbrev KeepsGiven : Type 0
  KeepsGiven = (number : ℕ) (pages : List CutPage) → HasGiven old.world old.beside number pages → HasGiven new.world new.beside number pages

  -- ---- a call

  pub happened_call : (lane : ℕ) (call : Call) (reply : Reply) (e : Event) → e ≡ event lane call reply (plain_note reply new.world.broken)
      → Allows old.world (event_of call reply (disks.fault_count new.disk)) → new.world ≡ next old.world (event_of call reply (disks.fault_count new.disk)) → Either → NowStands
      → (reply ≡ Refused DiskFault → Rose (disks.fault_count old.disk) (disks.fault_count new.disk)) → (reply ≢ Refused DiskFault → disks.fault_count new.disk ≡ disks.fault_count old.disk) → KeepsDisk disks old.disk new.disk → KeepsGiven
      → Happened disks old new e
  happened_call lane call reply e is allowed world moments now fault calm keeps given =
      let n = disks.fault_count new.disk in
      let note : note_in (plain_note reply new.world.broken) ≡ note_of reply n = noted old.world new.world call reply n world in
      let ascends = ascend_once call reply (disks.fault_count old.disk) n fault keeps.later in
      let same : told (event lane call reply (plain_note reply new.world.broken)) ≡ happening lane call reply (note_of reply n) = ap (happening lane call reply) note in
      subst (Happened disks old new) (sym is) (record {
        allowed = λ known. subst (Allows old.world) (sym same) allowed;
        is = λ known. world ∙ ap (next old.world) (sym same);
        pages = same_pages old.world new.world (event_of call reply n) world;
        cut = λ cut k. absurd (gives_nothing reply new.world.broken cut k);
        given = given;
        gives = λ cut k. absurd (gives_nothing reply new.world.broken cut k);
        keeps = keeps;
        any_moment = moments;
        now = now;
        faults = subst (λ (h : model.Event). FaultsAscend (disks.fault_count old.disk) n (h ∷ [])) (sym same) (record { later = ascends.later; ascend = ascends.ascend });
        calm = calm;
        cause = λ none some. fault (breaks old.world new.world call reply (note_of reply n) world none some);
      })

  -- ---- a call that leaves the disk as it is

  pub happened_still : (e : Event) → ((d : D) (file : List ℕ) → disks.left_since d (disks.moment d) file → disks.may_leave d file)
      → Allows old.world (told e) → new.world ≡ next old.world (told e) → new.disk ≡ old.disk → NowStands → KeepsCut old.world e.note → KeepsGiven
      → ((cut : ClosedParts) → Keeps e.note cut → HasGiven new.world new.beside cut.number cut.pages) → counts_noted (told e ∷ []) ≡ [] → e.entry.reply ≢ Refused DiskFault
      → Happened disks old new e
  happened_still e only_now allowed world same now cut given gives counts never =
      let still : IfSome (disks.content old.disk) (λ _. LeavesOnly disks old.disk old.disk (StandsForEither old.world new.world)) =
      if_some_map (disks.content old.disk) (λ (stands : (file : List ℕ) → disks.may_leave old.disk file → StandsForWorld file new.world). record {
        later = omega arith;
        each = λ file left. inr (stands file (only_now old.disk file left));
        before = λ t file le left. inl left;
      }) (subst (λ (d : D). IfSome (disks.content d) (λ _. (file : List ℕ) → disks.may_leave d file → StandsForWorld file new.world)) same now) in record {
        allowed = λ known. allowed;
        is = λ known. world;
        pages = same_pages old.world new.world (told e) world;
        cut = cut;
        given = given;
        gives = gives;
        keeps = subst (λ (d : D). KeepsDisk disks old.disk d) (sym same) (record { size = refl; told = refl; later = omega arith });
        any_moment = subst (λ (d : D). IfSome (disks.content old.disk) (λ _. LeavesOnly disks old.disk d (StandsForEither old.world new.world))) (sym same) still;
        now = now;
        faults = none_ascends (disks.fault_count old.disk) (disks.fault_count new.disk) (told e ∷ []) counts (omega (arith, ap disks.fault_count same));
        calm = λ other. ap disks.fault_count same;
        cause = λ none some. absurd (never (breaks old.world new.world e.entry.call e.entry.reply (note_in e.note) world none some));
      }

  -- ---- marks

  pub happened_marks : (lane workers : ℕ) (number : Option ℕ) (reply : Reply) (e : Event) → ((d : D) (file : List ℕ) → disks.left_since d (disks.moment d) file → disks.may_leave d file)
      → e ≡ event lane (Mark workers) reply (Marks number) → Allows old.world (mark_event workers number reply) → new.world ≡ next old.world (mark_event workers number reply) → reply ≢ Refused DiskFault
      → new.disk ≡ old.disk → NowStands → KeepsGiven → Happened disks old new e
  happened_marks lane workers number reply e only_now is allowed world never same now given =
      subst (Happened disks old new) (sym is)
      (happened_still (event lane (Mark workers) reply (Marks number)) only_now allowed world same now (λ cut k. absurd k) given (λ cut k. absurd k) refl never)

  -- marks that the core was given
  pub marks_done : (lane workers number : ℕ) (reply : Reply) (answer : Result (Unit {0}) (MarkedParts × Refusal)) (e : Event) → ((d : D) (file : List ℕ) → disks.left_since d (disks.moment d) file → disks.may_leave d file)
      → reply ≡ marked_reply answer → e ≡ event lane (Mark workers) reply (Marks (Some number)) → Allows old.world (mark_event workers (Some number) (marked_reply answer))
      → new.world ≡ next old.world (mark_event workers (Some number) (marked_reply answer)) → new.disk ≡ old.disk → NowStands → KeepsGiven → Happened disks old new e
  marks_done lane workers number reply answer e only_now is said allowed world same now given =
      happened_marks lane workers (Some number) (marked_reply answer) e only_now (said ∙ ap (λ r. event lane (Mark workers) r (Marks (Some number))) is) allowed world (never answer allowed) same now given
    where
      never : (r : Result (Unit {0}) (MarkedParts × Refusal)) → Allows old.world (mark_event workers (Some number) (marked_reply r)) → marked_reply r ≢ Refused DiskFault
      never (Ok done) may = λ is. cc
      never (Err back) may = refused_other back.1 (mark_never_fails old.world workers (Some number) back.1 may)

  -- ---- the closing

  pub closing_done : (lane : ℕ) (answer : Result ClosedParts Refusal) (note : Note) (e : Event) → ((d : D) (file : List ℕ) → disks.left_since d (disks.moment d) file → disks.may_leave d file)
      → e ≡ event lane Close (closed_reply answer) note → note_in note ≡ closed_note answer → ((cut : ClosedParts) → Keeps note cut → answer ≡ Ok cut)
      → Allows old.world (close_event answer) → new.world ≡ next old.world (close_event answer) → new.disk ≡ old.disk → NowStands → KeepsGiven
      → IfOk answer (λ cut. IsCutOf old.world cut) → IfOk answer (λ cut. HasGiven new.world new.beside cut.number cut.pages) → Happened disks old new e
  closing_done lane (Ok closed) note e only_now is note_is keeps allowed world same now given sound gives =
      let kept : (cut : ClosedParts) → Keeps note cut → closed ≡ cut = λ cut k. of_ok (keeps cut k) in
      subst (Happened disks old new) (sym is)
      (happened_still (event lane Close Done note) only_now
      (subst (λ n. Allows old.world (happening lane Close Done n)) (sym note_is) allowed)
      (world ∙ ap (λ n. next old.world (happening lane Close Done n)) (sym note_is)) same now
      (λ cut k. subst (λ (x : ClosedParts). IsCutOf old.world x) (kept cut k) sound) given
      (λ cut k. subst (λ (x : ClosedParts). HasGiven new.world new.beside x.number x.pages) (kept cut k) gives)
      (ap (λ n. counts_noted (happening lane Close Done n ∷ [])) note_is) (λ f. cc))
    where
      of_ok : {a b : ClosedParts} → (let r : Result ClosedParts Refusal = Ok a in r) ≡ Ok b → a ≡ b
      of_ok f = cc
  closing_done lane (Err why) note e only_now is note_is keeps allowed world same now given sound gives =
      subst (Happened disks old new) (sym is)
      (happened_still (event lane Close (Refused why) note) only_now
      (subst (λ n. Allows old.world (happening lane Close (Refused why) n)) (sym note_is) allowed)
      (world ∙ ap (λ n. next old.world (happening lane Close (Refused why) n)) (sym note_is)) same now
      (λ cut k. absurd (not_ok (keeps cut k))) given (λ cut k. absurd (not_ok (keeps cut k)))
      (ap (λ n. counts_noted (happening lane Close (Refused why) n ∷ [])) note_is)
      (λ f. let never : IsTrue (has_note Close (Refused DiskFault) nothing) = subst (λ r. IsTrue (has_note Close r nothing)) f allowed.0 in absurd cc))
    where
      not_ok : {cut : ClosedParts} → (let r : Result ClosedParts Refusal = Err why in r) ≡ Ok cut → ⊥
      not_ok f = cc

  -- ---- the reopening

  pub happened_found : (lane commits : ℕ) (names : List NameParts) (reply : Reply) (e : Event) → reply ≡ Reopened commits → e.entry ≡ entry lane Reopen reply → note_in e.note ≡ found names → ((cut : ClosedParts) → Keeps e.note cut → ⊥)
      → IfSome (disks.content old.disk) (λ _. FindsFreed old.world new.world reply names) → (disks.content old.disk ≡ None → IsOpenedAnew old.world commits new.world)
      → Either → NowStands → disks.fault_count new.disk ≡ disks.fault_count old.disk → KeepsDisk disks old.disk new.disk → KeepsGiven → Happened disks old new e
  happened_found lane commits names reply e opened is note none finds anew moments now calm keeps given =
      let said : told e ≡ happening lane Reopen reply (found names) =
      ap (λ en. let h : model.Event = record { entry = en; note = note_in e.note } in h) is ∙ ap (happening lane Reopen reply) note in record {
        allowed = λ known. let f = known_finds (disks.content old.disk) finds known (ap (λ en. en.call) is) in subst (Allows old.world) (sym said) f.allowed;
        is = λ known. let f = known_finds (disks.content old.disk) finds known (ap (λ en. en.call) is) in f.is ∙ ap (next old.world) (sym said);
        pages = pages_after (disks.content old.disk) finds anew;
        cut = λ cut k. absurd (none cut k);
        given = given;
        gives = λ cut k. absurd (none cut k);
        keeps = keeps;
        any_moment = moments;
        now = now;
        faults = none_ascends (disks.fault_count old.disk) (disks.fault_count new.disk) (told e ∷ []) (ap (λ (h : model.Event). counts_noted (h ∷ [])) said) keeps.later;
        calm = λ other. calm;
        cause = λ was some. absurd (stays (disks.content old.disk) finds anew was some);
      }
    where
      known_finds : (o : Option (List ℕ)) → IfSome o (λ _. FindsFreed old.world new.world reply names) → IsKnown o (told e ∷ []) → e.entry.call ≡ Reopen → FindsFreed old.world new.world reply names
      known_finds None f known is = ⊎_elim (λ t. absurd (let z : ⊥ = cc in z)) (λ all. absurd (all.0 is)) known
      known_finds (Some file) f known is = f

      pages_after : (o : Option (List ℕ)) → IfSome o (λ _. FindsFreed old.world new.world reply names) → (o ≡ None → IsOpenedAnew old.world commits new.world) → new.world.pages ≡ old.world.pages
      pages_after None f anew = let a = anew refl in ap (λ (w : World). w.pages) a.is ∙ a.pages
      pages_after (Some file) f anew = same_pages old.world new.world (reopening reply names) f.is

      stays : (o : Option (List ℕ)) → IfSome o (λ _. FindsFreed old.world new.world reply names) → (o ≡ None → IsOpenedAnew old.world commits new.world) → old.world.broken ≡ None → IsTrue (is_some new.world.broken) → ⊥
      stays None f anew was some = let a = anew refl in broken_not_none new.world.broken (ap (λ (w : World). w.broken) a.is) some
      stays (Some file) f anew was some = let b : reply ≡ Refused DiskFault = breaks old.world new.world Reopen reply (found names) f.is was some in absurd (let z : Reopened commits ≡ Refused DiskFault = sym opened ∙ b in cc)

  pub happened_not : (lane : ℕ) (why : Refusal) (e : Event) → e ≡ event lane Reopen (Refused why) (plain_note (Refused why) new.world.broken)
      → IfSome (disks.content old.disk) (λ _. Happens old.world Reopen (Refused why) (disks.fault_count new.disk) new.world)
      → (why ≢ DiskFault → new.world ≡ old.world) → (why ≡ DiskFault → new.world ≡ next old.world (event_of Reopen (Refused why) (disks.fault_count new.disk)))
      → Either → NowStands → (why ≡ DiskFault → Rose (disks.fault_count old.disk) (disks.fault_count new.disk)) → (why ≢ DiskFault → disks.fault_count new.disk ≡ disks.fault_count old.disk) → KeepsDisk disks old.disk new.disk → KeepsGiven
      → Happened disks old new e
  happened_not lane why e is happens kept broken moments now fault calm keeps given =
      let n = disks.fault_count new.disk in
      let world : new.world ≡ next old.world (event_of Reopen (Refused why) n) = next_of why kept broken in
      let note : note_in (plain_note (Refused why) new.world.broken) ≡ note_of (Refused why) n = noted old.world new.world Reopen (Refused why) n world in
      let same : told (event lane Reopen (Refused why) (plain_note (Refused why) new.world.broken)) ≡ happening lane Reopen (Refused why) (note_of (Refused why) n) = ap (happening lane Reopen (Refused why)) note in
      let ascends = ascend_once Reopen (Refused why) (disks.fault_count old.disk) n (λ f. fault (refusal_is why f)) keeps.later in
      subst (Happened disks old new) (sym is) (record {
        allowed = λ known. subst (Allows old.world) (sym same) (known_allows (disks.content old.disk) happens known);
        is = λ known. world ∙ ap (next old.world) (sym same);
        pages = same_pages old.world new.world (event_of Reopen (Refused why) n) world;
        cut = λ cut k. absurd (gives_nothing (Refused why) new.world.broken cut k);
        given = given;
        gives = λ cut k. absurd (gives_nothing (Refused why) new.world.broken cut k);
        keeps = keeps;
        any_moment = moments;
        now = now;
        faults = subst (λ (h : model.Event). FaultsAscend (disks.fault_count old.disk) n (h ∷ [])) (sym same) (record { later = ascends.later; ascend = ascends.ascend });
        calm = λ other. calm (λ f. other (ap (λ w. Refused w) f));
        cause = λ none some. fault (refusal_is why (breaks old.world new.world Reopen (Refused why) (note_of (Refused why) n) world none some));
      })
    where
      refusal_is : (why : Refusal) → Refused why ≡ Refused DiskFault → why ≡ DiskFault
      refusal_is why is = cc

      next_of : (why : Refusal) → (why ≢ DiskFault → new.world ≡ old.world) → (why ≡ DiskFault → new.world ≡ next old.world (event_of Reopen (Refused why) (disks.fault_count new.disk)))
          → new.world ≡ next old.world (event_of Reopen (Refused why) (disks.fault_count new.disk))
      next_of DiskFault kept broken = broken refl
      next_of _ kept broken = kept (λ e. cc)

      noted_as : (why : Refusal) (n : ℕ) (m : model.Note) → IsNoteOf (Refused why) n m → m ≡ note_of (Refused why) n
      noted_as DiskFault n m is = is
      noted_as _ n m is = is

      known_allows : (o : Option (List ℕ)) → IfSome o (λ _. Happens old.world Reopen (Refused why) (disks.fault_count new.disk) new.world)
          → IsKnown o (told (event lane Reopen (Refused why) (plain_note (Refused why) new.world.broken)) ∷ []) → Allows old.world (event_of Reopen (Refused why) (disks.fault_count new.disk))
      known_allows None h known = ⊎_elim (λ t. absurd (let z : ⊥ = cc in z)) (λ all. absurd (all.0 refl)) known
      known_allows (Some file) h known = subst (λ m. Allows old.world (happening 1 Reopen (Refused why) m)) (noted_as why (disks.fault_count new.disk) h.note h.is_note) h.allowed

-- ---- the names that a reopening found

-- there are some with which it is allowed, where the disk tells
pub some_names : (content : Option (List ℕ)) (old new : World) (reply : Reply) (count commits : ℕ) → reply ≡ Reopened commits → IfSome content (λ _. Happens old Reopen reply count new)
    → (names : List NameParts) × IfSome content (λ _. FindsFreed old new reply names)
some_names None old new reply count commits is happens = ([], tt)
some_names (Some file) old new reply count commits is happens =
    let note : IsNoteOf (Reopened commits) count happens.note = subst (λ r. IsNoteOf r count happens.note) is happens.is_note in (
      note.0,
      record {
        allowed = subst (λ m. Allows old (happening 1 Reopen reply m)) note.1 happens.allowed;
        is = happens.is ∙ ap (λ m. next old (happening 1 Reopen reply m)) note.1;
      },
    )

-- what isn't a reopening is refused
pub not_reopened : (reply : Reply) → IsOfReopening reply → ((commits : ℕ) → reply ≡ Reopened commits → ⊥) → (why : Refusal) × (reply ≡ Refused why)
not_reopened (Reopened commits) of other = absurd (other commits refl)
not_reopened (Refused why) of other = (why, refl)
not_reopened reply of other = absurd of

-- a reopening that was refused
pub happened_refused : {D : Type 0} (disks : DiskOf D) (old new : Seen D) (lane : ℕ) (why : Refusal) (reply : Reply) (e : Event) → reply ≡ Refused why → e ≡ event lane Reopen reply (plain_note reply new.world.broken)
    → IfSome (disks.content old.disk) (λ _. Happens old.world Reopen reply (disks.fault_count new.disk) new.world)
    → ((r : Refusal) → reply ≡ Refused r → r ≢ DiskFault → new.world ≡ old.world) → (reply ≡ Refused DiskFault → new.world ≡ next old.world (event_of Reopen reply (disks.fault_count new.disk)))
    → Either disks old new → NowStands disks old new → (reply ≡ Refused DiskFault → Rose (disks.fault_count old.disk) (disks.fault_count new.disk)) → (reply ≢ Refused DiskFault → disks.fault_count new.disk ≡ disks.fault_count old.disk)
    → KeepsDisk disks old.disk new.disk → KeepsGiven disks old new → Happened disks old new e
happened_refused disks old new lane why reply e is said happens kept broken moments now fault calm keeps given =
    happened_not disks old new lane why e (said ∙ ap (λ r. event lane Reopen r (plain_note r new.world.broken)) is)
    (subst (λ r. IfSome (disks.content old.disk) (λ _. Happens old.world Reopen r (disks.fault_count new.disk) new.world)) is happens)
    (λ other. kept why is other)
    (λ f. subst (λ r. new.world ≡ next old.world (event_of Reopen r (disks.fault_count new.disk))) is (broken (is ∙ ap (λ r. Refused r) f)))
    moments now (λ f. fault (is ∙ ap (λ r. Refused r) f)) (λ other. calm (λ f. other (let z : Refused why ≡ Refused DiskFault = sym is ∙ f in cc))) keeps given
