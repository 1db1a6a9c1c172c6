-- What a seat's calls add to its own events.
use Rattle.std.proofs.Common.{◌≡◌, refl, sym, ap, ◌∙◌, subst, ℕ, zero, suc, ◌+◌, ◌<◌, ◌≤◌, Bool, true, false, not, inl, lt_of_not-le, List, [], ◌∷◌, ◌++◌, length, map, Option, Some, None, append-nil, append_assoc, arith}
use mathlib.Core.Logic.{dite}
use native.Mathlib.Decide.{dec_le}
use Rattle.std.proofs.lemmas.List.{length-map, map-append}
use Rattle.std.specs.Prelude.{Result, Ok, Err, IfSome, IsSomeAnd}
use Rattle.object_graph.specs.declared.calls.Call.{Call}
use Rattle.object_graph.specs.declared.calls.Call.TheVariants.{OpenCut, Close, Mark, EndCut}
use Rattle.object_graph.specs.declared.calls.Reply.{Reply}
use Rattle.object_graph.specs.declared.calls.Refusal.{Refusal}
use Rattle.object_graph.specs.declared.memory.Memory.{Memory}
use Rattle.object_graph.specs.Members.{In}
use Rattle.object_graph.specs.Slots.{below}
use Rattle.object_graph.proofs.Members.{append_right}
use Rattle.disk_trait.specs.declared.disk.Disk.{Ghosts as DiskOf}
use Rattle.store_model.specs.Causes.{marks_number}
use Rattle.store_model.specs.Worlds as model
use Rattle.store_model.specs.Worlds.{World, OpenedCut}
use Rattle.store_model.specs.Histories.{after, collection, is_refused}
use Rattle.store_model.specs.Lanes.{WorldEvent, world_events, Wish, one_call, ClosedCut as HasClosed}
use Rattle.cut_builder.specs.CutParts.{ClosedParts, MarkedParts}
use Rattle.cut_model.specs.Standing.{IsCopying}
use Rattle.cut_core.specs.Given.{IsCutOf}
use Rattle.cut_core.specs.Seen.{Seen}
use Rattle.script_lang.specs.declared.line.Line.{Line}
use Rattle.turn_lock.specs.Lists.{StartsWith}
use Rattle.turn_lock.specs.Seats.{TakesTurn}
use Rattle.turn_lock.proofs.Lists.{starts_on}
use Rattle.store_desk.specs.Appended.{IsOf, IsClosingOf, IsMarkingOf, marked_number}
use Rattle.store_desk.specs.Chronicles.{IsKnown, IsChronicle, KeepCuts}
use Rattle.store_desk.specs.Events.{note_in, told, history}
use Rattle.store_desk.specs.Seats.{AtDesk, Looked, Entered}
use Rattle.store_desk.specs.declared.event.Event.{Event}
use Rattle.store_desk.specs.declared.event.Note.{Note}
use Rattle.store_desk.specs.declared.event.Note.TheVariants.{Marks}
use Rattle.store_desk.proofs.Kept.{known_first, history-append, cut_at}
use Rattle.store_lanes.specs.LaneScripts.{wishes_of}
use Rattle.store_lanes.specs.Lanes.{ReopeningsKnown, PartRan, WentOut, MarksRan, LineServed}
use Rattle.store_lanes.specs.Owned.{part, OwnsLanes, own_part, Added}
use Rattle.store_lanes.specs.Served.{ServesBy, IsOwnPart, call_on, is_plain, without_bool}
use Rattle.store_lanes.specs.declared.collect.OnPage.TheVariants as on_page
use Rattle.store_lanes.proofs.Owned.{part-grown, part-more, owns_grown, owns_more}
use Rattle.store_lanes.proofs.Served.{outcome_one, outcome_then, outcome_more, IsStopped, own_marks, own_both, own_line, serves_by}

pub starts_history : (xs ys : List Event) → StartsWith xs ys → StartsWith (history xs) (history ys)
starts_history xs ys s = (history s.0, ap history s.1 ∙ history-append ys s.0)

-- what is known of a longer chronicle is known of its beginning
pub known_before : {D : Type 0} (disks : DiskOf D) (first : Seen D) (old new : AtDesk D) → StartsWith new.seen old.seen → ReopeningsKnown disks first new → ReopeningsKnown disks first old
known_before disks first old new begins known =
    known_first (disks.content first.disk) (history old.seen) (history begins.0) (subst (IsKnown (disks.content first.disk)) (ap history begins.1 ∙ history-append old.seen begins.0) known)

-- an event after some others
abbrev pub world_event_of : World → List Event → Event → WorldEvent
world_event_of w before event = record { world = after w (history before); event = told event }

module _ {D : Type 0} (w : World) (lane : ℕ) where
  pub added_none : (s : AtDesk D) → Added w lane s s []
  added_none s = record { begins = ([], sym (append-nil s.seen)); owns = λ o. o; parts = λ o. sym (append-nil (own_part w lane s)) }

  pub added_then : (a b c : AtDesk D) (ms ns : List WorldEvent) → Added w lane a b ms → Added w lane b c ns → Added w lane a c (ms ++ ns)
  added_then a b c ms ns x y = record {
    begins = starts_on c.seen b.seen a.seen y.begins x.begins;
    owns = λ o. y.owns (x.owns o);
    parts = λ o. y.parts (x.owns o) ∙ (ap (λ (l : List WorldEvent). l ++ ns) (x.parts o) ∙ append_assoc (own_part w lane a) ms ns);
  }

  -- a seat that has seen more, and owns as much
  pub added_seen : (old new : AtDesk D) → StartsWith new.seen old.seen → new.own ≡ old.own → Added w lane old new []
  added_seen old new more own =
      let begins = starts_history new.seen old.seen more in record {
        begins = more;
        owns = λ o. subst (λ (ps : List ℕ). OwnsLanes w lane lane ps (history new.seen)) (sym own) (owns_grown w lane lane old.own (history old.seen) (history new.seen) o begins);
        parts = λ o. ((λ i. part (own i) lane 0 (world_events w (begins.1 i))) ∙ part-grown w old.own lane (history old.seen) begins.0 o.below) ∙ sym (append-nil (own_part w lane old));
      }

module _ {D : Type 0} (disks : DiskOf D) (w : World) (lane : ℕ) (old new : AtDesk D) where
  pub added_looked : Looked disks old new → Added w lane old new []
  added_looked looked = added_seen w lane old new looked.saw.begins looked.own

  pub added_entered : (Says : Event → Type 0) (place : ℕ) (e : Entered disks old new Says place) → e.event.entry.lane ≡ lane → Added w lane old new (world_event_of w e.before e.event ∷ [])
  added_entered Says place e of =
      let m : WorldEvent = world_event_of w e.before e.event in
      let begins = starts_history e.before old.seen e.begins in
      let seen : history new.seen ≡ history e.before ++ told e.event ∷ [] = ap history e.seen ∙ history-append e.before (e.event ∷ []) in
      let own : new.own ≡ old.own ++ length (history e.before) ∷ [] = e.own ∙ ap (λ (p : ℕ). old.own ++ p ∷ []) (e.place_is ∙ sym (length-map e.before told)) in record {
        begins = starts_on new.seen e.before old.seen (e.event ∷ [], e.seen) e.begins;
        owns = λ o. subst (λ (ps : List ℕ). OwnsLanes w lane lane ps (history new.seen)) (sym own) (subst (OwnsLanes w lane lane (old.own ++ length (history e.before) ∷ [])) (sym seen)
            (owns_more w lane lane old.own (history e.before) (told e.event) (owns_grown w lane lane old.own (history old.seen) (history e.before) o begins) (omega (arith, of)) (omega (arith, of))));
        parts = λ o. (λ i. part (own i) lane 0 (world_events w (seen i)))
            ∙ (part-more w old.own lane (history e.before) (told e.event) of
            ∙ ap (λ (ms : List WorldEvent). ms ++ m ∷ []) (ap (λ (h : List model.Event). part old.own lane 0 (world_events w h)) begins.1 ∙ part-grown w old.own lane (history old.seen) begins.0 o.below));
      }

-- ---- calls of a line

number_of : (o : Option OpenedCut) (w : World) (cut : ClosedParts) → IsSomeAnd o (λ c. (c.number ≡ cut.number) × IsCopying w c cut.pages) → IsSomeAnd o (λ c. c.number ≡ cut.number)
number_of None w cut none = absurd none
number_of (Some c) w cut its = its.0

same_first : {D : Type 0} (a b : Seen D) (start : List (Seen D)) → start ≡ a ∷ [] → start ≡ b ∷ [] → a ≡ b
same_first a b start x y = let z : ◌≡◌ {A = List (Seen _)} (a ∷ []) (b ∷ []) = sym x ∙ y in cc

-- marks of a cut have its number
pub same_number : (marked : Option MarkedParts) (cut : ClosedParts) → IfSome marked (λ m. m.cut ≡ cut) → IfSome marked (λ m. m.cut.number ≡ cut.number)
same_number None cut same = tt
same_number (Some m) cut same = ap (λ (c : ClosedParts). c.number) same

module _ {D : Type 0} (disks : DiskOf D) (first : Seen D) (lane : ℕ) (old new : AtDesk D) where
  pub no_room : (calls : List Call) (memory : Memory) → Looked disks old new → PartRan disks first lane calls old new (Err memory)
  no_room calls memory looked = record { made = []; added = added_looked disks first.world lane old new looked; outcome = (calls, refl); own = λ known. tt }

  -- a plain call
  pub part_done : (call : Call) (reply : Reply) (place : ℕ) (b : Bool) → is_plain call ≡ true → Entered disks old new (IsOf lane call reply) place → b ≡ not (is_refused reply) → PartRan disks first lane (call ∷ []) old new (Ok b)
  part_done call reply place b plain e done =
      let calls : e.event.entry.call ≡ call = ap (λ en. en.call) e.says in
      let replies : e.event.entry.reply ≡ reply = ap (λ en. en.reply) e.says in record {
        made = world_event_of first.world e.before e.event ∷ [];
        added = added_entered disks first.world lane old new (IsOf lane call reply) place e (ap (λ en. en.lane) e.says);
        outcome = outcome_one call (world_event_of first.world e.before e.event) b calls (done ∙ sym (ap (λ x. not (is_refused x)) replies));
        own = λ known. (inl (ap is_plain calls ∙ plain), tt);
      }

  -- the closing
  pub closing_refused : (why : Refusal) (place : ℕ) → Entered disks old new (IsClosingOf lane (Err why)) place → PartRan disks first lane (Close ∷ []) old new (Ok false)
  closing_refused why place e = record {
    made = world_event_of first.world e.before e.event ∷ [];
    added = added_entered disks first.world lane old new (IsClosingOf lane (Err why)) place e (ap (λ en. en.lane) e.says.of);
    outcome = outcome_one Close (world_event_of first.world e.before e.event) false (ap (λ en. en.call) e.says.of) (sym (ap (λ en. not (is_refused en.reply)) e.says.of));
    own = λ known. (inl (ap (λ en. is_plain en.call) e.says.of), tt);
  }

  pub closing_out : (cut : ClosedParts) (place : ℕ) → old.start ≡ first ∷ [] → Entered disks old new (IsClosingOf lane (Ok cut)) place → WentOut disks first lane old new cut
  closing_out cut place start e =
      let m : WorldEvent = world_event_of first.world e.before e.event in
      let calls : e.event.entry.call ≡ Close = ap (λ en. en.call) e.says.of in
      let is_first : e.saw.first ≡ first = same_first e.saw.first first old.start e.saw.start start in
      let told_by : ReopeningsKnown disks first new → IsChronicle first.world new.seen = subst (λ (s : Seen D). IsKnown (disks.content s.disk) (history new.seen) → IsChronicle s.world new.seen) is_first e.saw.told in record {
        made = m ∷ [];
        added = added_entered disks first.world lane old new (IsClosingOf lane (Ok cut)) place e (ap (λ en. en.lane) e.says.of);
        passes = (calls, ap (λ en. is_refused en.reply) e.says.of, refl);
        own = (inl (ap is_plain calls), tt);
        closing = record { event = e.event; is_in = subst (In e.event) (sym e.seen) (append_right e.before (e.event ∷ []) e.event (inl refl)); keeps = e.says.keeps };
        closed = λ known.
            (let its : IsCutOf m.world cut = cut_at first.world e.before e.event (subst (KeepCuts first.world) e.seen (told_by known).cuts) cut e.says.keeps in
            (m, inl refl, calls, number_of m.world.cut m.world cut its));
      }

  -- marks
  pub marks_no_room : (workers number : ℕ) (memory : Memory) → Looked disks old new → MarksRan disks first lane workers number old new (Err memory)
  marks_no_room workers number memory looked = record {
    made = [];
    added = added_looked disks first.world lane old new looked;
    outcome = (Mark workers ∷ [], refl);
    own = λ before own closed. subst IsOwnPart (sym (append-nil before)) own;
  }

  pub marks_given : (workers number place : ℕ) (marked : Option MarkedParts) (reply : Reply) (b : Bool) → Entered disks old new (IsMarkingOf lane workers marked reply) place → IfSome marked (λ m. m.cut.number ≡ number)
      → b ≡ not (is_refused reply) → MarksRan disks first lane workers number old new (Ok b)
  marks_given workers number place marked reply b e its done =
      let m : WorldEvent = world_event_of first.world e.before e.event in
      let calls : e.event.entry.call ≡ Mark workers = ap (λ en. en.call) e.says.of in record {
        made = m ∷ [];
        added = added_entered disks first.world lane old new (IsMarkingOf lane workers marked reply) place e (ap (λ en. en.lane) e.says.of);
        outcome = outcome_one (Mark workers) m b calls (done ∙ sym (ap (λ en. not (is_refused en.reply)) e.says.of));
        own = λ before own closed. own_marks before m workers own calls (subst (λ (n : Note). IfSome (marks_number (note_in n)) (HasClosed before)) (sym e.says.note) (of_marks marked its before closed));
      }
    where
      of_marks : (marked : Option MarkedParts) → IfSome marked (λ m. m.cut.number ≡ number) → (before : List WorldEvent) → HasClosed before number → IfSome (marks_number (note_in (Marks (marked_number marked)))) (HasClosed before)
      of_marks None its before closed = tt
      of_marks (Some m) its before closed = subst (HasClosed before) (sym its) closed

-- ---- the pages one after the other

below_rest : (p n : ℕ) → p < n → (rest : List ℕ) × (below n ≡ (below p ++ p ∷ []) ++ rest)
below_rest p zero lt = absurd (omega arith)
below_rest p (suc m) lt = dite (dec_le m p)
    (λ (le : m ≤ p). let e : m ≡ p = omega (arith, le, lt) in ([], ap (λ k. below k ++ k ∷ []) e ∙ sym (append-nil (below p ++ p ∷ []))))
    (λ (more : m ≤ p → ⊥). let r = below_rest p m (lt_of_not-le more) in (r.0 ++ m ∷ [], ap (λ xs. xs ++ m ∷ []) r.1 ∙ append_assoc (below p ++ p ∷ []) r.0 (m ∷ [])))

pub pages_next : (f : ℕ → Call) (p : ℕ) → map f (below p) ++ f p ∷ [] ≡ map f (below (p + 1))
pages_next f p = sym (map-append f (below p) (p ∷ [])) ∙ ap (λ k. map f (below k)) (let e : suc p ≡ p + 1 = omega arith in e)

pub pages_rest : (f : ℕ → Call) (p n : ℕ) → p < n → (rest : List Call) × ((map f (below p) ++ f p ∷ []) ++ rest ≡ map f (below n))
pages_rest f p n lt =
    let r = below_rest p n lt in
    (map f r.0, sym (ap (map f) r.1 ∙ (map-append f (below p ++ p ∷ []) r.0 ∙ ap (λ xs. xs ++ map f r.0) (map-append f (below p) (p ∷ [])))))

-- the parts of a collection
abbrev pub opening : ℕ → List Call
opening pages = OpenCut ∷ map (call_on on_page.Copy) (below pages)

abbrev pub closing : ℕ → List Call
closing workers = Close ∷ Mark workers ∷ []

abbrev pub sweeping : ℕ → List Call
sweeping pages = map (call_on on_page.Sweep) (below pages) ++ EndCut ∷ []

pub collection_parts : (pages workers : ℕ) → opening pages ++ (closing workers ++ sweeping pages) ≡ collection pages workers
collection_parts pages workers = sym (append_assoc (opening pages) (Close ∷ Mark workers ∷ map (call_on on_page.Sweep) (below pages)) (EndCut ∷ []))

-- ---- parts of a line

module _ {D : Type 0} (disks : DiskOf D) (first : Seen D) (lane : ℕ) (old mid new : AtDesk D) where
  pub part_then : (calls more : List Call) (result : Result Bool Memory) → PartRan disks first lane calls old mid (Ok true) → PartRan disks first lane more mid new result → PartRan disks first lane (calls ++ more) old new result
  part_then calls more result p q = record {
    made = p.made ++ q.made;
    added = added_then first.world lane old mid new p.made q.made p.added q.added;
    outcome = outcome_then calls more p.made q.made result p.outcome q.outcome;
    own = λ known. own_both p.made q.made (p.own (known_before disks first mid new q.added.begins known)) (q.own known);
  }

  -- the closing, and then marks
  pub closed_and_marked : (workers : ℕ) (cut : ClosedParts) (result : Result Bool Memory) → WentOut disks first lane old mid cut → MarksRan disks first lane workers cut.number mid new result
      → PartRan disks first lane (Close ∷ Mark workers ∷ []) old new result
  closed_and_marked workers cut result p q = record {
    made = p.made ++ q.made;
    added = added_then first.world lane old mid new p.made q.made p.added q.added;
    outcome = outcome_then (Close ∷ []) (Mark workers ∷ []) p.made q.made result p.passes q.outcome;
    own = λ known. q.own p.made p.own (p.closed (known_before disks first mid new q.added.begins known));
  }

module _ {D : Type 0} (disks : DiskOf D) (first : Seen D) (lane : ℕ) (old new : AtDesk D) where
  pub part_stopped : (calls more : List Call) (result : Result Bool Memory) → IsStopped result → PartRan disks first lane calls old new result → PartRan disks first lane (calls ++ more) old new result
  part_stopped calls more result stopped p = record { made = p.made; added = p.added; outcome = outcome_more calls more p.made result stopped p.outcome; own = p.own }

  -- the page at which it stopped
  pub pages_stopped : (f : ℕ → Call) (p n : ℕ) (result : Result Bool Memory) → p < n → IsStopped result → PartRan disks first lane (map f (below p) ++ f p ∷ []) old new result → PartRan disks first lane (map f (below n)) old new result
  pages_stopped f p n result lt stopped q =
      let r = pages_rest f p n lt in
      subst (λ (calls : List Call). PartRan disks first lane calls old new result) r.1 (part_stopped (map f (below p) ++ f p ∷ []) r.0 result stopped q)

  -- the answer as a match found it
  pub part_answered : (calls : List Call) (result : Result Bool Memory) (b done : Bool) → result ≡ Ok b → b ≡ done → PartRan disks first lane calls old new result → PartRan disks first lane calls old new (Ok done)
  part_answered calls result b done is test p = subst (λ (x : Bool). PartRan disks first lane calls old new (Ok x)) test (subst (λ (r : Result Bool Memory). PartRan disks first lane calls old new r) is p)

  pub part_none : old ≡ new → PartRan disks first lane [] old new (Ok true)
  part_none same = subst (λ (s : AtDesk D). PartRan disks first lane [] old s (Ok true)) same (record { made = []; added = added_none first.world lane old; outcome = refl; own = λ known. tt })

  -- the lane took its turn
  pub part_waited : TakesTurn old new → PartRan disks first lane [] old new (Ok true)
  part_waited took = record { made = []; added = added_seen first.world lane old new took.begins (ap (λ (s : AtDesk D). s.own) took.rest); outcome = refl; own = λ known. tt }

  -- a line of one call, and a collection
  pub line_served : (line : Line) (calls : List Call) (result : Result Bool Memory) → wishes_of first.world.pages line ≡ map one_call calls → PartRan disks first lane calls old new result → LineServed disks first lane line old new (without_bool result)
  line_served line calls result is p = record {
    made = p.made;
    added = p.added;
    own = λ known. own_line p.made (p.own known);
    serves = subst (λ (ws : List Wish). ServesBy ws p.made (without_bool result)) (sym is) (serves_by calls p.made result p.outcome);
  }

-- a lane that keeps its turn has it
pub keeps_turn : {D : Type 0} (s : AtDesk D) → TakesTurn s s
keeps_turn s = record { begins = ([], sym (append-nil s.seen)); rest = refl }
