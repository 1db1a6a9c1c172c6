-- How lanes end.
use Rattle.std.proofs.Common.{◌≡◌, refl, sym, ap, ◌∙◌, subst, ℕ, suc, ◌-◌, ◌<◌, ◌≤◌, inl, inr, Bool, true, false, List, [], ◌∷◌, length, Option, Some, None, zero-add, arith}
use Rattle.std.proofs.lemmas.List.{length-map}
use Rattle.std.proofs.lemmas.Option.{slice_get_within}
use Rattle.std.proofs.KnownBytes.{Appends-nil}
use Rattle.std.specs.Prelude.{slice_get, is_some, IsTrue}
use Rattle.std.specs.List.{AllByRecursion}
use Rattle.std.specs.Io.KnownBytes.{Appends}
use Rattle.disk_trait.specs.declared.disk.Disk.{Ghosts as DiskOf}
use Rattle.script_lang.specs.declared.line.LaneLine.{LaneLine}
use Rattle.script_lang.specs.Script.{lines_of}
use Rattle.store_model.specs.Worlds as model
use Rattle.store_model.specs.Worlds.{World}
use Rattle.store_model.specs.Lanes.{world_events}
use Rattle.store_model.specs.Lawful.{IsLawful}
use Rattle.store_model.specs.Texts.{chronicle_text}
use Rattle.turn_lock.specs.Lists.{times, places}
use Rattle.cut_core.specs.Seen.{Seen}
use Rattle.store_desk.specs.Chronicles.{IsKnown}
use Rattle.store_desk.specs.Events.{told, history}
use Rattle.store_desk.specs.Seats.{AtDesk}
use Rattle.store_desk.specs.States.{IsKept}
use Rattle.store_desk.specs.declared.event.Event.{Event}
use Rattle.store_lanes.specs.LaneScripts.{SayInLanes}
use Rattle.store_lanes.specs.Lanes.{LanesRan}
use Rattle.store_lanes.specs.Owned.{has}
use Rattle.store_lanes.specs.Served.{FollowsTo, Begins}
use Rattle.store_lanes.specs.declared.lane.TheConstants.{LANES}
use Rattle.store_lanes.proofs.Owned.{world_event_at, has_times, times_places, part-all, length-world_events}
use Rattle.store_run.specs.Ran.{EndsBy}
use Rattle.store_run.specs.Writing.{AppendsFront}
use Rattle.store_run.specs.declared.status.Status.{Status}
use Rattle.store_run.specs.declared.status.Status.TheVariants.{Done, BadLine, TooLong, ReadFault, WriteFault, DiskFault, Memory}
use Rattle.lanes_run.specs.Ended.{ended_by, is_whole, IsLanesEnd, LanesEnded, StoreLanes}
use Rattle.lanes_run.specs.Judged.{AreRight}
use Rattle.lanes_run.specs.Judging.{ScriptRight, ScriptRefused}
use Rattle.lanes_run.specs.RanLanes.{LanesFollow, DidBy, ChronicleWrittenBy}

never_true : {A : Type 0} → IsTrue false → A
never_true {A} t = absurd (let clash : false ≡ true = t in let n : ⊥ = cc in n)

-- each element, from those at places
all_at : {A : Type 0} (P : A → Type 0) (xs : List A) → ((p : ℕ) (x : A) → slice_get xs p ≡ Some x → P x) → AllByRecursion P xs
all_at P [] f = tt
all_at P (x ∷ xs) f = (f 0 x refl, all_at P xs (λ p y at. f (suc p) y at))

-- ---- what each lane followed

follow_less : (known : Type 0) (w : World) (whole : Bool) (said : List LaneLine) (events : List model.Event) → LanesFollow known w whole said events → LanesFollow known w false said events
follow_less known w whole said events f = record {
  of_lanes = f.of_lanes;
  each = λ lane low high. (let g = f.each lane low high in record { past = g.past; future = g.future; split = g.split; ended = λ t. never_true t; follows = g.follows });
}

nothing_begun : (pages lane : ℕ) (said : List LaneLine) → Begins pages lane said []
nothing_begun pages lane [] = refl
nothing_begun pages lane (s ∷ said) = inl refl

follow_none : (known : Type 0) (w : World) (said : List LaneLine) → LanesFollow known w false said []
follow_none known w said = record {
  of_lanes = tt;
  each = λ lane low high. record {
    past = [];
    future = said;
    split = refl;
    ended = λ t. never_true t;
    follows = λ k. record { done = []; begun = []; split = refl; follows = refl; begins = nothing_begun w.pages lane said };
  };
}

module _ {D : Type 0} (disks : DiskOf D) where
  abbrev Knows : Seen D → List Event → Type 0
  Knows first chronicle = IsKnown (disks.content first.disk) (history chronicle)

  -- a seat that owns each place of what it has seen
  pub lanes_follow : (first : Seen D) (lines : List (List ℕ)) (whole : Bool) (seat : AtDesk D) → LanesRan disks first lines 1 LANES whole seat
      → ((p : ℕ) → times p seat.own ≡ times p (places 0 (length seat.seen - 0))) → (said : List LaneLine) → SayInLanes lines said
      → LanesFollow (Knows first seat.seen) first.world whole said (history seat.seen)
  lanes_follow first lines whole seat ran owned said says =
      let w : World = first.world in
      let same : length (history seat.seen) ≡ length seat.seen = length-map seat.seen told in
      let owns : (p : ℕ) → p < length (history seat.seen) → has p seat.own ≡ true = (λ p lt.
      let some = times_places p 0 (length seat.seen - 0) (omega arith) (omega (arith, lt, same)) in let e = owned p in has_times p seat.own (omega (arith, some, e))) in
      record {
        of_lanes = all_at (λ (e : model.Event). (1 ≤ e.entry.lane) × (e.entry.lane ≤ 16)) (history seat.seen) (λ p e at.
            (let m = world_event_at w (history seat.seen) p e at in
            let k = ran.owns.lanes p m.0 (owns p (slice_get_within (history seat.seen) p e at)) m.2 in
            subst (λ (d : model.Event). (1 ≤ d.entry.lane) × (d.entry.lane ≤ 16)) m.1 k));
        each = λ lane low high. (let went = ran.each lane low high said says in record {
          past = went.past;
          future = went.future;
          split = went.split;
          ended = went.ended;
          follows = λ known. subst (FollowsTo w.pages lane went.past went.future)
              (part-all seat.own lane 0 (world_events w (history seat.seen)) (λ i lt.
              let l = length-world_events w (history seat.seen) in subst (λ (k : ℕ). has k seat.own ≡ true) (sym (zero-add i)) (owns i (omega (arith, lt, l)))))
              (went.follows known);
        });
      }

  -- the same of a desk that began with no chronicle
  pub desk_followed : (first : Seen D) (before : List Event) (lines : List (List ℕ)) (whole : Bool) (seat : AtDesk D) → before ≡ [] → LanesRan disks first lines 1 LANES whole seat
      → ((p : ℕ) → times p seat.own ≡ times p (places (length before) (length seat.seen - length before))) → (said : List LaneLine) → SayInLanes lines said
      → LanesFollow (Knows first seat.seen) first.world whole said (history seat.seen)
  desk_followed first before lines whole seat none ran owned =
      lanes_follow first lines whole seat ran (λ p. owned p ∙ ap (λ (l : List Event). times p (places (length l) (length seat.seen - length l))) none)

  -- ---- how it ended

  abbrev Followed : Seen D → List (List ℕ) → Bool → List Event → Type 0
  Followed first lines whole chronicle = (said : List LaneLine) → SayInLanes lines said → LanesFollow (Knows first chronicle) first.world whole said (history chronicle)

  pub end_written : (first new : Seen D) (lines : List (List ℕ)) (whole : Bool) (broken : Option ℕ) (chronicle : List Event) (a b : Option (List ℕ)) → IsKept disks first new chronicle
      → Followed first lines whole chronicle → new.world.broken ≡ broken → Appends a b (chronicle_text (history chronicle)) → LanesEnded disks (ended_by whole broken) first new lines a b
  end_written first new lines false broken chronicle a b kept follow is written = record { chronicle = chronicle; kept = kept; is_end = tt; follow = follow; written = written; ends = tt }
  end_written first new lines true None chronicle a b kept follow is written = record { chronicle = chronicle; kept = kept; is_end = tt; follow = follow; written = written; ends = is }
  end_written first new lines true (Some count) chronicle a b kept follow is written =
      record { chronicle = chronicle; kept = kept; is_end = tt; follow = follow; written = written; ends = ap is_some is }

  pub end_begun : (first new : Seen D) (lines : List (List ℕ)) (whole : Bool) (chronicle : List Event) (a b : Option (List ℕ)) → IsKept disks first new chronicle
      → Followed first lines whole chronicle → AppendsFront a b (chronicle_text (history chronicle)) → LanesEnded disks WriteFault first new lines a b
  end_begun first new lines whole chronicle a b kept follow written = record {
    chronicle = chronicle;
    kept = kept;
    is_end = tt;
    follow = λ said says. follow_less (Knows first chronicle) first.world whole said (history chronicle) (follow said says);
    written = written;
    ends = tt;
  }

  -- no lane was started
  pub end_none : (first : Seen D) (lines : List (List ℕ)) (a : Option (List ℕ)) → IsKept disks first first [] → LanesEnded disks Memory first first lines a a
  end_none first lines a kept = record {
    chronicle = [];
    kept = kept;
    is_end = tt;
    follow = λ said says. follow_none (Knows first []) first.world said;
    written = Appends-nil a;
    ends = tt;
  }

  -- ---- the script that was read

  did_end : (status : Status) (known : Type 0) (w : World) (taken : List ℕ) (left : Option (List ℕ)) (said : List LaneLine) (events : List model.Event) → IsLanesEnd status → AreRight w.pages taken left said
      → LanesFollow known w (is_whole status) said events → DidBy status known w taken left said events
  did_end Done known w taken left said events is right follow = (right, follow)
  did_end DiskFault known w taken left said events is right follow = (right, follow)
  did_end WriteFault known w taken left said events is right follow = (right, follow)
  did_end Memory known w taken left said events is right follow = inl (right, follow)
  did_end _ known w taken left said events is right follow = absurd is

  pub script_ran : (status : Status) (old new : Seen D) (bytes : List ℕ) (entries : ℕ) (a b h i : Option (List ℕ)) → IsLawful old.world → ScriptRight old.world.pages a b bytes entries
      → LanesEnded disks status old new (lines_of bytes) h i → StoreLanes disks status old new a b h i
  script_ran status old new bytes entries a b h i lawful s e = record {
    lawful = lawful;
    chronicle = e.chronicle;
    kept = e.kept;
    taken = bytes;
    said = s.said;
    consumed = s.consumed;
    did = did_end status (Knows old e.chronicle) old.world bytes b s.said (history e.chronicle) e.is_end s.right (e.follow s.said s.right.all.says);
    written = e.written;
    ends = e.ends;
  }

  refused_with : (status : Status) (old : Seen D) (a b h : Option (List ℕ)) (s : ScriptRefused status old.world.pages a b) → IsLawful old.world → IsKept disks old old []
      → DidBy status (Knows old []) old.world s.taken b s.said [] → ChronicleWrittenBy status h h [] → EndsBy status old.world → StoreLanes disks status old old a b h h
  refused_with status old a b h s lawful kept did written ends =
      record { lawful = lawful; chronicle = []; kept = kept; taken = s.taken; said = s.said; consumed = s.consumed; did = did; written = written; ends = ends }

  pub script_refused : (status : Status) (old : Seen D) (a b h : Option (List ℕ)) → IsLawful old.world → IsKept disks old old [] → ScriptRefused status old.world.pages a b → StoreLanes disks status old old a b h h
  script_refused (BadLine line column) old a b h lawful kept s = refused_with (BadLine line column) old a b h s lawful kept (s.refused, refl) (Appends-nil h) tt
  script_refused TooLong old a b h lawful kept s = refused_with TooLong old a b h s lawful kept (s.refused, refl) (Appends-nil h) tt
  script_refused ReadFault old a b h lawful kept s = refused_with ReadFault old a b h s lawful kept (s.refused, refl) (Appends-nil h) tt
  script_refused Memory old a b h lawful kept s = refused_with Memory old a b h s lawful kept (inr (s.refused, refl)) (Appends-nil h) tt
  script_refused _ old a b h lawful kept s = absurd s.refused
