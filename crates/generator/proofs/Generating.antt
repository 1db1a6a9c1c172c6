-- Rounds one after the other, and a run.
use Rattle.std.proofs.Common.{◌≡◌, ◌≢◌, refl, sym, ap, ◌∙◌, subst, ℕ, ◌+◌, ◌<◌, ◌≤◌, ◌%◌, Bool, true, false, Option, Some, None, List, [], ◌∷◌, ◌++◌, length, append-nil, length-append, arith, if◌then◌else◌}
use Rattle.std.proofs.lemmas.Bool.{eq-eqb, ne_eqb}
use Rattle.disk_trait.specs.declared.disk.Disk.{Ghosts as DiskOf}
use Rattle.object_graph.specs.NameParts.{NameParts}
use Rattle.object_graph.specs.declared.calls.Call.{Call}
use Rattle.object_graph.specs.declared.calls.Entry.{Entry}
use Rattle.store_model.specs.Worlds.{World, Event}
use Rattle.store_model.specs.Histories.{collection, after}
use Rattle.cut_core.specs.Seen.{Seen}
use Rattle.store_machine.specs.Acts.{Acts}
use Rattle.generator.specs.Draws.{next_draw, drawn}
use Rattle.generator.specs.Rounds.{store_pages, store_slots, transaction_of, collected_after, AreAnswered, IsRound, AreRounds, StopsRound, StopsCollection, entries_of, joined_rounds}
use Rattle.generator.specs.Summaries.{Counts, full_in, freed_by_entries, ended_in, summary_text, summary}
use Rattle.generator.specs.Between.{IsResting}
use Rattle.generator.specs.Making.{MadeEntries, HasTransacted, HasCollected, StopsAmong, Stops, IsFew, HasMadeRound, HasRun, HasStopped, HasGenerated, is_none_made, why_of}
use Rattle.generator.specs.declared.asking.Stop.{Stop}
use Rattle.generator.specs.declared.summary.Tally.{Tally}
use Rattle.generator.proofs.Rounds.{full_of, transaction_counts, counts_join, answered_none, stops_collection, are_rounds_more, joined_more, one_drawn}
use Rattle.generator.proofs.Joins.{made_join, made_none}

-- ---- whether a round collects

collects : (i : ℕ) → (i + 1) % 32 ≡ 0 → collected_after i ≡ collection store_pages 4
collects i e = ap (λ b. if b then collection store_pages 4 else []) (eq-eqb ((i + 1) % 32) 0 e)

not_collects : (i : ℕ) → (i + 1) % 32 ≢ 0 → collected_after i ≡ []
not_collects i e = ap (λ b. if b then collection store_pages 4 else []) (ne_eqb ((i + 1) % 32) 0 e)

-- 1 where the page was full
abbrev pub one_if : Bool → ℕ
one_if b = if b then 1 else 0

full_counted : (object : Option NameParts) (full : Bool) → full ≡ is_none_made object → full_of object ≡ one_if full
full_counted None full e = ap one_if (sym e)
full_counted (Some name) full e = ap one_if (sym e)

one_at_most : (b : Bool) → one_if b ≤ 1
one_at_most true = omega arith
one_at_most false = omega arith

module _ {D : Type 0} (disks : DiskOf D) where
  -- ---- a round

  pub round_alone : (a b : Seen D) (x i : ℕ) (full : Bool) (number : ℕ) (before now : Tally) → (i + 1) % 32 ≢ 0 → HasTransacted disks a b x i full number → before.rounds ≡ i → IsFew before i
      → now.rounds ≡ before.rounds + 1 → now.commits ≡ number → now.full ≡ before.full + one_if full → now.freed ≡ before.freed → now.ended ≡ before.ended
      → HasMadeRound disks a b x i before now
  round_alone a b x i full number before now other t at few rounds commits fulls freed ended =
      let c = transaction_counts x i t.before t.object in
      record {
        entries = transaction_of x i t.before t.object;
        made = t.made;
        round = record {
          old = t.before;
          made = t.object;
          collected = [];
          are = sym (append-nil (transaction_of x i t.before t.object));
          answered = subst (λ (cs : List Call). AreAnswered cs []) (sym (not_collects i other)) answered_none;
        };
        adds = record {
          full = full_of t.object;
          freed = 0;
          ended = 0;
          counts = c;
          full_is = fulls ∙ ap (λ n. before.full + n) (sym (full_counted t.object full t.is_full));
          freed_is = let e : now.freed ≡ before.freed + 0 = omega arith in e;
          ended_is = let e : now.ended ≡ before.ended + 0 = omega arith in e;
        };
        counted = rounds;
        told = commits ∙ t.told;
        few = record {
          full = let one = one_at_most full in let f = few.full in omega arith;
          freed = let f = few.freed in omega arith;
          ended = let f = few.ended in omega arith;
        };
        resting = t.resting;
        commits = t.commits;
      }

  pub round_collected : (a b c : Seen D) (x i : ℕ) (full : Bool) (number freed : ℕ) (before now : Tally) → (i + 1) % 32 ≡ 0 → HasTransacted disks a b x i full number
      → HasCollected disks b c freed → freed ≤ store_slots → before.rounds ≡ i → IsFew before i
      → now.rounds ≡ before.rounds + 1 → now.commits ≡ number → now.full ≡ before.full + one_if full → now.freed ≡ before.freed + freed → now.ended ≡ before.ended + 1
      → HasMadeRound disks a c x i before now
  round_collected a b c x i full number freed before now due t h most at few rounds commits fulls frees ended =
      let es : List Entry = transaction_of x i t.before t.object in
      let sums : Counts (es ++ h.part.entries) (full_of t.object + 0) (0 + freed) 1 =
      counts_join es h.part.entries (full_of t.object) 0 0 0 freed 1 (transaction_counts x i t.before t.object) h.part.counts in
      record {
        entries = es ++ h.part.entries;
        made = made_join disks a b c es h.part.entries t.made h.part.made;
        round = record {
          old = t.before;
          made = t.object;
          collected = h.part.entries;
          are = refl;
          answered = subst (λ (cs : List Call). AreAnswered cs h.part.entries) (sym (collects i due)) h.part.answered;
        };
        adds = record {
          full = full_of t.object + 0;
          freed = freed;
          ended = 1;
          counts = record { full_is = sums.full_is; freed_is = let f = sums.freed_is in omega arith; ended_is = sums.ended_is };
          full_is = let e = full_counted t.object full t.is_full in omega arith;
          freed_is = frees;
          ended_is = ended;
        };
        counted = rounds;
        told = commits ∙ (t.told ∙ sym h.part.commits);
        few = record {
          full = let one = one_at_most full in let f = few.full in omega arith;
          freed = let f = few.freed in omega arith;
          ended = let f = few.ended in omega arith;
        };
        resting = h.resting;
        commits = h.part.commits ∙ t.commits;
      }

  pub round_stops : (a b c : Seen D) (x i : ℕ) (full : Bool) (number : ℕ) (stop : Stop) → (i + 1) % 32 ≡ 0 → HasTransacted disks a b x i full number
      → StopsAmong disks b c (collection store_pages 4) stop → Stops disks a c x i stop
  round_stops a b c x i full number stop due t s = record {
    entries = transaction_of x i t.before t.object ++ s.entries;
    made = made_join disks a b c (transaction_of x i t.before t.object) s.entries t.made s.made;
    stops = stops_collection x i t.before t.object (why_of stop) s.entries
        (subst (λ (cs : List Call). StopsCollection cs (why_of stop) s.entries) (sym (collects i due)) s.stops);
  }

  -- ---- a run on its way

  pub record Running (old now : Seen D) (from i last : ℕ) (tally : Tally) : Type 0 where
    pub rounds : List (List Entry)
    pub number : length rounds ≡ i
    pub each : AreRounds from 0 rounds
    pub made : MadeEntries disks old now (joined_rounds rounds)
    pub resting : IsResting now.world
    pub commits : now.world.commits ≡ i
    pub draws : last ≡ drawn from i
    pub counts : Counts (joined_rounds rounds) tally.full tally.freed tally.ended
    pub told : tally.commits ≡ now.world.commits
    pub counted : tally.rounds ≡ i
    pub few : IsFew tally i

  pub running_none : (s : Seen D) (from last : ℕ) (tally : Tally) → Acts disks s s [] → IsResting s.world → s.world.commits ≡ 0 → last ≡ from
      → tally.rounds ≡ 0 → tally.commits ≡ 0 → tally.full ≡ 0 → tally.freed ≡ 0 → tally.ended ≡ 0 → Running s s from 0 last tally
  running_none s from last tally acts rest zero_ same rounds commits full freed ended = record {
    rounds = [];
    number = refl;
    each = tt;
    made = made_none disks s acts;
    resting = rest;
    commits = zero_;
    draws = same;
    counts = record { full_is = sym full; freed_is = sym freed; ended_is = sym ended };
    told = commits ∙ sym zero_;
    counted = rounds;
    few = record { full = omega arith; freed = omega arith; ended = omega arith };
  }

  pub running_more : (a b c : Seen D) (from i last x : ℕ) (before now : Tally) → Running a b from i last before → x ≡ next_draw last → HasMadeRound disks b c x i before now
      → Running a c from (i + 1) x now
  running_more a b c from i last x before now r e m =
      let at : x ≡ drawn from (i + 1) = e ∙ (ap next_draw r.draws ∙ sym (one_drawn from i)) in
      let added : Counts (joined_rounds r.rounds ++ m.entries) (before.full + m.adds.full) (before.freed + m.adds.freed) (before.ended + m.adds.ended) =
      counts_join (joined_rounds r.rounds) m.entries before.full before.freed before.ended m.adds.full m.adds.freed m.adds.ended r.counts m.adds.counts in
      record {
        rounds = r.rounds ++ m.entries ∷ [];
        number = length-append r.rounds (m.entries ∷ []) ∙ ap (λ n. n + 1) r.number;
        each = are_rounds_more from 0 i r.rounds m.entries (let n = r.number in omega arith) r.each (subst (λ (y : ℕ). IsRound y i m.entries) at m.round);
        made = subst (λ (es : List Entry). MadeEntries disks a c es) (sym (joined_more r.rounds m.entries)) (made_join disks a b c (joined_rounds r.rounds) m.entries r.made m.made);
        resting = m.resting;
        commits = m.commits ∙ ap (λ n. n + 1) r.commits;
        draws = at;
        counts = subst (λ (es : List Entry). Counts es now.full now.freed now.ended) (sym (joined_more r.rounds m.entries))
            (record { full_is = added.full_is ∙ sym m.adds.full_is; freed_is = added.freed_is ∙ sym m.adds.freed_is; ended_is = added.ended_is ∙ sym m.adds.ended_is });
        told = m.told;
        counted = m.counted ∙ ap (λ n. n + 1) r.counted;
        few = m.few;
      }

  pub running_stops : (a b c : Seen D) (from i last x count : ℕ) (tally : Tally) (stop : Stop) → i < count → Running a b from i last tally → x ≡ next_draw last → Stops disks b c x i stop
      → HasStopped disks a c from count stop
  running_stops a b c from i last x count tally stop low r e s =
      let at : x ≡ drawn from (i + 1) = e ∙ (ap next_draw r.draws ∙ sym (one_drawn from i)) in
      let whole : MadeEntries disks a c (joined_rounds r.rounds ++ s.entries) = made_join disks a b c (joined_rounds r.rounds) s.entries r.made s.made in
      record {
        history = whole.history;
        acts = whole.acts;
        legal = whole.legal;
        follows = record {
          rounds = r.rounds;
          last = s.entries;
          few = let n = r.number in omega arith;
          each = r.each;
          stops = subst (λ (n : ℕ). StopsRound (drawn from (n + 1)) n (why_of stop) s.entries) (sym r.number)
              (subst (λ (y : ℕ). StopsRound y i (why_of stop) s.entries) at s.stops);
          are = whole.are;
        };
      }

  -- ---- its line

  line_is : (w : World) (count : ℕ) (es : List Entry) (history : List Event) (tally : Tally) → entries_of history ≡ es → tally.rounds ≡ count → tally.commits ≡ (after w history).commits
      → Counts es tally.full tally.freed tally.ended
      → summary_text tally.rounds tally.commits tally.full tally.freed tally.ended ≡ summary count w history
  line_is w count es history tally are rounds commits counts =
      let full : tally.full ≡ full_in (entries_of history) = sym (ap full_in are ∙ counts.full_is) in
      let freed : tally.freed ≡ freed_by_entries (entries_of history) = sym (ap freed_by_entries are ∙ counts.freed_is) in
      let ended : tally.ended ≡ ended_in (entries_of history) = sym (ap ended_in are ∙ counts.ended_is) in
      ap (λ n. summary_text n tally.commits tally.full tally.freed tally.ended) rounds
      ∙ (ap (λ n. summary_text count n tally.full tally.freed tally.ended) commits
      ∙ (ap (λ n. summary_text count (after w history).commits n tally.freed tally.ended) full
      ∙ (ap (λ n. summary_text count (after w history).commits (full_in (entries_of history)) n tally.ended) freed
      ∙ ap (λ n. summary_text count (after w history).commits (full_in (entries_of history)) (freed_by_entries (entries_of history)) n) ended)))

  pub has_run : (a b : Seen D) (from count last : ℕ) (tally : Tally) → Running a b from count last tally → HasRun disks a b from count tally
  has_run a b from count last tally r = record {
    history = r.made.history;
    acts = r.made.acts;
    legal = r.made.legal;
    follows = record { rounds = r.rounds; number = r.number; each = r.each; are = r.made.are };
    line = line_is a.world count (joined_rounds r.rounds) r.made.history tally r.made.are r.counted (r.told ∙ ap (λ (w : World). w.commits) r.made.legal.last_is) r.counts;
  }

  pub has_generated : (a b : Seen D) (from count : ℕ) (tally : Tally) (line : List ℕ) → HasRun disks a b from count tally
      → line ≡ summary_text tally.rounds tally.commits tally.full tally.freed tally.ended → HasGenerated disks a b from count line
  has_generated a b from count tally line r e = record { history = r.history; acts = r.acts; legal = r.legal; follows = r.follows; line_is = e ∙ r.line }
