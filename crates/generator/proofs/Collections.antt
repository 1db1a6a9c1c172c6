-- A collection, call by call.
use Rattle.std.proofs.Common.{◌≡◌, refl, sym, ap, ◌∙◌, subst, ℕ, zero, suc, ◌+◌, ◌<◌, inl, inr, List, [], ◌∷◌, ◌++◌, map, append_assoc, add-one, arith}
use Rattle.std.proofs.lemmas.List.{map-append}
use Rattle.std.proofs.lemmas.Bool.{cases_lt}
use Rattle.disk_trait.specs.declared.disk.Disk.{Ghosts as DiskOf}
use Rattle.object_graph.specs.Slots.{below}
use Rattle.object_graph.specs.declared.calls.Phase.TheVariants.{Copying, Closed, Sweeping}
use Rattle.object_graph.specs.declared.calls.Call.{Call}
use Rattle.object_graph.specs.declared.calls.Call.TheVariants.{OpenCut, Copy, Close, Mark, Sweep, EndCut}
use Rattle.object_graph.specs.declared.calls.Reply.{Reply}
use Rattle.object_graph.specs.declared.calls.Reply.TheVariants.{Done, Freed, Refused}
use Rattle.store_model.specs.Worlds.{World, Note}
use Rattle.store_model.specs.Replies.{Answers}
use Rattle.store_model.specs.Histories.{collection}
use Rattle.cut_core.specs.Seen.{Seen}
use Rattle.store_machine.specs.Acts.{Acts}
use Rattle.generator.specs.Rounds.{store_pages, caller_entry}
use Rattle.generator.specs.Summaries.{Counts, freed_by_reply}
use Rattle.generator.specs.Between.{IsNeverRefused, IsOnlyStopped, IsResting, IsCollecting}
use Rattle.generator.specs.Making.{MadeEntries, Replied, AllAnswered, HasCopied, SweepsPage, HasSwept, StopsAmong, HasCollected, why_of}
use Rattle.generator.specs.declared.asking.Stop.{Stop}
use Rattle.generator.proofs.Collecting.{open_may, opens, copy_may, close_may, sweep_may, end_may, copies, closes, is_marked, sweeps, ends}
use Rattle.generator.proofs.Rounds.{answered_join, answered_once, answered_none, counts_join, counts_none}
use Rattle.generator.proofs.Replying.{never_refused, only_stopped}
use Rattle.generator.proofs.Joins.{made_join, made_none}

-- ---- what may be asked

pub open_only : (w : World) → IsResting w → IsOnlyStopped w OpenCut
open_only w r = only_stopped w OpenCut (λ note. open_may w note r)

pub copy_never : (w : World) (page : ℕ) → IsCollecting Copying page 0 w → page < store_pages → IsNeverRefused w (Copy page)
copy_never w page a low = never_refused w (Copy page) refl refl (λ note. copy_may w page 0 note a low)

pub close_never : (w : World) → IsCollecting Copying store_pages 0 w → IsNeverRefused w Close
close_never w a = never_refused w Close refl refl (λ note. close_may w 0 note a)

pub sweep_only : (w : World) (page : ℕ) → IsCollecting Sweeping store_pages page w → page < store_pages → IsOnlyStopped w (Sweep page)
sweep_only w page a low = only_stopped w (Sweep page) (λ note. sweep_may w store_pages page note a low)

pub end_never : (w : World) → IsCollecting Sweeping store_pages store_pages w → IsNeverRefused w EndCut
end_never w a = never_refused w EndCut refl refl (λ note. end_may w store_pages note a)

-- ---- pages below another

below_more : (call : ℕ → Call) (page : ℕ) → map call (below (page + 1)) ≡ map call (below page) ++ call page ∷ []
below_more call page = ap (λ n. map call (below n)) (add-one page) ∙ map-append call (below page) (page ∷ [])

record Parted (page n : ℕ) : Type 0 where
  rest : List ℕ
  is : below n ≡ below page ++ page ∷ rest

parted : (page n : ℕ) → page < n → Parted page n
parted page zero low = absurd (omega arith)
parted page (suc n) low = elim (cases_lt page n) [
  | inl less ↦
      let p = parted page n less in
      record { rest = p.rest ++ n ∷ []; is = ap (λ ns. ns ++ n ∷ []) p.is ∙ append_assoc (below page) (page ∷ p.rest) (n ∷ []) }
  | inr more ↦ let same : n ≡ page = omega arith in record { rest = []; is = ap (λ k. below k ++ k ∷ []) same }
]

module _ {D : Type 0} (disks : DiskOf D) where
  all_join : (a b c : Seen D) (xs ys : List Call) (f g e h : ℕ) → AllAnswered disks a b xs f e → AllAnswered disks b c ys g h → AllAnswered disks a c (xs ++ ys) (f + g) (e + h)
  all_join a b c xs ys f g e h x y = record {
    entries = x.entries ++ y.entries;
    made = made_join disks a b c x.entries y.entries x.made y.made;
    answered = answered_join xs ys x.entries y.entries x.answered y.answered;
    counts = counts_join x.entries y.entries 0 f e 0 g h x.counts y.counts;
    commits = y.commits ∙ x.commits;
  }

  all_none : (s : Seen D) → Acts disks s s [] → AllAnswered disks s s [] 0 0
  all_none s acts = record { entries = []; made = made_none disks s acts; answered = answered_none; counts = counts_none; commits = refl }

  all_once : (a b : Seen D) (call : Call) (reply : Reply) (f e : ℕ) → Replied disks a b call reply → Counts (caller_entry call reply ∷ []) 0 f e → b.world.commits ≡ a.world.commits
      → AllAnswered disks a b (call ∷ []) f e
  all_once a b call reply f e r counts commits =
      record { entries = caller_entry call reply ∷ []; made = r.made; answered = answered_once call reply r.unrefused; counts = counts; commits = commits }

  -- a call that is done and counts nothing
  all_done : (a b : Seen D) (call : Call) (reply : Reply) → Replied disks a b call reply → reply ≡ Done → Counts (caller_entry call Done ∷ []) 0 0 0 → b.world.commits ≡ a.world.commits
      → AllAnswered disks a b (call ∷ []) 0 0
  all_done a b call reply r done counts commits =
      all_once a b call reply 0 0 r (subst (λ (x : Reply). Counts (caller_entry call x ∷ []) 0 0 0) (sym done) counts) commits

  -- ---- copies

  pub opened_now : (a b : Seen D) (reply : Reply) → IsResting a.world → a.world.last_cut < a.world.commits → Replied disks a b OpenCut reply → IsCollecting Copying 0 0 b.world
  opened_now a b reply rest low r = subst (IsCollecting Copying 0 0) (sym r.is) (opens a.world rest low)

  pub copied_none : (s : Seen D) → Acts disks s s [] → IsCollecting Copying 0 0 s.world → HasCopied disks s s 0
  copied_none s acts c = record { part = all_none s acts; collecting = c }

  pub copied_more : (a b c : Seen D) (page : ℕ) (reply : Reply) → HasCopied disks a b page → Replied disks b c (Copy page) reply → HasCopied disks a c (page + 1)
  copied_more a b c page reply x r = record {
    part = subst (λ (cs : List Call). AllAnswered disks a c cs 0 0) (sym (below_more (λ p. Copy p) page))
        (all_join a b c (map (λ p. Copy p) (below page)) (Copy page ∷ []) 0 0 0 0 x.part
        (all_done b c (Copy page) reply r r.answers (record { full_is = refl; freed_is = refl; ended_is = refl }) (ap (λ (w : World). w.commits) r.is)));
    collecting = subst (IsCollecting Copying (page + 1) 0) (sym r.is) (copies b.world page 0 x.collecting);
  }

  pub closed_now : (a b : Seen D) (reply : Reply) → IsCollecting Copying store_pages 0 a.world → Replied disks a b Close reply → IsCollecting Closed store_pages 0 b.world
  closed_now a b reply c r = subst (IsCollecting Closed store_pages 0) (sym r.is) (closes a.world store_pages 0 c)

  pub marked_now : (a b : Seen D) (reply : Reply) → IsCollecting Closed store_pages 0 a.world → Replied disks a b (Mark 4) reply → IsCollecting Sweeping store_pages 0 b.world
  marked_now a b reply c r = subst (IsCollecting Sweeping store_pages 0) (sym r.is) (is_marked a.world store_pages 0 c)

  -- ---- sweeps

  sweep_counts : (w : World) (page : ℕ) (note : Note) (reply : Reply) → Answers w (Sweep page) note reply → Counts (caller_entry (Sweep page) reply ∷ []) 0 (freed_by_reply reply) 0
  sweep_counts w page note (Freed slots) may = record { full_is = refl; freed_is = omega arith; ended_is = refl }
  sweep_counts w page note _ may = absurd may

  pub page_swept : (a b : Seen D) (page : ℕ) (reply : Reply) → IsCollecting Sweeping store_pages page a.world → Replied disks a b (Sweep page) reply
      → SweepsPage disks a b page (freed_by_reply reply)
  page_swept a b page reply c r = record {
    part = all_once a b (Sweep page) reply (freed_by_reply reply) 0 r (sweep_counts a.world page r.note reply r.answers) (ap (λ (w : World). w.commits) r.is);
    collecting = subst (IsCollecting Sweeping store_pages (page + 1)) (sym r.is) (sweeps a.world store_pages page _ c);
  }

  pub swept_none : (s : Seen D) → Acts disks s s [] → IsCollecting Sweeping store_pages 0 s.world → HasSwept disks s s 0 0
  swept_none s acts c = record { part = all_none s acts; collecting = c }

  pub swept_more : (a b c : Seen D) (page freed more : ℕ) → HasSwept disks a b page freed → SweepsPage disks b c page more → HasSwept disks a c (page + 1) (freed + more)
  swept_more a b c page freed more x y = record {
    part = subst (λ (cs : List Call). AllAnswered disks a c cs (freed + more) 0) (sym (below_more (λ p. Sweep p) page))
        (all_join a b c (map (λ p. Sweep p) (below page)) (Sweep page ∷ []) freed more 0 0 x.part y.part);
    collecting = y.collecting;
  }

  pub sweep_stops : (a b c : Seen D) (page freed : ℕ) (stop : Stop) → page < store_pages → HasSwept disks a b page freed
      → MadeEntries disks b c (caller_entry (Sweep page) (Refused (why_of stop)) ∷ []) → StopsAmong disks a c (map (λ p. Sweep p) (below store_pages)) stop
  sweep_stops a b c page freed stop low x m =
      let p = parted page store_pages low in
      record {
        entries = x.part.entries ++ caller_entry (Sweep page) (Refused (why_of stop)) ∷ [];
        made = made_join disks a b c x.part.entries (caller_entry (Sweep page) (Refused (why_of stop)) ∷ []) x.part.made m;
        stops = record {
          done = map (λ p. Sweep p) (below page);
          call = Sweep page;
          rest = map (λ p. Sweep p) p.rest;
          all = ap (map (λ p. Sweep p)) p.is ∙ map-append (λ p. Sweep p) (below page) (page ∷ p.rest);
          first = x.part.entries;
          are = refl;
          answered = x.part.answered;
        };
      }

  -- ---- the whole

  opened_part : (a b : Seen D) (reply : Reply) → Replied disks a b OpenCut reply → AllAnswered disks a b (OpenCut ∷ []) 0 0
  opened_part a b reply r =
      all_once a b OpenCut reply 0 0 r
      (subst (λ (x : Reply). Counts (caller_entry OpenCut x ∷ []) 0 0 0) (sym r.answers) (record { full_is = refl; freed_is = refl; ended_is = refl })) (ap (λ (w : World). w.commits) r.is)

  abbrev pub closed_calls : List Call
  closed_calls = (OpenCut ∷ []) ++ (map (λ p. Copy p) (below store_pages) ++ Close ∷ [])

  closed_part : (a b c d : Seen D) (first second : Reply) → Replied disks a b OpenCut first → HasCopied disks b c store_pages → Replied disks c d Close second
      → AllAnswered disks a d closed_calls 0 0
  closed_part a b c d first second x y z =
      all_join a b d (OpenCut ∷ []) (map (λ p. Copy p) (below store_pages) ++ Close ∷ []) 0 0 0 0 (opened_part a b first x)
      (all_join b c d (map (λ p. Copy p) (below store_pages)) (Close ∷ []) 0 0 0 0 y.part
      (all_done c d Close second z z.answers (record { full_is = refl; freed_is = refl; ended_is = refl }) (ap (λ (w : World). w.commits) z.is)))

  marked_part : (a d e : Seen D) (reply : Reply) → AllAnswered disks a d closed_calls 0 0 → Replied disks d e (Mark 4) reply → AllAnswered disks a e (closed_calls ++ Mark 4 ∷ []) 0 0
  marked_part a d e reply x z =
      all_join a d e closed_calls (Mark 4 ∷ []) 0 0 0 0 x
      (all_done d e (Mark 4) reply z z.answers (record { full_is = refl; freed_is = refl; ended_is = refl }) (ap (λ (w : World). w.commits) z.is))

  pub stops_opening : (a b : Seen D) (stop : Stop) → MadeEntries disks a b (caller_entry OpenCut (Refused (why_of stop)) ∷ []) → StopsAmong disks a b (collection store_pages 4) stop
  stops_opening a b stop m = record {
    entries = caller_entry OpenCut (Refused (why_of stop)) ∷ [];
    made = m;
    stops = record {
      done = [];
      call = OpenCut;
      rest = map (λ p. Copy p) (below store_pages) ++ (Close ∷ Mark 4 ∷ map (λ p. Sweep p) (below store_pages)) ++ EndCut ∷ [];
      all = refl;
      first = [];
      are = refl;
      answered = answered_none;
    };
  }

  pub stops_marking : (a b c d e : Seen D) (first second : Reply) (stop : Stop) → Replied disks a b OpenCut first → HasCopied disks b c store_pages → Replied disks c d Close second
      → MadeEntries disks d e (caller_entry (Mark 4) (Refused (why_of stop)) ∷ []) → StopsAmong disks a e (collection store_pages 4) stop
  stops_marking a b c d e first second stop x y z m =
      let part = closed_part a b c d first second x y z in
      record {
        entries = part.entries ++ caller_entry (Mark 4) (Refused (why_of stop)) ∷ [];
        made = made_join disks a d e part.entries (caller_entry (Mark 4) (Refused (why_of stop)) ∷ []) part.made m;
        stops = record {
          done = closed_calls;
          call = Mark 4;
          rest = map (λ p. Sweep p) (below store_pages) ++ EndCut ∷ [];
          all = refl;
          first = part.entries;
          are = refl;
          answered = part.answered;
        };
      }

  pub stops_sweeping : (a b c d e f : Seen D) (first second third : Reply) (stop : Stop) → Replied disks a b OpenCut first → HasCopied disks b c store_pages → Replied disks c d Close second
      → Replied disks d e (Mark 4) third → StopsAmong disks e f (map (λ p. Sweep p) (below store_pages)) stop → StopsAmong disks a f (collection store_pages 4) stop
  stops_sweeping a b c d e f first second third stop x y z m s =
      let part = marked_part a d e third (closed_part a b c d first second x y z) m in
      let calls : List Call = closed_calls ++ Mark 4 ∷ [] in
      let behind : (map (λ p. Sweep p) (below store_pages)) ++ EndCut ∷ [] ≡ s.stops.done ++ (s.stops.call ∷ s.stops.rest ++ EndCut ∷ []) =
      ap (λ cs. cs ++ EndCut ∷ []) s.stops.all ∙ append_assoc s.stops.done (s.stops.call ∷ s.stops.rest) (EndCut ∷ []) in
      record {
        entries = part.entries ++ s.entries;
        made = made_join disks a e f part.entries s.entries part.made s.made;
        stops = record {
          done = calls ++ s.stops.done;
          call = s.stops.call;
          rest = s.stops.rest ++ EndCut ∷ [];
          all = ap (λ cs. calls ++ cs) behind ∙ sym (append_assoc calls s.stops.done (s.stops.call ∷ s.stops.rest ++ EndCut ∷ []));
          first = part.entries ++ s.stops.first;
          are = ap (λ es. part.entries ++ es) s.stops.are ∙ sym (append_assoc part.entries s.stops.first (caller_entry s.stops.call (Refused (why_of stop)) ∷ []));
          answered = answered_join calls s.stops.done part.entries s.stops.first part.answered s.stops.answered;
        };
      }

  pub has_collected : (a b c d e f h : Seen D) (first second third last : Reply) (freed : ℕ) → Replied disks a b OpenCut first → HasCopied disks b c store_pages → Replied disks c d Close second
      → Replied disks d e (Mark 4) third → HasSwept disks e f store_pages freed → Replied disks f h EndCut last → HasCollected disks a h freed
  has_collected a b c d e f h first second third last freed x y z m s t =
      let part = marked_part a d e third (closed_part a b c d first second x y z) m in
      let calls : List Call = closed_calls ++ Mark 4 ∷ [] in
      let ending : AllAnswered disks f h (EndCut ∷ []) 0 1 =
      all_once f h EndCut last 0 1 t (subst (λ (r : Reply). Counts (caller_entry EndCut r ∷ []) 0 0 1) (sym t.answers) (record { full_is = refl; freed_is = refl; ended_is = refl }))
      (ap (λ (w : World). w.commits) t.is) in
      let whole : AllAnswered disks a h (collection store_pages 4) (0 + (freed + 0)) 1 =
      all_join a e h calls (map (λ p. Sweep p) (below store_pages) ++ EndCut ∷ []) 0 (freed + 0) 0 1 part
      (all_join e f h (map (λ p. Sweep p) (below store_pages)) (EndCut ∷ []) freed 0 0 1 s.part ending) in
      record {
        part = subst (λ (n : ℕ). AllAnswered disks a h (collection store_pages 4) n 1) (let e : 0 + (freed + 0) ≡ freed = omega arith in e) whole;
        resting = subst IsResting (sym t.is) (ends f.world store_pages store_pages s.collecting);
      }
