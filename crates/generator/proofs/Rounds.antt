-- Rounds one after the other, their beginnings, and what they count.
use Rattle.std.proofs.Common.{◌≡◌, ℕ, ◌+◌, ◌==◌, Bool, true, false, cond, List, [], ◌∷◌, ◌++◌, map, length, Option, Some, None, refl, sym, subst, ap, ◌∙◌, arith, append_assoc, append-nil, add-one, if◌then◌else◌}
use Rattle.std.specs.List.{AllByRecursion}
use Rattle.std.proofs.lemmas.List.{map-append}
use Rattle.std.proofs.lemmas.List.Sums.{sum_by-append}
use Rattle.std.proofs.lemmas.Grind.{flat_map-append}
use Rattle.object_graph.specs.NameParts.{NameParts}
use Rattle.object_graph.specs.Names.{root_name}
use Rattle.object_graph.specs.declared.calls.Call.{Call}
use Rattle.object_graph.specs.declared.calls.Call.TheVariants.{Begin, Get, Set, Put, New, Commit}
use Rattle.object_graph.specs.declared.calls.Reply.{Reply}
use Rattle.object_graph.specs.declared.calls.Reply.TheVariants.{Done, Ref, Committed, Refused}
use Rattle.object_graph.specs.declared.calls.Refusal.{Refusal}
use Rattle.object_graph.specs.declared.calls.Refusal.TheVariants.{PageFull}
use Rattle.object_graph.specs.declared.calls.Entry.{Entry}
use Rattle.store_model.specs.Worlds.{Event}
use Rattle.store_model.specs.Histories.{is_refused}
use Rattle.generator.specs.Draws.{next_draw, drawn, page_drawn, field_drawn, keep_drawn}
use Rattle.generator.specs.Rounds.{caller_entry, made_on, kept_in, writes_of, transaction_of, collected_after, AreAnswered, IsRound, AreRounds, StopsRound, StopsCollection, entries_of, joined_rounds}
use Rattle.generator.specs.Summaries.{is_full, freed_by_reply, ends_cut, full_in, freed_by_entries, ended_in, Counts}

-- ---- draws

pub one_drawn : (from n : ℕ) → drawn from (n + 1) ≡ next_draw (drawn from n)
one_drawn from n = ap (drawn from) (add-one n)

-- ---- all rounds

pub are_rounds_more : (from i n : ℕ) (rounds : List (List Entry)) (round : List Entry) → n ≡ i + length rounds → AreRounds from i rounds → IsRound (drawn from (n + 1)) n round
    → AreRounds from i (rounds ++ round ∷ [])
are_rounds_more from i n [] round e h r = (subst (λ (k : ℕ). IsRound (drawn from (k + 1)) k round) (let same : n ≡ i = omega arith in same) r, tt)
are_rounds_more from i n (first ∷ rounds) round e h r = (h.0, are_rounds_more from (i + 1) n rounds round (omega arith) h.1 r)

pub joined_more : (rounds : List (List Entry)) (round : List Entry) → joined_rounds (rounds ++ round ∷ []) ≡ joined_rounds rounds ++ round
joined_more rounds round = flat_map-append (λ (r : List Entry). r) rounds (round ∷ []) ∙ ap (λ r. joined_rounds rounds ++ r) (append-nil round)

pub entries_join : (history part : List Event) → entries_of (history ++ part) ≡ entries_of history ++ entries_of part
entries_join history part = map-append (λ (e : Event). e.entry) history part

-- ---- calls that are answered

pub answered_join : (xs ys : List Call) (es fs : List Entry) → AreAnswered xs es → AreAnswered ys fs → AreAnswered (xs ++ ys) (es ++ fs)
answered_join xs ys es fs a b = record {
  are = map-append (λ (e : Entry). e.call) es fs ∙ (ap (λ cs. cs ++ map (λ (e : Entry). e.call) fs) a.are ∙ ap (λ cs. xs ++ cs) b.are);
  none_refused = all_join (λ (e : Entry). is_refused e.reply ≡ false) es fs a.none_refused b.none_refused;
}
  where
    all_join : (P : Entry → Type 0) (es fs : List Entry) → AllByRecursion P es → AllByRecursion P fs → AllByRecursion P (es ++ fs)
    all_join P [] fs a b = b
    all_join P (e ∷ es) fs a b = (a.0, all_join P es fs a.1 b)

pub answered_once : (call : Call) (reply : Reply) → is_refused reply ≡ false → AreAnswered (call ∷ []) (caller_entry call reply ∷ [])
answered_once call reply h = record { are = refl; none_refused = (h, tt) }

pub answered_none : AreAnswered [] []
answered_none = record { are = refl; none_refused = tt }

-- calls as they may go on
done_all : List Call → List Entry
done_all [] = []
done_all (call ∷ calls) = caller_entry call Done ∷ done_all calls

done_answered : (calls : List Call) → AreAnswered calls (done_all calls)
unfolding done_all
done_answered [] = answered_none
done_answered (call ∷ calls) = answered_join (call ∷ []) calls (caller_entry call Done ∷ []) (done_all calls) (answered_once call Done refl) (done_answered calls)

-- ---- a round that stops

-- what comes before the commit
abbrev pub before_commit : ℕ → ℕ → Option NameParts → Option NameParts → List Entry
before_commit x i old made =
    (caller_entry (Begin 1) Done ∷ caller_entry (Get 1 root_name (field_drawn x)) (Ref old) ∷ caller_entry (New 1 (page_drawn x)) (made_on (page_drawn x) made) ∷ []) ++ writes_of x i old made

pub whole_transaction : (x i : ℕ) (old made : Option NameParts) → transaction_of x i old made ≡ before_commit x i old made ++ caller_entry (Commit 1) (Committed (i + 1)) ∷ []
whole_transaction x i old made =
    sym (append_assoc (caller_entry (Begin 1) Done ∷ caller_entry (Get 1 root_name (field_drawn x)) (Ref old) ∷ caller_entry (New 1 (page_drawn x)) (made_on (page_drawn x) made) ∷ [])
    (writes_of x i old made) (caller_entry (Commit 1) (Committed (i + 1)) ∷ []))

pub stops_begin : (x i : ℕ) (why : Refusal) → StopsRound x i why (caller_entry (Begin 1) (Refused why) ∷ [])
stops_begin x i why = record {
  first = [];
  call = Begin 1;
  are = refl;
  answer = Done;
  later = caller_entry (Get 1 root_name (field_drawn x)) (Ref None) ∷ caller_entry (New 1 (page_drawn x)) (Refused (PageFull (page_drawn x)))
      ∷ caller_entry (Set 1 root_name (field_drawn x) None) Done ∷ caller_entry (Commit 1) (Committed (i + 1)) ∷ done_all (collected_after i);
  round = record { old = None; made = None; collected = done_all (collected_after i); are = refl; answered = done_answered (collected_after i) };
}

pub stops_commit : (x i : ℕ) (old made : Option NameParts) (why : Refusal) → StopsRound x i why (before_commit x i old made ++ caller_entry (Commit 1) (Refused why) ∷ [])
stops_commit x i old made why = record {
  first = before_commit x i old made;
  call = Commit 1;
  are = refl;
  answer = Committed (i + 1);
  later = done_all (collected_after i);
  round = record {
    old = old;
    made = made;
    collected = done_all (collected_after i);
    are = sym (append_assoc (before_commit x i old made) (caller_entry (Commit 1) (Committed (i + 1)) ∷ []) (done_all (collected_after i)))
        ∙ ap (λ es. es ++ done_all (collected_after i)) (sym (whole_transaction x i old made));
    answered = done_answered (collected_after i);
  };
}

pub stops_collection : (x i : ℕ) (old made : Option NameParts) (why : Refusal) (entries : List Entry) → StopsCollection (collected_after i) why entries
    → StopsRound x i why (transaction_of x i old made ++ entries)
stops_collection x i old made why entries s = record {
  first = transaction_of x i old made ++ s.first;
  call = s.call;
  are = ap (λ es. transaction_of x i old made ++ es) s.are ∙ sym (append_assoc (transaction_of x i old made) s.first (caller_entry s.call (Refused why) ∷ []));
  answer = Done;
  later = done_all s.rest;
  round = record {
    old = old;
    made = made;
    collected = s.first ++ caller_entry s.call Done ∷ done_all s.rest;
    are = append_assoc (transaction_of x i old made) s.first (caller_entry s.call Done ∷ done_all s.rest);
    answered = subst (λ (cs : List Call). AreAnswered cs (s.first ++ caller_entry s.call Done ∷ done_all s.rest)) (sym s.all)
        (answered_join s.done (s.call ∷ s.rest) s.first (caller_entry s.call Done ∷ done_all s.rest) s.answered
        (answered_join (s.call ∷ []) s.rest (caller_entry s.call Done ∷ []) (done_all s.rest) (answered_once s.call Done refl) (done_answered s.rest)));
  };
}

-- ---- what entries count

pub counts_join : (es fs : List Entry) (a b c d e f : ℕ) → Counts es a b c → Counts fs d e f → Counts (es ++ fs) (a + d) (b + e) (c + f)
counts_join es fs a b c d e f x y = record {
  full_is = sum_by-append (λ (e : Entry). cond (is_full e.reply) 1 0) es fs ∙ (ap (λ n. n + full_in fs) x.full_is ∙ ap (λ n. a + n) y.full_is);
  freed_is = sum_by-append (λ (e : Entry). freed_by_reply e.reply) es fs ∙ (ap (λ n. n + freed_by_entries fs) x.freed_is ∙ ap (λ n. b + n) y.freed_is);
  ended_is = sum_by-append (λ (e : Entry). cond (ends_cut e.call e.reply) 1 0) es fs ∙ (ap (λ n. n + ended_in fs) x.ended_is ∙ ap (λ n. c + n) y.ended_is);
}

pub counts_none : Counts [] 0 0 0
counts_none = record { full_is = refl; freed_is = refl; ended_is = refl }

-- entries that count nothing leave the counts of those after them
abbrev pub CountNothing : List Entry → Type 0
CountNothing es = Counts es 0 0 0

-- 1 where no object was made
abbrev pub full_of : Option NameParts → ℕ
full_of None = 1
full_of (Some name) = 0

kept_counts : (name : NameParts) (x : ℕ) (old : Option NameParts) → CountNothing (kept_in name x old)
kept_counts name x None = counts_none
kept_counts name x (Some old) = by_test (keep_drawn x == 1)
  where
    by_test : (b : Bool) → CountNothing (if b then caller_entry (Set 1 name 0 (Some old)) Done ∷ [] else [])
    by_test true = record { full_is = refl; freed_is = refl; ended_is = refl }
    by_test false = counts_none

writes_count : (x i : ℕ) (old made : Option NameParts) → CountNothing (writes_of x i old made)
writes_count x i old None = record { full_is = refl; freed_is = refl; ended_is = refl }
writes_count x i old (Some name) =
    counts_join (caller_entry (Put 1 name i) Done ∷ []) (kept_in name x old ++ caller_entry (Set 1 root_name (field_drawn x) (Some name)) Done ∷ []) 0 0 0 0 0 0
    (record { full_is = refl; freed_is = refl; ended_is = refl })
    (counts_join (kept_in name x old) (caller_entry (Set 1 root_name (field_drawn x) (Some name)) Done ∷ []) 0 0 0 0 0 0 (kept_counts name x old)
    (record { full_is = refl; freed_is = refl; ended_is = refl }))

begin_counts : (x : ℕ) (old made : Option NameParts)
    → Counts (caller_entry (Begin 1) Done ∷ caller_entry (Get 1 root_name (field_drawn x)) (Ref old) ∷ caller_entry (New 1 (page_drawn x)) (made_on (page_drawn x) made) ∷ []) (full_of made) 0 0
begin_counts x old None = record { full_is = refl; freed_is = refl; ended_is = refl }
begin_counts x old (Some name) = record { full_is = refl; freed_is = refl; ended_is = refl }

pub transaction_counts : (x i : ℕ) (old made : Option NameParts) → Counts (transaction_of x i old made) (full_of made) 0 0
transaction_counts x i old made =
    let c : Counts (transaction_of x i old made) (full_of made + (0 + 0)) 0 0 =
    counts_join (caller_entry (Begin 1) Done ∷ caller_entry (Get 1 root_name (field_drawn x)) (Ref old) ∷ caller_entry (New 1 (page_drawn x)) (made_on (page_drawn x) made) ∷ [])
    (writes_of x i old made ++ caller_entry (Commit 1) (Committed (i + 1)) ∷ []) (full_of made) 0 0 (0 + 0) (0 + 0) (0 + 0) (begin_counts x old made)
    (counts_join (writes_of x i old made) (caller_entry (Commit 1) (Committed (i + 1)) ∷ []) 0 0 0 0 0 0 (writes_count x i old made) (record { full_is = refl; freed_is = refl; ended_is = refl })) in
    record { full_is = let f = c.full_is in omega arith; freed_is = c.freed_is; ended_is = c.ended_is }
