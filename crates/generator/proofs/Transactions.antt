-- The transaction of a round, call by call.
use Rattle.std.proofs.Common.{◌≡◌, refl, sym, ap, ◌∙◌, subst, ℕ, ◌+◌, ◌<◌, ◌≤◌, ◌==◌, Bool, true, false, Option, Some, None, List, [], ◌∷◌, ◌++◌, arith, if◌then◌else◌}
use Rattle.std.specs.List.{AllByRecursion}
use Rattle.std.specs.Option.{MatchOption, option_map, is_none}
use Rattle.disk_trait.specs.declared.disk.Disk.{Ghosts as DiskOf}
use Rattle.object_graph.specs.declared.names.TheConstants.{OBJECT_FIELDS}
use Rattle.object_graph.specs.NameParts.{NameParts}
use Rattle.object_graph.specs.Names.{root_name}
use Rattle.object_graph.specs.Graphs.{has_name}
use Rattle.object_graph.specs.declared.calls.Call.TheVariants.{Begin, Get, Set, Put, New, Commit}
use Rattle.object_graph.specs.declared.calls.Reply.{Reply}
use Rattle.object_graph.specs.declared.calls.Reply.TheVariants.{Done, Ref, Made as MadeReply, Committed, Refused}
use Rattle.object_graph.specs.declared.calls.Refusal.{Refusal}
use Rattle.object_graph.specs.declared.calls.Refusal.TheVariants.{PageFull}
use Rattle.object_graph.specs.declared.calls.Entry.{Entry}
use Rattle.store_model.specs.Worlds.{World, Transaction, Note, link, assign}
use Rattle.store_model.specs.Causes.{first_refusal, when, page_full, free_slot, new_name, new_name_at, field_seen}
use Rattle.store_model.specs.Replies.{AllowsReply, AnswersNew, is_free}
use Rattle.store_model.specs.Steps.{after_reply, with_transaction, with_target, reads_page, writes, makes, committed}
use Rattle.cut_core.specs.Seen.{Seen}
use Rattle.store_machine.specs.Acts.{Acts, Answered}
use Rattle.generator.specs.Draws.{page_drawn, field_drawn, keep_drawn}
use Rattle.generator.specs.Rounds.{store_pages, most_rounds, caller_entry, made_on, kept_in, writes_of}
use Rattle.generator.specs.Between.{IsNeverRefused, IsOnlyStopped, IsResting, Knows, IsAlone, learnt}
use Rattle.generator.specs.Making.{IsUncounted, MadeEntries, Replied, MadeNew, HasBegun, GoesOn, Fills, HasTransacted, Stops, made_name, commits_told, after_new, why_of}
use Rattle.generator.specs.declared.asking.Stop.{Stop}
use Rattle.generator.proofs.Alone.{IsKnown, begin_may, begun, get_may, set_may, put_may, new_may, commit_may, changes, knows_read, knows_written, knows_made, committed_rests}
use Rattle.generator.proofs.Rounds.{stops_begin, stops_commit}
use Rattle.generator.proofs.Replying.{never_refused, only_stopped, never_free}
use Rattle.generator.proofs.Joins.{Happened, happened, made_join, made_none, made_once}

-- ---- what may be asked

pub begin_only : (w : World) → IsResting w → IsOnlyStopped w (Begin 1)
begin_only w r = only_stopped w (Begin 1) (λ note. begin_may w note r)

pub commit_only : (names : List NameParts) (calls : ℕ) (w : World) → IsAlone names calls w → IsOnlyStopped w (Commit 1)
commit_only names calls w a = only_stopped w (Commit 1) (commit_may names calls w a)

pub get_never : (names : List NameParts) (calls : ℕ) (w : World) (name : NameParts) (field : ℕ) → IsAlone (name ∷ names) calls w → calls < 60 → field < OBJECT_FIELDS → IsNeverRefused w (Get 1 name field)
get_never names calls w name field a few low = never_refused w (Get 1 name field) refl refl (λ note. get_may (name ∷ names) calls w a name field note a.knows.known.0 low few)

pub put_never : (names : List NameParts) (calls : ℕ) (w : World) (name : NameParts) (value : ℕ) → IsAlone (name ∷ names) calls w → calls < 60 → IsNeverRefused w (Put 1 name value)
put_never names calls w name value a few = never_refused w (Put 1 name value) refl refl (λ note. put_may (name ∷ names) calls w a name value note a.knows.known.0 few)

pub set_never : (names : List NameParts) (calls : ℕ) (w : World) (name : NameParts) (field : ℕ) (target : Option NameParts) → (a : IsAlone names calls w) → calls < 60 → field < OBJECT_FIELDS
    → has_name a.transaction.known name ≡ true → IsKnown a.transaction target → IsNeverRefused w (Set 1 name field target)
set_never names calls w name field target a few low known its =
    never_refused w (Set 1 name field target) refl refl (λ note. set_may names calls w a name field target note known its low few)

-- the root is known behind what was learnt
root_behind : (t : Transaction) (target : Option NameParts) → AllByRecursion (λ (name : NameParts). has_name t.known name ≡ true) (learnt target (root_name ∷ [])) → has_name t.known root_name ≡ true
root_behind t None k = k.0
root_behind t (Some name) k = k.1.0

pub link_never : (calls : ℕ) (w : World) (name : NameParts) (old : Option NameParts) (field : ℕ) → IsAlone (name ∷ learnt old (root_name ∷ [])) calls w → calls < 60 → field < OBJECT_FIELDS
    → IsNeverRefused w (Set 1 root_name field (Some name))
link_never calls w name old field a few low =
    set_never (name ∷ learnt old (root_name ∷ [])) calls w root_name field (Some name) a few low (root_behind a.transaction old a.knows.known.1) a.knows.known.0

pub clear_never : (calls : ℕ) (w : World) (old : Option NameParts) (field : ℕ) → IsAlone (learnt old (root_name ∷ [])) calls w → calls < 60 → field < OBJECT_FIELDS
    → IsNeverRefused w (Set 1 root_name field None)
clear_never calls w old field a few low = set_never (learnt old (root_name ∷ [])) calls w root_name field None a few low (root_behind a.transaction old a.knows.known) tt

pub keep_never : (calls : ℕ) (w : World) (name target : NameParts) (old : Option NameParts) → old ≡ Some target → IsAlone (name ∷ learnt old (root_name ∷ [])) calls w → calls < 60
    → IsNeverRefused w (Set 1 name 0 (Some target))
keep_never calls w name target old e a few =
    let b : IsAlone (name ∷ target ∷ root_name ∷ []) calls w = subst (λ (o : Option NameParts). IsAlone (name ∷ learnt o (root_name ∷ [])) calls w) e a in
    set_never (name ∷ target ∷ root_name ∷ []) calls w name 0 (Some target) b few (omega arith) b.knows.known.0 b.knows.known.1.0

-- ---- what New answers

record NewAnswered (w : World) (page : ℕ) (note : Note) (reply : Reply) : Type 0 where
  told : reply ≡ made_on page (made_name reply)
  is : after_reply w (New 1 page) note reply ≡ after_new w (made_name reply)

new_full : (w : World) (page : ℕ) (note : Note) (reply : Reply) → first_refusal w (New 1 page) note ≡ Some (PageFull page) → AllowsReply w (New 1 page) note reply
    → NewAnswered w page note reply
new_full w page note (Refused why) e may =
    let same : why ≡ PageFull page = subst (λ (o : Option Refusal). MatchOption o (is_free (New 1 page) why ≡ true) (λ first. why ≡ first)) e may in
    subst (λ (r : Refusal). NewAnswered w page note (Refused r)) (sym same) (record { told = refl; is = refl })
new_full w page note reply e may = let none : first_refusal w (New 1 page) note ≡ None = may.0 in absurd (not_both (first_refusal w (New 1 page) note) (PageFull page) none e)
  where
    not_both : (o : Option Refusal) (why : Refusal) → o ≡ None → o ≡ Some why → ⊥
    not_both o why a b = cc

made_by_name : (w : World) (page : ℕ) (note : Note) (reply : Reply) (name : NameParts) → new_name w 1 page ≡ Some name → reply ≡ MadeReply name → NewAnswered w page note reply
made_by_name w page note reply name e is =
    subst (λ (r : Reply). NewAnswered w page note r) (sym is)
    (record { told = refl; is = ap (λ (o : Option NameParts). after_made o) e })
  where
    after_made : Option NameParts → World
    after_made None = w
    after_made (Some n) = with_transaction w 1 (makes n)

answered_new : (w : World) (page : ℕ) (note : Note) (reply : Reply) → first_refusal w (New 1 page) note ≡ None → AllowsReply w (New 1 page) note reply → AnswersNew (new_name w 1 page) reply
answered_new w page note (Refused why) e may =
    absurd (never_free (New 1 page) why refl refl (subst (λ (o : Option Refusal). MatchOption o (is_free (New 1 page) why ≡ true) (λ first. why ≡ first)) e may))
answered_new w page note reply e may = may.1

new_made : (w : World) (page slot : ℕ) (note : Note) (reply : Reply) → free_slot w 1 page ≡ Some slot → first_refusal w (New 1 page) note ≡ None → AllowsReply w (New 1 page) note reply
    → NewAnswered w page note reply
new_made w page slot note reply free e may =
    let named : new_name w 1 page ≡ Some (new_name_at w.graph page slot) = ap (option_map (new_name_at w.graph page)) free in
    made_by_name w page note reply (new_name_at w.graph page slot) named
    (subst (λ (o : Option NameParts). AnswersNew o reply) named (answered_new w page note reply e may))

new_answered : (w : World) (page : ℕ) (note : Note) (reply : Reply) → first_refusal w (New 1 page) note ≡ page_full w 1 page → AllowsReply w (New 1 page) note reply
    → NewAnswered w page note reply
new_answered w page note reply first may = by_slot (free_slot w 1 page) refl
  where
    by_slot : (o : Option ℕ) → free_slot w 1 page ≡ o → NewAnswered w page note reply
    by_slot None e = new_full w page note reply (first ∙ ap (λ (x : Option ℕ). when (is_none x) (PageFull page)) e) may
    by_slot (Some slot) e = new_made w page slot note reply e (first ∙ ap (λ (x : Option ℕ). when (is_none x) (PageFull page)) e) may

-- ---- fewer names, more calls

weaker : (names : List NameParts) (calls more : ℕ) (w : World) → calls ≤ more → IsAlone names calls w → IsAlone [] more w
weaker names calls more w le a = record {
  sound = a.sound;
  no_cut = a.no_cut;
  transaction = a.transaction;
  only = a.only;
  knows = record { number = a.knows.number; known = tt; few_known = omega (arith, a.knows.few_known); few_written = omega (arith, a.knows.few_written) };
}

longer : (names : List NameParts) (calls more : ℕ) (w : World) → calls ≤ more → IsAlone names calls w → IsAlone names more w
longer names calls more w le a = record {
  sound = a.sound;
  no_cut = a.no_cut;
  transaction = a.transaction;
  only = a.only;
  knows = record { number = a.knows.number; known = a.knows.known; few_known = omega (arith, a.knows.few_known); few_written = omega (arith, a.knows.few_written) };
}

changed : (names more : List NameParts) (calls : ℕ) (w v : World) (change : Transaction → Transaction) → v ≡ with_transaction w 1 change
    → ((t : Transaction) → Knows names calls t → Knows more (calls + 1) (change t)) → IsAlone names calls w → IsAlone more (calls + 1) v
changed names more calls w v change is knows a = subst (λ (x : World). IsAlone more (calls + 1) x) (sym is) (changes names calls w a more change (knows a.transaction a.knows))

uncounted_join : (u v w : World) → IsUncounted u v → IsUncounted v w → IsUncounted u w
uncounted_join u v w x y = record { commits = y.commits ∙ x.commits; cuts = y.cuts ∙ x.cuts }

uncounted_by : (w v : World) (change : Transaction → Transaction) → v ≡ with_transaction w 1 change → IsUncounted w v
uncounted_by w v change is = record { commits = ap (λ (x : World). x.commits) is; cuts = ap (λ (x : World). x.last_cut) is }

module _ {D : Type 0} (disks : DiskOf D) where
  goes_join : (a b c : Seen D) (es fs : List Entry) (names more : List NameParts) (calls later : ℕ) → GoesOn disks a b es names calls → GoesOn disks b c fs more later
      → GoesOn disks a c (es ++ fs) more later
  goes_join a b c es fs names more calls later x y =
      record { made = made_join disks a b c es fs x.made y.made; alone = y.alone; uncounted = uncounted_join a.world b.world c.world x.uncounted y.uncounted }

  pub goes_weaker : (a b : Seen D) (es : List Entry) (names : List NameParts) (calls more : ℕ) → calls ≤ more → GoesOn disks a b es names calls → GoesOn disks a b es [] more
  goes_weaker a b es names calls more le x = record { made = x.made; alone = weaker names calls more b.world le x.alone; uncounted = x.uncounted }

  goes_nowhere : (s : Seen D) (names : List NameParts) (calls : ℕ) → Acts disks s s [] → IsAlone names calls s.world → GoesOn disks s s [] names (calls + 1)
  goes_nowhere s names calls acts a =
      record { made = made_none disks s acts; alone = longer names calls (calls + 1) s.world (omega arith) a; uncounted = record { commits = refl; cuts = refl } }

  -- ---- writes

  pub set_goes : (a b : Seen D) (names : List NameParts) (calls : ℕ) (name : NameParts) (field : ℕ) (target : Option NameParts) (reply : Reply) → IsAlone names calls a.world
      → Replied disks a b (Set 1 name field target) reply → GoesOn disks a b (caller_entry (Set 1 name field target) Done ∷ []) names (calls + 1)
  set_goes a b names calls name field target reply alone r = record {
    made = subst (λ (x : Reply). MadeEntries disks a b (caller_entry (Set 1 name field target) x ∷ [])) r.answers r.made;
    alone = changed names names calls a.world b.world (writes (link name field target) name.page) r.is (λ t k. knows_written names calls name.page (link name field target) t k) alone;
    uncounted = uncounted_by a.world b.world (writes (link name field target) name.page) r.is;
  }

  pub put_goes : (a b : Seen D) (names : List NameParts) (calls : ℕ) (name : NameParts) (value : ℕ) (reply : Reply) → IsAlone names calls a.world
      → Replied disks a b (Put 1 name value) reply → GoesOn disks a b (caller_entry (Put 1 name value) Done ∷ []) names (calls + 1)
  put_goes a b names calls name value reply alone r = record {
    made = subst (λ (x : Reply). MadeEntries disks a b (caller_entry (Put 1 name value) x ∷ [])) r.answers r.made;
    alone = changed names names calls a.world b.world (writes (assign name value) name.page) r.is (λ t k. knows_written names calls name.page (assign name value) t k) alone;
    uncounted = uncounted_by a.world b.world (writes (assign name value) name.page) r.is;
  }

  pub kept_goes : (a b : Seen D) (x : ℕ) (name target : NameParts) (old : Option NameParts) (reply : Reply) → old ≡ Some target → (keep_drawn x == 1) ≡ true
      → IsAlone (name ∷ learnt old (root_name ∷ [])) 3 a.world → Replied disks a b (Set 1 name 0 (Some target)) reply
      → GoesOn disks a b (kept_in name x old) (name ∷ learnt old (root_name ∷ [])) 4
  kept_goes a b x name target old reply e drawn alone r =
      let goes = set_goes a b (name ∷ learnt old (root_name ∷ [])) 3 name 0 (Some target) reply alone r in
      subst (λ (es : List Entry). GoesOn disks a b es (name ∷ learnt old (root_name ∷ [])) 4)
      (sym (ap (kept_in name x) e ∙ ap (λ c. if c then caller_entry (Set 1 name 0 (Some target)) Done ∷ [] else []) drawn)) goes

  pub not_kept : (s : Seen D) (x : ℕ) (name target : NameParts) (old : Option NameParts) → old ≡ Some target → (keep_drawn x == 1) ≡ false
      → IsAlone (name ∷ learnt old (root_name ∷ [])) 3 s.world → Acts disks s s [] → GoesOn disks s s (kept_in name x old) (name ∷ learnt old (root_name ∷ [])) 4
  not_kept s x name target old e drawn alone acts =
      subst (λ (es : List Entry). GoesOn disks s s es (name ∷ learnt old (root_name ∷ [])) 4)
      (sym (ap (kept_in name x) e ∙ ap (λ c. if c then caller_entry (Set 1 name 0 (Some target)) Done ∷ [] else []) drawn))
      (goes_nowhere s (name ∷ learnt old (root_name ∷ [])) 3 acts alone)

  pub none_kept : (s : Seen D) (x : ℕ) (name : NameParts) (old : Option NameParts) → old ≡ None
      → IsAlone (name ∷ learnt old (root_name ∷ [])) 3 s.world → Acts disks s s [] → GoesOn disks s s (kept_in name x old) (name ∷ learnt old (root_name ∷ [])) 4
  none_kept s x name old e alone acts =
      subst (λ (es : List Entry). GoesOn disks s s es (name ∷ learnt old (root_name ∷ [])) 4) (sym (ap (kept_in name x) e)) (goes_nowhere s (name ∷ learnt old (root_name ∷ [])) 3 acts alone)

  pub all_written : (a b c d : Seen D) (x i field : ℕ) (name : NameParts) (old : Option NameParts) (first last : Reply) → field ≡ field_drawn x
      → IsAlone (name ∷ learnt old (root_name ∷ [])) 2 a.world → Replied disks a b (Put 1 name i) first
      → GoesOn disks b c (kept_in name x old) (name ∷ learnt old (root_name ∷ [])) 4 → Replied disks c d (Set 1 root_name field (Some name)) last
      → GoesOn disks a d (writes_of x i old (Some name)) [] 5
  all_written a b c d x i field name old first last e alone p k s =
      let names : List NameParts = name ∷ learnt old (root_name ∷ []) in
      let linked : GoesOn disks c d (caller_entry (Set 1 root_name (field_drawn x) (Some name)) Done ∷ []) names 5 =
      subst (λ (f : ℕ). GoesOn disks c d (caller_entry (Set 1 root_name f (Some name)) Done ∷ []) names 5) e (set_goes c d names 4 root_name field (Some name) last k.alone s) in
      goes_weaker a d (writes_of x i old (Some name)) names 5 5 (omega arith)
      (goes_join a b d (caller_entry (Put 1 name i) Done ∷ []) (kept_in name x old ++ caller_entry (Set 1 root_name (field_drawn x) (Some name)) Done ∷ []) names names 3 5
      (put_goes a b names 2 name i first alone p)
      (goes_join b c d (kept_in name x old) (caller_entry (Set 1 root_name (field_drawn x) (Some name)) Done ∷ []) names names 4 5 k linked))

  -- ---- the object

  pub made_new : (a b : Seen D) (names : List NameParts) (calls page : ℕ) (reply : Reply) → IsAlone names calls a.world → calls < 60 → page < store_pages
      → Answered disks a b (New 1 page) reply → MadeNew disks a b page (made_name reply)
  made_new a b names calls page reply alone few low r =
      let h : Happened a.world (New 1 page) reply r.note b.world = happened _ a.world b.world (New 1 page) reply r.note (λ e. absurd cc) r.acts.runs in
      let n : NewAnswered a.world page r.note reply = new_answered a.world page r.note reply (new_may names calls a.world alone page r.note low few) h.allowed.1 in
      record {
        entries = subst (λ (x : Reply). MadeEntries disks a b (caller_entry (New 1 page) x ∷ [])) n.told (made_once disks a b (New 1 page) reply r h);
        is = h.is ∙ n.is;
      }

  pub new_goes : (a b : Seen D) (names : List NameParts) (calls page : ℕ) (made : Option NameParts) → IsAlone names calls a.world → MadeNew disks a b page made
      → GoesOn disks a b (caller_entry (New 1 page) (made_on page made) ∷ []) (learnt made names) (calls + 1)
  new_goes a b names calls page None alone m =
      let same : b.world ≡ a.world = m.is in
      record {
        made = m.entries;
        alone = subst (λ (w : World). IsAlone names (calls + 1) w) (sym same) (longer names calls (calls + 1) a.world (omega arith) alone);
        uncounted = record { commits = ap (λ (w : World). w.commits) same; cuts = ap (λ (w : World). w.last_cut) same };
      }
  new_goes a b names calls page (Some name) alone m = record {
    made = m.entries;
    alone = changed names (name ∷ names) calls a.world b.world (makes name) m.is (λ t k. knows_made names calls name t k) alone;
    uncounted = uncounted_by a.world b.world (makes name) m.is;
  }

  pub fills_full : (a b c : Seen D) (x i page field : ℕ) (old : Option NameParts) (reply : Reply) → page ≡ page_drawn x → field ≡ field_drawn x
      → IsAlone (learnt old (root_name ∷ [])) 1 a.world → MadeNew disks a b page None → Replied disks b c (Set 1 root_name field None) reply → Fills disks a c x i old true
  fills_full a b c x i page field old reply e f alone m r =
      let names : List NameParts = learnt old (root_name ∷ []) in
      let first : GoesOn disks a b (caller_entry (New 1 (page_drawn x)) (made_on (page_drawn x) None) ∷ []) names 2 =
      subst (λ (p : ℕ). GoesOn disks a b (caller_entry (New 1 p) (made_on p None) ∷ []) names 2) e (new_goes a b names 1 page None alone m) in
      let second : GoesOn disks b c (caller_entry (Set 1 root_name (field_drawn x) None) Done ∷ []) names 3 =
      subst (λ (k : ℕ). GoesOn disks b c (caller_entry (Set 1 root_name k None) Done ∷ []) names 3) f (set_goes b c names 2 root_name field None reply first.alone r) in
      record {
        object = None;
        is_full = refl;
        goes = goes_weaker a c (caller_entry (New 1 (page_drawn x)) (made_on (page_drawn x) None) ∷ writes_of x i old None) names 3 10 (omega arith)
            (goes_join a b c (caller_entry (New 1 (page_drawn x)) (made_on (page_drawn x) None) ∷ []) (writes_of x i old None) names names 2 3 first second);
      }

  pub fills_made : (a b c : Seen D) (x i page : ℕ) (old : Option NameParts) (name : NameParts) → page ≡ page_drawn x
      → IsAlone (learnt old (root_name ∷ [])) 1 a.world → MadeNew disks a b page (Some name) → GoesOn disks b c (writes_of x i old (Some name)) [] 5 → Fills disks a c x i old false
  fills_made a b c x i page old name e alone m written =
      let names : List NameParts = learnt old (root_name ∷ []) in
      let first : GoesOn disks a b (caller_entry (New 1 (page_drawn x)) (made_on (page_drawn x) (Some name)) ∷ []) (name ∷ names) 2 =
      subst (λ (p : ℕ). GoesOn disks a b (caller_entry (New 1 p) (made_on p (Some name)) ∷ []) (name ∷ names) 2) e (new_goes a b names 1 page (Some name) alone m) in
      record {
        object = Some name;
        is_full = refl;
        goes = goes_weaker a c (caller_entry (New 1 (page_drawn x)) (made_on (page_drawn x) (Some name)) ∷ writes_of x i old (Some name)) [] 5 10 (omega arith)
            (goes_join a b c (caller_entry (New 1 (page_drawn x)) (made_on (page_drawn x) (Some name)) ∷ []) (writes_of x i old (Some name)) (name ∷ names) [] 2 5 first written);
      }

  -- ---- the beginning

  begun_alone : (a b : Seen D) (reply : Reply) → IsResting a.world → Replied disks a b (Begin 1) reply → IsAlone (root_name ∷ []) 0 b.world
  begun_alone a b reply rest r = subst (λ (w : World). IsAlone (root_name ∷ []) 0 w) (sym r.is) (begun a.world rest)

  pub look_never : (a b : Seen D) (field : ℕ) (reply : Reply) → IsResting a.world → field < OBJECT_FIELDS → Replied disks a b (Begin 1) reply → IsNeverRefused b.world (Get 1 root_name field)
  look_never a b field reply rest low r = get_never [] 0 b.world root_name field (begun_alone a b reply rest r) (omega arith) low

  pub has_begun : (a b c : Seen D) (field : ℕ) (reply : Reply) (target : Option NameParts) → IsResting a.world → Replied disks a b (Begin 1) reply
      → Replied disks b c (Get 1 root_name field) (Ref target) → HasBegun disks a c field target
  has_begun a b c field reply target rest r s =
      let seen : Option NameParts = field_seen b.world 1 root_name field in
      let told : Ref target ≡ Ref seen = s.answers in
      let same : seen ≡ target = cc in
      let read : Transaction → Transaction = λ u. reads_page 0 (record u { known = with_target seen u.known }) in
      let alone : IsAlone (learnt seen (root_name ∷ [])) 1 c.world =
      changed (root_name ∷ []) (learnt seen (root_name ∷ [])) 0 b.world c.world read s.is (λ t k. knows_read (root_name ∷ []) 0 0 seen t k) (begun_alone a b reply rest r) in
      record {
        made = made_join disks a b c (caller_entry (Begin 1) Done ∷ []) (caller_entry (Get 1 root_name field) (Ref target) ∷ [])
            (subst (λ (x : Reply). MadeEntries disks a b (caller_entry (Begin 1) x ∷ [])) r.answers r.made) s.made;
        alone = subst (λ (o : Option NameParts). IsAlone (learnt o (root_name ∷ [])) 1 c.world) same alone;
        uncounted = uncounted_join a.world b.world c.world (record { commits = ap (λ (w : World). w.commits) r.is; cuts = ap (λ (w : World). w.last_cut) r.is })
            (uncounted_by b.world c.world read s.is);
      }

  -- ---- the whole

  pub has_transacted : (a b c d : Seen D) (x i field : ℕ) (old : Option NameParts) (full : Bool) (reply : Reply) → field ≡ field_drawn x → a.world.commits ≡ i → i < most_rounds
      → HasBegun disks a b field old → Fills disks b c x i old full → Replied disks c d (Commit 1) reply → HasTransacted disks a d x i full (commits_told reply)
  has_transacted a b c d x i field old full reply e number few begun fills r =
      let at : c.world.commits ≡ i = fills.goes.uncounted.commits ∙ (begun.uncounted.commits ∙ number) in
      let committed_now : d.world ≡ committed c.world 1 = r.is in
      let told : reply ≡ Committed (i + 1) = r.answers ∙ ap (λ n. Committed (n + 1)) at in
      let count : d.world.commits ≡ c.world.commits + 1 = ap (λ (w : World). w.commits) committed_now in
      let cuts : d.world.last_cut ≡ c.world.last_cut = ap (λ (w : World). w.last_cut) committed_now in
      record {
        before = old;
        object = fills.object;
        is_full = fills.is_full;
        told = ap commits_told r.answers ∙ sym count;
        made = made_join disks a b d (caller_entry (Begin 1) Done ∷ caller_entry (Get 1 root_name (field_drawn x)) (Ref old) ∷ [])
            ((caller_entry (New 1 (page_drawn x)) (made_on (page_drawn x) fills.object) ∷ writes_of x i old fills.object) ++ caller_entry (Commit 1) (Committed (i + 1)) ∷ [])
            (subst (λ (f : ℕ). MadeEntries disks a b (caller_entry (Begin 1) Done ∷ caller_entry (Get 1 root_name f) (Ref old) ∷ [])) e begun.made)
            (made_join disks b c d (caller_entry (New 1 (page_drawn x)) (made_on (page_drawn x) fills.object) ∷ writes_of x i old fills.object) (caller_entry (Commit 1) (Committed (i + 1)) ∷ [])
            fills.goes.made (subst (λ (y : Reply). MadeEntries disks c d (caller_entry (Commit 1) y ∷ [])) told r.made));
        resting = subst IsResting (sym committed_now) (committed_rests [] 10 c.world fills.goes.alone (omega arith));
        commits = count ∙ ap (λ n. n + 1) (fills.goes.uncounted.commits ∙ begun.uncounted.commits);
        cuts = let s = fills.goes.alone.sound in let le = s.cuts in omega arith;
      }

  pub stopped_begin : (a b : Seen D) (x i : ℕ) (stop : Stop) → MadeEntries disks a b (caller_entry (Begin 1) (Refused (why_of stop)) ∷ []) → Stops disks a b x i stop
  stopped_begin a b x i stop m = record { entries = caller_entry (Begin 1) (Refused (why_of stop)) ∷ []; made = m; stops = stops_begin x i (why_of stop) }

  pub stopped_commit : (a b c d : Seen D) (x i field : ℕ) (old : Option NameParts) (full : Bool) (stop : Stop) → field ≡ field_drawn x
      → HasBegun disks a b field old → Fills disks b c x i old full → MadeEntries disks c d (caller_entry (Commit 1) (Refused (why_of stop)) ∷ []) → Stops disks a d x i stop
  stopped_commit a b c d x i field old full stop e begun fills m = record {
    entries = (caller_entry (Begin 1) Done ∷ caller_entry (Get 1 root_name (field_drawn x)) (Ref old) ∷ [])
        ++ ((caller_entry (New 1 (page_drawn x)) (made_on (page_drawn x) fills.object) ∷ writes_of x i old fills.object) ++ caller_entry (Commit 1) (Refused (why_of stop)) ∷ []);
    made = made_join disks a b d (caller_entry (Begin 1) Done ∷ caller_entry (Get 1 root_name (field_drawn x)) (Ref old) ∷ [])
        ((caller_entry (New 1 (page_drawn x)) (made_on (page_drawn x) fills.object) ∷ writes_of x i old fills.object) ++ caller_entry (Commit 1) (Refused (why_of stop)) ∷ [])
        (subst (λ (f : ℕ). MadeEntries disks a b (caller_entry (Begin 1) Done ∷ caller_entry (Get 1 root_name f) (Ref old) ∷ [])) e begun.made)
        (made_join disks b c d (caller_entry (New 1 (page_drawn x)) (made_on (page_drawn x) fills.object) ∷ writes_of x i old fills.object) (caller_entry (Commit 1) (Refused (why_of stop)) ∷ [])
        fills.goes.made m);
    stops = stops_commit x i old fills.object (why_of stop);
  }
