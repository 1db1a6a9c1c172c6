-- What each event leaves of the graph, of what is freed, and of a cut's opening.
use Rattle.std.proofs.Common.{◌≡◌, ℕ, ◌==◌, Bool, true, false, not, ◌&&◌, cond, List, [], ◌++◌, Option, Some, None, refl, sym, subst, ap, inl, inr}
use Rattle.std.specs.List.{filter}
use Rattle.std.specs.Option.{unwrap_or}
use Rattle.std.proofs.lemmas.Bool.{and_parts, and_from, cases_Bool, eqb-true, not-true}
use Rattle.object_graph.specs.NameParts.{NameParts}
use Rattle.object_graph.specs.Names.{root_name}
use Rattle.object_graph.specs.Slots.{has_slot}
use Rattle.object_graph.specs.ObjectParts.{ObjectParts}
use Rattle.object_graph.specs.declared.calls.Call.{Call}
use Rattle.object_graph.specs.declared.calls.Call.TheVariants.{New, Commit, Sweep, Reopen}
use Rattle.object_graph.specs.declared.calls.Reply.{Reply}
use Rattle.object_graph.specs.declared.calls.Reply.TheVariants.{Refused}
use Rattle.object_graph.specs.Graphs.{has_object, has_name, refers}
use Rattle.store_model.specs.Worlds.{World, Transaction, Opening, unfreed, Note, Doubt, no_doubt, commit_in_doubt, sweep_in_doubt, starts, view, is_freed, find_transaction, transaction, fresh_transaction, IsReached}
use Rattle.store_model.specs.Causes.{first_refusal, new_name}
use Rattle.store_model.specs.Replies.{AllowsReply, names_in, found_in}
use Rattle.store_model.specs.Steps.{after_answer, after_reply, opening_of, slots_freed, commits_found, graph_in_doubt, reopened}
use Rattle.store_model.specs.Worlds.{IsOutOfReach}
use Rattle.object_graph.proofs.Members.{In, append_right, in_filter, in_map}
use Rattle.object_graph.proofs.Paths.{has_name_in, in_has_name, reached_more}
use Rattle.store_model.proofs.Reach.{IsSafeView}
use Rattle.store_model.proofs.Cuts.{refers_from, view_refers}
use Rattle.store_model.specs.Lawful.{KeepsLost, IsOrderly}
use Rattle.store_model.specs.Worlds.{is_unfreed, IsLost}
use Rattle.store_model.proofs.Changes.{graph-with_new, graph-after_refusal, freed-with_new, freed-after_refusal}
use Rattle.store_model.proofs.OutOfReach.{safe_one, unreached_is_out, Follows, name_stays, out_stays}
use Rattle.store_model.proofs.Lists.{find_in}
use Rattle.store_model.proofs.Opened.{commit_is_open}

-- ---- the graph after an event

safe_fresh : (w : World) (n : ℕ) → IsOrderly w → IsSafeView w (fresh_transaction n)
safe_fresh w n lawful =
    let root : has_object w.graph root_name ≡ true = (and_parts (has_object w.graph root_name) (not (is_freed w root_name)) lawful.root).0 in
    record {
      known = (inr (root_name, [], refl, (refl, root)), tt);
      writes = tt;
      own_are_new = λ name own. cc;
    }

safe_any : (w : World) (n : ℕ) → IsOrderly w → IsSafeView w (transaction w n)
safe_any w n lawful = by_found (find_transaction w n) refl
  where
    by_found : (o : Option Transaction) → find_transaction w n ≡ o → IsSafeView w (unwrap_or o (fresh_transaction n))
    by_found None e = safe_fresh w n lawful
    by_found (Some t) e = safe_one w t lawful (find_in (λ (t : Transaction). t.number == n) w.transactions t e)

follows_doubt : (w : World) (doubt : Doubt) (after : World) → IsOrderly w → (b : Bool) → after.graph ≡ cond b w.graph (graph_in_doubt w doubt) → Follows w after
follows_doubt w doubt after lawful true e = inl e
follows_doubt w no_doubt after lawful false e = inl e
follows_doubt w (sweep_in_doubt page) after lawful false e = inl e
follows_doubt w (commit_in_doubt t) after lawful false e = inr (transaction w t, safe_any w t lawful, e)

follows_answer : (w : World) (call : Call) (note : Note) (reply : Reply) → IsOrderly w → first_refusal w call note ≡ None → Follows w (after_answer w call note reply)
follows_answer w (New t page) note reply lawful may = inl (graph-with_new w t (new_name w t page))
follows_answer w (Commit t) note reply lawful may = inr (transaction w t, safe_one w (transaction w t) lawful (commit_is_open w t note may), refl)
follows_answer w Reopen note reply lawful may =
    follows_doubt w w.doubt (reopened w (commits_found w reply) (found_in note)) lawful (commits_found w reply == w.commits) refl
follows_answer w _ note reply lawful may = inl refl

-- after each event the graph is as before, or with the view of a transaction
pub follows : (w : World) (call : Call) (note : Note) (reply : Reply) → IsOrderly w → AllowsReply w call note reply → Follows w (after_reply w call note reply)
follows w call note (Refused why) lawful may = inl (graph-after_refusal w call note why)
follows w Reopen note reply lawful may = follows_doubt w w.doubt (reopened w (commits_found w reply) (found_in note)) lawful (commits_found w reply == w.commits) refl
follows w call note reply lawful may = follows_answer w call note reply lawful may.0

-- what is freed only grows
abbrev pub Grows : List NameParts → List NameParts → Type 0
Grows freed after = (more : List NameParts) × (after ≡ more ++ freed)

pub grows_answer : (w : World) (call : Call) (note : Note) (reply : Reply) → Grows w.freed (after_answer w call note reply).freed
grows_answer w (New t page) note reply = ([], freed-with_new w t (new_name w t page))
grows_answer w (Sweep page) note reply = (names_in w page (slots_freed reply), refl)
grows_answer w Reopen note reply = (found_in note, refl)
grows_answer w _ note reply = ([], refl)

pub freed_grows : (w : World) (call : Call) (note : Note) (reply : Reply) → Grows w.freed (after_reply w call note reply).freed
freed_grows w call note (Refused why) = ([], freed-after_refusal w call note why)
freed_grows w call note reply = grows_answer w call note reply

pub still_freed : (freed after : List NameParts) (name : NameParts) → Grows freed after → has_name freed name ≡ true → has_name after name ≡ true
still_freed freed after name grows h =
    in_has_name after name (subst (λ ns. In name ns) (sym grows.1) (append_right grows.0 freed name (has_name_in freed name h)))

pub was_unfreed : (freed after : List NameParts) (name : NameParts) → Grows freed after → not (has_name after name) ≡ true → not (has_name freed name) ≡ true
was_unfreed freed after name grows h = elim (cases_Bool (has_name freed name)) [
  | inr e ↦ ap not e
  | inl e ↦ let a = still_freed freed after name grows e in let b = not-true (has_name after name) h in cc
]

-- a name that a sweep frees
pub in_names_in : (w : World) (page slots : ℕ) (name : NameParts) → In name (names_in w page slots)
    → (o : ObjectParts) × In o w.graph × (is_unfreed w.freed o ≡ true) × (o.name.page ≡ page) × (has_slot slots o.name.slot ≡ true) × (name ≡ o.name)
in_names_in w page slots name m =
    let a = in_map (λ (o : ObjectParts). o.name) (filter (λ (o : ObjectParts). (o.name.page == page) && has_slot slots o.name.slot) (unfreed w)) name m in
    let o : ObjectParts = a.0 in
    let b = in_filter (λ (o : ObjectParts). (o.name.page == page) && has_slot slots o.name.slot) (unfreed w) o a.1 in
    let c = in_filter (is_unfreed w.freed) w.graph o b.0 in
    let d = and_parts (o.name.page == page) (has_slot slots o.name.slot) b.1 in
    (o, c.0, c.1, eqb-true o.name.page page d.0, d.1, a.2)

-- ---- what is kept of an opening

-- nothing in the view of a transaction refers to what was lost
pub view_kept : (w : World) (t : Transaction) (opening : Opening) (name target : NameParts) → IsSafeView w t → KeepsLost w opening
    → ¬ IsLost opening name → IsLost opening target → not (has_name w.freed name) ≡ true → ¬ (refers (view w t) name target ≡ true)
view_kept w t opening name target sv keeps safe lost unfreed = λ r.
    elim (view_refers w t name target sv r) [
      | inl before ↦ keeps.kept name target safe lost unfreed before
      | inr known ↦ elim known [
        | inl own ↦ let f = sv.own_are_new target own in let b : has_object w.graph target ≡ true = keeps.there target lost.old in cc
        | inr reached ↦ (keeps.out target lost).0 reached
      ]
    ]

-- what was lost stays out of reach, and nothing else refers to it
pub lost_stays : (w after : World) (opening : Opening) → IsOrderly after → Follows w after → Grows w.freed after.freed → KeepsLost w opening → KeepsLost after opening
lost_stays w after opening lawful follows grows keeps = record {
  there = λ name old. name_stays w after name follows (keeps.there name old);
  out = λ name lost. out_stays w after name lawful follows (keeps.there name lost.old) (keeps.out name lost).0;
  kept = λ name target safe lost unfreed r.
      let before = was_unfreed w.freed after.freed name grows unfreed in
      elim follows [
        | inl e ↦ keeps.kept name target safe lost before (subst (λ g. refers g name target ≡ true) e r)
        | inr s ↦ view_kept w s.0 opening name target s.1 keeps safe lost before (subst (λ g. refers g name target ≡ true) s.2 r)
      ];
}

-- each event keeps it
pub event_keeps_lost : (w : World) (opening : Opening) (call : Call) (note : Note) (reply : Reply) → IsOrderly w → IsOrderly (after_reply w call note reply)
    → AllowsReply w call note reply → KeepsLost w opening → KeepsLost (after_reply w call note reply) opening
event_keeps_lost w opening call note reply lawful next may keeps =
    lost_stays w (after_reply w call note reply) opening next (follows w call note reply lawful may) (freed_grows w call note reply) keeps

-- and what is out of reach stays out of reach
pub event_keeps_out : (w : World) (name : NameParts) (call : Call) (note : Note) (reply : Reply) → IsOrderly w → IsOrderly (after_reply w call note reply)
    → AllowsReply w call note reply → has_object w.graph name ≡ true → ¬ IsReached w name → IsOutOfReach (after_reply w call note reply) name
event_keeps_out w name call note reply lawful next may there unreached =
    out_stays w (after_reply w call note reply) name next (follows w call note reply lawful may) there unreached

-- ---- a cut opens

-- the opening is kept as it is made
pub opening_keeps_lost : (w : World) → IsOrderly w → KeepsLost w (opening_of w)
opening_keeps_lost w lawful = record {
  there = λ name old. (and_parts (has_object w.graph name) (not (is_freed w name)) old).0;
  out = λ name lost. unreached_is_out w name lawful (and_parts (has_object w.graph name) (not (is_freed w name)) lost.old).0 lost.unreached;
  kept = λ name target safe lost unfreed r. safe (record {
    old = and_from (has_object w.graph name) (not (is_freed w name)) (refers_from w.graph name target r) unfreed;
    unreached = λ reached. lost.unreached (reached_more w.graph (starts w) name target reached r (and_parts (has_object w.graph target) (not (is_freed w target)) lost.old).0);
  });
}
