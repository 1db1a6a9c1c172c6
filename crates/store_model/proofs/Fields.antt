-- Each object keeps as many references as an object of its page has.
use Rattle.std.proofs.Common.{◌≡◌, ℕ, Bool, true, false, ◌==◌, cond, List, ◌++◌, [], ◌∷◌, map, length, Option, None, refl, sym, subst, ap, ◌∙◌, inl, inr}
use Rattle.std.specs.List.{slice_set}
use Rattle.std.proofs.lemmas.List.{length-replicate, length-set}
use Rattle.object_graph.specs.NameParts.{NameParts}
use Rattle.object_graph.specs.Names.{name_eq}
use Rattle.object_graph.specs.ObjectParts.{ObjectParts}
use Rattle.object_graph.specs.declared.calls.Call.{Call}
use Rattle.object_graph.specs.declared.calls.Call.TheVariants.{New, Commit, Reopen}
use Rattle.object_graph.specs.declared.calls.Reply.{Reply}
use Rattle.object_graph.specs.declared.calls.Reply.TheVariants.{Refused}
use Rattle.object_graph.proofs.Members.{in_append, in_map, each_in, each_from}
use Rattle.store_model.specs.Worlds.{World, Transaction, Write, link, assign, Note, Event, Doubt, commit_in_doubt, view, transaction, with_writes, written_by, new_object, fields_of, fresh_world}
use Rattle.store_model.specs.Causes.{new_name}
use Rattle.store_model.specs.Steps.{graph_in_doubt, commits_found, after_answer, after_reply, next}
use Rattle.store_model.specs.Histories.{after}
use Rattle.store_model.specs.Lawful.{HaveFields}
use Rattle.store_model.proofs.Changes.{graph-after_refusal, graph-with_new}
use Rattle.store_model.proofs.Reach.{name-with_writes}

cond_length : (b : Bool) (x o : ObjectParts) → length x.refs ≡ length o.refs → length (cond b x o).refs ≡ length o.refs
cond_length true x o e = e
cond_length false x o e = refl

length-written_by : (write : Write) (o : ObjectParts) → length (written_by write o).refs ≡ length o.refs
length-written_by (link name field target) o = cond_length (name_eq o.name name) (record o { refs = slice_set o.refs field target }) o (length-set o.refs field target)
length-written_by (assign name value) o = cond_length (name_eq o.name name) (record o { number = value }) o refl

length-with_writes : (writes : List Write) (o : ObjectParts) → length (with_writes writes o).refs ≡ length o.refs
length-with_writes [] o = refl
length-with_writes (write ∷ writes) o = length-written_by write (with_writes writes o) ∙ length-with_writes writes o

-- an object with the references of its page
abbrev pub HasFields : (ℕ → ℕ) → ObjectParts → Type 0
HasFields fields o = length o.refs ≡ fields o.name.page

writes_keep : (fields : ℕ → ℕ) (writes : List Write) (o : ObjectParts) → HasFields fields o → HasFields fields (with_writes writes o)
writes_keep fields writes o h = length-with_writes writes o ∙ h ∙ ap (λ (n : NameParts). fields n.page) (sym (name-with_writes writes o))

pub view_has_fields : (w : World) (t : Transaction) → HaveFields (fields_of w) w.graph → HaveFields (fields_of w) (view w t)
view_has_fields w t h = each_from (HasFields (fields_of w)) (view w t) (λ seen m.
    let a = in_map (with_writes t.writes) (w.graph ++ map (new_object w) t.own) seen m in
    let o : ObjectParts = a.0 in
    subst (HasFields (fields_of w)) (sym a.2) (writes_keep (fields_of w) t.writes o (elim (in_append w.graph (map (new_object w) t.own) o a.1) [
      | inl there ↦ each_in (HasFields (fields_of w)) w.graph o h there
      | inr own ↦
          let b = in_map (new_object w) t.own o own in
          subst (HasFields (fields_of w)) (sym b.2) (let none : Option NameParts = None in length-replicate (fields_of w b.0.page) none)
    ])))

doubt_has_fields : (w : World) (doubt : Doubt) → HaveFields (fields_of w) w.graph → HaveFields (fields_of w) (graph_in_doubt w doubt)
doubt_has_fields w (commit_in_doubt t) h = view_has_fields w (transaction w t) h
doubt_has_fields w _ h = h

answer_keeps_fields : (w : World) (call : Call) (note : Note) (reply : Reply) → HaveFields (fields_of w) w.graph → HaveFields (fields_of w) (after_answer w call note reply).graph
answer_keeps_fields w (New t page) note reply h = subst (HaveFields (fields_of w)) (sym (graph-with_new w t (new_name w t page))) h
answer_keeps_fields w (Commit t) note reply h = view_has_fields w (transaction w t) h
answer_keeps_fields w Reopen note reply h = found (commits_found w reply == w.commits)
  where
    found : (same : Bool) → HaveFields (fields_of w) (cond same w.graph (graph_in_doubt w w.doubt))
    found true = h
    found false = doubt_has_fields w w.doubt h
answer_keeps_fields w _ note reply h = h

reply_keeps_fields : (w : World) (call : Call) (note : Note) (reply : Reply) → HaveFields (fields_of w) w.graph → HaveFields (fields_of w) (after_reply w call note reply).graph
reply_keeps_fields w call note (Refused why) h = subst (HaveFields (fields_of w)) (sym (graph-after_refusal w call note why)) h
reply_keeps_fields w call note reply h = answer_keeps_fields w call note reply h

pub event_keeps_fields : (w : World) (e : Event) → HaveFields (fields_of w) w.graph → HaveFields (fields_of (next w e)) (next w e).graph
event_keeps_fields w e h = reply_keeps_fields w e.entry.call e.note e.entry.reply h

pub history_keeps_fields : (w : World) (events : List Event) → HaveFields (fields_of w) w.graph → HaveFields (fields_of (after w events)) (after w events).graph
history_keeps_fields w [] h = h
history_keeps_fields w (e ∷ events) h = history_keeps_fields (next w e) events (event_keeps_fields w e h)

pub fresh_has_fields : (pages : ℕ) → HaveFields (fields_of (fresh_world pages)) (fresh_world pages).graph
fresh_has_fields pages = (refl, tt)
