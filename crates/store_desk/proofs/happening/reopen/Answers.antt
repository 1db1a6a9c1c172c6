use Rattle.std.proofs.Common.{◌≡◌, ℕ, sym, ap, ◌∙◌, subst, rules}
use Rattle.std.specs.Prelude.{IfSome}
use Rattle.object_graph.specs.declared.calls.Call.TheVariants.{Reopen}
use Rattle.object_graph.specs.declared.calls.Refusal.TheVariants.{DiskFault}
use Rattle.object_graph.specs.declared.calls.Reply.{Reply}
use Rattle.object_graph.specs.declared.calls.Reply.TheVariants.{Refused, Reopened}
use Rattle.cut_core.specs.Seen.{Seen}
use Rattle.store_desk.specs.Events.{plain_note, note_in, Keeps}
use Rattle.store_desk.specs.Happenings.{FindsFreed}
use Rattle.store_desk.proofs.Happens.{event, some_names, not_reopened, happened_found, happened_refused}
use Rattle.store_desk.proofs.happening.reopen.Goals.{in-Reopened, in_default}
use Rattle.store_desk.proofs.happening.reopen.Goals as goal

pub by-requires : goal.by-requires
by-requires g c =
    let s : Seen g.row.D.Denot = c.args.core.now in
    subst (λ (old : Seen g.row.D.Denot). (names : _) × IfSome (g.D.Disk.content old.disk) (λ _. FindsFreed old.world c.reopen-reply.new.self.world c.reopen-reply.result names)) (sym c.of-before.ensures)
    (some_names (g.D.Disk.content s.disk) s.world c.reopen-reply.new.self.world c.reopen-reply.result (g.D.Disk.fault_count c.reopen-reply.new.self.disk) c.in-Reopened.commits c.in-Reopened.is c.reopen-reply.ensures.happens)

pub returns-clause-happened : goal.returns-clause-happened
returns-clause-happened g c =
    let old : Seen g.row.D.Denot = c.args.core.now in
    let new : Seen g.row.D.Denot = c.reopen-reply.new.self in
    let h = c.reopen-reply.ensures in
    let reply : Reply = c.reopen-reply.result in
    elim c.match-reply.branch [
      | in-Reopened w ↦ happened_found g.D.Disk old new c.args.lane w.in-Reopened.commits w.by.result.value reply c.of.result w.in-Reopened.is
          (ap (λ e. e.entry) c.of.ensures) (ap (λ e. note_in e.note) c.of.ensures ∙ ap note_in w.note-is) (λ cut k. subst (λ n. Keeps n cut) (ap (λ e. e.note) c.of.ensures ∙ w.note-is) k)
          (subst (λ (s : Seen g.row.D.Denot). IfSome (g.D.Disk.content s.disk) (λ _. FindsFreed s.world new.world reply w.by.result.value)) c.of-before.ensures w.by.ensures)
          (λ none. h.anew w.in-Reopened.commits w.in-Reopened.is none) h.any_moment h.now (h.calm (λ f. let z : Reopened w.in-Reopened.commits ≡ Refused DiskFault = sym w.in-Reopened.is ∙ f in cc)) h.keeps h.given
      | in_default w ↦
          let other : (commits : ℕ) → reply ≡ Reopened commits → ⊥ = search rules in
          let r = not_reopened reply h.answer other in
          happened_refused g.D.Disk old new c.args.lane r.0 reply c.of.result r.1
          (c.of.ensures ∙ ap (event c.args.lane Reopen reply) (w.note-is ∙ (w.plain_note-note.ensures ∙ ap (plain_note reply) w.broken.ensures)))
          h.happens (λ why is. h.kept why is) h.broken h.any_moment h.now h.fault h.calm h.keeps h.given
    ]
