-- The world after an event.
use Rattle.std.specs.Prelude.{ℕ, ◌+◌, Bool, true, false, not, ◌==◌, Option, Some, None, List, [], ◌∷◌, ◌++◌, map, filter, option_map, if◌then◌else◌}
use Rattle.object_graph.specs.NameParts.{NameParts}
use Rattle.object_graph.specs.ObjectParts.{ObjectParts}
use Rattle.object_graph.specs.declared.calls.Phase.TheVariants.{Copying, Closed, Sweeping}
use Rattle.object_graph.specs.declared.calls.Call.{Call}
use Rattle.object_graph.specs.declared.calls.Call.TheVariants.{Begin, Get, Number, Set, Put, New, Commit, Abort, OpenCut, Copy, HandIn, Close, Mark, Sweep, EndCut, DropCut, Reopen}
use Rattle.object_graph.specs.declared.calls.Reply.{Reply}
use Rattle.object_graph.specs.declared.calls.Reply.TheVariants.{Freed, Reopened, Refused}
use Rattle.object_graph.specs.declared.calls.Refusal.{Refusal}
use Rattle.object_graph.specs.declared.calls.Refusal.TheVariants.{DiskFault}
use Rattle.object_graph.specs.Graphs.{has_name}
use Rattle.store_model.specs.Worlds.{World, Transaction, OpenedCut, Opening, Write, link, assign, Doubt, no_doubt, commit_in_doubt, sweep_in_doubt, Note, faults, Event, starts, fresh_transaction, transaction, view}
use Rattle.store_model.specs.Causes.{has_page, field_seen, new_name}
use Rattle.store_model.specs.Replies.{names_in, found_in}

-- a list with one more page or name, if it isn't there
abbrev pub with_page : ℕ → List ℕ → List ℕ
with_page page pages = if has_page pages page then pages else page ∷ pages

abbrev pub with_name : NameParts → List NameParts → List NameParts
with_name name names = if has_name names name then names else name ∷ names

abbrev pub with_target : Option NameParts → List NameParts → List NameParts
with_target None names = names
with_target (Some name) names = with_name name names

-- the open transaction of a number is changed
abbrev pub with_transaction : World → ℕ → (Transaction → Transaction) → World
with_transaction w number change = record w {
  transactions = map (λ t. if t.number == number then change t
      else t) w.transactions;
}

abbrev pub reads_page : ℕ → Transaction → Transaction
reads_page page t = record t { pages_read = with_page page t.pages_read }

abbrev pub writes : Write → ℕ → Transaction → Transaction
writes write page t = record t { writes = write ∷ t.writes; pages_written = with_page page t.pages_written }

abbrev pub makes : NameParts → Transaction → Transaction
makes name t = record t {
  own = t.own ++ name
      ∷ [];
  known = with_name name t.known;
  pages_written = with_page name.page t.pages_written;
}

-- the open transactions without one
abbrev pub without : World → ℕ → List Transaction
without w number = filter (λ t. not (t.number == number)) w.transactions

-- the transaction's own objects and writes are in the graph
abbrev pub committed : World → ℕ → World
committed w number = record w {
  graph = view w
      (transaction w number);
  commits = w.commits + 1;
  transactions = without w number;
}

-- a cut opens
abbrev pub opening_of : World → Opening
opening_of w = record { graph = w.graph; commits = w.commits; freed = w.freed; starts = starts w }

abbrev pub cut_opened : World → World
cut_opened w = record w {
  last_cut = w.last_cut + 1;
  cut = Some (record { number = w.last_cut + 1; phase = Copying; copied = []; swept = []; opening = opening_of w });
}

-- the cut is changed
abbrev pub with_cut : World → (OpenedCut → OpenedCut) → World
with_cut w change = record w { cut = option_map change w.cut }

-- the slots that a reply frees
abbrev pub slots_freed : Reply → ℕ
slots_freed (Freed slots) = slots
slots_freed _ = 0

abbrev pub commits_found : World → Reply → ℕ
commits_found w (Reopened commits) = commits
commits_found w _ = w.commits

abbrev pub graph_in_doubt : World → Doubt → List ObjectParts
graph_in_doubt w (commit_in_doubt t) = view w (transaction w t)
graph_in_doubt w _ = w.graph

abbrev pub has_swept : ℕ → OpenedCut → OpenedCut
has_swept page cut = record cut { swept = with_page page cut.swept }

-- a page is swept, and the names in these slots are freed
abbrev pub swept : World → ℕ → ℕ → World
swept w page slots =
    record w {
      freed = names_in w page slots ++ w.freed;
      cut = option_map (has_swept page) w.cut;
    }

abbrev pub reopened : World → ℕ → List NameParts → World
reopened w commits names =
    record w {
      graph = if commits == w.commits then w.graph else graph_in_doubt w w.doubt;
      commits = commits;
      freed = names ++ w.freed;
      transactions = [];
      cut = None;
      broken = None;
      doubt = no_doubt;
    }

-- a new object is the transaction's own
abbrev pub with_new : World → ℕ → Option NameParts → World
with_new w t None = w
with_new w t (Some name) = with_transaction w t (makes name)

-- the world after a call that was answered
abbrev pub after_answer : World → Call → Note → Reply → World
after_answer w (Begin t) note reply = record w { transactions = fresh_transaction t ∷ w.transactions }
after_answer w (Get t name field) note reply =
    with_transaction w t (λ u. reads_page name.page
    (record u { known = with_target (field_seen w t name field) u.known }))
after_answer w (Number t name) note reply = with_transaction w t (reads_page name.page)
after_answer w (Set t name field target) note reply = with_transaction w t (writes (link name field target) name.page)
after_answer w (Put t name value) note reply = with_transaction w t (writes (assign name value) name.page)
after_answer w (New t page) note reply = with_new w t (new_name w t page)
after_answer w (Commit t) note reply = committed w t
after_answer w (Abort t) note reply = record w { transactions = without w t }
after_answer w OpenCut note reply = cut_opened w
after_answer w (Copy page) note reply = with_cut w (λ cut. record cut { copied = with_page page cut.copied })
after_answer w (HandIn page number seen) note reply = with_cut w
    (λ cut. record cut { copied = with_page page cut.copied })
after_answer w Close note reply = with_cut w (λ cut. record cut { phase = Closed })
after_answer w (Mark workers) note reply = with_cut w (λ cut. record cut { phase = Sweeping })
after_answer w (Sweep page) note reply = swept w page (slots_freed reply)
after_answer w EndCut note reply = record w { cut = None }
after_answer w DropCut note reply = record w { cut = None }
after_answer w Reopen note reply = reopened w (commits_found w reply) (found_in note)

-- the count of faults in a note
abbrev pub faults_in : Note → ℕ
faults_in (faults count) = count
faults_in _ = 0

-- what a disk fault puts in doubt
abbrev pub doubt_after : World → Call → Doubt
doubt_after w (Commit t) = commit_in_doubt t
doubt_after w (Sweep page) = sweep_in_doubt page
doubt_after w _ = w.doubt

-- the world after a call that was refused
abbrev pub after_refusal : World → Call → Note → Refusal → World
after_refusal w call note DiskFault = record w { broken = Some (faults_in note); doubt = doubt_after w call }
after_refusal w call note _ = w

abbrev pub after_reply : World → Call → Note → Reply → World
after_reply w call note (Refused why) = after_refusal w call note why
after_reply w call note reply = after_answer w call note reply

-- the world after an event
abbrev pub next : World → Event → World
next w e = after_reply w e.entry.call e.note e.entry.reply

-- the call may change the graph
abbrev pub changes_graph : Call → Bool
changes_graph (Commit t) = true
changes_graph Reopen = true
changes_graph _ = false
