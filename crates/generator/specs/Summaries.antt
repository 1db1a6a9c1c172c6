-- The line that a run of the generator ends with, counted from its history.
use Rattle.std.specs.Prelude.{◌≡◌, ℕ, Bool, true, false, List, [], ◌∷◌, ◌++◌, codes, decimal, count_by, sum_by, length}
use Rattle.object_graph.specs.Slots.{slots_in}
use Rattle.object_graph.specs.declared.calls.Call.{Call}
use Rattle.object_graph.specs.declared.calls.Call.TheVariants.{EndCut}
use Rattle.object_graph.specs.declared.calls.Reply.{Reply}
use Rattle.object_graph.specs.declared.calls.Reply.TheVariants.{Done, Freed, Refused}
use Rattle.object_graph.specs.declared.calls.Refusal.TheVariants.{PageFull}
use Rattle.object_graph.specs.declared.calls.Entry.{Entry}
use Rattle.store_model.specs.Worlds.{World, Event}
use Rattle.store_model.specs.Histories.{after}
use Rattle.generator.specs.Rounds.{entries_of}

-- the reply says that a page is full
abbrev pub is_full : Reply → Bool
is_full (Refused (PageFull page)) = true
is_full reply = false

-- how many slots a reply says that are freed
abbrev pub freed_by_reply : Reply → ℕ
freed_by_reply (Freed slots) = length (slots_in slots)
freed_by_reply reply = 0

-- the call ended a cut
abbrev pub ends_cut : Call → Reply → Bool
ends_cut EndCut Done = true
ends_cut call reply = false

abbrev pub full_in : List Entry → ℕ
full_in entries = count_by (λ (e : Entry). is_full e.reply) entries

abbrev pub freed_by_entries : List Entry → ℕ
freed_by_entries entries = sum_by (λ (e : Entry). freed_by_reply e.reply) entries

abbrev pub ended_in : List Entry → ℕ
ended_in entries = count_by (λ (e : Entry). ends_cut e.call e.reply) entries

-- what a list of entries counts: the replies that a page is full, the slots freed and the cuts ended
pub record Counts (entries : List Entry) (full freed ended : ℕ) : Type 0 where
  pub full_is : full_in entries ≡ full
  pub freed_is : freed_by_entries entries ≡ freed
  pub ended_is : ended_in entries ≡ ended

-- the line of these numbers
abbrev pub summary_text : ℕ → ℕ → ℕ → ℕ → ℕ → List ℕ
summary_text rounds commits full freed ended =
    codes "rounds " ++ (decimal rounds ++ (codes " commits " ++ (decimal commits ++ (codes " full " ++ (decimal full
    ++ (codes " freed " ++ (decimal freed ++ (codes " cuts " ++ (decimal ended ++ (10 ∷ []))))))))))

-- the line of a run of so many rounds, from a world on
abbrev pub summary : ℕ → World → List Event → List ℕ
summary rounds w history =
    summary_text rounds (after w history).commits (full_in (entries_of history)) (freed_by_entries (entries_of history))
    (ended_in (entries_of history))
