-- The worlds that a run of the generator meets between its calls.
use Rattle.std.specs.Prelude.{◌≡◌, ◌⊎◌, ℕ, ◌+◌, ◌≤◌, true, Option, None, Some, List, [], ◌∷◌, length, nat_lt}
use Rattle.std.specs.List.{AllByRecursion}
use Rattle.object_graph.specs.NameParts.{NameParts}
use Rattle.object_graph.specs.Graphs.{has_name}
use Rattle.object_graph.specs.declared.calls.Phase.{Phase}
use Rattle.object_graph.specs.declared.calls.Call.{Call}
use Rattle.object_graph.specs.declared.calls.Reply.TheVariants.{Refused}
use Rattle.object_graph.specs.declared.calls.Refusal.{Refusal}
use Rattle.object_graph.specs.declared.calls.Refusal.TheVariants.{Memory, DiskFault}
use Rattle.store_model.specs.Worlds.{World, Transaction, OpenedCut, Note}
use Rattle.store_model.specs.Causes.{has_page}
use Rattle.store_model.specs.Replies.{AllowsReply}
use Rattle.store_model.specs.Histories.{HasPresentMarks}
use Rattle.generator.specs.Rounds.{store_pages, most_rounds}

-- no refusal of the call is allowed but want of memory and a fault of the disk
abbrev pub IsOnlyStopped : World → Call → Type 0
IsOnlyStopped w call = (note : Note) (why : Refusal) → HasPresentMarks w call note
    → AllowsReply w call note (Refused why) → (why ≡ Memory) ⊎ (why ≡ DiskFault)

-- no refusal of the call is allowed at all
abbrev pub IsNeverRefused : World → Call → Type 0
IsNeverRefused w call = (note : Note) (why : Refusal) → AllowsReply w call note (Refused why) → ⊥

-- the store is whole, and counts neither more commits than a run has rounds, nor more cuts
pub record AreSound (pages : ℕ) (broken : Option ℕ) (last_cut commits : ℕ) : Type 0 where
  pub right : pages ≡ store_pages
  pub whole : broken ≡ None
  pub cuts : last_cut ≤ commits
  pub few : commits ≤ most_rounds

abbrev pub IsSoundWorld : World → Type 0
IsSoundWorld w = AreSound w.pages w.broken w.last_cut w.commits

-- nothing is going on: no transaction is open and no cut is there
pub record IsResting (w : World) : Type 0 where
  pub sound : IsSoundWorld w
  pub closed : w.transactions ≡ []
  pub no_cut : w.cut ≡ None

-- a transaction knows these names, and it did at most so many calls
pub record Knows (names : List NameParts) (calls : ℕ) (t : Transaction) : Type 0 where
  pub number : t.number ≡ 1
  pub known : AllByRecursion (λ (name : NameParts). has_name t.known name ≡ true) names
  pub few_known : length t.known ≤ calls + 1
  pub few_written : length t.pages_written ≤ calls

-- transaction 1 is open alone, and knows these names
pub record IsAlone (names : List NameParts) (calls : ℕ) (w : World) : Type 0 where
  pub sound : IsSoundWorld w
  pub no_cut : w.cut ≡ None
  pub transaction : Transaction
  pub only : w.transactions ≡ transaction ∷ []
  pub knows : Knows names calls transaction

-- a cut is there in this phase, of which the pages below two numbers are copied and swept
pub record IsCollecting (phase : Phase) (copied swept : ℕ) (w : World) : Type 0 where
  pub sound : IsSoundWorld w
  pub closed : w.transactions ≡ []
  pub cut : OpenedCut
  pub there : w.cut ≡ Some cut
  pub in_phase : cut.phase ≡ phase
  pub copies : (page : ℕ) → has_page cut.copied page ≡ nat_lt page copied
  pub sweeps : (page : ℕ) → has_page cut.swept page ≡ nat_lt page swept

-- what a Get answered is known
abbrev pub learnt : Option NameParts → List NameParts → List NameParts
learnt None names = names
learnt (Some name) names = name ∷ names
