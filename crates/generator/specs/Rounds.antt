-- Which histories are runs of the generator: a list of rounds, in which each call depends on the replies before it.
use Rattle.std.specs.Prelude.{◌≡◌, ℕ, ◌+◌, ◌*◌, ◌%◌, ◌<◌, ◌==◌, false, Option, Some, None, List, [], ◌∷◌, ◌++◌, map, length, flat_map, if◌then◌else◌}
use Rattle.std.specs.List.{AllByRecursion}
use Rattle.object_graph.specs.NameParts.{NameParts}
use Rattle.object_graph.specs.Names.{root_name}
use Rattle.object_graph.specs.declared.limits.TheConstants.{MOST_SLOTS}
use Rattle.object_graph.specs.declared.calls.Call.{Call}
use Rattle.object_graph.specs.declared.calls.Call.TheVariants.{Begin, Get, Set, Put, New, Commit}
use Rattle.object_graph.specs.declared.calls.Reply.{Reply}
use Rattle.object_graph.specs.declared.calls.Reply.TheVariants.{Done, Ref, Made, Committed, Refused}
use Rattle.object_graph.specs.declared.calls.Refusal.{Refusal}
use Rattle.object_graph.specs.declared.calls.Refusal.TheVariants.{PageFull}
use Rattle.object_graph.specs.declared.calls.Entry.{Entry}
use Rattle.store_model.specs.Worlds.{Event}
use Rattle.store_model.specs.Histories.{collection, is_refused}
use Rattle.generator.specs.Draws.{drawn, page_drawn, field_drawn, keep_drawn}
use Rattle.generator.specs.declared.collection.TheConstants.{PAGES}
use Rattle.generator.specs.declared.running.TheConstants.{MOST_ROUNDS}

-- the pages of the store
abbrev pub store_pages : ℕ
store_pages = PAGES

-- all slots of its pages
abbrev pub store_slots : ℕ
store_slots = store_pages * MOST_SLOTS

-- a run has so many rounds at most
abbrev pub most_rounds : ℕ
most_rounds = MOST_ROUNDS

-- a call of the one caller, with its reply
abbrev pub caller_entry : Call → Reply → Entry
caller_entry call reply = record { lane = 1; call = call; reply = reply }

-- the reply to New: the name that was made, or none where the page is full
abbrev pub made_on : ℕ → Option NameParts → Reply
made_on page None = Refused (PageFull page)
made_on page (Some name) = Made name

-- the new object keeps what stood in the root's field, where that is drawn and something stood there
abbrev pub kept_in : NameParts → ℕ → Option NameParts → List Entry
kept_in name x None = []
kept_in name x (Some old) = if keep_drawn x == 1 then caller_entry (Set 1 name 0 (Some old)) Done ∷ [] else []

-- what is written: the round's number and perhaps the old name into the new object, and the new name into the root
abbrev pub writes_of : ℕ → ℕ → Option NameParts → Option NameParts → List Entry
writes_of x i old None = caller_entry (Set 1 root_name (field_drawn x) None) Done ∷ []
writes_of x i old (Some name) =
    caller_entry (Put 1 name i) Done
    ∷ (kept_in name x old ++ caller_entry (Set 1 root_name (field_drawn x) (Some name)) Done ∷ [])

-- the transaction of round i, for which x was drawn, where `old` stood in the root's field and `made` was made
abbrev pub transaction_of : ℕ → ℕ → Option NameParts → Option NameParts → List Entry
transaction_of x i old made =
    (caller_entry (Begin 1) Done ∷ caller_entry (Get 1 root_name (field_drawn x)) (Ref old)
    ∷ caller_entry (New 1 (page_drawn x)) (made_on (page_drawn x) made) ∷ [])
    ++ (writes_of x i old made ++ caller_entry (Commit 1) (Committed (i + 1)) ∷ [])

-- every 32nd round collects, by four markers
abbrev pub collected_after : ℕ → List Call
collected_after i = if (i + 1) % 32 == 0 then collection store_pages 4 else []

-- these calls were made, and none was refused
pub record AreAnswered (calls : List Call) (entries : List Entry) : Type 0 where
  pub are : map (λ (e : Entry). e.call) entries ≡ calls
  pub none_refused : AllByRecursion (λ (e : Entry). is_refused e.reply ≡ false) entries

-- these calls were made up to one that was refused
pub record StopsCollection (calls : List Call) (why : Refusal) (entries : List Entry) : Type 0 where
  pub done : List Call
  pub call : Call
  pub rest : List Call
  pub all : calls ≡ done ++ call ∷ rest
  pub first : List Entry
  pub are : entries ≡ first ++ caller_entry call (Refused why) ∷ []
  pub answered : AreAnswered done first

-- the entries are those of round i, for which x was drawn
pub record IsRound (x i : ℕ) (entries : List Entry) : Type 0 where
  pub old : Option NameParts
  pub made : Option NameParts
  pub collected : List Entry
  pub are : entries ≡ transaction_of x i old made ++ collected
  pub answered : AreAnswered (collected_after i) collected

-- the rounds from round i on, one after the other
abbrev pub AreRounds : ℕ → ℕ → List (List Entry) → Type 0
AreRounds from i [] = Unit {0}
AreRounds from i (round ∷ rounds) = IsRound (drawn from (i + 1)) i round × AreRounds from (i + 1) rounds

-- the entries are the first ones of round i, but the last call was refused
pub record StopsRound (x i : ℕ) (why : Refusal) (entries : List Entry) : Type 0 where
  pub first : List Entry
  pub call : Call
  pub are : entries ≡ first ++ caller_entry call (Refused why) ∷ []
  pub answer : Reply
  pub later : List Entry
  pub round : IsRound x i (first ++ caller_entry call answer ∷ later)

abbrev pub entries_of : List Event → List Entry
entries_of history = map (λ (e : Event). e.entry) history

abbrev pub joined_rounds : List (List Entry) → List Entry
joined_rounds rounds = flat_map (λ (round : List Entry). round) rounds

-- the history is a run of so many rounds from this number
pub record FollowsGenerator (from count : ℕ) (history : List Event) : Type 0 where
  pub rounds : List (List Entry)
  pub number : length rounds ≡ count
  pub each : AreRounds from 0 rounds
  pub are : entries_of history ≡ joined_rounds rounds

-- the history is such a run up to a call that was refused
pub record StopsGenerator (from count : ℕ) (why : Refusal) (history : List Event) : Type 0 where
  pub rounds : List (List Entry)
  pub last : List Entry
  pub few : length rounds < count
  pub each : AreRounds from 0 rounds
  pub stops : StopsRound (drawn from (length rounds + 1)) (length rounds) why last
  pub are : entries_of history ≡ joined_rounds rounds ++ last
