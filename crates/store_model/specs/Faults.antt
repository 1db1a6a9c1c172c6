-- The counts of disk faults that a history notes.
use Rattle.std.specs.Prelude.{ℕ, ◌-◌, ◌^◌, ◌≤◌, ◌<◌, List, [], ◌∷◌, flat_map}
use Rattle.store_model.specs.Worlds.{Event, Note, faults}

-- the last number that a count of faults takes
abbrev pub last_count : ℕ
last_count = 2 ^ 64 - 1

abbrev pub count_in : Note → List ℕ
count_in (faults count) = count ∷ []
count_in _ = []

-- the counts that the notes of the replies DiskFault have, in order
abbrev pub counts_noted : List Event → List ℕ
counts_noted events = flat_map (λ (e : Event). count_in e.note) events

-- ascending strictly, each above the first number and none above the last
abbrev pub Ascend : ℕ → List ℕ → ℕ → Type 0
Ascend from [] to = from ≤ to
Ascend from (count ∷ counts) to = (from < count) × Ascend count counts to

-- from the count at the start the notes of the replies DiskFault rise to the count at the end, as far as a count can
-- rise
pub record FaultsAscend (from to : ℕ) (events : List Event) : Type 0 where
  pub later : from ≤ to
  pub ascend : to < last_count → Ascend from (counts_noted events) to
