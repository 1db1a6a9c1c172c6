-- Records behind gates: a record counts exactly where the gate before it is open.
use Rattle.std.specs.Prelude.{ℕ, zero, suc, ◌+◌, List, [], ◌∷◌, ◌++◌, Result, Ok, Err, if◌then◌else◌, ◌==◌, sum_by}

-- How a record is read. `at` takes its place in the file, the commits before it and the bytes from there
-- to the end of the area, and gives the record or the place of the first wrong field.
pub record Grammar (R : Type 0) : Type 0 where
  pub at : ℕ → ℕ → List ℕ → Result R ℕ
  -- its length without the gate behind it
  pub size : R → ℕ
  -- 1 for a commit
  pub weight : R → ℕ

-- the records read first, and those of the rest
abbrev pub with_front : {R : Type 0} → List R → Result (List R) ℕ → Result (List R) ℕ
with_front front (Ok rest) = Ok (front ++ rest)
with_front front (Err at) = Err at

-- the record, and then what is read behind it
abbrev pub then_rest : {R : Type 0} → Result R ℕ → (R → Result (List R) ℕ) → Result (List R) ℕ
then_rest (Ok r) rest = with_front (r ∷ []) (rest r)
then_rest (Err at) rest = Err at

-- The records from a gate on that stands behind `skip` bytes, or the place of the first wrong field.
-- `place` is the place of the first byte in the file, and `done` the commits before it.
abbrev pub walk : {R : Type 0} → Grammar R → ℕ → ℕ → ℕ → List ℕ → Result (List R) ℕ
walk g place done skip [] = Err place
walk g place done (suc skip) (b ∷ bytes) = walk g (place + 1) done skip bytes
walk g place done zero (gate ∷ bytes) =
    if gate == 1 then then_rest (g.at (place + 1) done bytes)
    (λ r. walk g (place + 1) (done + g.weight r) (g.size r) bytes) else Ok []

-- how many bytes the records take with their gates
abbrev pub bytes_taken : {R : Type 0} → Grammar R → List R → ℕ
bytes_taken g records = sum_by (λ r. g.size r + 1) records

-- how many commits there are among them
abbrev pub weights : {R : Type 0} → Grammar R → List R → ℕ
weights g records = sum_by g.weight records
