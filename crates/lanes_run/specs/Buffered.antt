-- Text on its way through a buffer.
use Rattle.std.specs.Prelude.{◌≡◌, ℕ, List, ◌++◌, Option}
use Rattle.std.specs.Io.KnownBytes.{Appends}

-- what is known to be held grew by these bytes, but for the last, which the buffer holds
pub record WrittenButFor (before now : Option (List ℕ)) (buffer bytes : List ℕ) : Type 0 where
  pub gone : List ℕ
  pub split : bytes ≡ gone ++ buffer
  pub appends : Appends before now gone
