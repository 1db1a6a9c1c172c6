-- Writing a store file from its beginning on.
use Rattle.std.specs.Prelude.{◌≡◌, ℕ, ◌++◌, List, take, Option, IfSome}

-- the first so many bytes are these, where that is told
abbrev pub IsFront : ℕ → List ℕ → Option (List ℕ) → Type 0
IsFront size bytes content = IfSome content (λ c. take size c ≡ bytes)

-- these bytes were written behind all that stands before them
pub record Extends (from to : ℕ) (bytes : List ℕ) (old new : Option (List ℕ)) : Type 0 where
  pub front : (before : List ℕ) → IsFront from before old → IsFront to (before ++ bytes) new
