-- Readers that give a value, or the place of the first wrong field.
use Rattle.std.specs.Prelude.{ℕ, ◌+◌, Result, Ok, Err}

infixl 10 ◌>>=◌
abbrev pub ◌>>=◌ : {A B : Type 0} → Result A ℕ → (A → Result B ℕ) → Result B ℕ
(Ok x) >>= f = f x
(Err at) >>= f = Err at

-- an error as an offset becomes a place
abbrev pub from_place : {A : Type 0} → ℕ → Result A ℕ → Result A ℕ
from_place place (Ok x) = Ok x
from_place place (Err at) = Err (place + at)
