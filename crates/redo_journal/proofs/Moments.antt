-- What a disk's content has.
use Rattle.std.proofs.Common.{◌≡◌, List, ℕ, Option, None, Some, refl}
use Rattle.std.specs.Prelude.{IfSome}

pub if_some_map : (o : Option (List ℕ)) (P Q : List ℕ → Type 0) → ((c : List ℕ) → o ≡ Some c → P c → Q c) → IfSome o P → IfSome o Q
if_some_map None P Q more h = h
if_some_map (Some c) P Q more h = more c refl h
