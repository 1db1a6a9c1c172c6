-- What a disk tells before and after a write.
use Rattle.std.proofs.Common.{◌≡◌, ℕ, ◌+◌, ◌≤◌, List, length, Option, Some, None, refl, sym, subst}
use Rattle.std.specs.Prelude.{IsSomeAnd, IfSome, option_map}
use Rattle.disk_trait.specs.Causes.{SameTold}
use Rattle.disk_trait.specs.Disk.{written, Torn, TornContent}
use Rattle.disk_trait.specs.NoteLaws.{torn_written}

pub torn_some : (at n : ℕ) (old new : Option (List ℕ)) (c : List ℕ) → old ≡ Some c → TornContent at n old new → IsSomeAnd new (Torn at n c)
torn_some at n old new c is torn = subst (λ (o : Option (List ℕ)). TornContent at n o new) is torn

-- bytes that were written are torn ones
pub written_torn : (at : ℕ) (bytes : List ℕ) (old new : Option (List ℕ)) → ((c : List ℕ) → old ≡ Some c → at + length bytes ≤ length c) → new ≡ option_map (written at bytes) old → TornContent at (length bytes) old new
written_torn at bytes None new within is = subst (λ (o : Option (List ℕ)). TornContent at (length bytes) None o) (sym is) refl
written_torn at bytes (Some c) new within is = subst (λ (o : Option (List ℕ)). TornContent at (length bytes) (Some c) o) (sym is) (torn_written at bytes c (within c refl))

-- where the content is told as before, what holds of it once it was told holds
pub if_told : (P : List ℕ → Type 0) (old new : Option (List ℕ)) → SameTold old new → ((c : List ℕ) → old ≡ Some c → IsSomeAnd new P) → IfSome new P
if_told P old None told has = tt
if_told P None (Some d) told has = absurd (cc told)
if_told P (Some c) (Some d) told has = has c refl

-- what holds of the content where it is told
pub if_known : (P : List ℕ → Type 0) (content : Option (List ℕ)) → ((c : List ℕ) → content ≡ Some c → P c) → IfSome content P
if_known P None has = tt
if_known P (Some c) has = has c refl
