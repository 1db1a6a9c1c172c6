-- What crashes leave over several calls.
use Rattle.std.proofs.Common.{◌≡◌, refl, sym, ap, ◌∙◌, subst, ℕ, inl, inr, ⊎_elim, List, [], ◌++◌, append_assoc, append-nil, Option, Some, None, true, arith}
use Rattle.std.specs.Prelude.{IfSome, is_some}
use Rattle.disk_trait.specs.declared.disk.Disk.{Ghosts as DiskOf}
use Rattle.disk_trait.specs.DiskFacts.{LeavesOnly}
use Rattle.store_model.specs.Worlds.{World, Event}
use Rattle.store_model.specs.Histories.{after}
use Rattle.image_model.specs.Stands.{StandsForWorld}
use Rattle.store_machine.specs.Acts.{StandsForFront}
use Rattle.store_model.proofs.Parts.{after-append}

-- ---- where something is told

pub if_some_map : {A P Q : Type 0} (o : Option A) → (P → Q) → IfSome o (λ _. P) → IfSome o (λ _. Q)
if_some_map None f x = tt
if_some_map (Some a) f x = f x

pub if_some_told : {A P Q : Type 0} (o : Option A) → (is_some o ≡ true → P → Q) → IfSome o (λ _. P) → IfSome o (λ _. Q)
if_some_told None f x = tt
if_some_told (Some a) f x = f refl x

pub if_some_both : {A P Q R : Type 0} (o p : Option A) → is_some p ≡ is_some o → (is_some o ≡ true → P → Q → R) → IfSome o (λ _. P) → IfSome p (λ _. Q) → IfSome o (λ _. R)
if_some_both None p same f x y = tt
if_some_both (Some a) None same f x y = absurd cc
if_some_both (Some a) (Some b) same f x y = f refl x y

pub if_some_other : {A : Type 0} (P : Type 0) (o p : Option A) → is_some p ≡ is_some o → IfSome p (λ _. P) → IfSome o (λ _. P)
if_some_other P None p same x = tt
if_some_other P (Some a) None same x = absurd cc
if_some_other P (Some a) (Some b) same x = x

-- ---- moments

module _ {D : Type 0} (disks : DiskOf D) where
  pub leaves_more : (a b : D) (P Q : List ℕ → Type 0) → ((file : List ℕ) → P file → Q file) → LeavesOnly disks a b P → LeavesOnly disks a b Q
  leaves_more a b P Q f x = record {
    later = x.later;
    each = λ file left. f file (x.each file left);
    before = λ t file le left. ⊎_elim (λ s. inl s) (λ p. inr (f file p)) (x.before t file le left);
  }

  pub leaves_then : (a b c : D) (P : List ℕ → Type 0) → LeavesOnly disks a b P → LeavesOnly disks b c P → LeavesOnly disks a c P
  leaves_then a b c P x y = record {
    later = omega (arith, x.later, y.later);
    each = λ file left. ⊎_elim (λ s. x.each file s) (λ p. p) (y.before (disks.moment a) file x.later left);
    before = λ t file le left. ⊎_elim (λ s. x.before t file le s) (λ p. inr p) (y.before t file (omega (arith, x.later, le)) left);
  }

-- ---- fronts of a history

pub front_none : (w : World) (history : List Event) (file : List ℕ) → StandsForWorld file w → StandsForFront w history file
front_none w history file s = record { done = []; later = history; split = refl; stands = s }

pub front_all : (w v : World) (history : List Event) (file : List ℕ) → v ≡ after w history → StandsForWorld file v → StandsForFront w history file
front_all w v history file is s = record { done = history; later = []; split = sym (append-nil history); stands = subst (λ (x : World). StandsForWorld file x) is s }

pub front_before : (w : World) (history part : List Event) (file : List ℕ) → StandsForFront w history file → StandsForFront w (history ++ part) file
front_before w history part file s = record {
  done = s.done;
  later = s.later ++ part;
  split = ap (λ h. h ++ part) s.split ∙ append_assoc s.done s.later part;
  stands = s.stands;
}

pub front_after : (w v : World) (history part : List Event) (file : List ℕ) → v ≡ after w history → StandsForFront v part file → StandsForFront w (history ++ part) file
front_after w v history part file is s = record {
  done = history ++ s.done;
  later = s.later;
  split = ap (λ h. history ++ h) s.split ∙ sym (append_assoc history s.done s.later);
  stands = subst (λ (x : World). StandsForWorld file x) (ap (λ x. after x s.done) is ∙ sym (after-append w history s.done)) s.stands;
}
