-- How a run of calls of a disk goes on.
use Rattle.std.proofs.Common.{◌≡◌, ◌≤◌, inl, inr, ⊎_elim, ℕ, List, Option, Some, arith, subst, ap, refl, ◌∙◌}
use Rattle.std.specs.Prelude.{IfSome, is_some}
use Rattle.disk_trait.specs.Disk.{Elapses, Only, IsSynced, Torn, AreAfterStep, SameImages}
use Rattle.disk_trait.specs.DiskFacts.{LeavesOnly, OnlyReads, KeepsDisk}
use Rattle.disk_trait.specs.declared.disk.Disk.{Ghosts as DiskOf}
pub use Rattle.disk_trait.proofs.NoteSteps.{torn_same}

-- a crash in a write, where a crash before it left one content alone
pub torn_from : (at n : ℕ) (old new : List ℕ → Type 0) (c : List ℕ) → Only c old → AreAfterStep (Torn at n) old new → (f : List ℕ) → new f → Torn at n c f
torn_from at n old new c only follows f left =
    let from = follows f left in
    subst (λ (d : List ℕ). Torn at n d f) (only from.0 from.1) from.2

pub only_synced : (content : Option (List ℕ)) (outcomes : List ℕ → Type 0) (c : List ℕ) → content ≡ Some c → IsSynced content outcomes → Only c outcomes
only_synced content outcomes c is synced = subst (λ (o : Option (List ℕ)). IfSome o (λ d. Only d outcomes)) is synced

module _ {D : Type 0} (disks : DiskOf D) where
  -- before the first call
  pub started : (old : D) (P : List ℕ → Type 0) → ((c : List ℕ) → disks.left_since old (disks.moment old) c → P c) → LeavesOnly disks old old P
  started old P here = record { later = omega arith; each = here; before = λ t c le left. inl left }

  -- one call more, after which a crash leaves what has P
  pub goes_on : (old mid new : D) (P : List ℕ → Type 0) → LeavesOnly disks old mid P
      → Elapses (disks.moment mid) (disks.moment new) (disks.left_since mid) (disks.left_since new) (disks.may_leave new) → ((c : List ℕ) → disks.may_leave new c → P c) → LeavesOnly disks old new P
  goes_on old mid new P so_far time here = record {
    later = omega (arith, so_far.later, time.later);
    each = λ c left. ⊎_elim (so_far.each c) (here c) (time.nothing_else (disks.moment old) c so_far.later left);
    before = λ t c le left. ⊎_elim (so_far.before t c le) (λ now. inr (here c now)) (time.nothing_else t c (omega (arith, le, so_far.later)) left);
  }

  -- one run after the other
  pub goes_further : (old mid new : D) (P Q : List ℕ → Type 0) → LeavesOnly disks old mid P → LeavesOnly disks mid new Q → ((c : List ℕ) → Q c → P c) → LeavesOnly disks old new P
  goes_further old mid new P Q first second less = record {
    later = omega (arith, first.later, second.later);
    each = λ c left. ⊎_elim (first.each c) (less c) (second.before (disks.moment old) c first.later left);
    before = λ t c le left. ⊎_elim (first.before t c le) (λ q. inr (less c q)) (second.before t c (omega (arith, le, first.later)) left);
  }

  -- less is known
  pub weaker : (old new : D) (P Q : List ℕ → Type 0) → ((c : List ℕ) → P c → Q c) → LeavesOnly disks old new P → LeavesOnly disks old new Q
  weaker old new P Q less so_far = record {
    later = so_far.later;
    each = λ c left. less c (so_far.each c left);
    before = λ t c le left. ⊎_elim (λ past. inl past) (λ p. inr (less c p)) (so_far.before t c le left);
  }

  -- no call
  pub no_call : (disk : D) → ((c : List ℕ) → disks.left_since disk (disks.moment disk) c → disks.may_leave disk c) → OnlyReads disks disk disk
  no_call disk only_now = record { content = refl; images = λ c. (λ left. left, λ left. left); size = refl; any_moment = started disk (disks.may_leave disk) only_now }

  -- a call that only looks
  pub looked : (old new : D) → disks.content new ≡ disks.content old → SameImages (disks.may_leave old) (disks.may_leave new) → disks.size new ≡ disks.size old
      → Elapses (disks.moment old) (disks.moment new) (disks.left_since old) (disks.left_since new) (disks.may_leave new)
      → ((c : List ℕ) → disks.left_since old (disks.moment old) c → disks.may_leave old c) → OnlyReads disks old new
  looked old new content images size time only_now = record {
    content = content;
    images = images;
    size = size;
    any_moment = goes_on old old new (disks.may_leave old) (started old (disks.may_leave old) only_now) time (λ c now. (images c).1 now);
  }

  -- reading and reading on
  pub reads_on : (old mid new : D) → OnlyReads disks old mid → OnlyReads disks mid new → OnlyReads disks old new
  reads_on old mid new first second = record {
    content = second.content ∙ first.content;
    images = λ c. (λ left. (second.images c).0 ((first.images c).0 left), λ left. (first.images c).1 ((second.images c).1 left));
    size = second.size ∙ first.size;
    any_moment = goes_further old mid new (disks.may_leave old) (disks.may_leave mid) first.any_moment second.any_moment (λ c left. (first.images c).1 left);
  }

  -- keeping and keeping on
  pub keeps_on : (old mid new : D) → KeepsDisk disks old mid → KeepsDisk disks mid new → KeepsDisk disks old new
  keeps_on old mid new first second = record { size = second.size ∙ first.size; told = second.told ∙ first.told; later = omega (arith, first.later, second.later) }

  -- reading keeps, where the count doesn't fall
  pub keeps_reading : (old new : D) → OnlyReads disks old new → disks.fault_count old ≤ disks.fault_count new → KeepsDisk disks old new
  keeps_reading old new reads later = record { size = reads.size; told = ap (λ (o : Option (List ℕ)). is_some o) reads.content; later = later }
