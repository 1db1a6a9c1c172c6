-- Calls that change homes alone.
use Rattle.std.proofs.Common.{◌≡◌, inl, inr, ⊎_elim, ℕ, ◌≤◌, Bool, true, List, Option, Some, None, refl, sym, ◌∙◌, subst, arith}
use Rattle.std.specs.Prelude.{IsSomeAnd, IfSome, OnOk, Result, Ok, Err}
use Rattle.disk_trait.specs.Disk.{Torn, TornContent, Only}
use Rattle.disk_trait.specs.DiskFacts.{LeavesOnly}
use Rattle.disk_trait.specs.declared.disk.Disk.{Ghosts as DiskOf}
use Rattle.redo_journal.specs.Homes.{DiffersInHomes, home_start}
use Rattle.redo_journal.specs.Sending.{After, ChangesHomes}
use Rattle.disk_trait.proofs.DiskSteps.{weaker}
use Rattle.redo_journal.proofs.HomeBytes.{torn_home, differs_not, differs_then, differs_more}
use Rattle.redo_journal.specs.declared.sizes.TheConstants.{PAGE_SIZE}

pub some_and : (o : Option (List ℕ)) (P : List ℕ → Type 0) → IsSomeAnd o P → (c : List ℕ) × (o ≡ Some c) × P c
some_and (Some c) P has = (c, refl, has)
some_and None P has = absurd has

pub and_some : (o : Option (List ℕ)) (P : List ℕ → Type 0) (c : List ℕ) → o ≡ Some c → P c → IsSomeAnd o P
and_some o P c is has = subst (λ (o' : Option (List ℕ)). IsSomeAnd o' P) (sym is) has

pub some_more : (o : Option (List ℕ)) (P Q : List ℕ → Type 0) → ((c : List ℕ) → P c → Q c) → IsSomeAnd o P → IsSomeAnd o Q
some_more (Some c) P Q more has = more c has
some_more None P Q more has = absurd has

pub in_some : (o : Option (List ℕ)) (P : List ℕ → Type 0) (c : List ℕ) → o ≡ Some c → IfSome o P → P c
in_some o P c is has = subst (λ (o' : Option (List ℕ)). IfSome o' P) is has

pub ok_more : {T E : Type 0} (r : Result T E) (P Q : Type 0) → (P → Q) → OnOk r P → OnOk r Q
ok_more (Ok x) P Q more has = more has
ok_more (Err e) P Q more has = tt

torn_some : (at n : ℕ) (old new : Option (List ℕ)) (c : List ℕ) → old ≡ Some c → TornContent at n old new → IsSomeAnd new (Torn at n c)
torn_some at n old new c is torn = subst (λ (o : Option (List ℕ)). TornContent at n o new) is torn

module _ {D : Type 0} (disks : DiskOf D) where
  -- a call that only looks
  pub looked : (named : ℕ → Bool) (old new : D) → disks.content new ≡ disks.content old → LeavesOnly disks old new (disks.may_leave old) → ChangesHomes disks named old new
  looked named old new same leaves = record {
    told = λ c is. and_some (disks.content new) (DiffersInHomes named c) c (same ∙ is) (differs_not named c);
    any_moment = weaker disks old new (disks.may_leave old) (After (DiffersInHomes named) (disks.may_leave old)) (λ c left. (c, left, differs_not named c)) leaves;
  }

  -- a write over a home
  pub wrote : (named : ℕ → Bool) (page : ℕ) (old new : D) → named page ≡ true → TornContent (home_start page) PAGE_SIZE (disks.content old) (disks.content new)
      → LeavesOnly disks old new (After (Torn (home_start page) PAGE_SIZE) (disks.may_leave old)) → ChangesHomes disks named old new
  wrote named page old new is torn leaves = record {
    told = λ c told. some_more (disks.content new) (Torn (home_start page) PAGE_SIZE c) (DiffersInHomes named c) (λ d t. torn_home named page c d is t) (torn_some (home_start page) PAGE_SIZE (disks.content old) (disks.content new) c told torn);
    any_moment = weaker disks old new (After (Torn (home_start page) PAGE_SIZE) (disks.may_leave old)) (After (DiffersInHomes named) (disks.may_leave old)) (λ c left. (left.0, left.1, torn_home named page left.0 c is left.2)) leaves;
  }

  pub changes_more : (named more : ℕ → Bool) (old new : D) → ((page : ℕ) → named page ≡ true → more page ≡ true) → ChangesHomes disks named old new → ChangesHomes disks more old new
  changes_more named more old new within change = record {
    told = λ c is. some_more (disks.content new) (DiffersInHomes named c) (DiffersInHomes more c) (λ d. differs_more named more c d within) (change.told c is);
    any_moment = weaker disks old new (After (DiffersInHomes named) (disks.may_leave old)) (After (DiffersInHomes more) (disks.may_leave old)) (λ c left. (left.0, left.1, differs_more named more left.0 c within left.2)) change.any_moment;
  }

  -- where a crash left one disks.content alone before
  pub from_only : (named : ℕ → Bool) (old new : D) (c : List ℕ) → Only c (disks.may_leave old) → ChangesHomes disks named old new → LeavesOnly disks old new (DiffersInHomes named c)
  from_only named old new c only change =
      weaker disks old new (After (DiffersInHomes named) (disks.may_leave old)) (DiffersInHomes named c) (λ e left. subst (λ (d : List ℕ). DiffersInHomes named d e) (only left.0 left.1) left.2) change.any_moment

  module _ (only_now : (d : D) (c : List ℕ) → disks.left_since d (disks.moment d) c → disks.may_leave d c) where
    -- before the first call
    pub unchanged : (named : ℕ → Bool) (d : D) → ChangesHomes disks named d d
    unchanged named d = looked named d d refl (record { later = omega arith; each = only_now d; before = λ t c le left. inl left })

  module _ (counts_now : (d : D) (t : ℕ) (c : List ℕ) → t ≤ disks.moment d → disks.may_leave d c → disks.left_since d t c) (named : ℕ → Bool) (old mid new : D)
      (first : ChangesHomes disks named old mid) (second : ChangesHomes disks named mid new)
    where
      -- what the second leaves of an image that the first left
      step : (c : List ℕ) → After (DiffersInHomes named) (disks.may_leave mid) c → After (DiffersInHomes named) (disks.may_leave old) c
      step c (d, left, differs) =
          let past = first.any_moment.each d (counts_now mid (disks.moment old) d first.any_moment.later left) in
          (past.0, past.1, differs_then named past.0 d c past.2 differs)

      pub changes_then : ChangesHomes disks named old new
      changes_then = record {
        told = λ c is.
            let here = some_and (disks.content mid) (DiffersInHomes named c) (first.told c is) in
            some_more (disks.content new) (DiffersInHomes named here.0) (DiffersInHomes named c) (λ d. differs_then named c here.0 d here.2) (second.told here.0 here.1);
        any_moment = record {
          later = omega (arith, first.any_moment.later, second.any_moment.later);
          each = λ c left. ⊎_elim (first.any_moment.each c) (step c) (second.any_moment.before (disks.moment old) c first.any_moment.later left);
          before = λ t c le left. ⊎_elim (first.any_moment.before t c le) (λ after. inr (step c after)) (second.any_moment.before t c (omega (arith, le, first.any_moment.later)) left);
        };
      }
