-- What is out of reach stays so.
use Rattle.std.proofs.Common.{◌≡◌, true, not, sym, subst, ap, ◌⊎◌, inl, inr}
use Rattle.std.specs.List.{AllByRecursion}
use Rattle.std.proofs.lemmas.Bool.{cases_Bool}
use Rattle.object_graph.specs.NameParts.{NameParts}
use Rattle.object_graph.specs.Graphs.{has_object, IsReachedFrom}
use Rattle.store_model.specs.Worlds.{World, Transaction, starts, view, is_freed, IsReached, IsHeldBy}
use Rattle.store_model.specs.Worlds.{IsOutOfReach}
use Rattle.store_model.specs.Lawful.{IsLawfulTransaction}
use Rattle.object_graph.proofs.Members.{In, each_in, each_from}
use Rattle.object_graph.proofs.Paths.{has_name_in}
use Rattle.store_model.proofs.Locks.{name_in_view}
use Rattle.store_model.proofs.Reach.{IsSafeView, held_is_reached_or_own}
use Rattle.store_model.proofs.Cuts.{safe_view, commit_keeps_unreached}
use Rattle.store_model.specs.Lawful.{IsOrderly}

pub safe_one : (w : World) (t : Transaction) → IsOrderly w → In t w.transactions → IsSafeView w t
safe_one w t lawful m = safe_view w t lawful.counted (each_in (IsLawfulTransaction w.graph w.freed) w.transactions t lawful.transactions m)

-- a committed name that isn't reached is held by nobody
pub unreached_is_out : (w : World) (name : NameParts) → IsOrderly w → has_object w.graph name ≡ true → ¬ IsReached w name → IsOutOfReach w name
unreached_is_out w name lawful there unreached = (
  unreached,
  each_from (λ t. ¬ IsHeldBy w t name) w.transactions (λ t m held.
      let safe = safe_one w t lawful m in
      elim (held_is_reached_or_own w t name safe held) [
        | inl own ↦ let f = safe.own_are_new name own in let b : has_object w.graph name ≡ true = there in cc
        | inr reached ↦ unreached reached
      ]),
)

-- the graph of a world after an event: as before, or with the view of a transaction
abbrev pub Follows : World → World → Type 0
Follows w after = (after.graph ≡ w.graph) ⊎ ((t : Transaction) × IsSafeView w t × (after.graph ≡ view w t))

pub name_stays : (w after : World) (name : NameParts) → Follows w after → has_object w.graph name ≡ true → has_object after.graph name ≡ true
name_stays w after name follows there = elim follows [
  | inl e ↦ subst (λ g. has_object g name ≡ true) (sym e) there
  | inr s ↦ subst (λ g. has_object g name ≡ true) (sym s.2) (name_in_view w s.0 name there)
]

-- a committed name that isn't reached stays out of reach
pub out_stays : (w after : World) (name : NameParts) → IsOrderly after → Follows w after → has_object w.graph name ≡ true → ¬ IsReached w name → IsOutOfReach after name
out_stays w after name lawful follows there unreached =
    unreached_is_out after name lawful (name_stays w after name follows there) (elim follows [
      | inl e ↦ λ r. unreached (subst (λ g. IsReachedFrom g (starts w) name) e r)
      | inr s ↦ λ r. commit_keeps_unreached w s.0 name s.1 there unreached (subst (λ g. IsReachedFrom g (starts w) name) s.2 r)
    ])

-- what is reached isn't freed
pub reached_unfreed : (w : World) (name : NameParts) → AllByRecursion (IsOutOfReach w) w.freed → IsReached w name → not (is_freed w name) ≡ true
reached_unfreed w name freed reached = elim (cases_Bool (is_freed w name)) [
  | inl e ↦ absurd ((each_in (IsOutOfReach w) w.freed name freed (has_name_in w.freed name e)).0 reached)
  | inr e ↦ ap not e
]
