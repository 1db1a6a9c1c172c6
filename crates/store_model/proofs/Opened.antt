-- The open transaction of a number.
use Rattle.std.proofs.Common.{◌≡◌, ℕ, ◌==◌, Bool, false, List, [], ◌∷◌, Option, Some, None, refl}
use Rattle.std.specs.List.{find, AllByRecursion}
use Rattle.std.specs.Option.{is_none, unwrap_or}
use Rattle.std.proofs.lemmas.Bool.{eqb-true}
use Rattle.object_graph.specs.declared.calls.Call.TheVariants.{Commit}
use Rattle.object_graph.specs.declared.calls.Refusal.{Refusal}
use Rattle.store_model.specs.Worlds.{World, Transaction, Note, find_transaction, transaction, fresh_transaction}
use Rattle.store_model.specs.Causes.{first_met, first_refusal, broken, not_open, spent}
use Rattle.object_graph.proofs.Members.{In}
use Rattle.store_model.proofs.Lists.{find_in, find_passes}
use Rattle.store_model.proofs.Allowed.{first_met_none, when_none}

found_in : {A : Type 0} (p : A → Bool) (xs : List A) (d : A) → is_none (find p xs) ≡ false → In (unwrap_or (find p xs) d) xs
found_in p xs d h = by_found p xs d (find p xs) refl h
  where
    by_found : {A : Type 0} (p : A → Bool) (xs : List A) (d : A) (o : Option A) → find p xs ≡ o → is_none o ≡ false → In (unwrap_or o d) xs
    by_found p xs d None e h = cc
    by_found p xs d (Some x) e h = find_in p xs x e

-- where no cause is met, none of them is
pub nones : (cs : List (Option Refusal)) → first_met cs ≡ None → AllByRecursion (λ c. c ≡ None) cs
nones [] h = tt
nones (c ∷ cs) h = let a = first_met_none c cs h in (a.0, nones cs a.1)

pub is_open : (w : World) (n : ℕ) → not_open w n ≡ None → is_none (find_transaction w n) ≡ false
is_open w n h = when_none (is_none (find_transaction w n)) _ h

pub open_in : (w : World) (n : ℕ) → not_open w n ≡ None → In (transaction w n) w.transactions
open_in w n h = found_in (λ (u : Transaction). u.number == n) w.transactions (fresh_transaction n) (is_open w n h)

pub number_of_open : (w : World) (n : ℕ) → is_none (find_transaction w n) ≡ false → (transaction w n).number ≡ n
number_of_open w n h = by_found (find_transaction w n) refl h
  where
    by_found : (o : Option Transaction) → find_transaction w n ≡ o → is_none o ≡ false → (unwrap_or o (fresh_transaction n)).number ≡ n
    by_found None e h = cc
    by_found (Some t) e h = eqb-true t.number n (find_passes (λ (t : Transaction). t.number == n) w.transactions t e)

pub commit_is_open : (w : World) (n : ℕ) (note : Note) → first_refusal w (Commit n) note ≡ None → In (transaction w n) w.transactions
commit_is_open w n note h = open_in w n (nones (broken w ∷ not_open w n ∷ spent w.commits ∷ []) h).1.0
