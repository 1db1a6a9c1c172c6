-- An open transaction for which the entry in the table was found.
use Rattle.std.proofs.Common.{◌≡◌, ℕ, ◌<◌, Bool, true, ◌||◌, ◌==◌, List, [], ◌∷◌, ◌++◌, length, map, reverse, Some, None, refl, sym, subst, ap, ◌∙◌, inl, inr, arith}
use Rattle.std.specs.List.{list_any}
use Rattle.std.proofs.lemmas.List.{reverse-append}
use Rattle.object_graph.specs.NameParts.{NameParts}
use Rattle.object_graph.specs.ObjectParts.{ObjectParts}
use Rattle.object_graph.specs.Graphs.{has_name}
use Rattle.object_graph.proofs.Members.{In, in_any, each_in, map_in, append_left, append_right}
use Rattle.object_graph.proofs.Paths.{has_name_in, has_object_in}
use Rattle.store_model.specs.Worlds.{World, Transaction, find_transaction, view}
use Rattle.store_model.specs.Causes.{has_page}
use Rattle.store_model.specs.Lawful.{IsLawfulTransaction}
use Rattle.store_model.proofs.Orders.{IsPlacedName, lawful_one, placed_one}
use Rattle.page_locks.specs.Holding.{Held, is_admitted, numbers}
use Rattle.transactions.specs.Tables.{OpenParts, entry_of}
use Rattle.transactions.specs.Standing.{TransactionsParts, open_numbers, IsEntry, AreAlike, IsReady}
use Rattle.transactions.specs.Checks.{IsOpenWith, IsKnownTo}
use Rattle.transactions.proofs.Numbers.{found_in_list, transaction_found}
use Rattle.transactions.proofs.Seen.{IsThere, known_object, own_or_there}
use Rattle.transactions.proofs.Entries.{alike_some, alike_none}

-- the transaction is open in a world for which all stands, and this is its entry
pub record IsOpened (s : TransactionsParts) (w : World) (txn : ℕ) (e : OpenParts) : Type 0 where
  pub ready : IsReady s w
  pub is : entry_of s.table txn ≡ Some e
  pub of : Transaction
  pub found : find_transaction w txn ≡ Some of
  pub entry : IsEntry e of

pub opened : (s view : TransactionsParts) (w : World) (txn : ℕ) (e : OpenParts) → s ≡ view → entry_of view.table txn ≡ Some e → IsReady s w → IsOpened view w txn e
opened s view w txn e same is ready =
    let r = subst (λ v. IsReady v w) same ready in
    let t = alike_some e (find_transaction w txn) (subst (λ o. AreAlike o (find_transaction w txn)) is (r.stands.table.each txn)) in
    record { ready = r; is = is; of = t.0; found = t.1; entry = t.2 }

pub not_opened : (s view : TransactionsParts) (w : World) (txn : ℕ) → s ≡ view → entry_of view.table txn ≡ None → IsReady s w → find_transaction w txn ≡ None
not_opened s view w txn same is ready =
    let r = subst (λ v. IsReady v w) same ready in
    alike_none (find_transaction w txn) (subst (λ o. AreAlike o (find_transaction w txn)) is (r.stands.table.each txn))

-- the entry that was found, in each world for which all stands
pub open_in : (s : TransactionsParts) (w : World) (txn : ℕ) (e : OpenParts) → IsReady s w → IsOpenWith s txn e → IsOpened s w txn e
open_in s w txn e ready found = opened s s w txn e refl found.entry ready

-- ---- what is known of it

pub open_member : (s : TransactionsParts) (w : World) (txn : ℕ) (e : OpenParts) (o : IsOpened s w txn e) → In o.of w.transactions
open_member s w txn e o = (found_in_list (λ (t : Transaction). t.number == txn) w.transactions o.of o.found).0

pub open_lawful : (s : TransactionsParts) (w : World) (txn : ℕ) (e : OpenParts) (o : IsOpened s w txn e) → IsLawfulTransaction w.graph w.freed o.of
open_lawful s w txn e o = lawful_one w o.of o.ready.lawful.orderly (open_member s w txn e o)

-- an object of a known name is seen
pub known_there : (s : TransactionsParts) (w : World) (txn : ℕ) (e : OpenParts) (name : NameParts) (o : IsOpened s w txn e) → has_name e.known name ≡ true → IsThere w o.of name
known_there s w txn e name o k = known_object w o.of name o.ready.lawful (open_member s w txn e o) (sym (o.entry.known.each name) ∙ k)

-- and the name stands on a page of the store
pub known_placed : (s : TransactionsParts) (w : World) (txn : ℕ) (e : OpenParts) (name : NameParts) → IsOpened s w txn e → has_name e.known name ≡ true → IsPlacedName w name
known_placed s w txn e name o k =
    elim (own_or_there w o.of name (open_lawful s w txn e o) (sym (o.entry.known.each name) ∙ k)) [
      | inl own ↦ each_in (IsPlacedName w) o.of.own name (placed_one w o.of o.ready.lawful.orderly (open_member s w txn e o)) (has_name_in o.of.own name own)
      | inr there ↦
          let a = has_object_in w.graph name there in
          subst (IsPlacedName w) a.2 (each_in (λ (x : ObjectParts). IsPlacedName w x.name) w.graph a.0 o.ready.lawful.orderly.placed a.1)
    ]

-- ---- it is admitted to the locks

in_reverse : (xs : List ℕ) (x : ℕ) → In x xs → In x (reverse xs)
in_reverse [] x m = m
in_reverse (y ∷ ys) x m = subst (λ zs. In x zs) (sym (reverse_cons y ys)) (elim m [
  | inl e ↦ append_right (reverse ys) (y ∷ []) x (inl e)
  | inr r ↦ append_left (reverse ys) (y ∷ []) x (in_reverse ys x r)
])
  where
    reverse_cons : (y : ℕ) (ys : List ℕ) → reverse (y ∷ ys) ≡ reverse ys ++ y ∷ []
    reverse_cons y ys = reverse-append (y ∷ []) ys

any-map : (p : ℕ → Bool) (f : Held → ℕ) (xs : List Held) → list_any p (map f xs) ≡ list_any (λ x. p (f x)) xs
any-map p f [] = refl
any-map p f (x ∷ xs) = ap (λ b. p (f x) || b) (any-map p f xs)

open_admitted : (s : TransactionsParts) (w : World) (txn : ℕ) (e : OpenParts) → IsOpened s w txn e → is_admitted s.locks.held txn ≡ true
open_admitted s w txn e o =
    let found = found_in_list (λ (t : Transaction). t.number == txn) w.transactions o.of o.found in
    let member : In o.of.number (open_numbers w) = in_reverse (map (λ (t : Transaction). t.number) w.transactions) o.of.number (map_in (λ (t : Transaction). t.number) w.transactions o.of found.0) in
    sym (any-map (λ n. n == txn) (λ h. h.txn) s.locks.held)
    ∙ in_any (λ n. n == txn) (numbers s.locks.held) o.of.number (subst (λ ns. In o.of.number ns) (sym o.ready.stands.locks.admitted) member) found.1

pub open_with : (s : TransactionsParts) (w : World) (txn : ℕ) (e : OpenParts) → IsReady s w → entry_of s.table txn ≡ Some e → IsOpenWith s txn e
open_with s w txn e ready is = record { entry = is; admitted = open_admitted s w txn e (opened s s w txn e refl is ready) }

-- the page of a name that it knows is one of the store
pub known_to : (s : TransactionsParts) (w : World) (txn : ℕ) (e : OpenParts) (name : NameParts) → IsReady s w → IsOpenWith s txn e → has_name e.known name ≡ true → IsKnownTo s txn name e
known_to s w txn e name ready found known =
    let o = open_in s w txn e ready found in
    let low = (known_placed s w txn e name o known).0 in
    record {
      found = found;
      known = known;
      frame = let n = ready.stands.frames.count in omega arith;
      lock = let n = ready.stands.locks.pages in omega arith;
    }

-- ---- the pages noted as written are pages of the store

pub wrote_within : (s : TransactionsParts) (w : World) (txn : ℕ) (e : OpenParts) (page : ℕ) → IsOpened s w txn e → has_page e.written page ≡ true → page < length s.frames
wrote_within s w txn e page o h =
    let p = o.ready.stands.frames.written txn page (ap (λ (x : Transaction). has_page x.pages_written page) (transaction_found w txn o.of o.found) ∙ (sym (o.entry.written.each page) ∙ h)) in
    let n = o.ready.stands.frames.count in
    omega arith

-- a page that has a frame is one of the store
pub page_below : (s view : TransactionsParts) (w : World) (page : ℕ) → view ≡ s → IsReady s w → page < length view.frames → page < w.pages
page_below s view w page same ready low =
    let n = (subst (λ v. IsReady v w) (sym same) ready).stands.frames.count in
    omega arith
