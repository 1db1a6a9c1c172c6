-- What a page shows of a known name, and of a write to it.
use Rattle.std.proofs.Common.{◌≡◌, ℕ, ◌<◌, Bool, true, false, not, ◌==◌, cond, List, [], ◌∷◌, ◌++◌, map, length, Some, None, refl, sym, subst, ap, ◌∙◌, ◌⊎◌, inl, inr, arith}
use Rattle.std.specs.List.{filter, find, AllByRecursion}
use Rattle.std.specs.Bool.{IsTrue}
use Rattle.std.proofs.lemmas.Bool.{and_parts, and_from, cases_Bool, eqb-true, eq-eqb}
use Rattle.std.proofs.lemmas.List.Elements.{filter-append}
use Rattle.object_graph.specs.NameParts.{NameParts}
use Rattle.object_graph.specs.Names.{name_eq}
use Rattle.object_graph.specs.ObjectParts.{ObjectParts}
use Rattle.object_graph.specs.Graphs.{is_at, objects_at, has_name, has_object, object_named}
use Rattle.store_model.specs.Worlds.{World, Transaction, view, with_writes, new_object, fields_of, is_unfreed, IsHeldBy, IsOutOfReach}
use Rattle.store_model.specs.Lawful.{HaveFields, IsOwn, IsLawfulTransaction, CountsUp, OnlyLastUnfreed, IsLawful, IsCovered, IsCoveredPath}
use Rattle.object_graph.proofs.Members.{In, in_filter, filter_in, each_in, map_in, append_right, in_any}
use Rattle.store_model.proofs.Reach.{name-with_writes}
use Rattle.object_graph.proofs.Paths.{name_eq_same, name_eq_refl, has_name_in, has_object_in}
use Rattle.store_model.proofs.Locks.{name_in_view}
use Rattle.store_model.proofs.Cuts.{next_name_is_new}
use Rattle.store_model.proofs.Shown.{AreApart, apart_below, last_at}
use Rattle.store_model.proofs.Fields.{view_has_fields}
use Rattle.store_model.specs.Images.{unfreed_at}
use Rattle.transactions.proofs.Viewed.{filter-map_kept, objects_at-view}

-- ---- at most one unfreed object at a place

pub nothing_in : {A : Type 0} (ys : List A) → ((y : A) → In y ys → ⊥) → ys ≡ []
nothing_in [] h = refl
nothing_in (y ∷ ys) h = absurd (h y (inl refl))

-- of a list with distinct values, at most one has a given value
pub one_of_value : (value : ObjectParts → ℕ) (test : ObjectParts → Bool) (n : ℕ) (xs : List ObjectParts) (o : ObjectParts) → AreApart (map value xs)
    → ((x : ObjectParts) → In x xs → test x ≡ true → value x ≡ n) → In o (filter test xs) → filter test xs ≡ o ∷ []
one_of_value value test n [] o d h m = absurd m
one_of_value value test n (x ∷ xs) o d h m = by (λ k. one_of_value value test n xs o d.1 (λ y i. h y (inr i)) k) (test x) refl m
  where
    by : (In o (filter test xs) → filter test xs ≡ o ∷ []) → (b : Bool) → test x ≡ b
        → In o (cond b (x ∷ filter test xs) (filter test xs)) → cond (test x) (x ∷ filter test xs) (filter test xs) ≡ o ∷ []
    by ih true e k =
        let none : filter test xs ≡ [] = nothing_in (filter test xs) (λ y i.
        let a = in_filter test xs y i in
        let same : value y ≡ value x = h y (inr a.0) a.1 ∙ sym (h x (inl refl) e) in
        d.0 (subst (λ v. In v (map value xs)) same (map_in value xs y a.0))) in
        ap (λ b. cond b (x ∷ filter test xs) (filter test xs)) e
        ∙ elim k [
          | inl s ↦ ap (λ ys. x ∷ ys) none ∙ ap (λ z. z ∷ []) (sym s)
          | inr r ↦ absurd (subst (λ ys. In o ys) none r)
        ]
    by ih false e k = ap (λ b. cond b (x ∷ filter test xs) (filter test xs)) e ∙ ih k

pub alone_at_place : (w : World) (page slot : ℕ) (o : ObjectParts) → CountsUp w.graph → OnlyLastUnfreed w.graph w.freed
    → In o (unfreed_at w.graph w.freed page slot) → unfreed_at w.graph w.freed page slot ≡ o ∷ []
alone_at_place w page slot o counts last m =
    one_of_value (λ o. o.name.generation) (is_unfreed w.freed) (length (objects_at w.graph page slot)) (objects_at w.graph page slot) o
    (subst AreApart (sym (counts page slot)) (apart_below (length (objects_at w.graph page slot))))
    (λ x i e. last_at w.graph w.freed page slot x last (filter_in (is_unfreed w.freed) (objects_at w.graph page slot) x i e)) m

-- ---- a known name is there

pub covered_end : (w : World) (t : Transaction) (first : NameParts) (rest : List NameParts) (last : NameParts) → IsCoveredPath w.graph t first rest last → has_object w.graph last ≡ true
covered_end w t first [] last p = subst (λ n. has_object w.graph n ≡ true) p.0 p.1
covered_end w t first (n ∷ ns) last p = covered_end w t n ns last p.3

-- a known name is the transaction's own or one of the graph
pub own_or_there : (w : World) (t : Transaction) (name : NameParts) → IsLawfulTransaction w.graph w.freed t → has_name t.known name ≡ true
    → (has_name t.own name ≡ true) ⊎ (has_object w.graph name ≡ true)
own_or_there w t name lawful known = elim (each_in (IsCovered w.graph t) t.known name lawful.known (has_name_in t.known name known)) [
  | inl own ↦ inl own
  | inr c ↦ inr (covered_end w t c.0 c.1 name c.3)
]

own_in_view : (w : World) (t : Transaction) (name : NameParts) → has_name t.own name ≡ true → has_object (view w t) name ≡ true
own_in_view w t name own =
    let o : ObjectParts = new_object w name in
    in_any (λ p. name_eq p.name name) (view w t) (with_writes t.writes o)
    (map_in (with_writes t.writes) (w.graph ++ map (new_object w) t.own) o (append_right w.graph (map (new_object w) t.own) o (map_in (new_object w) t.own name (has_name_in t.own name own))))
    (subst (λ n. name_eq n name ≡ true) (sym (name-with_writes t.writes o)) (name_eq_refl name))

pub known_in_view : (w : World) (t : Transaction) (name : NameParts) → IsLawfulTransaction w.graph w.freed t → has_name t.known name ≡ true → has_object (view w t) name ≡ true
known_in_view w t name lawful known = elim (own_or_there w t name lawful known) [
  | inl own ↦ own_in_view w t name own
  | inr there ↦ name_in_view w t name there
]

pub known_unfreed : (w : World) (t : Transaction) (name : NameParts) → IsLawful w → In t w.transactions → has_name t.known name ≡ true → has_name w.freed name ≡ false
known_unfreed w t name lawful m known = elim (cases_Bool (has_name w.freed name)) [
  | inr f ↦ f
  | inl freed ↦
      let out = each_in (IsOutOfReach w) w.freed name lawful.freed (has_name_in w.freed name freed) in
      let lt = each_in (IsLawfulTransaction w.graph w.freed) w.transactions t lawful.orderly.transactions m in
      absurd (each_in (λ u. ¬ IsHeldBy w u name) w.transactions t out.1 m (name, known, ([], (refl, known_in_view w t name lt known))))
]

-- the object of a known name in the transaction's view, which alone is unfreed at its place
pub record IsThere (w : World) (t : Transaction) (name : NameParts) : Type 0 where
  pub object : ObjectParts
  pub named : object.name ≡ name
  pub alone : unfreed_at (view w t) w.freed name.page name.slot ≡ object ∷ []

pub unfreed_at-view : (w : World) (t : Transaction) (page slot : ℕ) → unfreed_at (view w t) w.freed page slot
    ≡ map (with_writes t.writes) (unfreed_at w.graph w.freed page slot ++ filter (is_unfreed w.freed) (map (new_object w) (filter (is_at page slot) t.own)))
unfreed_at-view w t page slot =
    ap (filter (is_unfreed w.freed)) (objects_at-view w t page slot)
    ∙ (filter-map_kept (is_unfreed w.freed) (with_writes t.writes) (λ o. ap (λ n. not (has_name w.freed n)) (name-with_writes t.writes o)) (objects_at w.graph page slot ++ map (new_object w) (filter (is_at page slot) t.own))
    ∙ ap (map (with_writes t.writes)) (filter-append (is_unfreed w.freed) (objects_at w.graph page slot) (map (new_object w) (filter (is_at page slot) t.own))))

pub at_own_place : (name : NameParts) → is_at name.page name.slot name ≡ true
at_own_place name = and_from (name.page == name.page) (name.slot == name.slot) (eq-eqb name.page name.page refl) (eq-eqb name.slot name.slot refl)

pub none_pass : (test : ObjectParts → Bool) (xs : List ObjectParts) → ((x : ObjectParts) → In x xs → test x ≡ false) → filter test xs ≡ []
none_pass test [] h = refl
none_pass test (x ∷ xs) h = ap (λ b. cond b (x ∷ filter test xs) (filter test xs)) (h x (inl refl)) ∙ none_pass test xs (λ y i. h y (inr i))

-- where an own object stands, the graph has no unfreed one
pub nothing_unfreed : (w : World) (t : Transaction) (m : NameParts) (page slot : ℕ) → IsLawfulTransaction w.graph w.freed t → In m (filter (is_at page slot) t.own)
    → unfreed_at w.graph w.freed page slot ≡ []
nothing_unfreed w t m page slot lawful i =
    let a = in_filter (is_at page slot) t.own m i in
    let b = and_parts (m.page == page) (m.slot == slot) a.1 in
    let own = each_in (IsOwn w.graph w.freed t) t.own m lawful.own a.0 in
    let free : AllByRecursion (λ o. IsTrue (has_name w.freed o.name)) (objects_at w.graph page slot) =
    subst (λ p. AllByRecursion (λ o. IsTrue (has_name w.freed o.name)) (objects_at w.graph p slot)) (eqb-true m.page page b.0)
    (subst (λ s. AllByRecursion (λ o. IsTrue (has_name w.freed o.name)) (objects_at w.graph m.page s)) (eqb-true m.slot slot b.1) own.free) in
    none_pass (is_unfreed w.freed) (objects_at w.graph page slot) (λ x j. ap not (each_in (λ o. IsTrue (has_name w.freed o.name)) (objects_at w.graph page slot) x free j))

pub own_unfreed : (w : World) (t : Transaction) (m : NameParts) → IsLawful w → IsLawfulTransaction w.graph w.freed t → In m t.own → has_name w.freed m ≡ false
own_unfreed w t m lawful lt i = elim (cases_Bool (has_name w.freed m)) [
  | inr f ↦ f
  | inl e ↦
      let there : has_object w.graph m ≡ true = each_in (λ name. IsTrue (has_object w.graph name)) w.freed m lawful.orderly.freed_there (has_name_in w.freed m e) in
      let new : has_object w.graph m ≡ false = next_name_is_new w m lawful.orderly.counted (each_in (IsOwn w.graph w.freed t) t.own m lt.own i).next in
      cc
]

pub known_object : (w : World) (t : Transaction) (name : NameParts) → IsLawful w → In t w.transactions → has_name t.known name ≡ true → IsThere w t name
known_object w t name lawful m known =
    by (filter (is_at name.page name.slot) t.own) refl (lt.one_at_each_place name.page name.slot)
  where
    lt : IsLawfulTransaction w.graph w.freed t
    lt = each_in (IsLawfulTransaction w.graph w.freed) w.transactions t lawful.orderly.transactions m

    unfreed_name : has_name w.freed name ≡ false
    unfreed_name = known_unfreed w t name lawful m known

    there_at : has_object w.graph name ≡ true → (o : ObjectParts) × In o (unfreed_at w.graph w.freed name.page name.slot) × (o.name ≡ name)
    there_at h =
        let a = has_object_in w.graph name h in (
          a.0,
          filter_in (is_unfreed w.freed) (objects_at w.graph name.page name.slot) a.0
              (filter_in (λ (o : ObjectParts). is_at name.page name.slot o.name) w.graph a.0 a.1 (subst (λ (n : NameParts). is_at name.page name.slot n ≡ true) (sym a.2) (at_own_place name)))
              (ap not (ap (has_name w.freed) a.2 ∙ unfreed_name)),
          a.2,
        )

    by : (names : List NameParts) → filter (is_at name.page name.slot) t.own ≡ names → length names < 2 → IsThere w t name
    by [] e few = elim (own_or_there w t name lt known) [
      | inl own ↦ absurd (subst (λ ns. In name ns) e (filter_in (is_at name.page name.slot) t.own name (has_name_in t.own name own) (at_own_place name)))
      | inr h ↦
          let o = there_at h in
          record {
            object = with_writes t.writes o.0;
            named = name-with_writes t.writes o.0 ∙ o.2;
            alone = unfreed_at-view w t name.page name.slot
                ∙ (ap (λ ns. map (with_writes t.writes) (unfreed_at w.graph w.freed name.page name.slot ++ filter (is_unfreed w.freed) (map (new_object w) ns))) e
                ∙ ap (λ us. map (with_writes t.writes) (us ++ [])) (alone_at_place w name.page name.slot o.0 lawful.orderly.counted lawful.orderly.last o.1));
          }
    ]
    by (n ∷ []) e few =
        let i : In n (filter (is_at name.page name.slot) t.own) = subst (λ ns. In n ns) (sym e) (inl refl) in
        let none = nothing_unfreed w t n name.page name.slot lt i in
        let same : n ≡ name = elim (own_or_there w t name lt known) [
          | inl own ↦ elim (subst (λ ns. In name ns) e (filter_in (is_at name.page name.slot) t.own name (has_name_in t.own name own) (at_own_place name))) [ inl s ↦ sym s | inr z ↦ absurd z ]
          | inr h ↦ let o = there_at h in absurd (subst (λ us. In o.0 us) none o.1)
        ] in
        let new : not (has_name w.freed n) ≡ true = ap not (own_unfreed w t n lawful lt (in_filter (is_at name.page name.slot) t.own n i).0) in
        record {
          object = with_writes t.writes (new_object w n);
          named = name-with_writes t.writes (new_object w n) ∙ same;
          alone = unfreed_at-view w t name.page name.slot
              ∙ (ap (λ ns. map (with_writes t.writes) (unfreed_at w.graph w.freed name.page name.slot ++ filter (is_unfreed w.freed) (map (new_object w) ns))) e
              ∙ (ap (λ us. map (with_writes t.writes) (us ++ filter (is_unfreed w.freed) (map (new_object w) (n ∷ [])))) none
              ∙ ap (λ b. map (with_writes t.writes) (cond b (new_object w n ∷ []) [])) new));
        }
    by (n ∷ k ∷ ns) e few = absurd (omega arith)

-- a search that only some elements can end
find_among : {A : Type 0} (p q : A → Bool) (xs : List A) → ((x : A) → p x ≡ true → q x ≡ true) → find p (filter q xs) ≡ find p xs
find_among p q [] h = refl
find_among p q (x ∷ xs) h = by (find_among p q xs h) (q x) refl (p x) refl
  where
    by : find p (filter q xs) ≡ find p xs → (b : Bool) → q x ≡ b → (c : Bool) → p x ≡ c → find p (cond (q x) (x ∷ filter q xs) (filter q xs)) ≡ cond (p x) (Some x) (find p xs)
    by ih true e c f = ap (λ b. find p (cond b (x ∷ filter q xs) (filter q xs))) e ∙ ap (λ o. cond (p x) (Some x) o) ih
    by ih false e true f = let z : q x ≡ true = h x f in cc
    by ih false e false f = ap (λ b. find p (cond b (x ∷ filter q xs) (filter q xs))) e ∙ (ih ∙ sym (ap (λ b. cond b (Some x) (find p xs)) f))

-- it is what is found under the name
pub object_found : (w : World) (t : Transaction) (name : NameParts) (there : IsThere w t name) → has_name w.freed name ≡ false → object_named (view w t) name ≡ Some there.object
object_found w t name there free =
    sym (find_among named (λ o. is_at name.page name.slot o.name) (view w t) (λ o e. subst (λ (n : NameParts). is_at name.page name.slot n ≡ true) (sym (name_eq_same o.name name e)) (at_own_place name)))
    ∙ (sym (find_among named (is_unfreed w.freed) (objects_at (view w t) name.page name.slot) (λ o e. ap not (ap (has_name w.freed) (name_eq_same o.name name e) ∙ free)))
    ∙ (ap (find named) there.alone
    ∙ ap (λ b. cond b (Some there.object) None) (subst (λ n. name_eq n name ≡ true) (sym there.named) (name_eq_refl name))))
  where
    named : ObjectParts → Bool
    named o = name_eq o.name name

-- and it has the references of its page
pub there_fields : (w : World) (t : Transaction) (name : NameParts) (there : IsThere w t name) → HaveFields (fields_of w) w.graph → length there.object.refs ≡ fields_of w there.object.name.page
there_fields w t name there h =
    let a = in_filter (is_unfreed w.freed) (objects_at (view w t) name.page name.slot) there.object (subst (λ os. In there.object os) (sym there.alone) (inl refl)) in
    let b = in_filter (λ (o : ObjectParts). is_at name.page name.slot o.name) (view w t) there.object a.0 in
    each_in (λ (o : ObjectParts). length o.refs ≡ fields_of w o.name.page) (view w t) there.object (view_has_fields w t h) b.0
