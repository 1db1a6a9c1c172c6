-- The parts of a history that are of the lanes, as seats own them.
use Rattle.std.proofs.Common.{◌≡◌, ℕ, zero, suc, ◌+◌, ◌<◌, ◌≤◌, Bool, true, false, ◌&&◌, ◌||◌, ◌==◌, cond, List, [], ◌∷◌, ◌++◌, length, Some, refl, sym, ap, ◌∙◌, subst, ◌⊎◌, ⊎_elim, append-nil, add-zero, zero-add, arith, eq-eqb}
use Rattle.std.proofs.Math.ListN.{length-append}
use Rattle.std.proofs.lemmas.Bool.{or_cases, eqb-true}
use Rattle.std.specs.Prelude.{slice_get}
use Rattle.store_model.specs.Worlds.{World, Event}
use Rattle.store_model.specs.Steps.{next}
use Rattle.store_model.specs.Histories.{after}
use Rattle.store_model.specs.Lanes.{WorldEvent, world_events, events_of_lane}
use Rattle.turn_lock.specs.Lists.{StartsWith, AreOfOne, longer, times, places}
use Rattle.turn_lock.proofs.Lists.{longer_is}
use Rattle.store_lanes.specs.Owned.{has, part, OwnsLanes}

-- events
pub world_events-append : (w : World) (xs ys : List Event) → world_events w (xs ++ ys) ≡ world_events w xs ++ world_events (after w xs) ys
world_events-append w [] ys = refl
world_events-append w (e ∷ xs) ys = let m : WorldEvent = record { world = w; event = e } in ap (λ (ms : List WorldEvent). m ∷ ms) (world_events-append (next w e) xs ys)

pub length-world_events : (w : World) (xs : List Event) → length (world_events w xs) ≡ length xs
length-world_events w [] = refl
length-world_events w (e ∷ xs) = let h = length-world_events (next w e) xs in omega (arith, h)

pub world_event_at : (w : World) (xs : List Event) (p : ℕ) (e : Event) → slice_get xs p ≡ Some e → (m : WorldEvent) × (m.event ≡ e) × (slice_get (world_events w xs) p ≡ Some m)
world_event_at w [] p e at = absurd cc
world_event_at w (x ∷ xs) zero e at = let m : WorldEvent = record { world = w; event = x } in (m, (let same : x ≡ e = cc in same), refl)
world_event_at w (x ∷ xs) (suc p) e at = world_event_at (next w x) xs p e at

-- elements of two lists in one
module _ {A : Type 0} where
  slice_get_front : (xs ys : List A) (i : ℕ) (x : A) → i < length xs → slice_get (xs ++ ys) i ≡ Some x → slice_get xs i ≡ Some x
  slice_get_front [] ys i x lt e = absurd (omega arith)
  slice_get_front (z ∷ xs) ys zero x lt e = e
  slice_get_front (z ∷ xs) ys (suc i) x lt e = slice_get_front xs ys i x (omega arith) e

  slice_get_end : (xs : List A) (y x : A) → slice_get (xs ++ y ∷ []) (length xs) ≡ Some x → x ≡ y
  slice_get_end [] y x e = cc
  slice_get_end (z ∷ xs) y x e = slice_get_end xs y x e

  -- of two beginnings of one list the shorter begins the longer
  starts_shorter : (xs ys r s : List A) → xs ++ r ≡ ys ++ s → length xs ≤ length ys → StartsWith ys xs
  starts_shorter [] ys r s e le = (ys, refl)
  starts_shorter (x ∷ xs) [] r s e le = absurd (omega arith)
  starts_shorter (x ∷ xs) (y ∷ ys) r s e le =
      let head : x ≡ y = cc in let tail : xs ++ r ≡ ys ++ s = cc in let h = starts_shorter xs ys r s tail (omega arith) in
      (h.0, (λ i. sym head i ∷ h.1 i))

  pub longer_first : (xs ys : List A) → AreOfOne xs ys → StartsWith (longer xs ys) xs
  longer_first xs ys a = ⊎_elim (λ (t : (longer xs ys ≡ xs) × (length ys ≤ length xs)). ([], t.0 ∙ sym (append-nil xs)))
      (λ (t : (longer xs ys ≡ ys) × (length xs ≤ length ys)). let h = starts_shorter xs ys a.1.0 a.2.0 (sym a.1.1 ∙ a.2.1) t.1 in (h.0, t.0 ∙ h.1)) (longer_is xs ys)

  pub longer_second : (xs ys : List A) → AreOfOne xs ys → StartsWith (longer xs ys) ys
  longer_second xs ys a = ⊎_elim (λ (t : (longer xs ys ≡ xs) × (length ys ≤ length xs)). let h = starts_shorter ys xs a.2.0 a.1.0 (sym a.2.1 ∙ a.1.1) t.1 in (h.0, t.0 ∙ h.1))
      (λ (t : (longer xs ys ≡ ys) × (length xs ≤ length ys)). ([], t.0 ∙ sym (append-nil ys))) (longer_is xs ys)

-- places in two lists
or_assoc : (a b c : Bool) → (a || (b || c)) ≡ ((a || b) || c)
or_assoc true b c = refl
or_assoc false b c = refl

has-append : (p : ℕ) (xs ys : List ℕ) → has p (xs ++ ys) ≡ (has p xs || has p ys)
has-append p [] ys = refl
has-append p (x ∷ xs) ys = ap (λ (b : Bool). (x == p) || b) (has-append p xs ys) ∙ or_assoc (x == p) (has p xs) (has p ys)

has_either : (p : ℕ) (xs ys : List ℕ) → has p (xs ++ ys) ≡ true → (has p xs ≡ true) ⊎ (has p ys ≡ true)
has_either p xs ys h = or_cases (has p xs) (has p ys) (sym (has-append p xs ys) ∙ h)

has_one : (p x : ℕ) → has p (x ∷ []) ≡ true → x ≡ p
has_one p x h = ⊎_elim (λ (t : (x == p) ≡ true). eqb-true x p t) (λ (t : false ≡ true). absurd cc) (or_cases (x == p) false h)

pub has_times : (p : ℕ) (xs : List ℕ) → 0 < times p xs → has p xs ≡ true
has_times p [] some = absurd (omega arith)
has_times p (x ∷ xs) some = go (x == p) refl (has_times p xs)
  where
    go : (b : Bool) → (x == p) ≡ b → (0 < times p xs → has p xs ≡ true) → ((x == p) || has p xs) ≡ true
    go true e later = ap (λ (c : Bool). c || has p xs) e
    go false e later = ap (λ (c : Bool). c || has p xs) e ∙ later (let h : times p (x ∷ xs) ≡ times p xs = ap (λ (c : Bool). cond c 1 0 + times p xs) e ∙ zero-add (times p xs) in omega (arith, h, some))

pub times_places : (p k n : ℕ) → k ≤ p → p < k + n → 0 < times p (places k n)
times_places p k zero low high = absurd (omega arith)
times_places p k (suc n) low high = go (k == p) refl (times_places p (k + 1) n)
  where
    go : (b : Bool) → (k == p) ≡ b → (k + 1 ≤ p → p < (k + 1) + n → 0 < times p (places (k + 1) n)) → 0 < cond (k == p) 1 0 + times p (places (k + 1) n)
    go true e later = let one : ℕ = 1 in let none : ℕ = 0 in let h : cond (k == p) one none ≡ one = ap (λ (c : Bool). cond c one none) e in omega (arith, h)
    go false e later =
        let other : k ≡ p → ⊥ = (λ (q : k ≡ p). let t : (k == p) ≡ true = eq-eqb k p q in let clash : true ≡ false = sym t ∙ e in absurd cc) in
        let h = later (omega (arith, other)) (omega arith) in omega (arith, h)

-- parts
cond_append : (b : Bool) (m : WorldEvent) (xs ys zs : List WorldEvent) → xs ≡ ys ++ zs → cond b (m ∷ xs) xs ≡ cond b (m ∷ ys) ys ++ zs
cond_append true m xs ys zs e = ap (λ (l : List WorldEvent). m ∷ l) e
cond_append false m xs ys zs e = e

part-append : (own : List ℕ) (lane at : ℕ) (ms ns : List WorldEvent) → part own lane at (ms ++ ns) ≡ part own lane at ms ++ part own lane (at + length ms) ns
part-append own lane at [] ns = ap (λ (k : ℕ). part own lane k ns) (sym (add-zero at))
part-append own lane at (m ∷ ms) ns =
    let e : (at + 1) + length ms ≡ at + length (m ∷ ms) = omega arith in
    cond_append (has at own && (m.event.entry.lane == lane)) m (part own lane (at + 1) (ms ++ ns)) (part own lane (at + 1) ms) (part own lane (at + length (m ∷ ms)) ns)
    (part-append own lane (at + 1) ms ns ∙ ap (λ (k : ℕ). part own lane (at + 1) ms ++ part own lane k ns) e)

cond_none : (b c : Bool) (m : WorldEvent) (xs : List WorldEvent) → (b ≡ true → ⊥) → xs ≡ [] → cond (b && c) (m ∷ xs) xs ≡ []
cond_none true c m xs never e = absurd (never refl)
cond_none false c m xs never e = e

pub part-none : (own : List ℕ) (lane at : ℕ) (ms : List WorldEvent) → ((p : ℕ) → at ≤ p → has p own ≡ true → ⊥) → part own lane at ms ≡ []
part-none own lane at [] none = refl
part-none own lane at (m ∷ ms) none =
    cond_none (has at own) (m.event.entry.lane == lane) m (part own lane (at + 1) ms) (none at (omega arith)) (part-none own lane (at + 1) ms (λ p le h. none p (omega arith) h))

cond_same : (b c : Bool) (m : WorldEvent) (xs ys : List WorldEvent) → b ≡ c → xs ≡ ys → cond b (m ∷ xs) xs ≡ cond c (m ∷ ys) ys
cond_same b c m xs ys e f = λ i. cond (e i) (m ∷ f i) (f i)

abbrev picks : List ℕ → ℕ → ℕ → WorldEvent → Bool
picks own lane at m = has at own && (m.event.entry.lane == lane)

part-same : (own other : List ℕ) (lane at : ℕ) (ms : List WorldEvent) → ((i : ℕ) (m : WorldEvent) → slice_get ms i ≡ Some m → picks own lane (at + i) m ≡ picks other lane (at + i) m)
    → part own lane at ms ≡ part other lane at ms
part-same own other lane at [] same = refl
part-same own other lane at (m ∷ ms) same =
    cond_same (picks own lane at m) (picks other lane at m) m (part own lane (at + 1) ms) (part other lane (at + 1) ms)
    (subst (λ (k : ℕ). picks own lane k m ≡ picks other lane k m) (add-zero at) (same 0 m refl))
    (part-same own other lane (at + 1) ms (λ i n g. subst (λ (k : ℕ). picks own lane k n ≡ picks other lane k n) (let e : at + suc i ≡ (at + 1) + i = omega arith in e) (same (suc i) n g)))

pub part-all : (own : List ℕ) (lane at : ℕ) (ms : List WorldEvent) → ((i : ℕ) → i < length ms → has (at + i) own ≡ true) → part own lane at ms ≡ events_of_lane lane ms
part-all own lane at [] all = refl
part-all own lane at (m ∷ ms) all =
    cond_same (picks own lane at m) (m.event.entry.lane == lane) m (part own lane (at + 1) ms) (events_of_lane lane ms)
    (ap (λ (b : Bool). b && (m.event.entry.lane == lane)) (subst (λ (k : ℕ). has k own ≡ true) (add-zero at) (all 0 (omega arith))))
    (part-all own lane (at + 1) ms (λ i lt. subst (λ (k : ℕ). has k own ≡ true) (let e : at + suc i ≡ (at + 1) + i = omega arith in e) (all (suc i) (omega arith))))

pub part-grown : (w : World) (own : List ℕ) (lane : ℕ) (xs more : List Event) → ((p : ℕ) → has p own ≡ true → p < length xs)
    → part own lane 0 (world_events w (xs ++ more)) ≡ part own lane 0 (world_events w xs)
part-grown w own lane xs more below =
    let l = length-world_events w xs in
    ap (part own lane 0) (world_events-append w xs more)
    ∙ (part-append own lane 0 (world_events w xs) (world_events (after w xs) more)
    ∙ (ap (λ (ms : List WorldEvent). part own lane 0 (world_events w xs) ++ ms)
    (part-none own lane (0 + length (world_events w xs)) (world_events (after w xs) more) (λ p le h. let b = below p h in absurd (omega (arith, le, b, l))))
    ∙ append-nil (part own lane 0 (world_events w xs))))

-- what is owned, over a longer history
pub owns_grown : (w : World) (first last : ℕ) (own : List ℕ) (xs ys : List Event) → OwnsLanes w first last own xs → StartsWith ys xs → OwnsLanes w first last own ys
owns_grown w first last own xs ys o begins = record {
  below = λ p h. (let b = o.below p h in let l : length ys ≡ length xs + length begins.0 = ap length begins.1 ∙ length-append xs begins.0 in omega (arith, b, l));
  lanes = λ p m h g.
      (let b = o.below p h in let l = length-world_events w xs in
      o.lanes p m h (slice_get_front (world_events w xs) (world_events (after w xs) begins.0) p m (omega (arith, b, l))
      (subst (λ (ms : List WorldEvent). slice_get ms p ≡ Some m) (ap (world_events w) begins.1 ∙ world_events-append w xs begins.0) g)));
}

-- one event more, of a lane
pub owns_more : (w : World) (first last : ℕ) (own : List ℕ) (xs : List Event) (e : Event) → OwnsLanes w first last own xs → first ≤ e.entry.lane → e.entry.lane ≤ last
    → OwnsLanes w first last (own ++ length xs ∷ []) (xs ++ e ∷ [])
owns_more w first last own xs e o low high =
    let longer_by : length (xs ++ e ∷ []) ≡ length xs + 1 = length-append xs (e ∷ []) in
    let g = owns_grown w first last own xs (xs ++ e ∷ []) o (e ∷ [], refl) in record {
      below = λ p h. ⊎_elim (λ (t : has p own ≡ true). g.below p t) (λ (t : has p (length xs ∷ []) ≡ true). let q = has_one p (length xs) t in omega (arith, q, longer_by)) (has_either p own (length xs ∷ []) h);
      lanes = λ p m h at. ⊎_elim (λ (t : has p own ≡ true). g.lanes p m t at)
          (λ (t : has p (length xs ∷ []) ≡ true).
          let q = has_one p (length xs) t in let l = length-world_events w xs in
          let last_one : WorldEvent = record { world = after w xs; event = e } in
          let is : m ≡ last_one = slice_get_end (world_events w xs) last_one m
          (subst (λ (k : ℕ). slice_get (world_events w xs ++ last_one ∷ []) k ≡ Some m) (sym q ∙ sym l) (subst (λ (ms : List WorldEvent). slice_get ms p ≡ Some m) (world_events-append w xs (e ∷ [])) at)) in
          subst (λ (n : WorldEvent). (first ≤ n.event.entry.lane) × (n.event.entry.lane ≤ last)) (sym is) (low, high)) (has_either p own (length xs ∷ []) h);
    }

false_or : (a b : Bool) → (b ≡ true → ⊥) → (a || b) ≡ a
false_or true b never = refl
false_or false true never = absurd (never refl)
false_or false false never = refl

cond_true : (b c : Bool) (m : WorldEvent) → b ≡ true → c ≡ true → cond (b && c) (m ∷ []) [] ≡ m ∷ []
cond_true b c m e f = λ i. cond (e i && f i) (m ∷ []) []

true_or : (a b : Bool) → b ≡ true → (a || b) ≡ true
true_or true b e = refl
true_or false b e = e

has_itself : (own : List ℕ) (p : ℕ) → has p (own ++ p ∷ []) ≡ true
has_itself own p = has-append p own (p ∷ []) ∙ true_or (has p own) (has p (p ∷ [])) (ap (λ (b : Bool). b || false) (eq-eqb p p refl))

pub part-more : (w : World) (own : List ℕ) (lane : ℕ) (xs : List Event) (e : Event) → e.entry.lane ≡ lane
    → part (own ++ length xs ∷ []) lane 0 (world_events w (xs ++ e ∷ [])) ≡ part own lane 0 (world_events w xs) ++ record { world = after w xs; event = e } ∷ []
part-more w own lane xs e of =
    let m : WorldEvent = record { world = after w xs; event = e } in let l = length-world_events w xs in
    let own' : List ℕ = own ++ length xs ∷ [] in
    let front : part own' lane 0 (world_events w xs) ≡ part own lane 0 (world_events w xs) = part-same own' own lane 0 (world_events w xs) (λ i n g.
    let lt = slice_get_lt (world_events w xs) i n g in
    ap (λ (b : Bool). b && (n.event.entry.lane == lane)) (has-append (0 + i) own (length xs ∷ [])
    ∙ false_or (has (0 + i) own) (has (0 + i) (length xs ∷ [])) (λ h. let q = has_one (0 + i) (length xs) h in absurd (omega (arith, q, lt, l))))) in
    let place : 0 + length (world_events w xs) ≡ length xs = omega (arith, l) in
    let here : part own' lane (0 + length (world_events w xs)) (m ∷ []) ≡ m ∷ [] =
    ap (λ (k : ℕ). part own' lane k (m ∷ [])) place ∙ cond_true (has (length xs) own') (e.entry.lane == lane) m (has_itself own (length xs)) (eq-eqb e.entry.lane lane of) in
    ap (part own' lane 0) (world_events-append w xs (e ∷ [])) ∙ (part-append own' lane 0 (world_events w xs) (m ∷ []) ∙ (λ i. front i ++ here i))
  where
    slice_get_lt : (ms : List WorldEvent) (i : ℕ) (n : WorldEvent) → slice_get ms i ≡ Some n → i < length ms
    slice_get_lt [] i n g = absurd cc
    slice_get_lt (x ∷ ms) zero n g = omega arith
    slice_get_lt (x ∷ ms) (suc i) n g = let h = slice_get_lt ms i n g in omega (arith, h)

-- two seats in one
pub owns_both : (w : World) (n : ℕ) (own other : List ℕ) (xs : List Event) → OwnsLanes w 1 n own xs → OwnsLanes w (n + 1) (n + 1) other xs → OwnsLanes w 1 (n + 1) (own ++ other) xs
owns_both w n own other xs a b = record {
  below = λ p h. ⊎_elim (a.below p) (b.below p) (has_either p own other h);
  lanes = λ p m h g. ⊎_elim (λ (t : has p own ≡ true). let k = a.lanes p m t g in let l = k.1 in (k.0, (omega (arith, l))))
      (λ (t : has p other ≡ true). let k = b.lanes p m t g in let l = k.0 in ((omega (arith, l)), k.1)) (has_either p own other h);
}

first_only : (a b c : Bool) → (b ≡ true → c ≡ true → ⊥) → ((a || b) && c) ≡ (a && c)
first_only true b c never = refl
first_only false true true never = absurd (never refl refl)
first_only false true false never = refl
first_only false false c never = refl

second_only : (a b c : Bool) → (a ≡ true → c ≡ true → ⊥) → ((a || b) && c) ≡ (b && c)
second_only true b true never = absurd (never refl refl)
second_only true true false never = refl
second_only true false false never = refl
second_only false b c never = refl

pub part-first : (w : World) (n lane : ℕ) (own other : List ℕ) (xs : List Event) → OwnsLanes w (n + 1) (n + 1) other xs → lane ≤ n
    → part (own ++ other) lane 0 (world_events w xs) ≡ part own lane 0 (world_events w xs)
part-first w n lane own other xs b le = part-same (own ++ other) own lane 0 (world_events w xs) (λ i m g.
    ap (λ (c : Bool). c && (m.event.entry.lane == lane)) (has-append (0 + i) own other)
    ∙ first_only (has (0 + i) own) (has (0 + i) other) (m.event.entry.lane == lane) (λ h t.
    let k = b.lanes (0 + i) m h (subst (λ (j : ℕ). slice_get (world_events w xs) j ≡ Some m) (sym (zero-add i)) g) in let l = k.0 in let q = eqb-true m.event.entry.lane lane t in absurd (omega (arith, l, q, le))))

pub part-second : (w : World) (n : ℕ) (own other : List ℕ) (xs : List Event) → OwnsLanes w 1 n own xs
    → part (own ++ other) (n + 1) 0 (world_events w xs) ≡ part other (n + 1) 0 (world_events w xs)
part-second w n own other xs a = part-same (own ++ other) other (n + 1) 0 (world_events w xs) (λ i m g.
    ap (λ (c : Bool). c && (m.event.entry.lane == n + 1)) (has-append (0 + i) own other)
    ∙ second_only (has (0 + i) own) (has (0 + i) other) (m.event.entry.lane == n + 1) (λ h t.
    let k = a.lanes (0 + i) m h (subst (λ (j : ℕ). slice_get (world_events w xs) j ≡ Some m) (sym (zero-add i)) g) in let l = k.1 in let q = eqb-true m.event.entry.lane (n + 1) t in absurd (omega (arith, l, q))))

-- lanes of which a seat owns nothing
neither : (b c : Bool) → (b ≡ true → c ≡ true → ⊥) → (b && c) ≡ false
neither true true never = absurd (never refl refl)
neither true false never = refl
neither false c never = refl

pub part-beyond : (w : World) (last lane : ℕ) (own : List ℕ) (xs : List Event) → OwnsLanes w 1 last own xs → last < lane → part own lane 0 (world_events w xs) ≡ []
part-beyond w last lane own xs o lt = part-same own [] lane 0 (world_events w xs) (λ i m g.
    neither (has (0 + i) own) (m.event.entry.lane == lane) (λ h t.
    let k = o.lanes (0 + i) m h (subst (λ (j : ℕ). slice_get (world_events w xs) j ≡ Some m) (sym (zero-add i)) g) in let l = k.1 in let q = eqb-true m.event.entry.lane lane t in absurd (omega (arith, l, q, lt))))
    ∙ part-none [] lane 0 (world_events w xs) (λ p le h. absurd cc)

pub owns_wider : (w : World) (last high : ℕ) (own : List ℕ) (xs : List Event) → last ≤ high → OwnsLanes w 1 last own xs → OwnsLanes w 1 high own xs
owns_wider w last high own xs le o = record {
  below = o.below;
  lanes = λ p m h g. let k = o.lanes p m h g in let l = k.1 in (k.0, omega (arith, l, le));
}
