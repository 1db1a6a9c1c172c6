-- Counts of faults over the parts of a history.
use Rattle.std.proofs.Common.{◌≡◌, sym, subst, ℕ, ◌≤◌, ◌<◌, List, [], ◌∷◌, ◌++◌, arith}
use Rattle.std.proofs.lemmas.Grind.{flat_map-append}
use Rattle.object_graph.specs.declared.calls.Entry.{Entry}
use Rattle.store_model.specs.Worlds.{Event, faults}
use Rattle.store_model.specs.Faults.{last_count, count_in, counts_noted, Ascend, FaultsAscend}

pub none_ascends : (from to : ℕ) (events : List Event) → counts_noted events ≡ [] → from ≤ to → FaultsAscend from to events
none_ascends from to events none le = record { later = le; ascend = λ lt. subst (λ (ns : List ℕ). Ascend from ns to) (sym none) le }

pub one_ascends : (from to : ℕ) (entry : Entry) → (to < last_count → from < to) → from ≤ to → FaultsAscend from to (record { entry = entry; note = faults to } ∷ [])
one_ascends from to entry rose le = record { later = le; ascend = λ lt. (rose lt, omega arith) }

ascend_lower : (low from to : ℕ) (ns : List ℕ) → low ≤ from → Ascend from ns to → Ascend low ns to
ascend_lower low from to [] le a = omega arith
ascend_lower low from to (n ∷ ns) le a = (omega (arith, a.0), a.1)

ascend_higher : (from to high : ℕ) (ns : List ℕ) → to ≤ high → Ascend from ns to → Ascend from ns high
ascend_higher from to high [] le a = omega arith
ascend_higher from to high (n ∷ ns) le a = (a.0, ascend_higher n to high ns le a.1)

ascend_join : (from between to : ℕ) (ns ms : List ℕ) → Ascend from ns between → Ascend between ms to → Ascend from (ns ++ ms) to
ascend_join from between to [] ms a b = ascend_lower from between to ms a b
ascend_join from between to (n ∷ ns) ms a b = (a.0, ascend_join n between to ns ms a.1 b)

still_below : (b c m : ℕ) → b ≤ c → c < m → b < m
still_below b c m le lt = omega arith

pub ascend_over_parts : (from between to : ℕ) (events more : List Event) → FaultsAscend from between events → FaultsAscend between to more → FaultsAscend from to (events ++ more)
ascend_over_parts from between to events more x y = record {
  later = omega (arith, x.later, y.later);
  ascend = λ (lt : to < last_count).
      let mid : between < last_count = still_below between to last_count y.later lt in
      subst (λ (ns : List ℕ). Ascend from ns to) (sym (flat_map-append (λ (e : Event). count_in e.note) events more))
      (ascend_join from between to (counts_noted events) (counts_noted more) (x.ascend mid) (y.ascend lt));
}

pub ascend_within : (low from to high : ℕ) (events : List Event) → low ≤ from → to ≤ high → FaultsAscend from to events → FaultsAscend low high events
ascend_within low from to high events below above x = record {
  later = omega (arith, below, above, x.later);
  ascend = λ (lt : high < last_count).
      ascend_lower low from high (counts_noted events) below (ascend_higher from to high (counts_noted events) above (x.ascend (still_below to high last_count above lt)));
}
