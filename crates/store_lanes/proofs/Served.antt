-- The calls of a line in parts.
use Rattle.std.proofs.Common.{◌≡◌, refl, sym, ap, subst, ℕ, Bool, true, false, not, inl, inr, ⊎_elim, List, [], ◌∷◌, ◌++◌, map}
use Rattle.std.specs.Prelude.{MatchBool, Result, Ok, Err, Option, Some, None, IfSome}
use Rattle.object_graph.specs.declared.calls.Call.{Call}
use Rattle.object_graph.specs.declared.calls.Call.TheVariants.{HandIn, Mark}
use Rattle.object_graph.specs.declared.memory.Memory.{Memory}
use Rattle.object_graph.specs.Members.{In}
use Rattle.object_graph.proofs.Members.{each_in, each_from, in_append, append_left, append_right}
use Rattle.store_model.specs.Causes.{marks_number}
use Rattle.store_model.specs.Histories.{is_refused}
use Rattle.store_model.specs.Lanes.{WorldEvent, one_call, Serves, IsOwnLine, HandsInOwn, MarksOwn, ClosedCut}
use Rattle.store_lanes.specs.Served.{ServesFront, ServesBy, Passes, Ends, Outcome, GivesOwn, IsOwnIn, IsOwnPart, is_plain, without_bool}

-- ---- one part after another

passes_then : (calls more left : List Call) (ms ns : List WorldEvent) → Passes calls [] ms → Passes more left ns → Passes (calls ++ more) left (ms ++ ns)
passes_then calls more left [] ns p q = subst (λ (c : List Call). Passes (c ++ more) left ns) (sym p) q
passes_then [] more left (m ∷ ms) ns p q = absurd p
passes_then (call ∷ calls) more left (m ∷ ms) ns p q = (p.0, p.1, passes_then calls more left ms ns p.2 q)

at_true : (A B : Type 0) (b : Bool) → b ≡ true → A → MatchBool b A B
at_true A B true e a = a
at_true A B false e a = absurd cc

at_false : (A B : Type 0) (b : Bool) → b ≡ false → B → MatchBool b A B
at_false A B true e x = absurd cc
at_false A B false e x = x

either_more : {A B C D : Type 0} (b : Bool) → (A → C) → (B → D) → MatchBool b A B → MatchBool b C D
either_more true f g x = f x
either_more false f g x = g x

passes_ends : (calls more : List Call) (ms ns : List WorldEvent) → Passes calls [] ms → Ends more ns → Ends (calls ++ more) (ms ++ ns)
passes_ends calls more [] ns p q = subst (λ (c : List Call). Ends (c ++ more) ns) (sym p) q
passes_ends [] more (m ∷ ms) ns p q = absurd p
passes_ends (call ∷ calls) more (m ∷ ms) ns p q = (p.0, at_false (ms ++ ns ≡ []) (Ends (calls ++ more) (ms ++ ns)) (is_refused m.event.entry.reply) p.1 (passes_ends calls more ms ns p.2 q))

ends_more : (calls more : List Call) (ms : List WorldEvent) → Ends calls ms → Ends (calls ++ more) ms
ends_more [] more ms e = absurd e
ends_more (call ∷ calls) more [] e = absurd e
ends_more (call ∷ calls) more (m ∷ ms) e = (e.0, either_more (is_refused m.event.entry.reply) (λ x. x) (ends_more calls more ms) e.1)

passes_more : (calls more left : List Call) (ms : List WorldEvent) → Passes calls left ms → Passes (calls ++ more) (left ++ more) ms
passes_more calls more left [] p = ap (λ (c : List Call). c ++ more) p
passes_more [] more left (m ∷ ms) p = absurd p
passes_more (call ∷ calls) more left (m ∷ ms) p = (p.0, p.1, passes_more calls more left ms p.2)

pub outcome_then : (calls more : List Call) (ms ns : List WorldEvent) (result : Result Bool Memory) → Passes calls [] ms → Outcome more ns result → Outcome (calls ++ more) (ms ++ ns) result
outcome_then calls more ms ns (Ok true) p o = passes_then calls more [] ms ns p o
outcome_then calls more ms ns (Ok false) p o = passes_ends calls more ms ns p o
outcome_then calls more ms ns (Err e) p o = (o.0, passes_then calls more o.0 ms ns p o.1)

-- a part that didn't come to its end
abbrev pub IsStopped : Result Bool Memory → Type 0
IsStopped (Ok true) = ⊥
IsStopped (Ok false) = Unit {0}
IsStopped (Err e) = Unit {0}

pub outcome_more : (calls more : List Call) (ms : List WorldEvent) (result : Result Bool Memory) → IsStopped result → Outcome calls ms result → Outcome (calls ++ more) ms result
outcome_more calls more ms (Ok true) stopped o = absurd stopped
outcome_more calls more ms (Ok false) stopped o = ends_more calls more ms o
outcome_more calls more ms (Err e) stopped o = (o.0 ++ more, passes_more calls more o.0 ms o.1)

-- ---- what a line asks for

serves_passed : (calls : List Call) (ms : List WorldEvent) → Passes calls [] ms → Serves (map one_call calls) ms []
serves_passed calls [] p = subst (λ (c : List Call). Serves (map one_call c) [] []) (sym p) refl
serves_passed [] (m ∷ ms) p = absurd p
serves_passed (call ∷ calls) (m ∷ ms) p = (p.0, at_false (ms ≡ []) (Serves (map one_call calls) ms []) (is_refused m.event.entry.reply) p.1 (serves_passed calls ms p.2))

serves_ended : (calls : List Call) (ms : List WorldEvent) → Ends calls ms → Serves (map one_call calls) ms []
serves_ended [] ms e = absurd e
serves_ended (call ∷ calls) [] e = absurd e
serves_ended (call ∷ calls) (m ∷ ms) e = (e.0, either_more (is_refused m.event.entry.reply) (λ x. x) (serves_ended calls ms) e.1)

front_passed : (calls left : List Call) (ms : List WorldEvent) → Passes calls left ms → ServesFront (map one_call calls) ms
front_passed calls left [] p = tt
front_passed [] left (m ∷ ms) p = absurd p
front_passed (call ∷ calls) left (m ∷ ms) p = (p.0, at_false (ms ≡ []) (ServesFront (map one_call calls) ms) (is_refused m.event.entry.reply) p.1 (front_passed calls left ms p.2))

pub serves_by : (calls : List Call) (ms : List WorldEvent) (result : Result Bool Memory) → Outcome calls ms result → ServesBy (map one_call calls) ms (without_bool result)
serves_by calls ms (Ok true) o = serves_passed calls ms o
serves_by calls ms (Ok false) o = serves_ended calls ms o
serves_by calls ms (Err e) o = front_passed calls o.0 ms o.1

-- one call
pub outcome_one : (call : Call) (m : WorldEvent) (b : Bool) → m.event.entry.call ≡ call → b ≡ not (is_refused m.event.entry.reply) → Outcome (call ∷ []) (m ∷ []) (Ok b)
outcome_one call m true is done = (is, flipped (is_refused m.event.entry.reply) done, refl)
  where
    flipped : (r : Bool) → true ≡ not r → r ≡ false
    flipped true e = cc
    flipped false e = refl
outcome_one call m false is done = let none : List WorldEvent = [] in (is, at_true (none ≡ none) ⊥ (is_refused m.event.entry.reply) (flipped (is_refused m.event.entry.reply) done) refl)
  where
    flipped : (r : Bool) → false ≡ not r → r ≡ true
    flipped true e = refl
    flipped false e = cc

-- ---- marks of a line's own cut

closed_more : (line more : List WorldEvent) (marks : Option ℕ) → ((c : WorldEvent) → In c line → In c more) → IfSome marks (ClosedCut line) → IfSome marks (ClosedCut more)
closed_more line more None f c = tt
closed_more line more (Some n) f c = (c.0, f c.0 c.1, c.2, c.3)

own_more : (line more : List WorldEvent) (m : WorldEvent) → ((c : WorldEvent) → In c line → In c more) → IsOwnIn line m → IsOwnIn more m
own_more line more m f o = ⊎_elim (λ p. inl p) (λ (g : GivesOwn line m). inr (record { workers = g.workers; call = g.call; closed = closed_more line more (marks_number m.event.note) f g.closed })) o

-- two parts of a line in one
pub own_both : (line more : List WorldEvent) → IsOwnPart line → IsOwnPart more → IsOwnPart (line ++ more)
own_both line more a b = each_from (IsOwnIn (line ++ more)) (line ++ more) (λ m i. ⊎_elim
    (λ j. own_more line (line ++ more) m (λ c k. append_left line more c k) (each_in (IsOwnIn line) line m a j))
    (λ j. own_more more (line ++ more) m (λ c k. append_right line more c k) (each_in (IsOwnIn more) more m b j)) (in_append line more m i))

-- marks after the closing of their cut
pub own_marks : (line : List WorldEvent) (m : WorldEvent) (workers : ℕ) → IsOwnPart line → m.event.entry.call ≡ Mark workers → IfSome (marks_number m.event.note) (ClosedCut line) → IsOwnPart (line ++ m ∷ [])
own_marks line m workers a is closed = each_from (IsOwnIn (line ++ m ∷ [])) (line ++ m ∷ []) (λ x i. ⊎_elim
    (λ j. own_more line (line ++ m ∷ []) x (λ c k. append_left line (m ∷ []) c k) (each_in (IsOwnIn line) line x a j))
    (λ j. ⊎_elim (λ same. subst (IsOwnIn (line ++ m ∷ [])) (sym same)
    (inr (record { workers = workers; call = is; closed = closed_more line (line ++ m ∷ []) (marks_number m.event.note) (λ c k. append_left line (m ∷ []) c k) closed }))) (λ none. absurd none) j)
    (in_append line (m ∷ []) x i))

plain_own : (line : List WorldEvent) (m : WorldEvent) (call : Call) → is_plain call ≡ true → HandsInOwn line m call × MarksOwn line m call
plain_own line m (HandIn page cut seen) e = absurd (let z : ⊥ = cc in z)
plain_own line m (Mark workers) e = absurd (let z : ⊥ = cc in z)
plain_own line m call e = (tt, tt)

pub own_line : (line : List WorldEvent) → IsOwnPart line → IsOwnLine line
own_line line own = each_from (λ (m : WorldEvent). HandsInOwn line m m.event.entry.call × MarksOwn line m m.event.entry.call) line (λ m i. ⊎_elim
    (λ p. plain_own line m m.event.entry.call p)
    (λ (g : GivesOwn line m). subst (λ (c : Call). HandsInOwn line m c × MarksOwn line m c) (sym g.call) (tt, g.closed))
    (each_in (IsOwnIn line) line m own i))
