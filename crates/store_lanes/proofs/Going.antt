-- A lane goes on by a line, and lanes come together.
use Rattle.std.proofs.Common.{◌≡◌, ◌≢◌, ℕ, ◌+◌, ◌≤◌, Bool, true, false, ◌&&◌, ◌==◌, cond, List, [], ◌∷◌, ◌++◌, inl, inr, refl, sym, ap, ◌∙◌, subst, append-nil, append_assoc, arith, eq-eqb, lt_of_not-le}
use mathlib.Core.Logic.{dite}
use native.Mathlib.Decide.{dec_le}
use Rattle.std.proofs.lemmas.Bool.{ne_eqb, and_parts}
use Rattle.std.specs.Prelude.{IsTrue, Some, None, Result, Ok, Err, is_err}
use Rattle.object_graph.specs.declared.memory.Memory.{Memory}
use Rattle.disk_trait.specs.declared.disk.Disk.{Ghosts as DiskOf}
use Rattle.store_model.specs.Worlds as model
use Rattle.store_model.specs.Worlds.{World}
use Rattle.store_model.specs.Lanes.{WorldEvent, world_events, Wish, Serves, FollowsLane, IsOwnLine}
use Rattle.script_lang.specs.declared.line.Line.{Line}
use Rattle.script_lang.specs.declared.line.LaneLine.{LaneLine}
use Rattle.script_lang.specs.Script.{SaysInLane}
use Rattle.turn_lock.specs.Lists.{StartsWith, AreOfOne}
use Rattle.turn_lock.specs.Seats.{joined_seats}
use Rattle.cut_core.specs.Seen.{Seen}
use Rattle.store_desk.specs.Events.{history}
use Rattle.store_desk.specs.Seats.{AtDesk}
use Rattle.store_lanes.specs.LaneScripts.{SayInLanes, wishes_of, lines_of_lane}
use Rattle.store_lanes.specs.Lanes.{IsFor, LineServed, LaneGoes, Went, LanesRan}
use Rattle.store_lanes.specs.Owned.{has, part, OwnsLanes, own_part, SameSeat}
use Rattle.store_lanes.specs.Served.{ServesFront, Begins, FollowsTo}
use Rattle.store_lanes.proofs.Making.{starts_history, known_before}
use Rattle.store_lanes.proofs.Owned.{longer_first, longer_second, part-none, part-grown, part-first, part-second, owns_grown, owns_both}

-- ---- the lines of a lane, with one line more

cond_snoc : {A : Type 0} (b : Bool) (x : A) (xs ys zs : List A) → xs ≡ ys ++ zs → cond b (x ∷ xs) xs ≡ cond b (x ∷ ys) ys ++ zs
cond_snoc {A} true x xs ys zs e = ap (λ (l : List A). x ∷ l) e
cond_snoc false x xs ys zs e = e

lines_snoc : (pages lane : ℕ) (past : List LaneLine) (s : LaneLine) → s.lane ≡ lane → lines_of_lane pages lane (past ++ s ∷ []) ≡ lines_of_lane pages lane past ++ wishes_of pages s.line ∷ []
lines_snoc pages lane [] s is = let none : List (List Wish) = [] in ap (λ (b : Bool). cond b (wishes_of pages s.line ∷ none) none) (eq-eqb s.lane lane is)
lines_snoc pages lane (t ∷ past) s is =
    cond_snoc (t.lane == lane) (wishes_of pages t.line) (lines_of_lane pages lane (past ++ s ∷ [])) (lines_of_lane pages lane past) (wishes_of pages s.line ∷ []) (lines_snoc pages lane past s is)

cond_keep : {A : Type 0} (b : Bool) (x : A) (xs ys : List A) → xs ≡ ys → cond b (x ∷ xs) xs ≡ cond b (x ∷ ys) ys
cond_keep b x xs ys e = λ i. cond b (x ∷ e i) (e i)

lines_other : (pages lane : ℕ) (past : List LaneLine) (s : LaneLine) → s.lane ≢ lane → lines_of_lane pages lane (past ++ s ∷ []) ≡ lines_of_lane pages lane past
lines_other pages lane [] s other = let none : List (List Wish) = [] in ap (λ (b : Bool). cond b (wishes_of pages s.line ∷ none) none) (ne_eqb s.lane lane other)
lines_other pages lane (t ∷ past) s other =
    cond_keep (t.lane == lane) (wishes_of pages t.line) (lines_of_lane pages lane (past ++ s ∷ [])) (lines_of_lane pages lane past) (lines_other pages lane past s other)

-- the events of one line more
follows_more : (lines : List (List Wish)) (wishes : List Wish) (ms line : List WorldEvent) → FollowsLane lines ms → Serves wishes line [] → IsOwnLine line → FollowsLane (lines ++ wishes ∷ []) (ms ++ line)
follows_more [] wishes ms line f serves own = (line, [], ap (λ (x : List WorldEvent). x ++ line) f ∙ sym (append-nil line), serves, own, refl)
follows_more (first ∷ lines) wishes ms line f serves own =
    (f.0, f.1 ++ line, ap (λ (x : List WorldEvent). x ++ line) f.2 ∙ append_assoc f.0 f.1 line, f.3, f.4, follows_more lines wishes f.1 line f.5 serves own)

-- what the next line says
record Said (line : List ℕ) (left : List (List ℕ)) (future : List LaneLine) : Type 0 where
  first : LaneLine
  rest : List LaneLine
  is : future ≡ first ∷ rest
  says : SaysInLane line first.lane first.line
  ahead : SayInLanes left rest

said_next : (line : List ℕ) (left : List (List ℕ)) (future : List LaneLine) → SayInLanes (line ∷ left) future → Said line left future
said_next line left [] s = absurd s
said_next line left (first ∷ rest) s = record { first = first; rest = rest; is = refl; says = s.0; ahead = s.1 }

split_on : (said past future rest : List LaneLine) (s : LaneLine) → said ≡ past ++ future → future ≡ s ∷ rest → said ≡ (past ++ s ∷ []) ++ rest
split_on said past future rest s e is = e ∙ (ap (λ (l : List LaneLine). past ++ l) is ∙ sym (append_assoc past (s ∷ []) rest))

-- ---- a seat that owns nothing

none_has : {P : Type 0} (p : ℕ) (own : List ℕ) → own ≡ [] → has p own ≡ true → P
none_has p own none h = absurd (let clash : false ≡ true = ap (has p) (sym none) ∙ h in let f : ⊥ = cc in f)

owns_none : (w : World) (low high : ℕ) (own : List ℕ) (events : List model.Event) → own ≡ [] → OwnsLanes w low high own events
owns_none w low high own events none = record { below = λ p h. none_has p own none h; lanes = λ p m h g. none_has p own none h }

part_none : (own : List ℕ) (lane : ℕ) (ms : List WorldEvent) → own ≡ [] → part own lane 0 ms ≡ []
part_none own lane ms none = part-none own lane 0 ms (λ p le h. none_has p own none h)

nothing_begun : (pages lane : ℕ) (future : List LaneLine) → Begins pages lane future []
nothing_begun pages lane [] = refl
nothing_begun pages lane (s ∷ future) = inl refl

never_true : {P : Type 0} → IsTrue false → P
never_true t = absurd (let clash : false ≡ true = t in let f : ⊥ = cc in f)

module _ {D : Type 0} (disks : DiskOf D) (first : Seen D) where
  abbrev w : World
  w = first.world

  pub going_start : (all : List (List ℕ)) (lane : ℕ) (seat : AtDesk D) → seat.own ≡ [] → LaneGoes disks first all all lane seat
  going_start all lane seat none = record {
    owns = owns_none w lane lane seat.own (history seat.seen) none;
    goes = λ said ahead. record { past = []; future = said; split = refl; ahead = ahead; follows = λ known. part_none seat.own lane (world_events w (history seat.seen)) none };
  }

  -- a line that is none of the lane
  pub going_passed : (all left : List (List ℕ)) (line : List ℕ) (lane : ℕ) (seat : AtDesk D) → LaneGoes disks first all (line ∷ left) lane seat → IsFor lane line None → LaneGoes disks first all left lane seat
  going_passed all left line lane seat g other = record {
    owns = g.owns;
    goes = λ said ahead. (let s = g.goes said ahead in let n = said_next line left s.future s.ahead in record {
      past = s.past ++ n.first ∷ [];
      future = n.rest;
      split = split_on said s.past s.future n.rest n.first s.split n.is;
      ahead = n.ahead;
      follows = λ known. subst (λ (l : List (List Wish)). FollowsLane l (own_part w lane seat)) (sym (lines_other w.pages lane s.past n.first (other n.first n.says))) (s.follows known);
    });
  }

  -- a line of the lane
  going_made : (all left : List (List ℕ)) (line : List ℕ) (lane : ℕ) (asked : Line) (old new : AtDesk D) → LaneGoes disks first all (line ∷ left) lane old → IsFor lane line (Some asked) → LineServed disks first lane asked old new (Ok tt)
      → LaneGoes disks first all left lane new
  going_made all left line lane asked old new g its served =
      record {
        owns = served.added.owns g.owns;
        goes = λ said ahead. (let s = g.goes said ahead in let n = said_next line left s.future s.ahead in let only = its.1 n.first n.says in record {
          past = s.past ++ n.first ∷ [];
          future = n.rest;
          split = split_on said s.past s.future n.rest n.first s.split n.is;
          ahead = n.ahead;
          follows = λ known. subst (FollowsLane (lines_of_lane w.pages lane (s.past ++ n.first ∷ []))) (sym (served.added.parts g.owns))
              (subst (λ (l : List (List Wish)). FollowsLane l (own_part w lane old ++ served.made)) (sym (lines_snoc w.pages lane s.past n.first only.0))
              (follows_more (lines_of_lane w.pages lane s.past) (wishes_of w.pages n.first.line) (own_part w lane old) served.made (s.follows (known_before disks first old new served.added.begins known))
              (subst (λ (l : Line). Serves (wishes_of w.pages l) served.made []) (sym only.1) served.serves) (served.own known)));
        });
      }

  pub going_on : (all left : List (List ℕ)) (line : List ℕ) (lane : ℕ) (asked : Line) (result : Result (Unit {0}) Memory) (old new : AtDesk D) → is_err result ≡ false → LaneGoes disks first all (line ∷ left) lane old
      → IsFor lane line (Some asked) → LineServed disks first lane asked old new result → LaneGoes disks first all left lane new
  going_on all left line lane asked (Ok done) old new e g its served = going_made all left line lane asked old new g its served
  going_on all left line lane asked (Err memory) old new e g its served = absurd (let clash : true ≡ false = e in let f : ⊥ = cc in f)

  -- ---- the end of a lane

  pub going_end : (all : List (List ℕ)) (lane : ℕ) (seat : AtDesk D) → LaneGoes disks first all [] lane seat → LanesRan disks first all lane lane true seat
  going_end all lane seat g = record {
    owns = g.owns;
    each = λ k low high said ahead. subst (λ (j : ℕ). Went disks first j true seat said) (let e : lane ≡ k = omega arith in e) (let s = g.goes said ahead in record {
      past = s.past;
      future = s.future;
      split = s.split;
      ended = λ t. s.ahead;
      follows = λ known. record { done = own_part w lane seat; begun = []; split = sym (append-nil (own_part w lane seat)); follows = s.follows known; begins = nothing_begun w.pages lane s.future };
    });
  }

  -- a lane that found no room in a line
  going_stopped : (all left : List (List ℕ)) (line : List ℕ) (lane : ℕ) (asked : Line) (memory : Memory) (old new : AtDesk D) → LaneGoes disks first all (line ∷ left) lane old → IsFor lane line (Some asked)
      → LineServed disks first lane asked old new (Err memory) → LanesRan disks first all lane lane false new
  going_stopped all left line lane asked memory old new g its served =
      record {
        owns = served.added.owns g.owns;
        each = λ k low high said ahead. subst (λ (j : ℕ). Went disks first j false new said) (let e : lane ≡ k = omega arith in e)
            (let s = g.goes said ahead in let n = said_next line left s.future s.ahead in let only = its.1 n.first n.says in record {
              past = s.past;
              future = s.future;
              split = s.split;
              ended = λ t. never_true t;
              follows = λ known. record {
                done = own_part w lane old;
                begun = served.made;
                split = served.added.parts g.owns;
                follows = s.follows (known_before disks first old new served.added.begins known);
                begins = subst (λ (f : List LaneLine). Begins w.pages lane f served.made) (sym n.is)
                    (inr (only.0, subst (λ (l : Line). ServesFront (wishes_of w.pages l) served.made) (sym only.1) served.serves, served.own known));
              };
            });
      }

  pub going_failed : (all left : List (List ℕ)) (line : List ℕ) (lane : ℕ) (asked : Line) (result : Result (Unit {0}) Memory) (old new : AtDesk D) → is_err result ≡ true → LaneGoes disks first all (line ∷ left) lane old
      → IsFor lane line (Some asked) → LineServed disks first lane asked old new result → LanesRan disks first all lane lane false new
  going_failed all left line lane asked (Ok done) old new e g its served = never_true e
  going_failed all left line lane asked (Err memory) old new e g its served = going_stopped all left line lane asked memory old new g its served

  -- ---- several lanes

  went_nothing : (lane : ℕ) (whole : Bool) (seat : AtDesk D) (said : List LaneLine) → seat.own ≡ [] → (IsTrue whole → said ≡ []) → Went disks first lane whole seat said
  went_nothing lane whole seat said none ended = record {
    past = [];
    future = said;
    split = refl;
    ended = ended;
    follows = λ known. record { done = []; begun = []; split = part_none seat.own lane (world_events w (history seat.seen)) none; follows = refl; begins = nothing_begun w.pages lane said };
  }

  pub lanes_none : (all : List (List ℕ)) (whole : Bool) (seat : AtDesk D) → seat.own ≡ [] → LanesRan disks first all 1 0 whole seat
  lanes_none all whole seat none = record { owns = owns_none w 1 0 seat.own (history seat.seen) none; each = λ k low high said ahead. absurd (omega arith) }

  pub lanes_stopped : (all : List (List ℕ)) (last : ℕ) (seat : AtDesk D) → seat.own ≡ [] → LanesRan disks first all 1 last false seat
  lanes_stopped all last seat none = record {
    owns = owns_none w 1 last seat.own (history seat.seen) none;
    each = λ k low high said ahead. went_nothing k false seat said none (λ t. never_true t);
  }

  went_from : (lane : ℕ) (some all : Bool) (one both : AtDesk D) (said : List LaneLine) → Went disks first lane some one said → (IsTrue all → IsTrue some) → StartsWith both.seen one.seen
      → own_part w lane both ≡ own_part w lane one → Went disks first lane all both said
  went_from lane some all one both said went less begins same = record {
    past = went.past;
    future = went.future;
    split = went.split;
    ended = λ t. went.ended (less t);
    follows = λ known. subst (FollowsTo w.pages lane went.past went.future) (sym same) (went.follows (known_before disks first one both begins known));
  }

  pub lanes_joined : (all : List (List ℕ)) (n : ℕ) (a b : Bool) (one other : AtDesk D) → LanesRan disks first all 1 n a one → LanesRan disks first all (n + 1) (n + 1) b other → AreOfOne one.seen other.seen
      → LanesRan disks first all 1 (n + 1) (a && b) (joined_seats one other)
  lanes_joined all n a b one other r s agree =
      let both : AtDesk D = joined_seats one other in
      let before = longer_first one.seen other.seen agree in
      let beside = longer_second one.seen other.seen agree in
      let h_before = starts_history both.seen one.seen before in
      let h_beside = starts_history both.seen other.seen beside in
      let ro = owns_grown w 1 n one.own (history one.seen) (history both.seen) r.owns h_before in
      let so = owns_grown w (n + 1) (n + 1) other.own (history other.seen) (history both.seen) s.owns h_beside in
      let first_part = (λ (k : ℕ) (le : k ≤ n). part-first w n k one.own other.own (history both.seen) so le
      ∙ (ap (λ (h : List model.Event). part one.own k 0 (world_events w h)) h_before.1 ∙ part-grown w one.own k (history one.seen) h_before.0 r.owns.below)) in
      let second_part : own_part w (n + 1) both ≡ own_part w (n + 1) other =
      part-second w n one.own other.own (history both.seen) ro
      ∙ (ap (λ (h : List model.Event). part other.own (n + 1) 0 (world_events w h)) h_beside.1 ∙ part-grown w other.own (n + 1) (history other.seen) h_beside.0 s.owns.below) in
      record {
        owns = owns_both w n one.own other.own (history both.seen) ro so;
        each = λ k low high said ahead. dite (dec_le k n)
            (λ (le : k ≤ n). went_from k a (a && b) one both said (r.each k low le said ahead) (λ t. (and_parts a b t).0) before (first_part k le))
            (λ (more : k ≤ n → ⊥).
            let lt = lt_of_not-le more in let is : n + 1 ≡ k = omega (arith, lt) in
            subst (λ (j : ℕ). Went disks first j (a && b) both said) is
            (went_from (n + 1) b (a && b) other both said (s.each (n + 1) (omega arith) (omega arith) said ahead) (λ t. (and_parts a b t).1) beside second_part));
      }

pub same_itself : {D : Type 0} (s : AtDesk D) → SameSeat s s
same_itself s = record { turn = refl; start = refl; parts = refl }

pub same_trans : {D : Type 0} (a b c : AtDesk D) → SameSeat a b → SameSeat b c → SameSeat a c
same_trans a b c x y = record { turn = y.turn ∙ x.turn; start = y.start ∙ x.start; parts = y.parts ∙ x.parts }
