-- What the store file holds while a record is appended.
use Rattle.std.proofs.Common.{◌≡◌, inl, inr, ⊎_elim, ℕ, zero, suc, ◌+◌, ◌-◌, ◌<◌, ◌≤◌, List, [], ◌∷◌, ◌++◌, length, get_or, take, drop, refl, sym, ◌∙◌, ap, subst, arith, append_assoc, length-append, length-drop}
use Rattle.std.proofs.lemmas.List.{take-take, length-take-le, drop-take, drop-drop, drop_at, get_or-take, get_or-drop, get_or_at}
use Rattle.std.proofs.lemmas.List.Sums.{sum_by-append}
use Rattle.disk_trait.specs.Disk.{piece, written, Torn}
use Rattle.disk_trait.specs.NoteLaws.{length-written, torn_written}
use Rattle.redo_journal.specs.Walk.{Grammar, bytes_taken, weights}
use Rattle.redo_journal.specs.Area.{AreaHolds, HoldsBeforeOrAfter, IsStaged, area_start, area_of}
use Rattle.redo_journal.specs.Gated.{TornBehind, behind_open}
use Rattle.redo_journal.proofs.WalkLaws.{IsLocal, taken-cons, weights-cons}
use Rattle.redo_journal.proofs.AreaLaws.{behind_closed, gate_open, gate_either}
use Rattle.redo_journal.specs.declared.sizes.TheConstants.{AREA_SIZE}

-- ---- pieces

pub length-piece : (s m : ℕ) (x : List ℕ) → s + m ≤ length x → length (piece s m x) ≡ m
length-piece s m x fits = length-take-le m (drop s x) (omega (arith, length-drop s x))

pub piece_front : (s m i : ℕ) (x y : List ℕ) → i ≤ m → take (s + i) x ≡ take (s + i) y → take i (piece s m x) ≡ take i (piece s m y)
piece_front s m i x y le same =
    take-take i m (drop s x) le ∙ sym (drop-take s i x) ∙ ap (λ (l : List ℕ). drop s l) same ∙ drop-take s i y ∙ sym (take-take i m (drop s y) le)

take_past : (front rest : List ℕ) (n k : ℕ) → n ≡ length front + k → take n (front ++ rest) ≡ front ++ take k rest
take_past [] rest n k is = ap (λ (m : ℕ). take m rest) (omega (arith, is))
take_past (x ∷ front) rest zero k is = absurd (omega arith)
take_past (x ∷ front) rest (suc n) k is = ap (λ (l : List ℕ). x ∷ l) (take_past front rest n k (omega arith))

pub piece_behind : (s m i k : ℕ) (x front rest : List ℕ) → m ≡ i + (length front + k) → drop (s + i) x ≡ front ++ rest → drop i (piece s m x) ≡ front ++ take k rest
piece_behind s m i k x front rest is behind =
    ap (λ (j : ℕ). drop i (take j (drop s x))) is
    ∙ drop-take i (length front + k) (drop s x)
    ∙ ap (λ (l : List ℕ). take (length front + k) l) (drop-drop i s x ∙ behind)
    ∙ take_past front rest (length front + k) k refl

pub get_or-piece : (s m i : ℕ) (x : List ℕ) → i < m → get_or (piece s m x) i 0 ≡ get_or x (s + i) 0
get_or-piece s m i x lt = get_or-take m (drop s x) i 0 lt ∙ get_or-drop s x i 0

-- ---- what a write leaves

pub drop-written : (at : ℕ) (bytes old : List ℕ) → at + length bytes ≤ length old → drop at (written at bytes old) ≡ bytes ++ drop (at + length bytes) old
drop-written at bytes old fits =
    ap (λ (l : List ℕ). drop at l) (append_assoc (take at old) bytes (drop (at + length bytes) old)) ∙ drop_at (take at old) (bytes ++ drop (at + length bytes) old) at (length-take-le at old (omega arith))

module _ {R : Type 0} (g : Grammar R) (l : IsLocal g) (area base : ℕ) (rs : List R) (file : List ℕ) (h : AreaHolds g area base rs file) (n : ℕ) (is : n ≡ 8 + bytes_taken g rs) where
  pub still_before : (gate k : ℕ) (f : List ℕ) → gate ≡ area_start area + n → n < AREA_SIZE → Torn (gate + 1) k file f → AreaHolds g area base rs f
  still_before gate k f gate_is inside torn = record {
    long = omega (arith, h.long, torn.same_length);
    reads = behind_closed g l (area_start area) base rs (area_of area file) h.reads n (area_of area f) is
        (length-piece (area_start area) AREA_SIZE f (omega (arith, h.long, torn.same_length)) ∙ sym (length-piece (area_start area) AREA_SIZE file h.long))
        (piece_front (area_start area) AREA_SIZE (n + 1) f file (omega arith) (subst (λ (k' : ℕ). take k' f ≡ take k' file) (omega (arith, gate_is)) torn.before));
  }

  module _ (new : R) (bytes : List ℕ) (staged : IsStaged g (base + weights g rs) new bytes) (gate : ℕ) (gate_is : gate ≡ area_start area + n) (room : n + 1 + length bytes ≤ AREA_SIZE) where
    abbrev body : List ℕ
    body = staged.body

    abbrev two : List ℕ
    two = written (gate + 1) bytes file

    fits : gate + 1 + length bytes ≤ length file
    fits = omega (arith, gate_is, room, h.long)

    staged_len : length bytes ≡ length body + 1
    staged_len = omega (arith, ap length staged.ends, length-append body (0 ∷ []))

    -- a crash while the gate is opened leaves the record behind it
    behind_gate : (f : List ℕ) → Torn gate 1 two f → drop (n + 1) (area_of area f) ≡ body ++ 0 ∷ take (AREA_SIZE - (n + 1 + length bytes)) (drop (gate + 1 + length bytes) file)
    behind_gate f torn =
        let behind : drop (area_start area + (n + 1)) f ≡ bytes ++ drop (gate + 1 + length bytes) file =
        subst (λ (j : ℕ). drop j f ≡ bytes ++ drop (gate + 1 + length bytes) file) (omega (arith, gate_is)) (torn.after ∙ drop-written (gate + 1) bytes file fits) in
        piece_behind (area_start area) AREA_SIZE (n + 1) (AREA_SIZE - (n + 1 + length bytes)) f bytes (drop (gate + 1 + length bytes) file) (omega (arith, room)) behind
        ∙ ap (λ (x : List ℕ). x ++ take (AREA_SIZE - (n + 1 + length bytes)) (drop (gate + 1 + length bytes) file)) staged.ends
        ∙ append_assoc body (0 ∷ []) (take (AREA_SIZE - (n + 1 + length bytes)) (drop (gate + 1 + length bytes) file))

    same_length : (f : List ℕ) → Torn gate 1 two f → length f ≡ length file
    same_length f torn = torn.same_length ∙ length-written (gate + 1) bytes file fits

    front_gate : (f : List ℕ) → Torn gate 1 two f → take n (area_of area f) ≡ take n (area_of area file)
    front_gate f torn =
        let both : take gate two ≡ take gate file = sym (take-take gate (gate + 1) two (omega arith)) ∙ ap (λ (x : List ℕ). take gate x) (torn_written (gate + 1) bytes file fits).before ∙ take-take gate (gate + 1) file (omega arith) in
        piece_front (area_start area) AREA_SIZE n f file (omega (arith, room)) (subst (λ (j : ℕ). take j f ≡ take j file) gate_is (torn.before ∙ both))

    area_len : (f : List ℕ) → Torn gate 1 two f → length (area_of area f) ≡ length (area_of area file)
    area_len f torn =
        length-piece (area_start area) AREA_SIZE f (omega (arith, h.long, same_length f torn)) ∙ sym (length-piece (area_start area) AREA_SIZE file h.long)

    long_after : (f : List ℕ) → Torn gate 1 two f → area_start area + AREA_SIZE ≤ length f
    long_after f torn = omega (arith, h.long, same_length f torn)

    pub either : (f : List ℕ) → Torn gate 1 two f → HoldsBeforeOrAfter g area base rs new f
    either f torn =
        ⊎_elim
        (λ before. inl (record { long = long_after f torn; reads = before }))
        (λ after. inr (record { long = long_after f torn; reads = after }))
        (gate_either g l (area_start area) base rs (area_of area file) h.reads n (area_of area f) new body (take (AREA_SIZE - (n + 1 + length bytes)) (drop (gate + 1 + length bytes) file)) is (area_len f torn) (front_gate f torn) (behind_gate f torn) staged.size (staged.reads (area_start area + n + 1) _))

    pub at_any_moment : (f : List ℕ) → TornBehind gate bytes file f → HoldsBeforeOrAfter g area base rs new f
    at_any_moment f (inl torn) = inl (still_before gate (length bytes) f gate_is (omega (arith, room)) torn)
    at_any_moment f (inr torn) = either f torn

    -- and in the end the gate is open
    pub in_the_end : (f : List ℕ) → f ≡ behind_open gate bytes file → AreaHolds g area base (rs ++ new ∷ []) f
    in_the_end f f_is =
        let within : gate + length {A = ℕ} (1 ∷ []) ≤ length two = omega (arith, length-written (gate + 1) bytes file fits, fits) in
        let torn : Torn gate 1 two f = subst (λ (x : List ℕ). Torn gate 1 two x) (sym f_is) (torn_written gate (1 ∷ []) two within) in
        let open_is : get_or (area_of area f) n 0 ≡ 1 =
        get_or-piece (area_start area) AREA_SIZE n f (omega (arith, room)) ∙ ap (λ (j : ℕ). get_or f j 0) (sym gate_is) ∙ ap (λ (x : List ℕ). get_or x gate 0) (f_is ∙ append_assoc (take gate two) (1 ∷ []) (drop (gate + 1) two)) ∙ get_or_at (take gate two) 1 (drop (gate + 1) two) 0 gate (length-take-le gate two (omega (arith, within))) in
        record {
          long = long_after f torn;
          reads = gate_open g l (area_start area) base rs (area_of area file) h.reads n (area_of area f) new body (take (AREA_SIZE - (n + 1 + length bytes)) (drop (gate + 1 + length bytes) file)) is (area_len f torn) (front_gate f torn) (behind_gate f torn) staged.size (staged.reads (area_start area + n + 1) _) open_is;
        }

-- ---- what the journal counts

module _ {R : Type 0} (g : Grammar R) where
  pub taken-push : (rs : List R) (new : R) → bytes_taken g (rs ++ new ∷ []) ≡ bytes_taken g rs + (g.size new + 1)
  taken-push rs new = omega (arith, sum_by-append (λ q. g.size q + 1) rs (new ∷ []), taken-cons g new [])

  pub weights-push : (rs : List R) (new : R) → weights g (rs ++ new ∷ []) ≡ weights g rs + g.weight new
  weights-push rs new = omega (arith, sum_by-append g.weight rs (new ∷ []), weights-cons g new [])

  pub end_after : (rs : List R) (new : R) (done end need : ℕ) (bytes : List ℕ) → end ≡ 8 + bytes_taken g rs → IsStaged g done new bytes → need ≡ length bytes → end + need ≡ 8 + bytes_taken g (rs ++ new ∷ [])
  end_after rs new done end need bytes end_is staged need_is =
      omega (arith, end_is, need_is, taken-push rs new, ap length staged.ends, length-append staged.body (0 ∷ []), staged.size)
