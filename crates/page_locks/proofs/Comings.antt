-- The table at first, and as transactions come and go.
use Rattle.std.proofs.Common.{◌≡◌, ◌≢◌, ℕ, ◌<◌, true, false, not, ◌==◌, ◌||◌, ◌&&◌, nat_eq, Some, None, List, [], ◌∷◌, ◌++◌, length, filter, get_or, set, replicate, refl, ap, sym, subst, ◌∙◌, ◌⊎◌, inl, inr, arith, nat_lt, ◌%◌, length-append}
use Rattle.std.specs.List.{list_any, AllByRecursion, IsDistinct, All}
use Rattle.std.specs.Cmp.{nat_eq_equiv}
use Rattle.std.proofs.lemmas.Bool.{cases_Bool, cases_eq, eq-eqb, ne_eqb, and_parts, ltb-true, ltb-false}
use Rattle.std.proofs.lemmas.List.{length-set}
use Rattle.std.proofs.lemmas.List.Folds.{list_any-append}
use Rattle.std.proofs.lemmas.List.Elements.{All-nil, All-filter, All-push}
use Rattle.std.proofs.lemmas.Map.Keys.{IsDistinct-push}
use Rattle.object_graph.specs.declared.limits.TheConstants.{MOST_OPEN}
use Rattle.page_locks.specs.Sets.{has_bit, in_set, HasRoom, is_among}
use Rattle.page_locks.specs.Words.{word_of, is_held}
use Rattle.page_locks.specs.Holding.{KeepsApart, HaveSameLocks, Releases}
use Rattle.page_locks.specs.Places.{free_seat, seat_at, transaction_at, may_hold, free_or_not, count_free, locks_of, numbers_in, AreSeated, AreCovered, IsLockTable}
use Rattle.page_locks.specs.declared.admitted.Admitted.{Admitted}
use Rattle.page_locks.specs.declared.holders.Holders.{Holders}
use Rattle.page_locks.specs.declared.holders.Mode.{Mode}
use Rattle.page_locks.specs.declared.holders.Mode.TheVariants.{Shared, Exclusive}
use Rattle.page_locks.specs.declared.seats.Seat.{Seat}
use Rattle.page_locks.proofs.Bits.{or_false, or_true, and_true, and_false, has_none}
use Rattle.page_locks.proofs.Apart.{apart_same, apart_released}
use Rattle.page_locks.proofs.Modes.{has_lock, has_lock-locks_of, numbers-locks_of}
use Rattle.page_locks.proofs.Order.{others_stay, numbers-append, numbers-filter, gone_away, others_among, one_less, distinct_filter, absent}
use Rattle.page_locks.proofs.Seated.{number-set_same, number-set_other, count-set, seat_or_not, lock_at, no_lock, some_same}
use Rattle.page_locks.proofs.Modes.{held_by_nobody}
use Rattle.page_locks.proofs.Seated.{none_free}
use Rattle.page_locks.proofs.Table.{seat-set_same, seat-set_other}
use Rattle.std.proofs.lemmas.List.{get_or_past, get_or-replicate, length-replicate}
use Rattle.std.proofs.lemmas.List.Elements.{recursion_from_All, filter_passes}
use Rattle.std.proofs.lemmas.List.Sums.{sum_by-cons}
use Rattle.page_locks.specs.Words.{nobody}
use Rattle.page_locks.specs.Places.{AreFresh}

-- ---- at first

all_free : (seats : List Seat) → AllByRecursion (λ s. s.txn ≡ None) seats → count_free seats ≡ length seats
all_free [] all = refl
all_free (s ∷ ss) all =
    let rest = all_free ss all.1 in
    let one : free_or_not s.txn ≡ 1 = ap free_or_not all.0 in
    sum_by-cons (λ (x : Seat). free_or_not x.txn) s ss ∙ omega (arith, rest, one)

fresh_number : (pages : ℕ) (seats : List Seat) (q : ℕ) → AreFresh pages seats → transaction_at seats q ≡ None
fresh_number pages seats q f = elim (cases_Bool (nat_lt q (length seats))) [
  | inl lt ↦ f.free q free_seat (ltb-true q (length seats) lt)
  | inr ge ↦ ap (λ (x : Seat). x.txn) (get_or_past seats q free_seat (ltb-false q (length seats) ge))
]

no_bit : (pages : ℕ) (m : Mode) (page q : ℕ) → is_held m (replicate pages nobody) page q ≡ false
no_bit pages m page q = elim (cases_Bool (nat_lt page pages)) [
  | inl lt ↦ ap (λ (h : Holders). has_bit (word_of m h) q) (get_or-replicate pages page nobody nobody (ltb-true page pages lt)) ∙ held_by_nobody m q
  | inr ge ↦
      let l = ltb-false page pages ge in
      ap (λ (h : Holders). has_bit (word_of m h) q) (get_or_past (replicate pages nobody) page nobody (omega (arith, l, length-replicate pages nobody))) ∙ held_by_nobody m q
]

nobody_yet : IsDistinct nat_eq []
unfolding IsDistinct
nobody_yet = tt

pub table_starts : (pages : ℕ) (seats : List Seat) → AreFresh pages seats → IsLockTable pages (replicate pages nobody) [] seats
table_starts pages seats f = record {
  seated = record {
    count = f.count;
    seated = All-nil (λ (a : Admitted). (a.place < MOST_OPEN) × (transaction_at seats a.place ≡ Some a.txn));
    admitted = λ place n e. let z : None ≡ Some n = sym (fresh_number pages seats place f) ∙ e in absurd cc;
    single = λ one other n e g. let z : None ≡ Some n = sym (fresh_number pages seats one f) ∙ e in absurd cc;
    distinct = nobody_yet;
    free = let c = f.count in let a = all_free seats (recursion_from_All (λ s. s.txn ≡ None) seats f.free) in omega (arith, a, c);
  };
  covered = record {
    count = length-replicate pages nobody;
    covered = λ m page place low e. let z : true ≡ false = sym e ∙ no_bit pages m page place in absurd cc;
    empty = λ place page none. elim (cases_Bool (nat_lt place (length seats))) [
      | inl lt ↦ f.empty place free_seat (ltb-true place (length seats) lt) page
      | inr ge ↦ ap (λ (x : Seat). in_set x.pages page) (get_or_past seats place free_seat (ltb-false place (length seats) ge)) ∙ none_in page
    ];
    room = λ place low. let c = f.count in f.room place free_seat (omega (arith, c, low));
  };
  apart = λ one other page e ne. cc;
}
  where
    none_in : (page : ℕ) → in_set [] page ≡ false
    none_in page = has_none (page % 64)

-- ---- one is admitted

module _ (held : List Admitted) (seats : List Seat) (txn q : ℕ) (s : AreSeated held seats) (low : q < MOST_OPEN) (free : transaction_at seats q ≡ None) (new : is_among (numbers_in held) txn ≡ false) where
  abbrev pub seat : Seat
  seat = record { txn = Some txn; pages = (seat_at seats q).pages }

  abbrev pub one : Admitted
  one = record { txn = txn; place = q }

  within : q < length seats
  within = let c = s.count in omega (arith, c)

  own : transaction_at (set seats q seat) q ≡ Some txn
  own = number-set_same seats q seat within

  not_free : (p n : ℕ) → transaction_at seats p ≡ Some n → p ≢ q
  not_free p n e same = let z : None ≡ Some n = sym free ∙ (ap (transaction_at seats) (sym same) ∙ e) in cc

  among : (n : ℕ) → is_among (numbers_in (held ++ one ∷ [])) n ≡ (is_among (numbers_in held) n || ((txn == n) || false))
  among n = ap (λ ns. is_among ns n) (numbers-append held one) ∙ list_any-append (λ k. k == n) (numbers_in held) (txn ∷ [])

  by_place : (p n : ℕ) → transaction_at (set seats q seat) p ≡ Some n → ((p ≡ q) × (n ≡ txn)) ⊎ ((p ≢ q) × (transaction_at seats p ≡ Some n))
  by_place p n e = elim (cases_eq p q) [
    | inl here ↦ inl (here, some_same n txn (sym e ∙ (ap (transaction_at (set seats q seat)) here ∙ own)))
    | inr ne ↦ inr (ne, sym (number-set_other seats q p seat ne) ∙ e)
  ]

  -- the number of another place isn't the new one
  apart_from : (p : ℕ) → transaction_at seats p ≡ Some txn → ⊥
  apart_from p e = let z : true ≡ false = sym (s.admitted p txn e) ∙ new in cc

  pub seated_admits : AreSeated (held ++ one ∷ []) (set seats q seat)
  seated_admits = record {
    count = length-set seats q seat ∙ s.count;
    seated = All-push (λ (a : Admitted). (a.place < MOST_OPEN) × (transaction_at (set seats q seat) a.place ≡ Some a.txn)) held one
        (λ i d l. let e = s.seated i d l in
        (e.0, number-set_other seats q (get_or held i d).place seat (not_free (get_or held i d).place (get_or held i d).txn e.1) ∙ e.1)) (low, own);
    admitted = λ p n e. elim (by_place p n e) [
      | inl x ↦ among n ∙ (ap (λ b. is_among (numbers_in held) n || (b || false)) (eq-eqb txn n (sym x.1)) ∙ or_true (is_among (numbers_in held) n))
      | inr x ↦ among n ∙ ap (λ b. b || ((txn == n) || false)) (s.admitted p n x.1)
    ];
    single = λ a b n e f. elim (by_place a n e) [
      | inl x ↦ elim (by_place b n f) [
        | inl y ↦ x.0 ∙ sym y.0
        | inr y ↦ absurd (apart_from b (y.1 ∙ ap Some x.1))
      ]
      | inr x ↦ elim (by_place b n f) [
        | inl y ↦ absurd (apart_from a (x.1 ∙ ap Some y.1))
        | inr y ↦ s.single a b n x.1 y.1
      ]
    ];
    distinct = subst (IsDistinct nat_eq) (sym (numbers-append held one)) (IsDistinct-push nat_eq_equiv (numbers_in held) txn s.distinct (absent (numbers_in held) txn new));
    free =
        let c = count-set seats q seat within in
        let k = ap free_or_not free in
        let f = s.free in
        omega (arith, c, k, f, length-append held (one ∷ []));
  }

  pub room_left : length held < MOST_OPEN
  room_left =
      let c = count-set seats q seat within in
      let k = ap free_or_not free in
      let f = s.free in
      omega (arith, c, k, f)

  pages_same : (p page : ℕ) → may_hold (set seats q seat) p page ≡ may_hold seats p page
  pages_same p page = elim (cases_eq p q) [
    | inl here ↦
        ap (λ k. may_hold (set seats q seat) k page) here
        ∙ (ap (λ (x : Seat). in_set x.pages page) (seat-set_same seats q seat within) ∙ ap (λ k. may_hold seats k page) (sym here))
    | inr ne ↦ ap (λ (x : Seat). in_set x.pages page) (seat-set_other seats q p seat ne)
  ]

  module _ (pages : ℕ) (holders : List Holders) (c : AreCovered pages holders seats) where
    covered_admits : AreCovered pages holders (set seats q seat)
    covered_admits = record {
      count = c.count;
      covered = λ m page p l e. pages_same p page ∙ c.covered m page p l e;
      empty = λ p page none. elim (cases_eq p q) [
        | inl here ↦ let z : None ≡ Some txn = sym none ∙ (ap (transaction_at (set seats q seat)) here ∙ own) in absurd cc
        | inr ne ↦ pages_same p page ∙ c.empty p page (sym (number-set_other seats q p seat ne) ∙ none)
      ];
      room = λ p l. elim (cases_eq p q) [
        | inl here ↦
            subst (λ k. HasRoom pages (seat_at (set seats q seat) k).pages) (sym here)
            (subst (λ (x : Seat). HasRoom pages x.pages) (sym (seat-set_same seats q seat within)) (c.room q low))
        | inr ne ↦ subst (λ (x : Seat). HasRoom pages x.pages) (sym (seat-set_other seats q p seat ne)) (c.room p l)
      ];
    }

    holds_none : (m : Mode) (page : ℕ) → is_held m holders page q ≡ false
    holds_none m page = elim (cases_Bool (is_held m holders page q)) [
      | inl e ↦ let z : true ≡ false = sym (c.covered m page q low e) ∙ c.empty q page free in absurd cc
      | inr e ↦ e
    ]

    same_lock : (m : Mode) (n page : ℕ) → has_lock m (locks_of holders (held ++ one ∷ [])) n page ≡ has_lock m (locks_of holders held) n page
    same_lock m n page =
        has_lock-locks_of m holders (held ++ one ∷ []) n page
        ∙ (list_any-append (λ a. (a.txn == n) && is_held m holders page a.place) held (one ∷ [])
        ∙ (ap (λ b. list_any (λ a. (a.txn == n) && is_held m holders page a.place) held || (((txn == n) && b) || false)) (holds_none m page)
        ∙ (ap (λ b. list_any (λ a. (a.txn == n) && is_held m holders page a.place) held || (b || false)) (and_false (txn == n))
        ∙ (or_false (list_any (λ a. (a.txn == n) && is_held m holders page a.place) held)
        ∙ sym (has_lock-locks_of m holders held n page)))))

    pub same_locks : HaveSameLocks (locks_of holders held) (locks_of holders (held ++ one ∷ []))
    same_locks = record { shared = λ n page. same_lock Shared n page; exclusive = λ n page. same_lock Exclusive n page }

    pub table_admits : KeepsApart (locks_of holders held) → IsLockTable pages holders (held ++ one ∷ []) (set seats q seat)
    table_admits apart = record {
      seated = seated_admits;
      covered = covered_admits;
      apart = apart_same (locks_of holders held) (locks_of holders (held ++ one ∷ [])) same_locks apart;
    }

-- no place is free
pub full : (held : List Admitted) (seats : List Seat) → AreSeated held seats → ((q : ℕ) → q < MOST_OPEN → transaction_at seats q ≢ None) → length held ≡ MOST_OPEN
full held seats s taken =
    let c = s.count in
    let none = none_free seats (λ q lt. taken q (omega (arith, lt, c))) in
    let f = s.free in
    omega (arith, none, f)

-- ---- one is released

module _ (pages : ℕ) (old new : List Holders) (held : List Admitted) (seats : List Seat) (gone q : ℕ) (t : Seat) (table : IsLockTable pages old held seats)
    (low : q < MOST_OPEN) (is : transaction_at seats q ≡ Some gone) (left : t.txn ≡ None) (none : (p : ℕ) → in_set t.pages p ≡ false) (as_wide : length t.pages ≡ length (seat_at seats q).pages)
    (as_long : length new ≡ length old)
    (vacated : (m : Mode) (page r : ℕ) → r < MOST_OPEN → is_held m new page r ≡ (is_held m old page r && not ((r == q) && may_hold seats q page))) where
  abbrev pub without : List Admitted
  without = filter (λ a. not (a.txn == gone)) held

  inside : q < length seats
  inside = let c = table.seated.count in omega (arith, c)

  nothing : transaction_at (set seats q t) q ≡ None
  nothing = number-set_same seats q t inside ∙ left

  elsewhere : (p n : ℕ) → transaction_at (set seats q t) p ≡ Some n → (p ≢ q) × (transaction_at seats p ≡ Some n)
  elsewhere p n e =
      let ne : p ≢ q = λ here. let z : None ≡ Some n = sym nothing ∙ (ap (transaction_at (set seats q t)) (sym here) ∙ e) in cc in
      (ne, sym (number-set_other seats q p t ne) ∙ e)

  -- another place has another number
  another : (p n : ℕ) → transaction_at seats p ≡ Some n → p ≢ q → n ≢ gone
  another p n e ne same = ne (table.seated.single p q n e (is ∙ ap Some (sym same)))

  still : (n : ℕ) → n ≢ gone → is_among (numbers_in without) n ≡ is_among (numbers_in held) n
  still n ne = ap (λ ns. is_among ns n) (numbers-filter gone held) ∙ others_among gone n (numbers_in held) ne

  kept_apart : All (λ (a : Admitted). a.txn ≢ gone) without
  kept_apart = λ i d l same.
      let z : true ≡ false = sym (filter_passes (λ (a : Admitted). not (a.txn == gone)) held i d l) ∙ ap not (eq-eqb (get_or without i d).txn gone same) in cc

  pub seated_releases : AreSeated without (set seats q t)
  seated_releases =
      let s = table.seated in
      let old_ones = All-filter (λ (a : Admitted). not (a.txn == gone)) (λ (a : Admitted). (a.place < MOST_OPEN) × (transaction_at seats a.place ≡ Some a.txn)) held s.seated in record {
        count = length-set seats q t ∙ s.count;
        seated = λ i d l.
            let e = old_ones i d l in
            let ne : (get_or without i d).place ≢ q = λ here.
            kept_apart i d l (some_same (get_or without i d).txn gone (sym e.1 ∙ (ap (transaction_at seats) here ∙ is))) in
            (e.0, number-set_other seats q (get_or without i d).place t ne ∙ e.1);
        admitted = λ p n e. let x = elsewhere p n e in still n (another p n x.1 x.0) ∙ s.admitted p n x.1;
        single = λ a b n e f. s.single a b n (elsewhere a n e).1 (elsewhere b n f).1;
        distinct = subst (IsDistinct nat_eq) (sym (numbers-filter gone held)) (distinct_filter (λ n. not (n == gone)) (numbers_in held) s.distinct);
        free =
            let c = count-set seats q t inside in
            let k = ap free_or_not is in
            let l = ap free_or_not left in
            let f = s.free in
            let o = one_less held gone s.distinct (s.admitted q gone is) in
            omega (arith, c, k, l, f, o);
      }

  pub covered_releases : AreCovered pages new (set seats q t)
  covered_releases = let c = table.covered in record {
    count = as_long ∙ c.count;
    covered = λ m page r l e.
        let both = and_parts (is_held m old page r) (not ((r == q) && may_hold seats q page)) (sym (vacated m page r l) ∙ e) in
        let held_before = c.covered m page r l both.0 in
        elim (cases_eq r q) [
          | inl here ↦
              let on : ((r == q) && may_hold seats q page) ≡ true =
              ap (λ b. b && may_hold seats q page) (eq-eqb r q here) ∙ (ap (λ k. may_hold seats k page) (sym here) ∙ held_before) in
              let z : true ≡ false = sym both.1 ∙ ap not on in absurd cc
          | inr ne ↦ ap (λ (x : Seat). in_set x.pages page) (seat-set_other seats q r t ne) ∙ held_before
        ];
    empty = λ r page free. elim (cases_eq r q) [
      | inl here ↦ ap (λ k. may_hold (set seats q t) k page) here ∙ (ap (λ (x : Seat). in_set x.pages page) (seat-set_same seats q t inside) ∙ none page)
      | inr ne ↦ ap (λ (x : Seat). in_set x.pages page) (seat-set_other seats q r t ne) ∙ c.empty r page (sym (number-set_other seats q r t ne) ∙ free)
    ];
    room = λ r l. elim (cases_eq r q) [
      | inl here ↦
          let o = c.room q low in
          subst (λ k. HasRoom pages (seat_at (set seats q t) k).pages) (sym here)
          (subst (λ (x : Seat). HasRoom pages x.pages) (sym (seat-set_same seats q t inside))
          (let e = o.enough in let f = o.few in record { enough = omega (arith, e, as_wide); few = omega (arith, f, as_wide) }))
      | inr ne ↦ subst (λ (x : Seat). HasRoom pages x.pages) (sym (seat-set_other seats q r t ne)) (c.room r l)
    ];
  }

  lock_less : (m : Mode) (n page : ℕ) → has_lock m (locks_of new without) n page ≡ (has_lock m (locks_of old held) n page && not (n == gone))
  lock_less m n page = elim (cases_eq n gone) [
    | inl same ↦
        no_lock without new m n page (ap (is_among (numbers_in without)) same ∙ (ap (λ ns. is_among ns gone) (numbers-filter gone held) ∙ gone_away gone (numbers_in held)))
        ∙ sym (ap (λ b. has_lock m (locks_of old held) n page && not b) (eq-eqb n gone same) ∙ and_false (has_lock m (locks_of old held) n page))
    | inr ne ↦
        kept ne
        ∙ sym (ap (λ b. has_lock m (locks_of old held) n page && not b) (ne_eqb n gone ne) ∙ and_true (has_lock m (locks_of old held) n page))
  ]
    where
      kept : n ≢ gone → has_lock m (locks_of new without) n page ≡ has_lock m (locks_of old held) n page
      kept ne = elim (seat_or_not held seats n table.seated) [
        | inl f ↦
            let off : f.0 ≢ q = λ here. ne (some_same n gone (sym f.2 ∙ (ap (transaction_at seats) here ∙ is))) in
            lock_at without (set seats q t) new m n page f.0 seated_releases (number-set_other seats q f.0 t off ∙ f.2)
            ∙ (vacated m page f.0 f.1
            ∙ (ap (λ b. is_held m old page f.0 && not (b && may_hold seats q page)) (ne_eqb f.0 q off)
            ∙ (and_true (is_held m old page f.0) ∙ sym (lock_at held seats old m n page f.0 table.seated f.2))))
        | inr away ↦ no_lock without new m n page (still n ne ∙ away) ∙ sym (no_lock held old m n page away)
      ]

  pub released : Releases (locks_of old held) (locks_of new without) gone
  released = record {
    admitted = numbers-locks_of new without ∙ (numbers-filter gone held ∙ ap (λ ns. filter (λ n. not (n == gone)) ns) (sym (numbers-locks_of old held)));
    shared = λ n page. lock_less Shared n page;
    exclusive = λ n page. lock_less Exclusive n page;
  }

  pub table_releases : IsLockTable pages new without (set seats q t)
  table_releases = record {
    seated = seated_releases;
    covered = covered_releases;
    apart = apart_released (locks_of old held) (locks_of new without) gone released table.apart;
  }

-- who isn't admitted has nothing to release
pub nothing_released : (holders : List Holders) (held : List Admitted) (gone : ℕ) → is_among (numbers_in held) gone ≡ false → Releases (locks_of holders held) (locks_of holders held) gone
nothing_released holders held gone none = record {
  admitted =
      let all = others_stay held gone none in
      numbers-locks_of holders held
      ∙ (ap numbers_in (sym all) ∙ (numbers-filter gone held ∙ ap (λ ns. filter (λ n. not (n == gone)) ns) (sym (numbers-locks_of holders held))));
  shared = λ n page. same Shared n page;
  exclusive = λ n page. same Exclusive n page;
}
  where
    same : (m : Mode) (n page : ℕ) → has_lock m (locks_of holders held) n page ≡ (has_lock m (locks_of holders held) n page && not (n == gone))
    same m n page = elim (cases_eq n gone) [
      | inl e ↦
          let no = no_lock held holders m n page (ap (is_among (numbers_in held)) e ∙ none) in
          no ∙ sym (ap (λ b. b && not (n == gone)) no)
      | inr ne ↦ sym (ap (λ b. has_lock m (locks_of holders held) n page && not b) (ne_eqb n gone ne) ∙ and_true (has_lock m (locks_of holders held) n page))
    ]
