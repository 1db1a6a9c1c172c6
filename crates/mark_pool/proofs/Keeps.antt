-- Each step keeps the rule of the words.
use Rattle.std.proofs.Common.{◌≡◌, ◌≢◌, ℕ, zero, suc, ◌+◌, ◌*◌, ◌^◌, ◌<◌, ◌≤◌, Some, List, [], ◌∷◌, ◌++◌, length, get_or, set, sym, refl, ap, ◌∙◌, subst, ⊎_elim, arith, bit_or, length-set}
use Rattle.std.proofs.lemmas.List.{set-get_or}
use Rattle.std.specs.Int.{bit_at}
use Rattle.std.proofs.lemmas.Nat.Bits.{bit_at-zero}
use Rattle.object_graph.specs.declared.limits.TheConstants.{MOST_SLOTS}
use mathlib.Core.Logic.{dite}
use mathlib.Core.Option.{none, some, some-injective, some-ne-none}
use native.Mathlib.Decide.{ℕ_discrete}
use lib.ListN.{get_elem?}
use Rattle.atomic_table.specs.Table.{State, Me, step, keeps, Allows, Splits, Joins, opening}
use Rattle.atomic_table.proofs.Lists.{at_set, set_else, set_again, at_snoc}
use Rattle.cut_builder.specs.CutParts.{ClosedParts}
use Rattle.mark_pool.specs.declared.place.Place.{Place}
use Rattle.mark_pool.specs.declared.view.View.{View}
use Rattle.mark_pool.specs.Edges.{place, IsMarkAt, IsEdge}
use Rattle.mark_pool.specs.Marks.{view, is_here, times, bit, parts_of, Fits, Ruled, opened, added, IsAt, claimed, took, scanned, saw, saw_scanned, counted_once, marked_of, halved, half, joined, empty_view}
use Rattle.object_graph.proofs.Totals.{total_set, total_snoc, total_one, total_two, total_only}
use Rattle.mark_pool.proofs.Times.{times-append}
use Rattle.mark_pool.proofs.Bits.{small, same_slot, elsewhere, ored, ors_here, ors_apart, ors_grow, ors_from, ors_count, same_or, times-marked_of}

module _ (cut : ClosedParts) where
  abbrev St : Type 0
  St = State (Unit {0}) View

  abbrev M : Type 0
  M = Me (Unit {0}) View

  abbrev Rule : St → Type 0
  Rule = Ruled cut

  seats_stay : (K : View → Type 0) (vs : List View) (me : ℕ) (w : View) → K w → ((j : ℕ) (d : View) → get_elem? vs j ≡ some d → K d) → (j : ℕ) (d : View) → get_elem? (set vs me w) j ≡ some d → K d
  seats_stay K vs me w mine others j d e = ⊎_elim (λ (t : (j ≡ me) × (w ≡ d)). subst K t.1 mine) (λ (t : (j ≢ me) × (get_elem? vs j ≡ some d)). others j d t.1) (at_set vs me j w d e)

  same_at : (slots kind page slot page' slot' : ℕ) → IsAt (step {S = Unit {0}} slots (3 * page + kind) (2 ^ slot) 0 none) kind page' slot' → place page slot ≡ place page' slot'
  same_at slots kind page slot page' slot' at = let p : page ≡ page' = (let z = at.0 in omega (arith, z)) in let q = same_slot slot slot' at.1 in λ i. place (p i) (q i)

  -- what is set in these words of this kind is set in those
  abbrev Grows : List ℕ → List ℕ → ℕ → Type 0
  Grows words words' kind = (page slot : ℕ) → bit words kind page slot ≡ 1 → bit words' kind page slot ≡ 1

  -- a set bit of the marks and of what is scanned stays set
  fits_on : (words words' : List ℕ) → Grows words words' 0 → Grows words words' 2 → (v : View) → Fits cut words v → Fits cut words' v
  fits_on words words' grow grow' v f = record { saw = λ page slot h. grow page slot (f.saw page slot h); scanned = λ page slot h. grow' page slot (f.scanned page slot h); known = f.known; bare = f.bare }

  -- a step that changes no word and no view
  unchanged : (s : St) (id i : ℕ) (v : View) → Rule s → get_elem? s.views id ≡ some v → Rule record { words = set s.words i (get_or s.words i 0); homes = s.homes; views = set s.views id v }
  unchanged s id i v r at =
      subst (λ (ws : List ℕ). Rule record { words = ws; homes = s.homes; views = set s.views id v }) (sym (set-get_or s.words i 0))
      (subst (λ (vs : List View). Rule record { words = s.words; homes = s.homes; views = vs }) (sym (set_again s.views id v at)) r)

  -- the seat with all parts has claimed just what is marked, and taken just what is taken
  all_claims : (s : St) (r : Rule s) (id : ℕ) (v : View) → get_elem? s.views id ≡ some v → v.parts ≡ 65536 → (page slot : ℕ) → (times page slot v.claims ≡ bit s.words 0 page slot) × (times page slot v.takes ≡ bit s.words 1 page slot)
  all_claims s r id v at all page slot = let whole = r.parts in
      let bare = (λ (j : ℕ) (w : View) (n : j ≢ id) (e : get_elem? s.views j ≡ some w). (r.each j w e).bare (let h = total_two parts_of s.views j id w v n e at in omega (arith, h, all, whole))) in (
        sym (total_only (λ (w : View). times page slot w.claims) s.views id v at (λ j w n e. ap (times page slot) (bare j w n e).0)) ∙ r.claimed page slot,
        sym (total_only (λ (w : View). times page slot w.takes) s.views id v at (λ j w n e. ap (times page slot) (bare j w n e).1)) ∙ r.taken page slot,
      )

  pub claims : (slots id page slot : ℕ) (me : M) → page < length cut.pages → 0 < me.0.parts → IsMarkAt cut page slot → slot < MOST_SLOTS
      → Allows Rule slots id me (3 * page + 0) (λ n. bit_or n (2 ^ slot)) (claimed (step slots (3 * page + 0) (2 ^ slot) 0 none) me)
  claims slots id page slot me inside some_part mark low s r _ at _ = let v : View = me.0 in let wide = r.wide in let within : 3 * page + 0 < length s.words = omega (arith, wide, inside) in
      let w : View = view (place page slot ∷ v.seen) (added (bit s.words 0 page slot) (place page slot) v.claims) v.takes v.scans v.parts v.cut in
      let apart = (λ (kind page' slot' : ℕ) (k : kind < 3) (n : kind ≢ 0). ors_apart s.words 0 page slot kind page' slot' (omega arith) k n) in
      let grow = (λ (page' slot' : ℕ). ors_grow s.words 0 page slot page' slot' within) in
      let scanned_stay : Grows s.words (ored s.words 0 page slot) 2 = λ page' slot' one. apart 2 page' slot' (omega arith) (λ e. omega (arith, e)) ∙ one in (
        w,
        keeps,
        tt,
        record {
          wide = length-set s.words (3 * page + 0) (bit_or (get_or s.words (3 * page + 0) 0) (2 ^ slot)) ∙ wide;
          parts = (let h = total_set parts_of s.views id v w at in let p = r.parts in omega (arith, h, p));
          claimed = λ page' slot'. (let h = total_set (λ (u : View). times page' slot' u.claims) s.views id v w at in let p = r.claimed page' slot' in let c = ors_count s.words 0 page slot v.claims page' slot' within in omega (arith, h, p, c));
          taken = λ page' slot'. (let h = total_set (λ (u : View). times page' slot' u.takes) s.views id v w at in let p = r.taken page' slot' in let c = apart 1 page' slot' (omega arith) (λ e. omega (arith, e)) in omega (arith, h, p, c));
          sound = λ page' slot' one. ⊎_elim (r.sound page' slot')
              (λ (e : (page' ≡ page) × (slot' ≡ slot)). subst (λ (z : ℕ × ℕ). IsMarkAt cut z.0 z.1 × (z.1 < MOST_SLOTS)) (λ i. (sym e.0 i, sym e.1 i)) (mark, low))
              (ors_from s.words 0 page slot page' slot' within one);
          done = λ page' slot' one. (let d = r.done page' slot' (sym (apart 2 page' slot' (omega arith) (λ e. omega (arith, e))) ∙ one) in (apart 1 page' slot' (omega arith) (λ e. omega (arith, e)) ∙ d.0, λ q l. grow q.page q.slot (d.1 q l)));
          each = seats_stay (Fits cut (ored s.words 0 page slot)) s.views id w
              record {
                saw = λ page' slot' h. dite (ℕ_discrete (is_here page' slot' (place page slot)) 0)
                    (λ z. grow page' slot' ((r.each id v at).saw page' slot' (omega (arith, h, z))))
                    (λ nz. dite (same_or page' page slot' slot) (λ e. ap (λ (z : ℕ × ℕ). bit (ored s.words 0 page slot) 0 z.0 z.1) (λ i. (e.0 i, e.1 i)) ∙ ors_here s.words 0 page slot within) (λ n. absurd (nz (elsewhere page' slot' (place page slot) (λ z. n (sym z.0, sym z.1))))));
                scanned = λ page' slot' h. scanned_stay page' slot' ((r.each id v at).scanned page' slot' h);
                known = (r.each id v at).known;
                bare = λ z. absurd (omega (arith, z, some_part));
              }
              (λ j d e. fits_on s.words (ored s.words 0 page slot) grow scanned_stay d (r.each j d e));
        },
        λ page' slot' is. (
          ap (λ (p : Place). view (p ∷ v.seen) (added (bit s.words 0 page slot) p v.claims) v.takes v.scans v.parts v.cut) (same_at slots 0 page slot page' slot' is)
              ∙ ap (λ (k : ℕ). view (place page' slot' ∷ v.seen) (added (bit_at (get_or s.words (3 * page + 0) 0) k) (place page' slot') v.claims) v.takes v.scans v.parts v.cut) (ap (λ (p : Place). p.slot) (same_at slots 0 page slot page' slot' is)),
          refl,
          λ all. (all_claims s r id v at all page' slot').0 ∙ sym (ap (λ (k : ℕ). bit_at (get_or s.words k 0) slot') is.0),
        ),
      )

  pub takes_one : (slots id page slot : ℕ) (me : M) → page < length cut.pages → 0 < me.0.parts
      → Allows Rule slots id me (3 * page + 1) (λ n. bit_or n (2 ^ slot)) (took (step slots (3 * page + 1) (2 ^ slot) 0 none) me)
  takes_one slots id page slot me inside some_part s r _ at _ = let v : View = me.0 in let wide = r.wide in let within : 3 * page + 1 < length s.words = omega (arith, wide, inside) in
      let w : View = view v.seen v.claims (added (bit s.words 1 page slot) (place page slot) v.takes) v.scans v.parts v.cut in
      let apart = (λ (kind page' slot' : ℕ) (k : kind < 3) (n : kind ≢ 1). ors_apart s.words 1 page slot kind page' slot' (omega arith) k n) in
      let same = (λ (page' slot' : ℕ). apart 0 page' slot' (omega arith) (λ e. omega (arith, e))) in
      let scanned_stay : Grows s.words (ored s.words 1 page slot) 2 = λ page' slot' one. apart 2 page' slot' (omega arith) (λ e. omega (arith, e)) ∙ one in (
        w,
        keeps,
        tt,
        record {
          wide = length-set s.words (3 * page + 1) (bit_or (get_or s.words (3 * page + 1) 0) (2 ^ slot)) ∙ wide;
          parts = (let h = total_set parts_of s.views id v w at in let p = r.parts in omega (arith, h, p));
          claimed = λ page' slot'. (let h = total_set (λ (u : View). times page' slot' u.claims) s.views id v w at in let p = r.claimed page' slot' in let c = same page' slot' in omega (arith, h, p, c));
          taken = λ page' slot'. (let h = total_set (λ (u : View). times page' slot' u.takes) s.views id v w at in let p = r.taken page' slot' in let c = ors_count s.words 1 page slot v.takes page' slot' within in omega (arith, h, p, c));
          sound = λ page' slot' one. r.sound page' slot' (sym (same page' slot') ∙ one);
          done = λ page' slot' one. (let d = r.done page' slot' (sym (apart 2 page' slot' (omega arith) (λ e. omega (arith, e))) ∙ one) in (ors_grow s.words 1 page slot page' slot' within d.0, λ q l. same q.page q.slot ∙ d.1 q l));
          each = seats_stay (Fits cut (ored s.words 1 page slot)) s.views id w
              record { saw = λ page' slot' h. same page' slot' ∙ (r.each id v at).saw page' slot' h; scanned = λ page' slot' h. scanned_stay page' slot' ((r.each id v at).scanned page' slot' h); known = (r.each id v at).known; bare = λ z. absurd (omega (arith, z, some_part)) }
              (λ j d e. fits_on s.words (ored s.words 1 page slot) (λ page' slot' one. same page' slot' ∙ one) scanned_stay d (r.each j d e));
        },
        λ page' slot' is. (
          ap (λ (p : Place). view v.seen v.claims (added (bit s.words 1 page slot) p v.takes) v.scans v.parts v.cut) (same_at slots 1 page slot page' slot' is)
              ∙ ap (λ (k : ℕ). view v.seen v.claims (added (bit_at (get_or s.words (3 * page + 1) 0) k) (place page' slot') v.takes) v.scans v.parts v.cut) (ap (λ (p : Place). p.slot) (same_at slots 1 page slot page' slot' is)),
          refl,
          λ all. (all_claims s r id v at all page' slot').1 ∙ sym (ap (λ (k : ℕ). bit_at (get_or s.words k 0) slot') is.0),
        ),
      )

  pub scans : (slots id page slot : ℕ) (me : M) → page < length cut.pages → 0 < times page slot me.0.takes → ((to : Place) → IsEdge cut page slot to → 0 < times to.page to.slot me.0.seen)
      → Allows Rule slots id me (3 * page + 2) (λ n. bit_or n (2 ^ slot)) (scanned (step slots (3 * page + 2) (2 ^ slot) 0 none) me)
  scans slots id page slot me inside took targets s r _ at _ = let v : View = me.0 in let wide = r.wide in let within : 3 * page + 2 < length s.words = omega (arith, wide, inside) in let f = r.each id v at in
      let w : View = view v.seen v.claims v.takes (place page slot ∷ v.scans) v.parts v.cut in
      let same = (λ (page' slot' : ℕ). ors_apart s.words 2 page slot 0 page' slot' (omega arith) (omega arith) (λ e. omega (arith, e))) in
      let same' = (λ (page' slot' : ℕ). ors_apart s.words 2 page slot 1 page' slot' (omega arith) (omega arith) (λ e. omega (arith, e))) in
      let marks_stay : Grows s.words (ored s.words 2 page slot) 0 = λ page' slot' one. same page' slot' ∙ one in
      let grow : Grows s.words (ored s.words 2 page slot) 2 = λ page' slot' one. ors_grow s.words 2 page slot page' slot' within one in
      let is_taken : bit s.words 1 page slot ≡ 1 = (let h = total_one (λ (u : View). times page slot u.takes) s.views id v at in let p = r.taken page slot in let m = small (get_or s.words (3 * page + 1) 0) slot in omega (arith, h, p, took, m)) in (
        w,
        keeps,
        tt,
        record {
          wide = length-set s.words (3 * page + 2) (bit_or (get_or s.words (3 * page + 2) 0) (2 ^ slot)) ∙ wide;
          parts = (let h = total_set parts_of s.views id v w at in let p = r.parts in omega (arith, h, p));
          claimed = λ page' slot'. (let h = total_set (λ (u : View). times page' slot' u.claims) s.views id v w at in let p = r.claimed page' slot' in let c = same page' slot' in omega (arith, h, p, c));
          taken = λ page' slot'. (let h = total_set (λ (u : View). times page' slot' u.takes) s.views id v w at in let p = r.taken page' slot' in let c = same' page' slot' in omega (arith, h, p, c));
          sound = λ page' slot' one. r.sound page' slot' (sym (same page' slot') ∙ one);
          done = λ page' slot' one. ⊎_elim (λ (b : bit s.words 2 page' slot' ≡ 1). let d = r.done page' slot' b in (same' page' slot' ∙ d.0, λ q l. same q.page q.slot ∙ d.1 q l))
              (λ (e : (page' ≡ page) × (slot' ≡ slot)). (same' page' slot' ∙ (ap (λ (z : ℕ × ℕ). bit s.words 1 z.0 z.1) (λ i. (e.0 i, e.1 i)) ∙ is_taken), λ q l. same q.page q.slot ∙ f.saw q.page q.slot (targets q (subst (λ (z : ℕ × ℕ). IsEdge cut z.0 z.1 q) (λ i. (e.0 i, e.1 i)) l))))
              (ors_from s.words 2 page slot page' slot' within one);
          each = seats_stay (Fits cut (ored s.words 2 page slot)) s.views id w
              record {
                saw = λ page' slot' h. marks_stay page' slot' (f.saw page' slot' h);
                scanned = λ page' slot' h. dite (ℕ_discrete (is_here page' slot' (place page slot)) 0)
                    (λ z. grow page' slot' (f.scanned page' slot' (omega (arith, h, z))))
                    (λ nz. dite (same_or page' page slot' slot) (λ e. ap (λ (z : ℕ × ℕ). bit (ored s.words 2 page slot) 2 z.0 z.1) (λ i. (e.0 i, e.1 i)) ∙ ors_here s.words 2 page slot within) (λ n. absurd (nz (elsewhere page' slot' (place page slot) (λ z. n (sym z.0, sym z.1))))));
                known = f.known;
                bare = f.bare;
              }
              (λ j d e. fits_on s.words (ored s.words 2 page slot) marks_stay grow d (r.each j d e));
        },
        λ page' slot' is. (ap (λ (p : Place). view v.seen v.claims v.takes (p ∷ v.scans) v.parts v.cut) (same_at slots 2 page slot page' slot' is), refl),
      )

  pub splits : (id : ℕ) (v : View) → 2 ≤ v.parts → Splits Rule id v (halved v) (half v)
  splits id v enough s r at = let f = r.each id v at in let a : View = halved v in let b : View = half v in let vs : List View = set s.views id a in record {
    wide = r.wide;
    parts = (let h = total_set parts_of s.views id v a at in let k = total_snoc parts_of vs b in let o = r.parts in omega (arith, h, k, o, enough));
    claimed = λ page slot. (let F : View → ℕ = λ (u : View). times page slot u.claims in let h = total_set F s.views id v a at in let k = total_snoc F vs b in let o = r.claimed page slot in omega (arith, h, k, o));
    taken = λ page slot. (let F : View → ℕ = λ (u : View). times page slot u.takes in let h = total_set F s.views id v a at in let k = total_snoc F vs b in let o = r.taken page slot in omega (arith, h, k, o));
    sound = r.sound;
    done = r.done;
    each = λ j d e. ⊎_elim (λ (q : get_elem? vs j ≡ some d). seats_stay (Fits cut s.words) s.views id a record { saw = f.saw; scanned = f.scanned; known = λ _. f.known (omega (arith, enough)); bare = λ z. absurd (omega (arith, z, enough)) } r.each j d q)
        (λ (q : b ≡ d). subst (Fits cut s.words) q record { saw = f.saw; scanned = f.scanned; known = λ _. f.known (omega (arith, enough)); bare = λ _. (refl, refl) }) (at_snoc vs b d j e);
  }

  pub joins : (id : ℕ) (v : View) (other : ℕ) (u : View) → 0 < v.parts → Joins Rule id v other u (joined v u) empty_view
  joins id v other u some_part s r at apart there = let b : View = joined v u in let vs : List View = set s.views id b in let z : View = empty_view in
      let at' : get_elem? s.views other ≡ some u = sym (set_else s.views id other b apart) ∙ there in let f = r.each id v at in let g = r.each other u at' in record {
        wide = r.wide;
        parts = (let h = total_set parts_of s.views id v b at in let k = total_set parts_of vs other u z there in let o = r.parts in omega (arith, h, k, o));
        claimed = λ page slot. (let F : View → ℕ = λ (w : View). times page slot w.claims in let h = total_set F s.views id v b at in let k = total_set F vs other u z there in let o = r.claimed page slot in let t = times-append page slot v.claims u.claims in omega (arith, h, k, o, t));
        taken = λ page slot. (let F : View → ℕ = λ (w : View). times page slot w.takes in let h = total_set F s.views id v b at in let k = total_set F vs other u z there in let o = r.taken page slot in let t = times-append page slot v.takes u.takes in omega (arith, h, k, o, t));
        sound = r.sound;
        done = r.done;
        each = seats_stay (Fits cut s.words) vs other z record { saw = λ page slot h. absurd (omega (arith, h)); scanned = λ page slot h. absurd (omega (arith, h)); known = λ z. absurd (omega (arith, z)); bare = λ _. (refl, refl) }
            (seats_stay (Fits cut s.words) s.views id b
            record {
              saw = λ page slot h. (let t = times-append page slot v.seen u.seen in dite (ℕ_discrete (times page slot v.seen) 0) (λ y. g.saw page slot (omega (arith, h, t, y))) (λ y. f.saw page slot (omega (arith, y))));
              scanned = λ page slot h. (let t = times-append page slot v.scans u.scans in dite (ℕ_discrete (times page slot v.scans) 0) (λ y. g.scanned page slot (omega (arith, h, t, y))) (λ y. f.scanned page slot (omega (arith, y))));
              known = λ _. f.known some_part;
              bare = λ y. absurd (omega (arith, y, some_part));
            }
            r.each);
      }

  pub opens : (words : List ℕ) → length words ≡ 3 * length cut.pages → ((i : ℕ) → get_or words i 0 ≡ 0) → Rule (opening words [] (opened cut))
  opens words wide blank = let none_set = (λ (kind page slot : ℕ). ap (λ (k : ℕ). bit_at k slot) (blank (3 * page + kind)) ∙ bit_at-zero slot) in record {
    wide = wide;
    parts = refl;
    claimed = λ page slot. sym (none_set 0 page slot);
    taken = λ page slot. sym (none_set 1 page slot);
    sound = λ page slot one. (let z = none_set 0 page slot in absurd (omega (arith, one, z)));
    done = λ page slot one. (let z = none_set 2 page slot in absurd (omega (arith, one, z)));
    each = λ j v e. alone j v e;
  }
    where
      alone : (j : ℕ) (v : View) → get_elem? (opened cut ∷ []) j ≡ some v → Fits cut words v
      alone zero v e = subst (Fits cut words) (some-injective (opened cut) v e) record { saw = λ page slot h. absurd (omega (arith, h)); scanned = λ page slot h. absurd (omega (arith, h)); known = λ _. refl; bare = λ z. absurd (omega (arith, z)) }
      alone (suc j) v e = absurd (some-ne-none v (sym e))

  -- a view knows this cut and no other
  same_cut : (v : View) (other : ClosedParts) → v.cut ≡ Some cut → v.cut ≡ Some other → cut ≡ other
  same_cut v other a b = cc

  pub looks : (slots id page : ℕ) (me : M) → 0 < me.0.parts → Allows Rule slots id me (3 * page + 0) (λ n. n) (saw (step slots (3 * page + 0) 0 0 none) me)
  looks slots id page me some_part s r _ at _ = let v : View = me.0 in let f = r.each id v at in let n : ℕ = get_or s.words (3 * page + 0) 0 in let known = f.known some_part in let w : View = view (marked_of page n 64 ++ v.seen) v.claims v.takes v.scans v.parts v.cut in
      let sees : (page' slot' : ℕ) → 0 < times page' slot' w.seen → bit s.words 0 page' slot' ≡ 1 = λ page' slot' h. (let t = times-append page' slot' (marked_of page n 64) v.seen in dite (ℕ_discrete (times page' slot' (marked_of page n 64)) 0) (λ z. f.saw page' slot' (omega (arith, h, t, z)))
      (λ z. let m = times-marked_of page n 64 page' slot' (omega (arith, z)) in ap (λ (k : ℕ). bit s.words 0 k slot') m.0 ∙ m.1)) in (
        w,
        keeps,
        tt,
        subst (λ (ws : List ℕ). Rule record { words = ws; homes = s.homes; views = set s.views id w }) (sym (set-get_or s.words (3 * page + 0) 0)) record {
          wide = r.wide;
          parts = (let h = total_set parts_of s.views id v w at in let p = r.parts in omega (arith, h, p));
          claimed = λ page' slot'. (let h = total_set (λ (u : View). times page' slot' u.claims) s.views id v w at in let p = r.claimed page' slot' in omega (arith, h, p));
          taken = λ page' slot'. (let h = total_set (λ (u : View). times page' slot' u.takes) s.views id v w at in let p = r.taken page' slot' in omega (arith, h, p));
          sound = r.sound;
          done = r.done;
          each = seats_stay (Fits cut s.words) s.views id w record { saw = sees; scanned = f.scanned; known = f.known; bare = λ z. absurd (omega (arith, z, some_part)) } r.each;
        },
        λ page' is. (let q : page ≡ page' = omega (arith, is) in (
          ap (λ (k : ℕ). view (marked_of k n 64 ++ v.seen) v.claims v.takes v.scans v.parts v.cut) q,
          refl,
          (λ other slot knows one. subst (λ (z : ClosedParts × ℕ). IsMarkAt z.0 z.1 slot × (slot < MOST_SLOTS)) (λ i. (same_cut v other known knows i, q i)) (r.sound page slot one)),
          λ all slot. ap (λ (k : ℕ). times k slot v.claims) (sym q) ∙ (all_claims s r id v at all page slot).0,
        )),
      )

  pub looks_scanned : (slots id page : ℕ) (me : M) → 0 < me.0.parts → Allows Rule slots id me (3 * page + 2) (λ n. n) (saw_scanned (step slots (3 * page + 2) 0 0 none) me)
  looks_scanned slots id page me some_part s r _ at _ = let v : View = me.0 in let f = r.each id v at in let known = f.known some_part in (
    v,
    keeps,
    tt,
    unchanged s id (3 * page + 2) v r at,
    λ page' is. (let q : page ≡ page' = omega (arith, is) in (
      refl,
      λ other slot to knows all one edge.
          let here : IsEdge cut page slot to = subst (λ (z : ClosedParts × ℕ). IsEdge z.0 z.1 slot to) (λ i. (sym (same_cut v other known knows) i, sym q i)) edge in
          let b = (r.done page slot one).1 to here in let c = (all_claims s r id v at all to.page to.slot).0 in omega (arith, b, c),
      λ slot known_scanned. f.scanned page slot (subst (λ (k : ℕ). 0 < times k slot v.scans) (sym q) known_scanned),
    )),
  )

  pub counts : (slots id : ℕ) (me : M) → Allows Rule slots id me 0 (λ n. n) (counted_once (step slots 0 0 0 none) me)
  counts slots id me s r _ at _ = let v : View = me.0 in
      let few : (page slot : ℕ) → (times page slot v.claims ≤ 1) × (times page slot v.takes ≤ 1) = λ page slot. (
        let a = total_one (λ (u : View). times page slot u.claims) s.views id v at in
            let p = r.claimed page slot in
            let m = small (get_or s.words (3 * page + 0) 0) slot in omega (arith, a, p, m),
        let b = total_one (λ (u : View). times page slot u.takes) s.views id v at in
            let q = r.taken page slot in
            let n = small (get_or s.words (3 * page + 1) 0) slot in omega (arith, b, q, n),
      ) in (v, keeps, tt, unchanged s id 0 v r at, (refl, few))
