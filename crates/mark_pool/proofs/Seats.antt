-- What a seat keeps over several calls.
use Rattle.std.proofs.Common.{◌≡◌, List, refl, sym, ap, subst, ◌∙◌, arith}
use mathlib.Core.Logic.{dite}
use native.Mathlib.Decide.{ℕ_discrete}
use Rattle.mark_pool.specs.Marks.{times}
use Rattle.mark_pool.specs.Seats.{Made, Known, IsSeatOf, with_seen, joined_seats}
use Rattle.mark_pool.specs.Jobs.{HasSame, HasMore}
use Rattle.mark_pool.specs.declared.place.Place.{Place}
use Rattle.mark_pool.specs.Walks.{IsTidy, IsWholeSeat, MarksMore, Works, Looks}
use Rattle.mark_pool.proofs.Times.{times-append}

pub more_same : (s : Known) → MarksMore s s
more_same s = record { table = refl; cut = refl; takes = refl; scans = refl; parts = refl; claims = λ page slot h. h; seen = λ page slot h. h }

pub more_then : (a b d : Known) → MarksMore a b → MarksMore b d → MarksMore a d
more_then a b d f g = record {
  table = g.table ∙ f.table;
  cut = g.cut ∙ f.cut;
  takes = g.takes ∙ f.takes;
  scans = g.scans ∙ f.scans;
  parts = g.parts ∙ f.parts;
  claims = λ page slot h. g.claims page slot (f.claims page slot h);
  seen = λ page slot h. g.seen page slot (f.seen page slot h);
}

pub seen_more : (s after : Known) (places : List Place) → after ≡ with_seen s places → MarksMore s after
seen_more s after places is = subst (MarksMore s) (sym is) (record {
  table = refl;
  cut = refl;
  takes = refl;
  scans = refl;
  parts = refl;
  claims = λ page slot h. h;
  seen = λ page slot h. let t = times-append page slot places s.seen in omega (arith, t, h);
})

pub own_more : (t : Made) (a b : Known) → IsSeatOf t a → MarksMore a b → IsSeatOf t b
own_more t a b own f = (f.table ∙ own.0, f.cut ∙ own.1)

pub works_same : (s : Known) → Works s s
works_same s = record { table = refl; cut = refl; parts = refl; claims = λ page slot h. h; scans = λ page slot h. h; tidy = λ h. h }

pub works_then : (a b d : Known) → Works a b → Works b d → Works a d
works_then a b d f g = record {
  table = g.table ∙ f.table;
  cut = g.cut ∙ f.cut;
  parts = g.parts ∙ f.parts;
  claims = λ page slot h. g.claims page slot (f.claims page slot h);
  scans = λ page slot h. g.scans page slot (f.scans page slot h);
  tidy = λ h. g.tidy (f.tidy h);
}

pub own_works : (t : Made) (a b : Known) → IsSeatOf t a → Works a b → IsSeatOf t b
own_works t a b own f = (f.table ∙ own.0, f.cut ∙ own.1)

pub looks_same : (s : Known) → Looks s s
looks_same s = record { table = refl; cut = refl; claims = refl; takes = refl; scans = refl; parts = refl }

pub looks_then : (a b d : Known) → Looks a b → Looks b d → Looks a d
looks_then a b d f g = record { table = g.table ∙ f.table; cut = g.cut ∙ f.cut; claims = g.claims ∙ f.claims; takes = g.takes ∙ f.takes; scans = g.scans ∙ f.scans; parts = g.parts ∙ f.parts }

pub own_looks : (t : Made) (a b : Known) → IsSeatOf t a → Looks a b → IsSeatOf t b
own_looks t a b own f = (f.table ∙ own.0, f.cut ∙ own.1)

pub has_then : (a b d : Known) → HasMore a b → HasMore b d → HasMore a d
has_then a b d f g = record {
  claims = λ page slot h. g.claims page slot (f.claims page slot h);
  scans = λ page slot h. g.scans page slot (f.scans page slot h);
  tidy = λ h. g.tidy (f.tidy h);
}

-- a seat that took in another one, which scanned what it took
pub joined_has : (s other after : Known) → after ≡ joined_seats s other → IsTidy other → HasMore s after
joined_has s other after is tidy = subst (HasMore s) (sym is) (record {
  claims = λ page slot h. let t = times-append page slot s.claims other.claims in omega (arith, t, h);
  scans = λ page slot h. let t = times-append page slot s.scans other.scans in omega (arith, t, h);
  tidy = λ mine page slot h.
      let t = times-append page slot s.takes other.takes in
      let n = times-append page slot s.scans other.scans in
      dite (ℕ_discrete (times page slot s.takes) 0)
      (λ z. let k = tidy page slot (omega (arith, t, h, z)) in omega (arith, n, k))
      (λ z. let k = mine page slot (omega (arith, z)) in omega (arith, n, k));
})

pub has_same : (a b : Known) → HasSame a b → HasMore a b
has_same a b f = record {
  claims = λ page slot h. let e = ap (times page slot) f.claims in omega (arith, e, h);
  scans = λ page slot h. let e = ap (times page slot) f.scans in omega (arith, e, h);
  tidy = λ t page slot h. let e = ap (times page slot) f.takes in let d = ap (times page slot) f.scans in let k = t page slot (omega (arith, e, h)) in omega (arith, d, k);
}

pub works_has : (a b : Known) → Works a b → HasMore a b
works_has a b f = record { claims = f.claims; scans = f.scans; tidy = f.tidy }

pub looks_has : (a b : Known) → Looks a b → HasMore a b
looks_has a b f = has_same a b (record { claims = f.claims; takes = f.takes; scans = f.scans })

-- the whole seat stays the whole seat
pub whole_looks : (t : Made) (a b : Known) → IsWholeSeat t a → Looks a b → IsWholeSeat t b
whole_looks t a b w f = record {
  own = own_looks t a b w.own f;
  parts = f.parts ∙ w.parts;
  rooted = λ h. (looks_has a b f).claims 0 0 (w.rooted h);
  tidy = (looks_has a b f).tidy w.tidy;
}

pub whole_works : (t : Made) (a b : Known) → IsWholeSeat t a → Works a b → IsWholeSeat t b
whole_works t a b w f = record {
  own = own_works t a b w.own f;
  parts = f.parts ∙ w.parts;
  rooted = λ h. f.claims 0 0 (w.rooted h);
  tidy = f.tidy w.tidy;
}
