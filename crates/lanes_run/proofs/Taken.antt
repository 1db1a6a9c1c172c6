-- A script of lanes that is read and judged in pieces.
use Rattle.std.proofs.Common.{◌≡◌, refl, sym, ap, ◌∙◌, subst, ℕ, ◌+◌, ◌*◌, ◌^◌, ◌≤◌, ◌<◌, List, [], ◌∷◌, ◌++◌, length, drop, Option, inl, inr, ⊎_elim, append_assoc, append-nil, arith, length-append}
use Rattle.std.specs.Prelude.{Result, Ok, Err}
use Rattle.std.proofs.Math.Seq.{drop-append_seam}
use Rattle.std.proofs.KnownBytes.{Consumes-nil, Consumes-trans}
use Rattle.std.specs.Io.KnownBytes.{Consumes, IsAtEnd}
use Rattle.script_lang.specs.declared.line.LaneLine.{LaneLine}
use Rattle.script_lang.specs.declared.line.TheConstants.{LINE_LIMIT}
use Rattle.script_lang.specs.Script.{lines_of}
use Rattle.script_lang.specs.Words.{Without}
use Rattle.store_lanes.specs.LaneScripts.{SayInLanes}
use Rattle.store_run.specs.Lines.{AreWholeLines}
use Rattle.store_run.specs.Pieces.{PieceRead, Reads, whole_lines}
use Rattle.store_run.specs.declared.pieces.TheConstants.{SCRIPT_LIMIT, PIECE_LIMIT}
use Rattle.store_run.specs.declared.pieces.Unread.{Unread}
use Rattle.store_run.specs.declared.status.Status.{Status}
use Rattle.store_run.specs.declared.status.Status.TheVariants.{BadLine, TooLong, ReadFault, Memory}
use Rattle.store_run.proofs.WholeLines.{none_whole, whole_join, lines_are, whole_are, little_left}
use Rattle.lanes_run.specs.Asked.{entries_asked}
use Rattle.lanes_run.specs.Judged.{AreGoodSoFar, AreWhole}
use Rattle.lanes_run.specs.Judging.{LanesFrontBad, LanesFrontStopped, PieceCounted, LastCounted, LastBad, EndJudged, ScriptRefused, BytesRead}
use Rattle.lanes_run.specs.declared.judging.Tally.{Tally}
use Rattle.lanes_run.proofs.Counted.{say_join, asked_join, lines_bound}

-- these bytes were read, whole lines that were counted and an unended one
pub record Reading (pages : ℕ) (left_before left : Option (List ℕ)) (bytes ahead : List ℕ) (taken : ℕ) (tally : Tally) : Type 0 where
  pub read : List ℕ
  pub lines : List (List ℕ)
  pub said : List LaneLine
  pub split : bytes ≡ read ++ ahead
  pub are : AreWholeLines read lines
  pub says : SayInLanes lines said
  pub lines_is : tally.lines ≡ length lines
  pub entries_is : tally.entries ≡ entries_asked pages said
  pub consumed : Consumes left_before left bytes
  pub len : length bytes ≡ taken
  pub within : taken ≤ SCRIPT_LIMIT
  pub unended : Without 10 ahead
  pub short : length ahead ≤ LINE_LIMIT

pub reading_start : (pages : ℕ) (left : Option (List ℕ)) (bytes ahead : List ℕ) (taken : ℕ) → bytes ≡ [] → ahead ≡ [] → taken ≡ 0
    → Reading pages left left bytes ahead taken (record { lines = 0; entries = 0 })
reading_start pages left bytes ahead taken b a t =
    subst (λ (xs : List ℕ). Reading pages left left xs ahead taken (record { lines = 0; entries = 0 })) (sym b)
    (subst (λ (xs : List ℕ). Reading pages left left [] xs taken (record { lines = 0; entries = 0 })) (sym a) (record {
      read = [];
      lines = [];
      said = [];
      split = refl;
      are = none_whole;
      says = refl;
      lines_is = refl;
      entries_is = refl;
      consumed = Consumes-nil left;
      len = sym t;
      within = omega (arith, t);
      unended = λ k disks lt. absurd (omega arith);
      short = omega arith;
    }))

-- few enough lines and entries to be counted
pub reading_few : (pages : ℕ) (a b : Option (List ℕ)) (bytes ahead : List ℕ) (taken : ℕ) (tally : Tally) → Reading pages a b bytes ahead taken tally → tally.lines + length ahead ≤ SCRIPT_LIMIT
reading_few pages a b bytes ahead taken tally x = omega (arith, x.lines_is, x.are.few, x.len, x.within, ap length x.split, length-append x.read ahead)

pub reading_bound : (pages : ℕ) (a b : Option (List ℕ)) (bytes ahead : List ℕ) (taken : ℕ) (tally : Tally) → pages < 2 ^ 32 → Reading pages a b bytes ahead taken tally
    → tally.entries ≤ tally.lines * 8589934594
reading_bound pages a b bytes ahead taken tally few x = let h = lines_bound pages x.lines x.said few x.says in omega (arith, h, x.lines_is, x.entries_is)

-- ---- a read that stops

good_so_far : (bytes read ahead : List ℕ) (lines : List (List ℕ)) (said : List LaneLine) → length bytes ≤ SCRIPT_LIMIT → bytes ≡ read ++ ahead → AreWholeLines read lines → SayInLanes lines said → Without 10 ahead
    → length ahead ≤ LINE_LIMIT → AreGoodSoFar bytes said
good_so_far bytes read ahead lines said few split are says unended short = record {
  within = few;
  front = read;
  rest = ahead;
  split = split;
  whole = whole_are read lines are ∙ sym (lines_are read lines are);
  unended = unended;
  short = short;
  says = subst (λ (l : List (List ℕ)). SayInLanes l said) (sym (lines_are read lines are)) says;
}

reading_good : (pages : ℕ) (a b : Option (List ℕ)) (bytes ahead : List ℕ) (taken : ℕ) (tally : Tally) (x : Reading pages a b bytes ahead taken tally) → AreGoodSoFar bytes x.said
reading_good pages a b bytes ahead taken tally x = good_so_far bytes x.read ahead x.lines x.said (omega (arith, x.len, x.within)) x.split x.are x.says x.unended x.short

pub no_memory : (pages : ℕ) (a b : Option (List ℕ)) (bytes ahead : List ℕ) (taken : ℕ) (tally : Tally) → Reading pages a b bytes ahead taken tally → ScriptRefused Memory pages a b
no_memory pages a b bytes ahead taken tally x = record { taken = bytes; consumed = x.consumed; said = x.said; refused = reading_good pages a b bytes ahead taken tally x }

pub read_stops : (pages : ℕ) (a b c : Option (List ℕ)) (bytes : List ℕ) (old new : Unread) (tally : Tally) (status : Status) → Reading pages a b bytes old.ahead.items old.taken tally
    → Reads b c old new (Err status) → ScriptRefused status pages a c
read_stops pages a b c bytes old new tally ReadFault x r = record {
  taken = bytes;
  consumed = subst (λ (l : List ℕ). Consumes a c l) (append-nil bytes) (Consumes-trans a b c bytes [] x.consumed r.0);
  said = x.said;
  refused = reading_good pages a b bytes old.ahead.items old.taken tally x;
}
read_stops pages a b c bytes old new tally TooLong x r = record {
  taken = bytes ++ r.0.byte ∷ [];
  consumed = Consumes-trans a b c bytes (r.0.byte ∷ []) x.consumed r.0.consumed;
  said = x.said;
  refused = inl (record { bytes = bytes; byte = r.0.byte; split = refl; full = x.len ∙ r.0.all_taken; good = reading_good pages a b bytes old.ahead.items old.taken tally x });
}
read_stops pages a b c bytes old new tally _ x r = absurd r

-- ---- a piece

-- what stands behind the first of some bytes
pub more_behind : (n : ℕ) (old more all behind : List ℕ) → all ≡ old ++ more → n ≡ length old → behind ≡ drop n all → behind ≡ more
more_behind n old more all behind joins len is = is ∙ (ap (λ k. drop k all) len ∙ (ap (λ l. drop (length old) l) joins ∙ drop-append_seam old more))

-- what was read is whole lines that were counted, and the piece behind an unended one
pub record Fed (pages : ℕ) (left_before left : Option (List ℕ)) (bytes ahead : List ℕ) (taken : ℕ) (tally : Tally) : Type 0 where
  pub read : List ℕ
  pub lines : List (List ℕ)
  pub said : List LaneLine
  pub split : bytes ≡ read ++ ahead
  pub are : AreWholeLines read lines
  pub says : SayInLanes lines said
  pub lines_is : tally.lines ≡ length lines
  pub entries_is : tally.entries ≡ entries_asked pages said
  pub consumed : Consumes left_before left bytes
  pub len : length bytes ≡ taken
  pub within : taken ≤ SCRIPT_LIMIT
  pub old : List ℕ
  pub more : List ℕ
  pub joins : ahead ≡ old ++ more
  pub unended : Without 10 old
  pub short : length old ≤ LINE_LIMIT
  pub few : length more ≤ PIECE_LIMIT

pub fed : (pages : ℕ) (a b c : Option (List ℕ)) (bytes more : List ℕ) (old new : Unread) (tally : Tally) (n : ℕ) → Reading pages a b bytes old.ahead.items old.taken tally → (p : PieceRead b c old new n)
    → more ≡ p.more → Fed pages a c (bytes ++ more) new.ahead.items new.taken tally
fed pages a b c bytes more old new tally n x p is =
    let whole : bytes ++ more ≡ x.read ++ new.ahead.items =
    ap (λ l. l ++ more) x.split ∙ (append_assoc x.read old.ahead.items more ∙ ap (λ l. x.read ++ l) (ap (λ l. old.ahead.items ++ l) is ∙ sym p.ahead)) in
    record {
      read = x.read;
      lines = x.lines;
      said = x.said;
      split = whole;
      are = x.are;
      says = x.says;
      lines_is = x.lines_is;
      entries_is = x.entries_is;
      consumed = Consumes-trans a b c bytes more x.consumed (subst (λ (l : List ℕ). Consumes b c l) (sym is) p.consumed);
      len = length-append bytes more ∙ omega (arith, x.len, ap length is, p.len, p.taken);
      within = p.within;
      old = old.ahead.items;
      more = p.more;
      joins = p.ahead;
      unended = x.unended;
      short = x.short;
      few = omega (arith, p.len, p.few);
    }

pub fed_few : (pages : ℕ) (a b : Option (List ℕ)) (bytes ahead : List ℕ) (taken : ℕ) (tally : Tally) → Fed pages a b bytes ahead taken tally → tally.lines + length ahead ≤ SCRIPT_LIMIT
fed_few pages a b bytes ahead taken tally x = omega (arith, x.lines_is, x.are.few, x.len, x.within, ap length x.split, length-append x.read ahead)

joined : (bytes read ahead front rest : List ℕ) → bytes ≡ read ++ ahead → ahead ≡ front ++ rest → bytes ≡ (read ++ front) ++ rest
joined bytes read ahead front rest s e = s ∙ (ap (λ l. read ++ l) e ∙ sym (append_assoc read front rest))

pub reading_more : (pages : ℕ) (a b : Option (List ℕ)) (bytes ahead rest : List ℕ) (taken : ℕ) (tally now : Tally) → Fed pages a b bytes ahead taken tally → PieceCounted pages ahead tally now rest
    → Reading pages a b bytes rest taken now
reading_more pages a b bytes ahead rest taken tally now x p = record {
  read = x.read ++ p.front.front;
  lines = x.lines ++ p.front.lines;
  said = x.said ++ p.front.said;
  split = joined bytes x.read ahead p.front.front rest x.split p.front.whole;
  are = whole_join x.read p.front.front x.lines p.front.lines x.are p.front.are;
  says = say_join x.lines p.front.lines x.said p.front.said x.says p.front.says;
  lines_is = omega (arith, x.lines_is, p.front.lines_is, length-append x.lines p.front.lines);
  entries_is = omega (arith, x.entries_is, p.front.entries_is, asked_join pages x.said p.front.said);
  consumed = x.consumed;
  len = x.len;
  within = x.within;
  unended = p.unended;
  short = p.short;
}

-- ---- a piece that stops

not_none : (good : List (List ℕ)) (bad : List ℕ) → ◌≡◌ {A = List (List ℕ)} (good ++ bad ∷ []) [] → ⊥
not_none [] bad e = absurd cc
not_none (line ∷ good) bad e = absurd cc

piece_bad : (pages : ℕ) (a b : Option (List ℕ)) (bytes ahead : List ℕ) (taken : ℕ) (tally : Tally) (line column : ℕ) → Fed pages a b bytes ahead taken tally → LanesFrontBad ahead tally line column
    → ScriptRefused (BadLine line column) pages a b
piece_bad pages a b bytes ahead taken tally line column x p =
    let soon : (whole_lines p.front ≡ [] → ⊥) → length p.rest < PIECE_LIMIT =
    λ some. let lt = little_left x.old x.more p.front p.rest x.unended (sym x.joins ∙ p.whole) some in omega (arith, lt, x.few) in
    record {
      taken = bytes;
      consumed = x.consumed;
      said = x.said ++ p.said;
      refused = record {
        within = omega (arith, x.len, x.within);
        good = x.lines ++ p.good;
        bad = p.bad;
        stops = record {
          front = x.read ++ p.front;
          rest = p.rest;
          split = joined bytes x.read ahead p.front p.rest x.split p.whole;
          lines = x.are.lines_then p.front ∙ (ap (λ l. x.lines ++ l) p.lines ∙ sym (append_assoc x.lines p.good (p.bad ∷ [])));
          soon = ⊎_elim (λ w. soon (λ none. not_none p.good p.bad (sym w ∙ none))) (λ l. subst (λ (r : List ℕ). length r < PIECE_LIMIT) (sym l.0) (omega arith)) p.judged;
          early = omega (arith, p.within, ap length x.joins, length-append x.old x.more, x.short, x.few);
          judged = ⊎_elim (λ w. inl (inl (x.are.whole_then p.front ∙ (ap (λ l. x.lines ++ l) (w ∙ sym p.lines) ∙ sym (x.are.lines_then p.front))))) (λ l. inr l) p.judged;
          line_is = omega (arith, p.line_is, x.lines_is, length-append x.lines p.good);
        };
        says = say_join x.lines p.good x.said p.said x.says p.says;
        is_bad = p.is_bad;
      };
    }

pub piece_stops : (pages : ℕ) (a b : Option (List ℕ)) (bytes ahead : List ℕ) (taken : ℕ) (tally : Tally) (status : Status) → Fed pages a b bytes ahead taken tally → LanesFrontStopped ahead tally status
    → ScriptRefused status pages a b
piece_stops pages a b bytes ahead taken tally (BadLine line column) x p = piece_bad pages a b bytes ahead taken tally line column x p
piece_stops pages a b bytes ahead taken tally _ x p = absurd p

-- ---- the end of input

no_length : (xs : List ℕ) → length xs ≡ 0 → xs ≡ []
no_length [] e = refl
no_length (x ∷ xs) e = absurd (omega arith)

pub at_end : (pages : ℕ) (a b c : Option (List ℕ)) (bytes : List ℕ) (old new : Unread) (tally : Tally) (n : ℕ) → Reading pages a b bytes old.ahead.items old.taken tally → PieceRead b c old new n → n ≡ 0
    → Reading pages a c bytes new.ahead.items old.taken tally × IsAtEnd c
at_end pages a b c bytes old new tally n x p zero =
    let none : p.more ≡ [] = no_length p.more (p.len ∙ zero) in
    let same : new.ahead.items ≡ old.ahead.items = p.ahead ∙ (ap (λ l. old.ahead.items ++ l) none ∙ append-nil old.ahead.items) in (
      subst (λ (l : List ℕ). Reading pages a c bytes l old.taken tally) (sym same) (record {
        read = x.read;
        lines = x.lines;
        said = x.said;
        split = x.split;
        are = x.are;
        says = x.says;
        lines_is = x.lines_is;
        entries_is = x.entries_is;
        consumed = subst (λ (l : List ℕ). Consumes a c l) (append-nil bytes) (Consumes-trans a b c bytes [] x.consumed (subst (λ (l : List ℕ). Consumes b c l) none p.consumed));
        len = x.len;
        within = x.within;
        unended = x.unended;
        short = x.short;
      }),
      p.at_end zero,
    )

-- all lines, with the last one
all_said : (pages : ℕ) (a b : Option (List ℕ)) (bytes ahead : List ℕ) (taken : ℕ) (tally now : Tally) → (x : Reading pages a b bytes ahead taken tally) → IsAtEnd b → (y : LastCounted pages ahead tally now)
    → AreWhole bytes b (x.said ++ y.said)
all_said pages a b bytes ahead taken tally now x end y = record {
  at_end = end;
  within = omega (arith, x.len, x.within);
  says = subst (λ (l : List (List ℕ)). SayInLanes l (x.said ++ y.said)) (sym (ap lines_of x.split ∙ x.are.lines_then ahead)) (say_join x.lines (lines_of ahead) x.said y.said x.says y.says);
}

all_asked : (pages : ℕ) (a b : Option (List ℕ)) (bytes ahead : List ℕ) (taken : ℕ) (tally now : Tally) → (x : Reading pages a b bytes ahead taken tally) → (y : LastCounted pages ahead tally now)
    → now.entries ≡ entries_asked pages (x.said ++ y.said)
all_asked pages a b bytes ahead taken tally now x y = omega (arith, x.entries_is, y.entries_is, asked_join pages x.said y.said)

end_bad : (pages : ℕ) (a b : Option (List ℕ)) (bytes ahead : List ℕ) (taken : ℕ) (tally : Tally) (line column : ℕ) → Reading pages a b bytes ahead taken tally → IsAtEnd b → LastBad ahead tally line column
    → ScriptRefused (BadLine line column) pages a b
end_bad pages a b bytes ahead taken tally line column x end p = record {
  taken = bytes;
  consumed = x.consumed;
  said = x.said;
  refused = record {
    within = omega (arith, x.len, x.within);
    good = x.lines;
    bad = ahead;
    stops = record {
      front = bytes;
      rest = [];
      split = sym (append-nil bytes);
      lines = ap lines_of x.split ∙ (x.are.lines_then ahead ∙ ap (λ l. x.lines ++ l) p.one);
      soon = omega arith;
      early = omega (arith, x.short);
      judged = inl (inr (refl, end));
      line_is = omega (arith, p.line_is, x.lines_is);
    };
    says = x.says;
    is_bad = p.is_bad;
  };
}

pub end_stops : (pages : ℕ) (a b : Option (List ℕ)) (bytes ahead : List ℕ) (taken : ℕ) (tally : Tally) (result : Result ℕ Status) → Reading pages a b bytes ahead taken tally → IsAtEnd b
    → EndJudged pages ahead tally result → BytesRead pages a b bytes result
end_stops pages a b bytes ahead taken tally (Ok entries) x end p =
    let asked = all_asked pages a b bytes ahead taken tally p.0 x p.1 in
    record {
      consumed = x.consumed;
      said = x.said ++ p.1.said;
      right = record { all = all_said pages a b bytes ahead taken tally p.0 x end p.1; few = omega (arith, asked, p.3) };
      entries_is = p.2 ∙ asked;
    }
end_stops pages a b bytes ahead taken tally (Err TooLong) x end p =
    let asked = all_asked pages a b bytes ahead taken tally p.0 x p.1 in
    record {
      taken = bytes;
      consumed = x.consumed;
      said = x.said ++ p.1.said;
      refused = inr (record { all = all_said pages a b bytes ahead taken tally p.0 x end p.1; many = omega (arith, asked, p.2) });
    }
end_stops pages a b bytes ahead taken tally (Err (BadLine line column)) x end p = end_bad pages a b bytes ahead taken tally line column x end p
end_stops pages a b bytes ahead taken tally (Err _) x end p = absurd p
