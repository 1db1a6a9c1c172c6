-- A script on its way.
use Rattle.std.proofs.Common.{◌≡◌, refl, sym, ap, ◌∙◌, subst, ℕ, ◌+◌, ◌≤◌, ◌<◌, List, [], ◌∷◌, ◌++◌, length, take, Option, inl, inr, ⊎_elim, append_assoc, append-nil, arith, length-append}
use Rattle.std.specs.Prelude.{Err}
use Rattle.std.proofs.lemmas.List.{take_at}
use Rattle.std.proofs.KnownBytes.{Consumes-nil, Consumes-trans}
use Rattle.std.specs.Io.KnownBytes.{Consumes, IsAtEnd}
use Rattle.disk_trait.specs.declared.disk.Disk.{Ghosts as DiskOf}
use Rattle.script_lang.specs.declared.line.TheConstants.{LINE_LIMIT}
use Rattle.script_lang.specs.Script.{lines_of}
use Rattle.script_lang.specs.Words.{Without}
use Rattle.store_model.specs.Worlds.{Event}
use Rattle.cut_core.specs.Seen.{Seen}
use Rattle.store_machine.specs.Acts.{Acts}
use Rattle.store_run.specs.Following.{FollowsLines}
use Rattle.store_run.specs.Lines.{AreWholeLines, LinesDone, FrontBad, FrontBegun, FrontStopped, PieceDone, EndRan, ScriptRan}
use Rattle.store_run.specs.Pieces.{PieceRead, Reads, whole_lines}
use Rattle.store_run.specs.declared.pieces.TheConstants.{SCRIPT_LIMIT, PIECE_LIMIT}
use Rattle.store_run.specs.Ran.{EndsLine, FollowsWhole}
use Rattle.store_run.specs.declared.pieces.Unread.{Unread}
use Rattle.store_run.specs.declared.status.Status.{Status}
use Rattle.store_run.specs.declared.status.Status.TheVariants.{Done, BadLine, TooLong, ReadFault, WriteFault, DiskFault}
use Rattle.store_run.proofs.Doing.{nothing_done, done_join, done_then_begun, done_then_nothing}
use Rattle.store_run.proofs.WholeLines.{none_whole, whole_join, lines_are, whole_are, little_left}

-- bytes over the limit of a script
take_limit : (n b : ℕ) (bytes : List ℕ) → length bytes ≡ n → take n (bytes ++ b ∷ []) ≡ bytes
take_limit n b bytes len = take_at bytes (b ∷ []) n len

one_over : (n b : ℕ) (bytes : List ℕ) → length bytes ≡ n → length (bytes ++ b ∷ []) ≡ n + 1
one_over n b bytes len = omega (arith, length-append bytes (b ∷ []), len)

not_none : (good : List (List ℕ)) (bad : List ℕ) → ◌≡◌ {A = List (List ℕ)} (good ++ bad ∷ []) [] → ⊥
not_none [] bad e = absurd cc
not_none (line ∷ good) bad e = absurd cc

some_not_none : (lines : List (List ℕ)) → 0 < length lines → lines ≡ [] → ⊥
some_not_none [] some e = absurd (omega arith)
some_not_none (line ∷ lines) some e = absurd cc

no_length : (xs : List ℕ) → length xs ≡ 0 → xs ≡ []
no_length [] e = refl
no_length (x ∷ xs) e = absurd (omega arith)

module _ {D : Type 0} (disks : DiskOf D) where
  -- some lines were run, and these bytes of a further one were read
  pub record Going (start core : Seen D) (left_before left held_before held : Option (List ℕ)) (ahead : List ℕ) (taken number : ℕ) : Type 0 where
    pub read : List ℕ
    pub lines : List (List ℕ)
    pub are : AreWholeLines read lines
    pub consumed : Consumes left_before left (read ++ ahead)
    pub len : length (read ++ ahead) ≡ taken
    pub within : taken ≤ SCRIPT_LIMIT
    pub number_is : number ≡ length lines
    pub done : LinesDone disks start lines core held_before held
    pub unended : Without 10 ahead
    pub short : length ahead ≤ LINE_LIMIT

  pub going_start : (s : Seen D) (left held : Option (List ℕ)) (ahead : List ℕ) → ahead ≡ [] → Acts disks s s [] → Going s s left left held held ahead 0 0
  going_start s left held ahead none acts =
      subst (λ (bytes : List ℕ). Going s s left left held held bytes 0 0) (sym none) (record {
        read = [];
        lines = [];
        are = none_whole;
        consumed = Consumes-nil left;
        len = refl;
        within = omega arith;
        number_is = refl;
        done = nothing_done disks s held acts;
        unended = λ k disks lt. absurd (omega arith);
        short = omega arith;
      })

  -- ---- a read that stops

  whole_of : (start : Seen D) (bytes read ahead : List ℕ) (lines : List (List ℕ)) (history : List Event) → bytes ≡ read ++ ahead → AreWholeLines read lines → Without 10 ahead → length ahead ≤ LINE_LIMIT
      → FollowsLines start.world.pages lines history → FollowsWhole start.world.pages bytes history
  whole_of start bytes read ahead lines history split are unended short follows = record {
    front = read;
    rest = ahead;
    split = split;
    whole = whole_are read lines are ∙ sym (lines_are read lines are);
    unended = unended;
    short = short;
    follows = subst (λ (l : List (List ℕ)). FollowsLines start.world.pages l history) (sym (lines_are read lines are)) follows;
  }

  read_fault : (start core : Seen D) (a b c h i : Option (List ℕ)) (ahead : List ℕ) (taken number : ℕ) → Going start core a b h i ahead taken number → Consumes b c []
      → ScriptRan disks ReadFault start core a c h i
  read_fault start core a b c h i ahead taken number x nothing = record {
    taken = x.read ++ ahead;
    history = x.done.history;
    acts = x.done.acts;
    consumed = subst (λ (l : List ℕ). Consumes a c l) (append-nil (x.read ++ ahead)) (Consumes-trans a b c (x.read ++ ahead) [] x.consumed nothing);
    reads = omega (arith, x.len, x.within);
    follows = whole_of start (x.read ++ ahead) x.read ahead x.lines x.done.history refl x.are x.unended x.short x.done.follows;
    written = x.done.written;
    ends = tt;
  }

  too_long : (start core : Seen D) (a b c h i : Option (List ℕ)) (ahead : List ℕ) (taken number byte : ℕ) → Going start core a b h i ahead taken number → taken ≡ SCRIPT_LIMIT → Consumes b c (byte ∷ [])
      → ScriptRan disks TooLong start core a c h i
  too_long start core a b c h i ahead taken number byte x all one =
      let len : length (x.read ++ ahead) ≡ SCRIPT_LIMIT = x.len ∙ all in
      record {
        taken = (x.read ++ ahead) ++ byte ∷ [];
        history = x.done.history;
        acts = x.done.acts;
        consumed = Consumes-trans a b c (x.read ++ ahead) (byte ∷ []) x.consumed one;
        reads = one_over SCRIPT_LIMIT byte (x.read ++ ahead) len;
        follows = whole_of start (take SCRIPT_LIMIT ((x.read ++ ahead) ++ byte ∷ [])) x.read ahead x.lines x.done.history (take_limit SCRIPT_LIMIT byte (x.read ++ ahead) len) x.are x.unended x.short
            x.done.follows;
        written = x.done.written;
        ends = tt;
      }

  pub read_stops : (start core : Seen D) (a b c h i : Option (List ℕ)) (old new : Unread) (number : ℕ) (status : Status) → Going start core a b h i old.ahead.items old.taken number
      → Reads b c old new (Err status) → ScriptRan disks status start core a c h i
  read_stops start core a b c h i old new number ReadFault x r = read_fault start core a b c h i old.ahead.items old.taken number x r.0
  read_stops start core a b c h i old new number TooLong x r = too_long start core a b c h i old.ahead.items old.taken number r.0.byte x r.0.all_taken r.0.consumed
  read_stops start core a b c h i old new number _ x r = absurd r

  -- ---- a piece

  -- what was read is whole lines, and the piece behind an unended one
  pub record Fed (start core : Seen D) (left_before left held_before held : Option (List ℕ)) (bytes : List ℕ) (taken number : ℕ) : Type 0 where
    pub read : List ℕ
    pub lines : List (List ℕ)
    pub are : AreWholeLines read lines
    pub consumed : Consumes left_before left (read ++ bytes)
    pub len : length (read ++ bytes) ≡ taken
    pub within : taken ≤ SCRIPT_LIMIT
    pub number_is : number ≡ length lines
    pub done : LinesDone disks start lines core held_before held
    pub ahead : List ℕ
    pub more : List ℕ
    pub split : bytes ≡ ahead ++ more
    pub unended : Without 10 ahead
    pub short : length ahead ≤ LINE_LIMIT
    pub few : length more ≤ PIECE_LIMIT

  pub fed : (start core : Seen D) (a b c h i : Option (List ℕ)) (old new : Unread) (number n : ℕ) → Going start core a b h i old.ahead.items old.taken number → PieceRead b c old new n
      → Fed start core a c h i new.ahead.items new.taken number
  fed start core a b c h i old new number n x p =
      let whole : x.read ++ new.ahead.items ≡ (x.read ++ old.ahead.items) ++ p.more = ap (λ l. x.read ++ l) p.ahead ∙ sym (append_assoc x.read old.ahead.items p.more) in
      record {
        read = x.read;
        lines = x.lines;
        are = x.are;
        consumed = subst (λ (l : List ℕ). Consumes a c l) (sym whole) (Consumes-trans a b c (x.read ++ old.ahead.items) p.more x.consumed p.consumed);
        len = ap length whole ∙ (length-append (x.read ++ old.ahead.items) p.more ∙ omega (arith, x.len, p.len, p.taken));
        within = p.within;
        number_is = x.number_is;
        done = x.done;
        ahead = old.ahead.items;
        more = p.more;
        split = p.ahead;
        unended = x.unended;
        short = x.short;
        few = omega (arith, p.len, p.few);
      }

  -- few enough lines to be counted
  pub fed_few : (start core : Seen D) (a b h i : Option (List ℕ)) (bytes : List ℕ) (taken number : ℕ) → Fed start core a b h i bytes taken number → number + length bytes ≤ SCRIPT_LIMIT
  fed_few start core a b h i bytes taken number x = omega (arith, x.number_is, x.are.few, x.len, x.within, length-append x.read bytes)

  pub going_few : (start core : Seen D) (a b h i : Option (List ℕ)) (ahead : List ℕ) (taken number : ℕ) → Going start core a b h i ahead taken number → number ≤ SCRIPT_LIMIT
  going_few start core a b h i ahead taken number x = omega (arith, x.number_is, x.are.few, x.len, x.within, length-append x.read ahead)

  joined : (read bytes front rest : List ℕ) → bytes ≡ front ++ rest → read ++ bytes ≡ (read ++ front) ++ rest
  joined read bytes front rest e = ap (λ l. read ++ l) e ∙ sym (append_assoc read front rest)

  pub going_more : (start core new : Seen D) (a b h i j : Option (List ℕ)) (bytes rest : List ℕ) (taken number after : ℕ) → Fed start core a b h i bytes taken number
      → PieceDone disks core bytes new i j number after rest → Going start new a b h j rest taken after
  going_more start core new a b h i j bytes rest taken number after x p =
      let whole : x.read ++ bytes ≡ (x.read ++ p.front.front) ++ rest = joined x.read bytes p.front.front rest p.front.whole in
      record {
        read = x.read ++ p.front.front;
        lines = x.lines ++ p.front.lines;
        are = whole_join x.read p.front.front x.lines p.front.lines x.are p.front.are;
        consumed = subst (λ (l : List ℕ). Consumes a b l) whole x.consumed;
        len = ap length (sym whole) ∙ x.len;
        within = x.within;
        number_is = omega (arith, x.number_is, p.front.counted, length-append x.lines p.front.lines);
        done = done_join disks start core new x.lines p.front.lines h i j x.done p.front.done;
        unended = p.unended;
        short = p.short;
      }

  -- ---- a piece that stops

  soon : (start core : Seen D) (a b h i : Option (List ℕ)) (bytes front rest : List ℕ) (taken number : ℕ) (x : Fed start core a b h i bytes taken number) → bytes ≡ front ++ rest
      → (whole_lines front ≡ [] → ⊥) → length rest < PIECE_LIMIT
  soon start core a b h i bytes front rest taken number x e some =
      let lt = little_left x.ahead x.more front rest x.unended (sym x.split ∙ e) some in omega (arith, lt, x.few)

  early : (start core : Seen D) (a b h i : Option (List ℕ)) (bytes : List ℕ) (taken number : ℕ) (bad : List ℕ) (x : Fed start core a b h i bytes taken number) → length bad ≤ length bytes
      → length bad ≤ LINE_LIMIT + PIECE_LIMIT
  early start core a b h i bytes taken number bad x le = omega (arith, le, ap length x.split, length-append x.ahead x.more, x.short, x.few)

  ends_line : (read front rest : List ℕ) (lines others : List (List ℕ)) (left : Option (List ℕ)) → AreWholeLines read lines → whole_lines front ≡ others → lines_of front ≡ others
      → EndsLine (read ++ front) rest left
  ends_line read front rest lines others left are w l =
      inl (are.whole_then front ∙ (ap (λ x. lines ++ x) (w ∙ sym l) ∙ sym (are.lines_then front)))

  lines_with : (read front : List ℕ) (lines good : List (List ℕ)) (bad : List ℕ) → AreWholeLines read lines → lines_of front ≡ good ++ bad ∷ [] → lines_of (read ++ front) ≡ (lines ++ good) ++ bad ∷ []
  lines_with read front lines good bad are e = are.lines_then front ∙ (ap (λ x. lines ++ x) e ∙ sym (append_assoc lines good (bad ∷ [])))

  piece_bad : (start core new : Seen D) (a b h i j : Option (List ℕ)) (bytes : List ℕ) (taken number line column : ℕ) → Fed start core a b h i bytes taken number
      → FrontBad disks core bytes new i j number line column → ScriptRan disks (BadLine line column) start new a b h j
  piece_bad start core new a b h i j bytes taken number line column x p =
      let done = done_join disks start core new x.lines p.good h i j x.done p.done in
      record {
        taken = x.read ++ bytes;
        history = done.history;
        acts = done.acts;
        consumed = x.consumed;
        reads = omega (arith, x.len, x.within);
        follows = record {
          good = x.lines ++ p.good;
          bad = p.bad;
          stops = record {
            front = x.read ++ p.front;
            rest = p.rest;
            split = joined x.read bytes p.front p.rest p.whole;
            lines = lines_with x.read p.front x.lines p.good p.bad x.are p.lines;
            soon = ⊎_elim (λ w. soon start core a b h i bytes p.front p.rest taken number x p.whole (λ none. not_none p.good p.bad (sym w ∙ none)))
                (λ l. subst (λ (r : List ℕ). length r < PIECE_LIMIT) (sym l.0) (omega arith)) p.judged;
            early = early start core a b h i bytes taken number p.bad x p.within;
            judged = ⊎_elim (λ w. inl (ends_line x.read p.front p.rest x.lines (p.good ++ p.bad ∷ []) b x.are w p.lines)) (λ l. inr l) p.judged;
            line_is = omega (arith, p.line_is, x.number_is, length-append x.lines p.good);
          };
          is_bad = p.is_bad;
          follows = done.follows;
        };
        written = done.written;
        ends = tt;
      }

  piece_begun : (start core new : Seen D) (a b h i j : Option (List ℕ)) (bytes : List ℕ) (taken number : ℕ) → Fed start core a b h i bytes taken number
      → FrontBegun disks core bytes new i j → ScriptRan disks WriteFault start new a b h j
  piece_begun start core new a b h i j bytes taken number x p =
      let done = done_then_begun disks start core new x.lines p.begun h i j x.done p.last in
      let are = whole_join x.read p.front x.lines p.begun x.are p.are in
      record {
        taken = x.read ++ bytes;
        history = done.history;
        acts = done.acts;
        consumed = x.consumed;
        reads = omega (arith, x.len, x.within);
        follows = record {
          begun = x.lines ++ p.begun;
          front = x.read ++ p.front;
          rest = p.rest;
          split = joined x.read bytes p.front p.rest p.whole;
          lines = lines_are (x.read ++ p.front) (x.lines ++ p.begun) are;
          soon = soon start core a b h i bytes p.front p.rest taken number x p.whole (λ none. some_not_none p.begun p.some (sym (whole_are p.front p.begun p.are) ∙ none));
          ended = inl (whole_are (x.read ++ p.front) (x.lines ++ p.begun) are ∙ sym (lines_are (x.read ++ p.front) (x.lines ++ p.begun) are));
          follows = done.follows;
        };
        written = done.written;
        ends = tt;
      }

  pub piece_stops : (start core new : Seen D) (a b h i j : Option (List ℕ)) (bytes : List ℕ) (taken number : ℕ) (status : Status) → Fed start core a b h i bytes taken number
      → FrontStopped disks core bytes new i j number status → ScriptRan disks status start new a b h j
  piece_stops start core new a b h i j bytes taken number (BadLine line column) x p = piece_bad start core new a b h i j bytes taken number line column x p
  piece_stops start core new a b h i j bytes taken number WriteFault x p = piece_begun start core new a b h i j bytes taken number x p
  piece_stops start core new a b h i j bytes taken number _ x p = absurd p

  -- ---- the end of input

  -- nothing more was read
  pub record AtEnd (start core : Seen D) (left_before left held_before held : Option (List ℕ)) (ahead : List ℕ) (number : ℕ) : Type 0 where
    pub taken : ℕ
    pub going : Going start core left_before left held_before held ahead taken number
    pub at_end : IsAtEnd left

  pub at_end : (start core : Seen D) (a b c h i : Option (List ℕ)) (old new : Unread) (number n : ℕ) → Going start core a b h i old.ahead.items old.taken number → PieceRead b c old new n → n ≡ 0
      → AtEnd start core a c h i new.ahead.items number
  at_end start core a b c h i old new number n x p zero =
      let none : p.more ≡ [] = no_length p.more (p.len ∙ zero) in
      let same : new.ahead.items ≡ old.ahead.items = p.ahead ∙ (ap (λ l. old.ahead.items ++ l) none ∙ append-nil old.ahead.items) in
      subst (λ (l : List ℕ). AtEnd start core a c h i l number) (sym same) (record {
        taken = old.taken;
        going = record {
          read = x.read;
          lines = x.lines;
          are = x.are;
          consumed = subst (λ (l : List ℕ). Consumes a c l) (append-nil (x.read ++ old.ahead.items))
              (Consumes-trans a b c (x.read ++ old.ahead.items) [] x.consumed (subst (λ (l : List ℕ). Consumes b c l) none p.consumed));
          len = x.len;
          within = x.within;
          number_is = x.number_is;
          done = x.done;
          unended = x.unended;
          short = x.short;
        };
        at_end = p.at_end zero;
      })

  end_done : (start core new : Seen D) (a b h i j : Option (List ℕ)) (ahead : List ℕ) (number : ℕ) → (x : AtEnd start core a b h i ahead number)
      → (p : LinesDone disks core (lines_of ahead) new i j)
      → FollowsLines start.world.pages (lines_of (x.going.read ++ ahead)) (done_join disks start core new x.going.lines (lines_of ahead) h i j x.going.done p).history
  end_done start core new a b h i j ahead number x p =
      let done = done_join disks start core new x.going.lines (lines_of ahead) h i j x.going.done p in
      subst (λ (l : List (List ℕ)). FollowsLines start.world.pages l done.history) (sym (x.going.are.lines_then ahead)) done.follows

  pub end_stops : (start core new : Seen D) (a b h i j : Option (List ℕ)) (ahead : List ℕ) (number : ℕ) (status : Status) → AtEnd start core a b h i ahead number
      → EndRan disks core ahead new i j number status → ScriptRan disks status start new a b h j
  end_stops start core new a b h i j ahead number Done x p =
      let done = done_join disks start core new x.going.lines (lines_of ahead) h i j x.going.done p.0 in
      record {
        taken = x.going.read ++ ahead;
        history = done.history;
        acts = done.acts;
        consumed = x.going.consumed;
        reads = (x.at_end, omega (arith, x.going.len, x.going.within));
        follows = end_done start core new a b h i j ahead number x p.0;
        written = done.written;
        ends = p.1;
      }
  end_stops start core new a b h i j ahead number DiskFault x p =
      let done = done_join disks start core new x.going.lines (lines_of ahead) h i j x.going.done p.0 in
      record {
        taken = x.going.read ++ ahead;
        history = done.history;
        acts = done.acts;
        consumed = x.going.consumed;
        reads = (x.at_end, omega (arith, x.going.len, x.going.within));
        follows = end_done start core new a b h i j ahead number x p.0;
        written = done.written;
        ends = p.1;
      }
  end_stops start core new a b h i j ahead number WriteFault x p =
      let done = done_then_begun disks start core new x.going.lines (ahead ∷ []) h i j x.going.done p.1 in
      record {
        taken = x.going.read ++ ahead;
        history = done.history;
        acts = done.acts;
        consumed = x.going.consumed;
        reads = omega (arith, x.going.len, x.going.within);
        follows = record {
          begun = x.going.lines ++ ahead ∷ [];
          front = x.going.read ++ ahead;
          rest = [];
          split = sym (append-nil (x.going.read ++ ahead));
          lines = x.going.are.lines_then ahead ∙ ap (λ l. x.going.lines ++ l) p.0;
          soon = omega arith;
          ended = inr (refl, x.at_end);
          follows = done.follows;
        };
        written = done.written;
        ends = tt;
      }
  end_stops start core new a b h i j ahead number (BadLine line column) x p =
      let done = done_then_nothing disks start core new x.going.lines h i j x.going.done p.1.same p.1.nothing in
      record {
        taken = x.going.read ++ ahead;
        history = done.history;
        acts = done.acts;
        consumed = x.going.consumed;
        reads = omega (arith, x.going.len, x.going.within);
        follows = record {
          good = x.going.lines;
          bad = ahead;
          stops = record {
            front = x.going.read ++ ahead;
            rest = [];
            split = sym (append-nil (x.going.read ++ ahead));
            lines = x.going.are.lines_then ahead ∙ ap (λ l. x.going.lines ++ l) p.0;
            soon = omega arith;
            early = omega (arith, x.going.short);
            judged = inl (inr (refl, x.at_end));
            line_is = omega (arith, p.1.line_is, x.going.number_is);
          };
          is_bad = p.1.is_bad;
          follows = done.follows;
        };
        written = done.written;
        ends = tt;
      }
  end_stops start core new a b h i j ahead number _ x p = absurd p
