-- Lines one after the other.
use Rattle.std.proofs.Common.{◌≤◌, ◌≡◌, refl, sym, ap, ◌∙◌, subst, ℕ, ◌+◌, ◌<◌, Bool, true, false, List, [], ◌∷◌, ◌++◌, length, Option, Some, None, inl, inr, append_assoc, append-nil, arith, length-append}
use Rattle.std.specs.Prelude.{Result, Ok, Err, is_some, slice_get}
use Rattle.std.proofs.KnownBytes.{Appends-nil, Appends-trans}
use Rattle.std.specs.Io.KnownBytes.{Appends}
use Rattle.object_graph.specs.declared.calls.Call.{Call}
use Rattle.disk_trait.specs.declared.disk.Disk.{Ghosts as DiskOf}
use Rattle.store_model.specs.Histories.{collection}
use Rattle.store_model.specs.Texts.{event_text, history_text}
use Rattle.store_model.specs.Worlds.{Event}
use Rattle.script_lang.specs.declared.line.Line.TheVariants.{One, Collect, Note}
use Rattle.script_lang.specs.declared.line.TheConstants.{LINE_LIMIT}
use Rattle.script_lang.specs.Script.{lines_of}
use Rattle.script_lang.specs.Words.{SplitsAt, Without}
use Rattle.cut_core.specs.Seen.{Seen}
use Rattle.store_machine.specs.Acts.{Acts}
use Rattle.script_lang.specs.Script.{Says}
use Rattle.store_run.specs.Following.{FollowsLines, FollowsFront}
use Rattle.store_run.specs.Lines.{CallDone, CallBegun, CallRan, CallsDone, CollectionDone, CollectionBegun, CollectionRan, LinesDone, LinesBegun, LineBad, ScriptLineRan, FrontDone, FrontBad, FrontBegun, FrontStopped, EndRan}
use Rattle.store_run.specs.Ran.{PartlyWritten, end_status}
use Rattle.store_run.specs.Writing.{AppendsFront}
use Rattle.store_run.specs.declared.status.Status.{Status}
use Rattle.store_run.specs.declared.status.Status.TheVariants.{BadLine, WriteFault}
use Rattle.store_machine.proofs.Acting.{acts_join}
use Rattle.store_run.proofs.Histories.{lines_join, front_join, no_lines, note_line, call_line, call_front, collect_line, collect_front, text_join, texts_join}
use Rattle.store_machine.proofs.Collecting.{made_none, made_more, made_last, made_begun, made_all}
use Rattle.store_machine.proofs.Pages.{pages-run}
use Rattle.store_run.proofs.WholeLines.{one_whole, none_whole, whole_join, lines_are, whole_are, unended_line, long_bad}

module _ {D : Type 0} (disks : DiskOf D) where
  -- ---- one line

  pub nothing_done : (s : Seen D) (a : Option (List ℕ)) → Acts disks s s [] → LinesDone disks s [] s a a
  nothing_done s a acts = record { history = []; acts = acts; follows = no_lines s.world.pages; written = Appends-nil a }

  pub note_done : (s : Seen D) (line : List ℕ) (a : Option (List ℕ)) → Says line Note → Acts disks s s []
      → LinesDone disks s (line ∷ []) s a a
  note_done s line a says acts = record { history = []; acts = acts; follows = note_line s.world.pages line says; written = Appends-nil a }

  pub call_done : (old new : Seen D) (line : List ℕ) (call : Call) (refused : Bool) (a b : Option (List ℕ)) → Says line (One call) → CallDone disks old call refused new a b
      → LinesDone disks old (line ∷ []) new a b
  call_done old new line call refused a b says x = record {
    history = x.event ∷ [];
    acts = x.acts;
    follows = call_line old.world.pages line call x.event x.call_is says;
    written = subst (λ (t : List ℕ). Appends a b t) (sym (append-nil (event_text x.event))) x.written;
  }

  -- a front of the text of one more event
  one_begun : (a b : Option (List ℕ)) (e : Event) → AppendsFront a b (event_text e) → PartlyWritten a b (e ∷ [])
  one_begun a b e h = record { earlier = []; last = e; front = h.front; rest = h.rest; split = refl; text = h.whole; some = h.some; appends = h.appends }

  pub call_begun : (old new : Seen D) (line : List ℕ) (call : Call) (a b : Option (List ℕ)) → Says line (One call) → CallBegun disks old call new a b → LinesBegun disks old (line ∷ []) new a b
  call_begun old new line call a b says x = record {
    history = x.event ∷ [];
    acts = x.acts;
    follows = call_front old.world.pages line call x.event x.call_is says;
    written = one_begun a b x.event x.written;
  }

  pub one_ran : (old new : Seen D) (line : List ℕ) (call : Call) (a b : Option (List ℕ)) (number : ℕ) (status : Status) → Says line (One call) → CallRan disks old call new a b (Err status)
      → ScriptLineRan disks old line new a b number (Err status)
  one_ran old new line call a b number WriteFault says x = call_begun old new line call a b says x
  one_ran old new line call a b number _ says x = absurd x

  pub collection_ran : (old new : Seen D) (line : List ℕ) (workers : ℕ) (a b : Option (List ℕ)) (number : ℕ) (result : Result (Unit {0}) Status) → Says line (Collect workers)
      → CollectionRan disks old workers new a b result → ScriptLineRan disks old line new a b number result
  collection_ran old new line workers a b number (Ok done) says x =
      record { history = x.history; acts = x.acts; follows = collect_line old.world.pages workers line x.history says x.makes; written = x.written }
  collection_ran old new line workers a b number (Err WriteFault) says x =
      record { history = x.history; acts = x.acts; follows = collect_front old.world.pages workers line x.history says x.starts; written = x.written }
  collection_ran old new line workers a b number (Err _) says x = absurd x

  -- ---- the calls of a line

  pub calls_start : (s : Seen D) (calls : List Call) (a : Option (List ℕ)) → Acts disks s s [] → CallsDone disks s calls 0 s a a
  calls_start s calls a acts = record { history = []; acts = acts; made = made_none calls; written = Appends-nil a }

  text_more : (h i j : Option (List ℕ)) (history : List Event) (e : Event) → Appends h i (history_text history) → Appends i j (event_text e) → Appends h j (history_text (history ++ e ∷ []))
  text_more h i j history e x y =
      subst (λ (t : List ℕ). Appends h j t) (ap (λ t. history_text history ++ t) (sym (append-nil (event_text e))) ∙ sym (text_join history (e ∷ [])))
      (Appends-trans h i j (history_text history) (event_text e) x y)

  pub calls_more : (a b c : Seen D) (calls : List Call) (count : ℕ) (call : Call) (h i j : Option (List ℕ)) → CallsDone disks a calls count b h i → slice_get calls count ≡ Some call
      → CallDone disks b call false c i j → CallsDone disks a calls (count + 1) c h j
  calls_more a b c calls count call h i j x at y = record {
    history = x.history ++ y.event ∷ [];
    acts = acts_join disks a b c x.history (y.event ∷ []) x.acts y.acts;
    made = made_more calls count x.history call y.event x.made at y.call_is y.refused_is;
    written = text_more h i j x.history y.event x.written y.written;
  }

  pub calls_refused : (a b c : Seen D) (workers count : ℕ) (call : Call) (h i j : Option (List ℕ)) → CallsDone disks a (collection a.world.pages workers) count b h i
      → slice_get (collection a.world.pages workers) count ≡ Some call → CallDone disks b call true c i j → CollectionDone disks a workers c h j
  calls_refused a b c workers count call h i j x at y = record {
    history = x.history ++ y.event ∷ [];
    acts = acts_join disks a b c x.history (y.event ∷ []) x.acts y.acts;
    makes = made_last (collection a.world.pages workers) count x.history call y.event x.made at y.call_is y.refused_is;
    written = text_more h i j x.history y.event x.written y.written;
  }

  calls_begun : (a b c : Seen D) (workers count : ℕ) (call : Call) (h i j : Option (List ℕ)) → CallsDone disks a (collection a.world.pages workers) count b h i
      → slice_get (collection a.world.pages workers) count ≡ Some call → CallBegun disks b call c i j → CollectionBegun disks a workers c h j
  calls_begun a b c workers count call h i j x at y = record {
    history = x.history ++ y.event ∷ [];
    acts = acts_join disks a b c x.history (y.event ∷ []) x.acts y.acts;
    starts = made_begun (collection a.world.pages workers) count x.history call y.event x.made at y.call_is;
    written = record {
      earlier = x.history;
      last = y.event;
      front = y.written.front;
      rest = y.written.rest;
      split = refl;
      text = y.written.whole;
      some = y.written.some;
      appends = Appends-trans h i j (history_text x.history) y.written.front x.written y.written.appends;
    };
  }

  pub calls_stop : (a b c : Seen D) (workers count : ℕ) (call : Call) (h i j : Option (List ℕ)) (status : Status) → CallsDone disks a (collection a.world.pages workers) count b h i
      → slice_get (collection a.world.pages workers) count ≡ Some call → CallRan disks b call c i j (Err status) → CollectionRan disks a workers c h j (Err status)
  calls_stop a b c workers count call h i j WriteFault x at y = calls_begun a b c workers count call h i j x at y
  calls_stop a b c workers count call h i j _ x at y = absurd y

  pub calls_all : (a b : Seen D) (workers count : ℕ) (h i : Option (List ℕ)) → CallsDone disks a (collection a.world.pages workers) count b h i
      → slice_get (collection a.world.pages workers) count ≡ None → CollectionDone disks a workers b h i
  calls_all a b workers count h i x none = record {
    history = x.history;
    acts = x.acts;
    makes = made_all (collection a.world.pages workers) count x.history x.made none;
    written = x.written;
  }

  -- ---- more lines

  same_pages : (a b : Seen D) (history : List Event) → Acts disks a b history → b.world.pages ≡ a.world.pages
  same_pages a b history acts = pages-run (is_some (disks.content a.disk)) a.world b.world history acts.runs

  pub done_join : (a b c : Seen D) (first second : List (List ℕ)) (h i j : Option (List ℕ)) → LinesDone disks a first b h i
      → LinesDone disks b second c i j → LinesDone disks a (first ++ second) c h j
  done_join a b c first second h i j x y = record {
    history = x.history ++ y.history;
    acts = acts_join disks a b c x.history y.history x.acts y.acts;
    follows = lines_join a.world.pages first second x.history y.history x.follows
        (subst (λ (pages : ℕ). FollowsLines pages second y.history) (same_pages a b x.history x.acts) y.follows);
    written = subst (λ (t : List ℕ). Appends h j t) (sym (text_join x.history y.history)) (Appends-trans h i j (history_text x.history) (history_text y.history) x.written y.written);
  }

  pub done_then_begun : (a b c : Seen D) (first second : List (List ℕ)) (h i j : Option (List ℕ)) → LinesDone disks a first b h i
      → LinesBegun disks b second c i j → LinesBegun disks a (first ++ second) c h j
  done_then_begun a b c first second h i j x y = record {
    history = x.history ++ y.history;
    acts = acts_join disks a b c x.history y.history x.acts y.acts;
    follows = front_join a.world.pages first second x.history y.history x.follows
        (subst (λ (pages : ℕ). FollowsFront pages second y.history) (same_pages a b x.history x.acts) y.follows);
    written = record {
      earlier = x.history ++ y.written.earlier;
      last = y.written.last;
      front = y.written.front;
      rest = y.written.rest;
      split = ap (λ e. x.history ++ e) y.written.split ∙ sym (append_assoc x.history y.written.earlier (y.written.last ∷ []));
      text = y.written.text;
      some = y.written.some;
      appends = subst (λ (t : List ℕ). Appends h j t) (texts_join x.history y.written.earlier y.written.front)
          (Appends-trans h i j (history_text x.history) (history_text y.written.earlier ++ y.written.front) x.written y.written.appends);
    };
  }

  pub done_then_nothing : (a b c : Seen D) (lines : List (List ℕ)) (h i j : Option (List ℕ)) → LinesDone disks a lines b h i → c ≡ b → Appends i j []
      → LinesDone disks a lines c h j
  done_then_nothing a b c lines h i j x same nothing = record {
    history = x.history;
    acts = subst (λ (s : Seen D). Acts disks a s x.history) (sym same) x.acts;
    follows = x.follows;
    written = subst (λ (t : List ℕ). Appends h j t) (append-nil (history_text x.history)) (Appends-trans h i j (history_text x.history) [] x.written nothing);
  }

  -- ---- the whole lines at the front of some bytes

  pub front_start : (s : Seen D) (bytes : List ℕ) (a : Option (List ℕ)) (number : ℕ) → Acts disks s s []
      → FrontDone disks s bytes s a a number number bytes
  front_start s bytes a number acts = record { front = []; lines = []; whole = refl; are = none_whole; counted = omega arith; done = nothing_done s a acts }

  whole_more : (bytes front rest line after : List ℕ) → bytes ≡ front ++ rest → rest ≡ line ++ 10 ∷ after → bytes ≡ (front ++ (line ++ 10 ∷ [])) ++ after
  whole_more bytes front rest line after whole split =
      whole ∙ (ap (λ x. front ++ x) (split ∙ sym (append_assoc line (10 ∷ []) after)) ∙ sym (append_assoc front (line ++ 10 ∷ []) after))

  pub front_more : (a b c : Seen D) (bytes rest line after : List ℕ) (h i j : Option (List ℕ)) (before number : ℕ)
      → FrontDone disks a bytes b h i before number rest → SplitsAt 10 rest line after
      → LinesDone disks b (line ∷ []) c i j → FrontDone disks a bytes c h j before (number + 1) after
  front_more a b c bytes rest line after h i j before number x s y = record {
    front = x.front ++ (line ++ 10 ∷ []);
    lines = x.lines ++ line ∷ [];
    whole = whole_more bytes x.front rest line after x.whole s.whole;
    are = whole_join x.front (line ++ 10 ∷ []) x.lines (line ∷ []) x.are (one_whole line s.without);
    counted = omega (arith, x.counted, length-append x.lines (line ∷ []));
    done = done_join a b c x.lines (line ∷ []) h i j x.done y;
  }

  within : (bytes front rest bad after : List ℕ) → bytes ≡ front ++ rest → rest ≡ bad ++ after → length bad ≤ length bytes
  within bytes front rest bad after whole split = omega (arith, ap length whole, length-append front rest, ap length split, length-append bad after)

  front_bad : (a b c : Seen D) (bytes rest bad after : List ℕ) (h i j : Option (List ℕ)) (before number line column : ℕ)
      → FrontDone disks a bytes b h i before number rest → SplitsAt 10 rest bad after
      → LineBad disks b bad c i j (number + 1) line column → FrontBad disks a bytes c h j before line column
  front_bad a b c bytes rest bad after h i j before number line column x s y =
      let are = whole_join x.front (bad ++ 10 ∷ []) x.lines (bad ∷ []) x.are (one_whole bad s.without) in
      record {
        front = x.front ++ (bad ++ 10 ∷ []);
        rest = after;
        good = x.lines;
        bad = bad;
        whole = whole_more bytes x.front rest bad after x.whole s.whole;
        lines = lines_are (x.front ++ (bad ++ 10 ∷ [])) (x.lines ++ bad ∷ []) are;
        within = within bytes x.front rest bad (10 ∷ after) x.whole s.whole;
        judged = inl (whole_are (x.front ++ (bad ++ 10 ∷ [])) (x.lines ++ bad ∷ []) are);
        is_bad = y.is_bad;
        line_is = omega (arith, y.line_is, x.counted);
        done = done_then_nothing a b c x.lines h i j x.done y.same y.nothing;
      }

  front_begun : (a b c : Seen D) (bytes rest line after : List ℕ) (h i j : Option (List ℕ)) (before number : ℕ)
      → FrontDone disks a bytes b h i before number rest → SplitsAt 10 rest line after
      → LinesBegun disks b (line ∷ []) c i j → FrontBegun disks a bytes c h j
  front_begun a b c bytes rest line after h i j before number x s y = record {
    front = x.front ++ (line ++ 10 ∷ []);
    rest = after;
    begun = x.lines ++ line ∷ [];
    whole = whole_more bytes x.front rest line after x.whole s.whole;
    are = whole_join x.front (line ++ 10 ∷ []) x.lines (line ∷ []) x.are (one_whole line s.without);
    some = omega (arith, length-append x.lines (line ∷ []));
    last = done_then_begun a b c x.lines (line ∷ []) h i j x.done y;
  }

  pub front_stops : (a b c : Seen D) (bytes rest line after : List ℕ) (h i j : Option (List ℕ)) (before number : ℕ) (status : Status)
      → FrontDone disks a bytes b h i before number rest → SplitsAt 10 rest line after
      → ScriptLineRan disks b line c i j (number + 1) (Err status) → FrontStopped disks a bytes c h j before status
  front_stops a b c bytes rest line after h i j before number (BadLine l column) x s y = front_bad a b c bytes rest line after h i j before number l column x s y
  front_stops a b c bytes rest line after h i j before number WriteFault x s y = front_begun a b c bytes rest line after h i j before number x s y
  front_stops a b c bytes rest line after h i j before number _ x s y = absurd y

  -- what is left is too long for a line already
  pub front_too_long : (a b : Seen D) (bytes rest : List ℕ) (h i : Option (List ℕ)) (before number : ℕ) → FrontDone disks a bytes b h i before number rest
      → Without 10 rest → LINE_LIMIT < length rest → FrontBad disks a bytes b h i before (number + 1) (LINE_LIMIT + 1)
  front_too_long a b bytes rest h i before number x without long = record {
    front = bytes;
    rest = [];
    good = x.lines;
    bad = rest;
    whole = sym (append-nil bytes);
    lines = ap lines_of x.whole ∙ (x.are.lines_then rest ∙ ap (λ l. x.lines ++ l) (unended_line rest (omega (arith, long)) without));
    within = within bytes x.front rest rest [] x.whole (sym (append-nil rest));
    judged = inr (refl, long);
    is_bad = long_bad rest long;
    line_is = omega (arith, x.counted);
    done = x.done;
  }

  -- ---- the end

  pub end_ran : (a b : Seen D) (line : List ℕ) (h i : Option (List ℕ)) (number : ℕ) (broken : Option ℕ) → b.world.broken ≡ broken
      → LinesDone disks a (lines_of line) b h i → EndRan disks a line b h i number (end_status broken)
  end_ran a b line h i number None is x = (x, is)
  end_ran a b line h i number (Some n) is x = (x, ap is_some is)

  pub end_stops : (a b : Seen D) (line : List ℕ) (h i : Option (List ℕ)) (number : ℕ) (status : Status) → lines_of line ≡ line ∷ []
      → ScriptLineRan disks a line b h i (number + 1) (Err status) → EndRan disks a line b h i number status
  end_stops a b line h i number (BadLine l column) only y = (only, y)
  end_stops a b line h i number WriteFault only y = (only, y)
  end_stops a b line h i number _ only y = absurd y
