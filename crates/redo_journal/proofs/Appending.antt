-- A record behind the last one: what a crash leaves meanwhile, and what the area holds in the end.
use Rattle.std.proofs.Common.{◌≡◌, inl, inr, ℕ, ◌+◌, ◌-◌, ◌*◌, ◌≤◌, ◌<◌, ◌^◌, List, [], ◌∷◌, ◌++◌, length, take, drop, refl, sym, ◌∙◌, ap, subst, arith, length-append}
use Rattle.std.specs.Prelude.{Option, Some, None, IfSome, IsSomeAnd}
use Rattle.std.specs.List.{All, AllByRecursion}
use Rattle.std.proofs.lemmas.List.Elements.{All-append}
use Rattle.std.proofs.lemmas.Option.{same_Some}
use Rattle.std.proofs.lemmas.List.{take-take, drop-drop}
use Rattle.disk_trait.specs.Disk.{written, Torn}
use Rattle.disk_trait.specs.NoteLaws.{length-written, torn_written}
use Rattle.redo_journal.specs.Area.{IsStaged, area_start, first_gate}
use Rattle.redo_journal.specs.Gated.{TornBehind, behind_open}
use Rattle.redo_journal.specs.Journals.{JournalParts, IsJournal, HoldsFor, IsAppendedOrNot, IsAppended, appended, need_of, left_of}
use Rattle.redo_journal.specs.Places.{places_of, places_in, IsPlace}
use Rattle.redo_journal.specs.Record.{RecordParts, IsRecordOf, ReadsBack, grammar, size_of, commits_of, record_bytes, spelled_with_gate}
use Rattle.redo_journal.specs.Walk.{weights, bytes_taken}
use Rattle.redo_journal.specs.declared.places.ImagePlace.{ImagePlace}
use Rattle.redo_journal.specs.declared.kind.Kind.{Kind}
use Rattle.redo_journal.specs.declared.kind.Kind.TheVariants.{Commit, Sweep}
use Rattle.redo_journal.proofs.Spelled.{spelled_record, length-record}
use Rattle.redo_journal.proofs.PlaceLaws.{places_more, places_right, length-places}
use Rattle.redo_journal.proofs.FileLaws.{at_any_moment, in_the_end, taken-push, weights-push}
use Rattle.redo_journal.proofs.GrammarLaws.{grammar_is_local, grammar-size, grammar-weight}
use Rattle.redo_journal.specs.declared.sizes.TheConstants.{AREA_SIZE, IMAGE_SIZE, FRAME_SIZE}
use Rattle.object_graph.specs.declared.limits.TheConstants.{MOST_COUNTED}

pub torn_wider : (s m at n : ℕ) (old new : List ℕ) → s ≤ at → at + n ≤ s + m → Torn at n old new → Torn s m old new
torn_wider s m at n old new le fits torn =
    let k = s + m - (at + n) in
    let whole : at + n + k ≡ s + m = omega (arith, fits) in
    record {
      same_length = torn.same_length;
      before = sym (take-take s at new le) ∙ ap (λ (l : List ℕ). take s l) torn.before ∙ take-take s at old le;
      after =
          ap (λ (i : ℕ). drop i new) (sym whole)
          ∙ sym (drop-drop k (at + n) new)
          ∙ ap (λ (l : List ℕ). drop k l) torn.after
          ∙ drop-drop k (at + n) old
          ∙ ap (λ (i : ℕ). drop i old) whole;
    }

pub torn_twice : (s m : ℕ) (a b c : List ℕ) → Torn s m a b → Torn s m b c → Torn s m a c
torn_twice s m a b c one two = record {
  same_length = two.same_length ∙ one.same_length;
  before = two.before ∙ one.before;
  after = two.after ∙ one.after;
}

pub as_before : (j : JournalParts) (rs : List RecordParts) (new : RecordParts) (file : List ℕ) → HoldsFor j rs file → IsAppendedOrNot j rs new file file
as_before j rs new file h = record { elsewhere = record { same_length = refl; before = refl; after = refl }; area = inl h.holds }

-- these bytes are the staged record with its gate, and there is room for them
pub record IsReady (j : JournalParts) (new : RecordParts) (bytes : List ℕ) : Type 0 where
  pub staged : IsStaged (grammar j.pages) (j.base + j.commits) new bytes
  pub room : j.end + 1 + length bytes ≤ AREA_SIZE

pub ready : (j : JournalParts) (new r : RecordParts) (need left : ℕ) → IsJournal j → j.pages ≤ 2 ^ 32 → j.staged ≡ Some new → j.staged ≡ Some r
    → IsSomeAnd j.staged (λ q. q.kind ≡ Sweep → length q.images ≡ 1) → IfSome j.staged (λ q. q.kind ≡ Commit → j.base + j.commits < MOST_COUNTED)
    → AllByRecursion ReadsBack r.images → need ≡ need_of j.staged → left ≡ left_of j → need ≤ left → IsReady j new (spelled_with_gate r)
ready j new r need left keeps small e f one unspent back need_is left_is fits =
    let same : r ≡ new = same_Some r new (sym f ∙ e) in
    let is : IsRecordOf j.pages new = subst (λ (s : Option RecordParts). IfSome s (IsRecordOf j.pages)) e keeps.staged in
    let single : new.kind ≡ Sweep → length new.images ≡ 1 = subst (λ (s : Option RecordParts). IsSomeAnd s (λ q. q.kind ≡ Sweep → length q.images ≡ 1)) e one in
    let below : new.kind ≡ Commit → j.base + j.commits < MOST_COUNTED = subst (λ (s : Option RecordParts). IfSome s (λ q. q.kind ≡ Commit → j.base + j.commits < MOST_COUNTED)) e unspent in
    let back' : AllByRecursion ReadsBack new.images = subst (λ (q : RecordParts). AllByRecursion ReadsBack q.images) same back in
    let needs : need ≡ size_of new = need_is ∙ ap need_of e in
    let here : IsReady j new (spelled_with_gate new) = record {
      staged = spelled_record j.pages new is single back' small (j.base + j.commits) (spelled_with_gate new) below refl;
      room = room_for j.end need left (length (spelled_with_gate new)) (length new.images) (length (record_bytes new)) keeps.within needs left_is fits (length-append (record_bytes new) (0 ∷ [])) (length-record new back');
    } in
    subst (λ (q : RecordParts). IsReady j new (spelled_with_gate q)) (sym same) here
  where
    room_for : (end need left size count body : ℕ) → end < AREA_SIZE → need ≡ FRAME_SIZE + IMAGE_SIZE * count → left ≡ AREA_SIZE - (end + 1) → need ≤ left → size ≡ body + 1 → body ≡ 5 + IMAGE_SIZE * count → end + 1 + size ≤ AREA_SIZE
    room_for end need left size count body within needs left_is fits size_is body_is = omega (arith, within, needs, left_is, fits, size_is, body_is)

module _ (j : JournalParts) (rs : List RecordParts) (new : RecordParts) (file : List ℕ) (h : HoldsFor j rs file) (bytes : List ℕ) (staged : IsStaged (grammar j.pages) (j.base + j.commits) new bytes) (room : j.end + 1 + length bytes ≤ AREA_SIZE) where
  abbrev gate : ℕ
  gate = area_start j.area + j.end

  behind : IsStaged (grammar j.pages) (j.base + weights (grammar j.pages) rs) new bytes
  behind = subst (λ (d : ℕ). IsStaged (grammar j.pages) (j.base + d) new bytes) h.commits staged

  long : area_start j.area + AREA_SIZE ≤ length file
  long = h.holds.long

  fits : gate + 1 + length bytes ≤ length file
  fits = omega (arith, room, long)

  -- all of it stays within the area
  inside : (f : List ℕ) → TornBehind gate bytes file f → Torn (area_start j.area) AREA_SIZE file f
  inside f (inl torn) = torn_wider (area_start j.area) AREA_SIZE (gate + 1) (length bytes) file f (omega arith) (omega (arith, room)) torn
  inside f (inr torn) =
      torn_twice (area_start j.area) AREA_SIZE file (written (gate + 1) bytes file) f
      (torn_wider (area_start j.area) AREA_SIZE (gate + 1) (length bytes) file (written (gate + 1) bytes file) (omega arith) (omega (arith, room)) (torn_written (gate + 1) bytes file fits))
      (torn_wider (area_start j.area) AREA_SIZE gate 1 (written (gate + 1) bytes file) f (omega arith) (omega (arith, room)) torn)

  pub meanwhile : (f : List ℕ) → TornBehind gate bytes file f → IsAppendedOrNot j rs new file f
  meanwhile f torn = record {
    elsewhere = inside f torn;
    area = at_any_moment (grammar j.pages) (grammar_is_local j.pages) j.area j.base rs file h.holds j.end h.end new bytes behind gate refl room f torn;
  }

  ended : Torn gate 1 (written (gate + 1) bytes file) (behind_open gate bytes file)
  ended = torn_written gate (1 ∷ []) (written (gate + 1) bytes file) (omega (arith, length-written (gate + 1) bytes file fits, fits))

  size_is : size_of new ≡ (grammar j.pages).size new + 1
  size_is = omega (arith, grammar-size j.pages new)

  gate_is : area_start j.area + first_gate + bytes_taken (grammar j.pages) rs + FRAME_SIZE ≡ gate + FRAME_SIZE
  gate_is = omega (arith, h.end)

  places_after : j.places ++ places_of (gate + FRAME_SIZE) new.images ≡ places_in (area_start j.area + first_gate) (rs ++ new ∷ [])
  places_after =
      ap (λ (l : List ImagePlace). l ++ places_of (gate + FRAME_SIZE) new.images) h.places
      ∙ ap (λ (n : ℕ). places_in (area_start j.area + first_gate) rs ++ places_of n new.images) (sym gate_is)
      ∙ sym (places_more j.pages (area_start j.area + first_gate) rs new)

  pub afterwards : IsAppended (appended new j) rs new file (behind_open gate bytes file)
  afterwards = record {
    elsewhere = inside (behind_open gate bytes file) (inr ended);
    area = record {
      holds = in_the_end (grammar j.pages) (grammar_is_local j.pages) j.area j.base rs file h.holds j.end h.end new bytes behind gate refl room (behind_open gate bytes file) refl;
      end = omega (arith, h.end, size_is, taken-push (grammar j.pages) rs new);
      commits = omega (arith, h.commits, grammar-weight j.pages new, weights-push (grammar j.pages) rs new);
      places = places_after;
    };
  }

-- ---- the journal after it

counted_after : (base commits more : ℕ) (kind : Kind) → base + commits ≤ MOST_COUNTED → more ≡ commits + commits_of kind → (kind ≡ Commit → base + commits < MOST_COUNTED) → base + more ≤ MOST_COUNTED
counted_after base commits more Commit few is unspent = omega (arith, is, unspent refl)
counted_after base commits more Sweep few is unspent = omega (arith, few, is)

pub still_journal : (old : JournalParts) (r : RecordParts) (commits end from : ℕ) (places : List ImagePlace) → IsJournal old → IsRecordOf old.pages r → (r.kind ≡ Commit → old.base + old.commits < MOST_COUNTED)
    → commits ≡ old.commits + commits_of r.kind → end ≡ old.end + size_of r → end < AREA_SIZE → from ≡ area_start old.area + old.end + FRAME_SIZE → places ≡ old.places ++ places_of from r.images
    → IsJournal (record old { commits = commits; end = end; places = places; staged = None })
still_journal old r commits end from places keeps is unspent commits_is end_is within from_is places_is = record {
  area = keeps.area;
  within = within;
  counted = counted_after old.base old.commits commits r.kind keeps.counted commits_is unspent;
  places = subst (All (IsPlace old.pages)) (sym places_is)
      (All-append (IsPlace old.pages) old.places (places_of from r.images) keeps.places (places_right old.pages from r.images is.below (omega (arith, keeps.area, from_is, end_is, within))));
  room = omega (arith, keeps.room, end_is, ap length places_is, length-append old.places (places_of from r.images), length-places from r.images);
  staged = tt;
}
