use Rattle.std.proofs.Common.{◌≡◌, ℕ, List, [], ◌∷◌, ◌++◌, ◌+◌, ◌*◌, ◌<◌, ◌≤◌, length, drop, Result, Ok, refl, sym, ◌∙◌, ap, subst, arith, length-append, length-drop}
use Rattle.std.specs.List.{All}
use Rattle.std.proofs.lemmas.List.{flat_map_more}
use Rattle.std.proofs.lemmas.List.Elements.{All-nil}
use Rattle.std.proofs.lemmas.List.Sums.{sum_by_push}
use Rattle.std.proofs.lemmas.Result.{err_from_is_err_and}
use Rattle.page_image.specs.Pages.{PageParts}
use Rattle.redo_journal.specs.Judging.{IsAreaFaultIn}
use Rattle.redo_journal.specs.Area.{first_gate}
use Rattle.redo_journal.specs.Places.{IsPlace, places_of, places_in}
use Rattle.redo_journal.specs.Walk.{walk, bytes_taken}
use Rattle.redo_journal.specs.Record.{RecordParts, record_at, grammar, commits_of}
use Rattle.redo_journal.specs.Replays.{AreLatest, IsLaidOver, images_in}
use Rattle.redo_journal.specs.declared.places.ImagePlace.{ImagePlace}
use Rattle.redo_journal.specs.declared.kind.Kind.{Kind}
use Rattle.redo_journal.specs.declared.kind.Kind.TheVariants.{Commit, Sweep}
use Rattle.redo_journal.proofs.FileLaws.{taken-push}
use Rattle.redo_journal.proofs.GrammarLaws.{grammar-at, grammar-size, grammar-weight}
use Rattle.redo_journal.proofs.Laying.{laid_nothing, laid_more}
use Rattle.redo_journal.proofs.PlaceLaws.{places_more, length-places}
use Rattle.redo_journal.proofs.ScanSteps.{scan_more, scan_fault, scan_closed, area_walk, area_fault, walk_drop}
use Rattle.redo_journal.proofs.WalkLaws.{with_front-nil}
use Rattle.redo_journal.proofs.scan.scan.Goals as goal
use Rattle.redo_journal.specs.declared.sizes.TheConstants.{AREA_SIZE, IMAGE_SIZE, FRAME_SIZE}
use Rattle.object_graph.specs.declared.limits.TheConstants.{MOST_COUNTED}

at_most_one : (kind : Kind) → commits_of kind ≤ 1
at_most_one Commit = omega arith
at_most_one Sweep = omega arith

room_for : (base commits more : ℕ) (kind : Kind) → base + commits ≤ MOST_COUNTED → more ≡ commits_of kind → (kind ≡ Commit → base + commits < MOST_COUNTED) → base + (commits + more) ≤ MOST_COUNTED
room_for base commits more Commit le is h = omega (arith, is, h refl)
room_for base commits more Sweep le is h = omega (arith, is)

plain : (n : ℕ) → n + 0 ≡ n
plain n = omega arith

none_latest : (pages : ℕ) (images : List PageParts) → images ≡ [] → AreLatest pages images
none_latest pages images is = subst (λ (xs : List PageParts). AreLatest pages xs) (sym is) (record { ascending = λ k lt. absurd (omega (arith, lt)); below = tt })

pub loop-end-init : goal.loop-end-init
loop-end-init c =
    let g = grammar c.args.pages in
    record {
      front = [];
      value =
          with_front-nil (walk g (c.args.start + 8) (c.base_of-base.result + 0) 0 (drop 8 c.args.bytes.now))
          ∙ ap (λ (d : ℕ). walk g (c.args.start + 8) d 0 (drop 8 c.args.bytes.now)) (plain c.base_of-base.result)
          ∙ sym (walk_drop g c.args.start c.base_of-base.result 8 c.args.bytes.now (omega (arith, c.requires.whole)));
      end_is = refl;
      commits_are = refl;
      within = omega arith;
      few = omega arith;
      unspent = omega (arith, c.if-base-gt-MOST_COUNTED.false);
      laid = subst (λ (xs : List PageParts). IsLaidOver [] [] xs) (sym c.new-images.ensures.items) (laid_nothing []);
      kept = none_latest c.args.pages c.new-images.result.items c.new-images.ensures.items;
      noted = c.in-Ok.ensures.items;
      places = subst (All (IsPlace c.args.pages)) (sym c.in-Ok.ensures.items) (All-nil (IsPlace c.args.pages));
      room = omega (arith, ap length c.in-Ok.ensures.items);
      reserved = omega (arith, c.in-Ok.ensures.capacity);
    }

pub loop-end-preserved : goal.loop-end-preserved
loop-end-preserved c =
    let g = grammar c.args.pages in
    let l = c.loop-end in
    let i = l.invariant in
    let base = c.base_of-base.result in
    let head = c.in_ok-head.head in
    let read = c.in_ok-head.ensures.read in
    let r : RecordParts = record { kind = head.kind; images = read.0 } in
    let inside : l.end < length c.args.bytes.now = omega (arith, i.within, c.requires.whole) in
    let here : g.at (c.args.start + l.end + 1) (base + l.commits) (drop (l.end + 1) c.args.bytes.now) ≡ Ok r =
    grammar-at c.args.pages (c.args.start + l.end + 1) (base + l.commits) (drop (l.end + 1) c.args.bytes.now)
    ∙ ap (λ (x : List ℕ). record_at c.args.pages (c.args.start + l.end + 1) (base + l.commits) x) (sym c.split_at.ensures.back) ∙ read.1 in
    let size_is : FRAME_SIZE + IMAGE_SIZE * head.count ≡ g.size r + 1 = omega (arith, grammar-size c.args.pages r, read.2) in
    let weight_is : c.counted-commits.result ≡ g.weight r = c.counted-commits.ensures ∙ sym (grammar-weight c.args.pages r) in
    let place_is : c.args.start + l.end + 1 + 5 ≡ c.args.start + first_gate + bytes_taken g i.front + FRAME_SIZE = omega (arith, i.end_is) in
    let room : l.end + (FRAME_SIZE + IMAGE_SIZE * head.count) < AREA_SIZE = omega (arith, c.in_ok-head.ensures.room, ap length c.split_at.ensures.back, length-drop (l.end + 1) c.args.bytes.now, c.requires.whole) in
    record {
      front = i.front ++ r ∷ [];
      value = scan_more g c.args.start base l.end l.commits c.args.bytes.now i.front inside r (FRAME_SIZE + IMAGE_SIZE * head.count) c.counted-commits.result c.loop-end-test.true here size_is weight_is (omega (arith, room, c.requires.whole)) ∙ i.value;
      end_is = omega (arith, i.end_is, taken-push g i.front r, size_is);
      commits_are = omega (arith, i.commits_are, sum_by_push (λ (q : RecordParts). commits_of q.kind) i.front r, c.counted-commits.ensures);
      within = room;
      few = omega (arith, i.few, c.counted-commits.ensures, at_most_one head.kind);
      unspent = room_for base l.commits c.counted-commits.result head.kind i.unspent c.counted-commits.ensures c.in_ok-head.ensures.unspent;
      laid =
          subst (λ (xs : List PageParts). IsLaidOver xs [] c.record_of.new.latest.items) (flat_map_more (λ (q : RecordParts). q.images) [] i.front r)
          (laid_more (images_in i.front) read.0 [] l.images.items c.record_of.new.latest.items i.laid read.3);
      kept = read.4;
      noted = read.5 ∙ ap (λ (old : List ImagePlace). old ++ places_of (c.args.start + l.end + 1 + 5) read.0) i.noted
          ∙ ap (λ (n : ℕ). places_in (c.args.start + first_gate) i.front ++ places_of n read.0) place_is
          ∙ sym (places_more c.args.pages (c.args.start + first_gate) i.front r);
      places = c.in_ok-head.ensures.places;
      room = omega (arith, i.room, ap length read.5, length-append l.places.items (places_of (c.args.start + l.end + 1 + 5) read.0), length-places (c.args.start + l.end + 1 + 5) read.0, read.2);
      reserved = omega (arith, i.reserved, c.in_ok-head.ensures.reserved);
    }

pub returns-in_err-head-clause-read : goal.returns-in_err-head-clause-read
returns-in_err-head-clause-read c =
    let g = grammar c.args.pages in
    let l = c.loop-end in
    let i = l.invariant in
    let base = c.base_of-base.result in
    let fault = c.in_err-head.field-0.0 in
    let at_is : g.at (c.args.start + l.end + 1) (base + l.commits) (drop (l.end + 1) c.args.bytes.now) ≡ record_at c.args.pages (c.args.start + l.end + 1) (base + l.commits) c.split_at.result.1.now =
    grammar-at c.args.pages (c.args.start + l.end + 1) (base + l.commits) (drop (l.end + 1) c.args.bytes.now)
    ∙ ap (λ (x : List ℕ). record_at c.args.pages (c.args.start + l.end + 1) (base + l.commits) x) (sym c.split_at.ensures.back) in
    let here = subst (λ (read : Result RecordParts ℕ). IsAreaFaultIn read fault) (sym at_is) c.in_err-head.ensures.read in
    let walked = subst (λ (read : Result (List RecordParts) ℕ). IsAreaFaultIn read fault) i.value
    (scan_fault g c.args.start base l.end l.commits c.args.bytes.now i.front fault (omega (arith, i.within, c.requires.whole)) c.loop-end-test.true here) in
    let p = err_from_is_err_and c.from_residual.result c.from_residual.ensures.1 in
    rw (p.1, p.2) (area_fault g c.args.start base c.args.bytes.now fault c.base_of-base.ensures c.if-base-gt-MOST_COUNTED.false walked)

pub returns-clause-read : goal.returns-clause-read
returns-clause-read c =
    let g = grammar c.args.pages in
    let l = c.loop-end in
    let i = l.invariant in
    let base = c.base_of-base.result in (
      i.front,
      area_walk g c.args.start base c.args.bytes.now (Ok i.front) c.base_of-base.ensures c.if-base-gt-MOST_COUNTED.false
          (sym i.value ∙ scan_closed g c.args.start base l.end l.commits c.args.bytes.now i.front (omega (arith, i.within, c.requires.whole)) c.loop-end-test.false),
      i.end_is,
      i.commits_are,
      i.laid,
      i.noted,
    )
