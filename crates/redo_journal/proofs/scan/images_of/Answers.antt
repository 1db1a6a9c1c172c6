use Rattle.std.proofs.Common.{◌≡◌, ◌+◌, ◌-◌, ◌++◌, ◌∷◌, length, [], ℕ, List, Result, Ok, drop, refl, sym, ◌∙◌, ap, subst, arith}
use Rattle.std.specs.List.{All}
use Rattle.std.proofs.lemmas.List.{append-nil, length_push}
use Rattle.std.proofs.lemmas.List.Elements.{All-push}
use Rattle.std.proofs.lemmas.Result.{err_from_is_err_and}
use Rattle.page_image.specs.Pages.{PageParts}
use Rattle.redo_journal.specs.Judging.{IsAreaFaultIn}
use Rattle.redo_journal.specs.Walk.{with_front}
use Rattle.redo_journal.specs.Record.{images_at}
use Rattle.redo_journal.proofs.GrammarLaws.{images_length}
use Rattle.redo_journal.proofs.ImageSteps.{images_more, images_fault, images_end}
use Rattle.redo_journal.specs.Places.{IsPlace}
use Rattle.redo_journal.specs.declared.places.ImagePlace.{ImagePlace}
use Rattle.redo_journal.proofs.PlaceLaws.{noted_more}
use Rattle.redo_journal.proofs.Laying.{laid_nothing, laid_more}
use Rattle.redo_journal.proofs.WalkLaws.{with_front-nil}
use Rattle.redo_journal.proofs.scan.images_of.Goals as goal
use Rattle.redo_journal.specs.declared.sizes.TheConstants.{IMAGE_SIZE}

pub loop-left-init : goal.loop-left-init
loop-left-init c = record {
  front = [];
  value = with_front-nil (images_at c.args.pages c.args.place 0 c.args.count c.args.bytes.now);
  long = c.requires.long;
  few = c.requires.few;
  at_is = refl;
  laid = laid_nothing c.args.latest.now.items;
  kept = c.requires.kept;
  within = c.requires.within;
  noted = sym (append-nil c.args.places.now.items);
  next = omega arith;
  places = c.requires.places;
  room = c.requires.room;
  reserved = refl;
}

pub loop-left-preserved : goal.loop-left-preserved
loop-left-preserved c =
    let l = c.loop-left in
    let i = l.invariant in
    let image : PageParts = c.in_ok-image.image in
    let noted : ImagePlace = record { page = c.number.result; at = l.at + 4 } in
    let here : IsPlace c.args.pages noted = record {
      below = omega (arith, c.number.ensures.value, c.in_ok-image.ensures.below);
      within = omega (arith, i.within, i.long, c.loop-left-test.true);
    } in
    let low_is : c.number-low.result + 1 ≡ image.number + 1 = ap (λ (n : ℕ). n + 1) c.number-low.ensures.value in
    record {
      front = i.front ++ image ∷ [];
      value =
          ap (λ (x : List ℕ). with_front (i.front ++ image ∷ []) (images_at c.args.pages (l.at + IMAGE_SIZE) (c.number-low.result + 1) (l.left - 1) x)) c.split_at.ensures.back
          ∙ ap (λ (low : ℕ). with_front (i.front ++ image ∷ []) (images_at c.args.pages (l.at + IMAGE_SIZE) low (l.left - 1) (drop IMAGE_SIZE l.rest.now))) low_is
          ∙ images_more i.front c.args.pages l.at l.low l.left l.rest.now image c.loop-left-test.true c.in_ok-image.ensures.value
          ∙ i.value;
      long = omega (arith, i.long, c.split_at.ensures.back_len, c.loop-left-test.true);
      few = omega (arith, i.few);
      at_is = omega (arith, i.at_is, c.loop-left-test.true);
      laid = laid_more i.front (image ∷ []) c.args.latest.now.items l.latest.items c.lay.new.images.items i.laid c.in-Ok.ensures.laid;
      kept = c.in-Ok.ensures.kept;
      within = omega (arith, i.within, i.long, c.split_at.ensures.back_len, c.loop-left-test.true);
      noted = noted_more c.args.place i.front image c.number.result (l.at + 4) c.args.places.now.items l.places.items c.push_reserved.new.self.items c.push_reserved.ensures.items i.noted c.number.ensures.value (omega (arith, i.next));
      next = omega (arith, i.next, length_push i.front image);
      places = subst (All (IsPlace c.args.pages)) (sym c.push_reserved.ensures.items) (All-push (IsPlace c.args.pages) l.places.items noted i.places here);
      room = omega (arith, i.room, c.loop-left-test.true, ap length c.push_reserved.ensures.items, length_push l.places.items noted, c.push_reserved.ensures.capacity);
      reserved = c.push_reserved.ensures.capacity ∙ i.reserved;
    }

pub returns-in_err-image : goal.returns-in_err-image
returns-in_err-image c =
    let l = c.loop-left in
    let i = l.invariant in
    let fault = c.in_err-image.field-0.0 in
    let p = err_from_is_err_and c.from_residual.result c.from_residual.ensures.1 in
    let here = subst (λ (read : Result (List PageParts) ℕ). IsAreaFaultIn read fault) i.value
    (images_fault i.front c.args.pages l.at l.low l.left l.rest.now fault c.loop-left-test.true c.in_err-image.ensures.value) in
    rw (p.1, p.2) (record { read = here; places = tt; reserved = tt })

pub returns : goal.returns
returns c =
    let l = c.loop-left in
    let i = l.invariant in
    let read : images_at c.args.pages c.args.place 0 c.args.count c.args.bytes.now ≡ Ok i.front =
    sym i.value ∙ images_end i.front c.args.pages l.at l.low l.left l.rest.now (omega (arith, c.loop-left-test.false)) in
    record {
      read = (i.front, read, images_length c.args.pages c.args.place 0 c.args.count c.args.bytes.now i.front read, i.laid, i.kept, i.noted);
      places = i.places;
      reserved = i.reserved;
    }
