use Rattle.std.proofs.Common.{◌≡◌, ◌+◌, ◌*◌, ◌++◌, ◌∷◌, [], List, length, take, sym, ◌∙◌, ap, arith, length-append}
use Rattle.std.proofs.lemmas.List.{length-take-le, take_more, take_all}
use Rattle.page_image.specs.Pages.{PageParts}
use Rattle.redo_journal.specs.Places.{places_of}
use Rattle.redo_journal.proofs.PlaceLaws.{noted_more, length-places}
use Rattle.redo_journal.proofs.places.note.Goals as goal
use Rattle.redo_journal.specs.declared.sizes.TheConstants.{IMAGE_SIZE}

pub push_reserved-requires : goal.push_reserved-requires
push_reserved-requires c =
    let l = c.loop-i in
    let lt = c.loop-i-test.true in
    let front = take l.i c.args.images.now in
    let long = ap length l.invariant.noted ∙ length-append c.args.places.now.items (places_of c.args.from front) in
    omega (arith, l.places.ok, long, length-places c.args.from front, length-take-le l.i c.args.images.now (omega (arith, lt)), lt, l.invariant.reserved, c.requires.room)

pub loop-i-preserved : goal.loop-i-preserved
loop-i-preserved c =
    let l = c.loop-i in
    let lt = c.loop-i-test.true in
    let images = c.args.images.now in
    let image : PageParts = c.index-images-i.result in
    let more : take (l.i + 1) images ≡ take l.i images ++ image ∷ [] = take_more images l.i image lt ∙ ap (λ (p : PageParts). take l.i images ++ p ∷ []) (sym c.index-images-i.is) in
    let at_is : c.args.from + IMAGE_SIZE * l.i + 4 ≡ c.args.from + IMAGE_SIZE * length (take l.i images) + 4 = omega (arith, length-take-le l.i images (omega (arith, lt))) in
    record {
      noted =
          noted_more c.args.from (take l.i images) image c.number.result (c.args.from + IMAGE_SIZE * l.i + 4) c.args.places.now.items l.places.items c.push_reserved.new.self.items c.push_reserved.ensures.items l.invariant.noted c.number.ensures.value at_is
          ∙ ap (λ (ps : List PageParts). c.args.places.now.items ++ places_of c.args.from ps) (sym more);
      reserved = c.push_reserved.ensures.capacity ∙ l.invariant.reserved;
    }

pub returns-clause-noted : goal.returns-clause-noted
returns-clause-noted c =
    c.loop-i.invariant.noted ∙ ap (λ (ps : List PageParts). c.args.places.now.items ++ places_of c.args.from ps) (take_all c.loop-i.i c.args.images.now c.loop-i-test.false)
