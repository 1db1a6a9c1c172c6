use Rattle.std.proofs.Common.{◌≡◌, ◌+◌, ◌*◌, ◌++◌, ◌∷◌, [], ℕ, length, List, take, sym, ◌∙◌, ap, subst, arith}
use Rattle.std.specs.List.{AllByRecursion, flat_map}
use Rattle.std.specs.Int.{w32, to_be_bytes}
use Rattle.std.proofs.lemmas.List.{flat_map_more, take_more}
use Rattle.page_image.specs.Pages.{PageParts}
use Rattle.redo_journal.specs.Record.{ReadsBack, image_bytes, kind_byte}
use Rattle.redo_journal.proofs.spelling.put_record.Goals as goal
use Rattle.redo_journal.specs.declared.sizes.TheConstants.{IMAGE_SIZE}

all_push : {X : Type 0} (P : X → Type 0) (xs : List X) (x : X) → AllByRecursion P xs → P x → AllByRecursion P (xs ++ x ∷ [])
all_push P [] x all here = (here, tt)
all_push P (y ∷ ys) x all here = (all.0, all_push P ys x all.1 here)

pub loop-i-preserved : goal.loop-i-preserved
loop-i-preserved c =
    let l = c.loop-i in
    let xs = c.args.images.now in
    let image : PageParts = c.index-images-i.result in
    let more : take (l.i + 1) xs ≡ take l.i xs ++ image ∷ [] =
    take_more xs l.i image c.loop-i-test.true ∙ ap (λ (p : PageParts). take l.i xs ++ p ∷ []) (sym c.index-images-i.is) in
    let step : 5 + IMAGE_SIZE * (l.i + 1) ≡ 5 + IMAGE_SIZE * l.i + IMAGE_SIZE = omega arith in
    let head = λ (b : List ℕ). kind_byte c.args.kind ∷ (to_be_bytes w32 (length xs) ++ b) in
    record {
      front =
          ap (λ (n : ℕ). take n c.put_image.new.out) step
          ∙ c.put_image.ensures.front
          ∙ ap (λ (b : List ℕ). b ++ image_bytes image) l.invariant.front
          ∙ ap head (flat_map_more image_bytes [] (take l.i xs) image ∙ ap (λ (ps : List PageParts). flat_map image_bytes ps) (sym more));
      long = c.put_image.ensures.long ∙ l.invariant.long;
      again = subst (λ (ps : List PageParts). AllByRecursion ReadsBack ps) (sym more) (all_push ReadsBack (take l.i xs) image l.invariant.again c.put_image.ensures.again);
    }
