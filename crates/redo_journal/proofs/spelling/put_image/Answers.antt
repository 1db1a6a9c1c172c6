use Rattle.std.proofs.Common.{◌≡◌, ℕ, List, ◌+◌, ◌++◌, length, take, sym, ◌∙◌, ap, arith, append_assoc}
use Rattle.std.specs.Int.{w32, to_be_bytes}
use Rattle.page_image.specs.Fields.{page_at}
use Rattle.page_image.specs.Spelling.{page_bytes}
use Rattle.redo_journal.proofs.spelling.put_image.Goals as goal
use Rattle.redo_journal.specs.declared.sizes.TheConstants.{PAGE_SIZE, IMAGE_SIZE}

both : (at : ℕ) (first second third number image : List ℕ) → take (at + 4) second ≡ take at first ++ number → take (at + 4 + PAGE_SIZE) third ≡ take (at + 4) second ++ image → take (at + IMAGE_SIZE) third ≡ take at first ++ (number ++ image)
both at first second third number image one two =
    ap (λ (n : ℕ). take n third) (omega arith) ∙ two ∙ ap (λ (l : List ℕ). l ++ image) one ∙ append_assoc (take at first) number image

pub returns-clause-front : goal.returns-clause-front
returns-clause-front c =
    let at = c.args.at in
    let four : length c.to_be_bytes.result ≡ 4 = ap length c.to_be_bytes.ensures in
    let number : c.to_be_bytes.result ≡ to_be_bytes w32 c.args.image.now.number = c.to_be_bytes.ensures ∙ ap (λ (n : ℕ). to_be_bytes w32 n) c.number.ensures.value in
    let one = ap (λ (n : ℕ). take (at + n) c.put.new.out) (sym four) ∙ c.put.ensures.front ∙ ap (λ (l : List ℕ). take at c.args.out.now ++ l) number in
    let two = ap (λ (n : ℕ). take (at + 4 + n) c.put-2.new.out) (sym c.bytes.ensures.long) ∙ c.put-2.ensures.front ∙ ap (λ (l : List ℕ). take (at + 4) c.put.new.out ++ l) c.bytes.ensures.spelled in
    both at c.args.out.now c.put.new.out c.put-2.new.out (to_be_bytes w32 c.args.image.now.number) (page_bytes c.args.image.now) one two

pub returns-clause-again : goal.returns-clause-again
returns-clause-again c = record { long = ap length (sym c.bytes.ensures.spelled) ∙ c.bytes.ensures.long; again = ap page_at (sym c.bytes.ensures.spelled) ∙ c.bytes.ensures.again }
