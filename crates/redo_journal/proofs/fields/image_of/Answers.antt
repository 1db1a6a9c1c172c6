use Rattle.std.proofs.Common.{◌≡◌, ⊎_elim, ℕ, List, ◌+◌, take, sym, ◌∙◌, ap, subst, arith, inl, inr}
use Rattle.std.proofs.lemmas.Result.{err_from_is_err_and}
use Rattle.page_image.specs.Fields.{page_at}
use Rattle.redo_journal.specs.Results.{from_place}
use Rattle.redo_journal.specs.Judging.{IsAreaFaultIn}
use Rattle.redo_journal.proofs.ImageReads.{number_in, image_out, image_fault, image_other, image_is}
use Rattle.redo_journal.proofs.fields.image_of.Goals as goal
use Rattle.redo_journal.specs.declared.sizes.TheConstants.{PAGE_SIZE}

pub returns-then-number-low-clause-value : goal.returns-then-number-low-clause-value
returns-then-number-low-clause-value c =
    let is : c.u32_of-number.result ≡ number_in c.args.bytes.now = c.u32_of-number.ensures in
    image_out c.args.pages c.args.place c.args.low c.args.bytes.now (⊎_elim (λ lt. inl (omega (arith, lt, is))) (λ le. inr (omega (arith, le, is))) c.then-number-low.either)

pub returns-in_err-page-clause-value : goal.returns-in_err-page-clause-value
returns-in_err-page-clause-value c =
    let is : c.u32_of-number.result ≡ number_in c.args.bytes.now = c.u32_of-number.ensures in
    let bad = subst (λ (b : List ℕ). IsAreaFaultIn (from_place (c.args.place + 4) (page_at (take PAGE_SIZE b))) c.in_err-page.field-0.0) c.split_at.ensures.back c.in_err-page.ensures in
    let p = err_from_is_err_and c.from_residual.result c.from_residual.ensures.1 in
    rw (p.1, p.2) (image_fault c.args.pages c.args.place c.args.low c.args.bytes.now c.in_err-page.field-0.0 (omega (arith, is, c.if-number-low.false)) (omega (arith, is, c.if-number-pages.false)) bad)

pub returns-then-number-clause-value : goal.returns-then-number-clause-value
returns-then-number-clause-value c =
    let is : c.u32_of-number.result ≡ number_in c.args.bytes.now = c.u32_of-number.ensures in
    let read = ap (λ (b : List ℕ). from_place (c.args.place + 4) (page_at (take PAGE_SIZE b))) (sym c.split_at.ensures.back) ∙ c.in_ok-page.ensures in
    image_is c.args.pages c.args.place c.args.low c.args.bytes.now c.in_ok-page.page (omega (arith, is, c.if-number-low.false)) (omega (arith, is, c.if-number-pages.false)) read (sym c.number.ensures.value ∙ c.if-number.true ∙ is)

pub returns-else-number-clause-value : goal.returns-else-number-clause-value
returns-else-number-clause-value c =
    let is : c.u32_of-number.result ≡ number_in c.args.bytes.now = c.u32_of-number.ensures in
    let read = ap (λ (b : List ℕ). from_place (c.args.place + 4) (page_at (take PAGE_SIZE b))) (sym c.split_at.ensures.back) ∙ c.in_ok-page.ensures in
    image_other c.args.pages c.args.place c.args.low c.args.bytes.now c.in_ok-page.page (omega (arith, is, c.if-number-low.false)) (omega (arith, is, c.if-number-pages.false)) read (λ same. c.if-number.false (c.number.ensures.value ∙ same ∙ sym is))
