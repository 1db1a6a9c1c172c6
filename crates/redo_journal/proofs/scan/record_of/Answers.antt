use Rattle.std.proofs.Common.{◌≡◌, ◌+◌, ℕ, List, drop, sym, ◌∙◌, ap, subst, Ok}
use Rattle.std.proofs.lemmas.Bool.{eqb-true}
use Rattle.std.proofs.lemmas.Result.{err_from_is_err_and}
use Rattle.redo_journal.specs.Judging.{IsAreaFaultIn}
use Rattle.redo_journal.specs.Record.{images_at}
use Rattle.redo_journal.proofs.GrammarLaws.{record_read, record_none, kind_fault, count_fault, pages_fault}
use Rattle.redo_journal.proofs.scan.record_of.Goals as goal

pub returns-then-is_empty-clause-read : goal.returns-then-is_empty-clause-read
returns-then-is_empty-clause-read c = record_none c.args.pages c.args.place c.args.done c.args.bytes.now (eqb-true _ _ (sym c.is_empty.ensures ∙ c.if-is_empty.true))

pub returns-in_err-kind-clause-read : goal.returns-in_err-kind-clause-read
returns-in_err-kind-clause-read c =
    let p = err_from_is_err_and c.from_residual.result c.from_residual.ensures.1 in
    rw (p.1, p.2) (kind_fault c.args.pages c.args.place c.args.done c.args.bytes.now c.in_err-kind.field-0.0 c.in_err-kind.ensures.value)

pub returns-in_err-count-clause-read : goal.returns-in_err-count-clause-read
returns-in_err-count-clause-read c =
    let p = err_from_is_err_and c.from_residual-in_err-count.result c.from_residual-in_err-count.ensures.1 in
    rw (p.1, p.2) (count_fault c.args.pages c.args.place c.args.done c.args.bytes.now c.in_ok-kind.kind c.in_err-count.field-0.0 c.in_ok-kind.ensures.value c.in_err-count.ensures.value)

pub returns-in_err-images_of-clause-read : goal.returns-in_err-images_of-clause-read
returns-in_err-images_of-clause-read c =
    let fault = c.in_err-images_of.field-0.0 in
    let here = subst (λ (b : List ℕ). IsAreaFaultIn (images_at c.args.pages (c.args.place + 5) 0 c.in_ok-count.count b) fault) c.split_at.ensures.back c.in_err-images_of.ensures.read in
    let p = err_from_is_err_and c.from_residual-in_err-images_of.result c.from_residual-in_err-images_of.ensures.1 in
    rw (p.1, p.2) (pages_fault c.args.pages c.args.place c.args.done c.args.bytes.now c.in_ok-kind.kind c.in_ok-count.count fault c.in_ok-kind.ensures.value c.in_ok-count.ensures.value here)

pub returns-clause-read : goal.returns-clause-read
returns-clause-read c =
    let read = c.in_ok-images_of.ensures.read in
    let images = read.0 in
    let here : images_at c.args.pages (c.args.place + 5) 0 c.in_ok-count.count (drop 5 c.args.bytes.now) ≡ Ok images =
    ap (λ (x : List ℕ). images_at c.args.pages (c.args.place + 5) 0 c.in_ok-count.count x) (sym c.split_at.ensures.back) ∙ read.1 in (
      images,
      record_read c.args.pages c.args.place c.args.done c.args.bytes.now c.in_ok-kind.kind c.in_ok-count.count images c.in_ok-kind.ensures.value c.in_ok-count.ensures.value here,
      read.2,
      read.3,
      read.4,
      read.5,
    )
