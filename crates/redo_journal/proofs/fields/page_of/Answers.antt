use Rattle.std.proofs.Common.{◌≡◌, ℕ, ◌+◌, take, Err, sym, ◌∙◌, ap}
use Rattle.page_image.specs.Fields.{page_at}
use Rattle.redo_journal.specs.Results.{from_place}
use Rattle.redo_journal.proofs.fields.page_of.Goals as goal
use Rattle.redo_journal.specs.declared.sizes.TheConstants.{PAGE_SIZE}

pub returns-in-Ok : goal.returns-in-Ok
returns-in-Ok c =
    let same : take PAGE_SIZE c.args.bytes.now ≡ c.copy_from_slice.new.self = sym (c.copy_from_slice.ensures.after ∙ c.split_at.ensures.front) in
    ap (from_place c.args.place) (ap page_at same ∙ c.in-Ok.ensures.ok)

pub returns-in-Err : goal.returns-in-Err
returns-in-Err c =
    let same : take PAGE_SIZE c.args.bytes.now ≡ c.copy_from_slice.new.self = sym (c.copy_from_slice.ensures.after ∙ c.split_at.ensures.front) in
    ap (from_place c.args.place) (ap page_at same ∙ c.in-Err.ensures.bad) ∙ ap (λ (n : ℕ). Err (c.args.place + n)) (sym c.from.ensures)
