use Rattle.std.proofs.Common.{◌≡◌, ap, ◌∙◌, Some}
use Rattle.page_image.specs.Pages.{PageParts}
use Rattle.page_buffer.specs.Frames.{frame_at, freed_page}
use Rattle.page_buffer.specs.declared.frame.Frame.{Frame}
use Rattle.page_buffer.proofs.Frees.{is_freed_page}
use Rattle.redo_journal.specs.Journals.{with_staged}
use Rattle.image_model.specs.Records.{sweep_record}
use Rattle.cut_core.proofs.sweep.stage_sweep.Goals as goal

pub returns-clause-staged : goal.returns-clause-staged
returns-clause-staged g c =
    let e = c.free_slots.ensures in
    let image : c.free_slots.new.self ≡ freed_page c.args.slots (frame_at c.args.transactions.now.frames c.args.page).before =
    is_freed_page c.args.slots c.frame.result.now.before c.free_slots.new.self e.number e.count e.freed
    ∙ ap (λ (f : Frame). freed_page c.args.slots f.before) c.frame.ensures.value in
    c.stage_page.ensures
    ∙ (ap (with_staged c.free_slots.new.self) c.stage.ensures
    ∙ ap (λ (p : PageParts). record c.args.journal.now { staged = Some (sweep_record p) }) image)
