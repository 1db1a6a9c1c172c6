-- What the core's frames give a cut.
use Rattle.std.specs.Prelude.{ℕ, Bool, not, ◌&&◌, Some, None, if◌then◌else◌}
use Rattle.page_image.specs.Pages.{slot_at}
use Rattle.page_buffer.specs.declared.frame.Frame.{Frame}
use Rattle.cut_model.specs.CutPages.{CopyParts}

-- the copy of a page that is its frame: with the committed image beside it where a transaction wrote the page
abbrev pub copy_of_frame : ℕ → Frame → CopyParts
copy_of_frame moment frame = record {
  current = frame.current.slots;
  before = if frame.dirty
      then Some frame.before.slots else None;
  moment = moment;
}

-- the slot has an object that isn't committed yet
abbrev pub is_made : Frame → ℕ → Bool
is_made frame slot = (slot_at frame.current slot).in_use && not (slot_at frame.before slot).in_use
