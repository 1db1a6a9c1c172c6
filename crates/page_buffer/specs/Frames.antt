-- What contracts see of frames, and how the calls change them.
use Rattle.std.specs.Prelude.{◌≡◌, ℕ, ◌<◌, ◌^◌, true, false, List, [], length, map, slice_index_or, slice_set}
use Rattle.std.specs.List.{All, range_with_len}
use Rattle.page_image.specs.Pages.{PageParts, slot_at, slot_freed}
use Rattle.page_buffer.specs.declared.frame.Frame.{Frame}

-- the frame of a page that nobody writes
abbrev pub clean_frame : PageParts → Frame
clean_frame image = record { current = image; before = image; dirty = false }

abbrev pub blank_frame : Frame
blank_frame = clean_frame (record { number = 0; slots = [] })

-- the frame of a page
abbrev pub frame_at : List Frame → ℕ → Frame
frame_at frames page = slice_index_or frames page blank_frame

-- the frames with one of them changed
abbrev pub with_frame : List Frame → ℕ → Frame → List Frame
with_frame frames page frame = slice_set frames page frame

-- a frame with another current image
abbrev pub frame_written : Frame → PageParts → Frame
frame_written frame image = record { current = image; before = frame.before; dirty = true }

-- a frame whose current image is committed
abbrev pub settled : Frame → Frame
settled frame = clean_frame frame.current

-- a frame that is back at its committed image
abbrev pub reverted : Frame → Frame
reverted frame = clean_frame frame.before

-- a page after some of its slots were freed
abbrev pub freed_page : ℕ → PageParts → PageParts
freed_page slots page = record page {
  slots = map (λ slot. slot_freed slots slot (slot_at page slot))
      (range_with_len 0 (length page.slots));
}

-- a frame after some slots were freed in both images
abbrev pub freed_frame : ℕ → Frame → Frame
freed_frame slots frame =
    record { current = freed_page slots frame.current; before = freed_page slots frame.before; dirty = frame.dirty }

-- what each frame keeps: a clean one has equal images, both are of one page, and what is in use in
-- the committed image is in use in the current one
pub record IsFrame (frame : Frame) : Type 0 where
  pub clean : frame.dirty ≡ false → frame.current ≡ frame.before
  pub number : frame.current.number ≡ frame.before.number
  pub kept : (slot : ℕ) → (slot_at frame.before slot).in_use ≡ true → (slot_at frame.current slot).in_use ≡ true

-- what all frames of a buffer keep: their count is a number of 32 bits
pub record AreFrames (frames : List Frame) : Type 0 where
  pub few : length frames < 2 ^ 32
  pub each : All IsFrame frames
