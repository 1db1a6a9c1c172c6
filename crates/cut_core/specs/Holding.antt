-- The cut that the core holds, beside the world's.
use Rattle.std.specs.Prelude.{◌≡◌, ℕ, ◌<◌, ◌≤◌, true, false, not, List, [], ◌∷◌, Option, Some, None, length, is_some, slice_index_or, nat_lt, ◌||◌, if◌then◌else◌}
use Rattle.object_graph.specs.declared.limits.TheConstants.{MOST_PAGES}
use Rattle.object_graph.specs.declared.calls.Phase.{Phase}
use Rattle.object_graph.specs.declared.calls.Phase.TheVariants as phase
use Rattle.object_graph.specs.declared.calls.Call.{Call}
use Rattle.object_graph.specs.declared.calls.Reply.{Reply}
use Rattle.object_graph.specs.declared.calls.Refusal.{Refusal}
use Rattle.object_graph.specs.declared.calls.Refusal.TheVariants.{NoPage, AlreadyCopied}
use Rattle.store_model.specs.Causes.{has_page, first_met, when}
use Rattle.store_model.specs.Replies.{AllowsReply}
use Rattle.store_model.specs.Steps.{after_reply}
use Rattle.store_model.specs.Worlds.{World, OpenedCut, nothing, transaction, view}
use Rattle.page_image.specs.Pages.{PageParts}
use Rattle.page_buffer.specs.declared.frame.Frame.{Frame}
use Rattle.object_graph.specs.Slots.{has_slot}
use Rattle.store_model.specs.Images.{shown_in}
use Rattle.cut_model.specs.Changes.{IsMade, Adds}
use Rattle.cut_model.specs.Frames.{copy_now}
use Rattle.cut_core.specs.Joints.{is_made}
use Rattle.cut_builder.specs.CutParts as built
use Rattle.cut_model.specs.CutPages.{CutPage, with_commit}
use Rattle.cut_model.specs.Standing.{CutBeside, IsCopying, IsStanding, nothing_copied}
use Rattle.cut_builder.specs.CutParts.{CutParts, page_in_cut, cut_starts}
use Rattle.transactions.specs.Standing.{TransactionsParts, IsReady}
use Rattle.cut_core.specs.declared.held.Stage.{Stage}
use Rattle.cut_core.specs.declared.held.Stage.TheVariants.{Copying, Closed, Sweeping}
use Rattle.cut_core.specs.declared.held.HeldCut.{HeldCut}
use Rattle.cut_core.specs.declared.held.Held.{Held}

abbrev pub phase_of : Stage → Phase
phase_of (Copying cut) = phase.Copying
phase_of (Closed given) = phase.Closed
phase_of (Sweeping marked) = phase.Sweeping

-- what stands beside the world: what the cut has of each page and, from the closing on, where the marks start
abbrev pub beside_stage : Stage → CutBeside
beside_stage (Copying cut) = record { pages = cut.pages; starts = [] }
beside_stage (Closed given) = record { pages = given.value.pages; starts = cut_starts given.value }
beside_stage (Sweeping marked) = record { pages = marked.cut.pages; starts = cut_starts marked.cut }

abbrev pub beside_of : Option HeldCut → CutBeside
beside_of None = nothing_copied 0
beside_of (Some held) = beside_stage held.stage

-- the cut's own number, and the number of commits as it opened
abbrev pub IsStage : World → ℕ → Stage → Type 0
IsStage w number (Copying cut) = (cut.number ≡ number) × (cut.start ≤ w.commits)
IsStage w number (Closed given) = given.value.number ≡ number
IsStage w number (Sweeping marked) = marked.cut.number ≡ number

-- it is the world's cut
pub record IsHeldCut (w : World) (held : HeldCut) (cut : OpenedCut) : Type 0 where
  pub number : held.number ≡ cut.number
  pub before : held.number ≤ w.last_cut
  pub phase : phase_of held.stage ≡ cut.phase
  pub stage : IsStage w held.number held.stage
  pub count : length held.swept.items ≡ w.pages
  pub swept : (page : ℕ) → page < w.pages → slice_index_or held.swept.items page false ≡ has_page cut.swept page

abbrev pub IsHeld : World → Option HeldCut → Option OpenedCut → Type 0
IsHeld w None None = Unit {0}
IsHeld w None (Some cut) = ⊥
IsHeld w (Some held) None = ⊥
IsHeld w (Some held) (Some cut) = IsHeldCut w held cut

-- what is held is the world's cut, and stands beside the world
pub record Holds (held : Held) (w : World) : Type 0 where
  pub some : 0 < w.pages
  pub few : w.pages ≤ MOST_PAGES
  pub last : held.last_cut ≡ w.last_cut
  pub cut : IsHeld w held.cut w.cut
  pub standing : IsStanding w (beside_of held.cut)

-- a world with another cut
abbrev pub IsButForCut : World → World → Type 0
IsButForCut w after = (cut : Option OpenedCut) × (last : ℕ) × (after ≡ record w { cut = cut; last_cut = last })

-- a call on the cut was answered as the model allows, and what is held is the cut of the next world
pub record CutSteps (new : Held) (w : World) (call : Call) (reply : Reply) : Type 0 where
  pub allowed : AllowsReply w call nothing reply
  pub holds : Holds new (after_reply w call nothing reply)

-- ---- copies

-- the committed page of a frame, where a transaction wrote it
abbrev pub before_of_frame : Frame → Option PageParts
before_of_frame frame = if frame.dirty then Some frame.before else None

-- why a page isn't copied, where there are so many
abbrev pub copy_refusal : ℕ → List CutPage → ℕ → Option Refusal
copy_refusal count pages page = first_met (when (not (nat_lt page count)) NoPage
    ∷ when (is_some (page_in_cut pages page).copy) (AlreadyCopied page) ∷ [])

-- the copy of the page that is its frame as it stands is added to the cut
abbrev pub AddsFrame : World → ℕ → CutBeside → CutBeside → Type 0
AddsFrame w page old new = Adds page (copy_now w page) old.pages new.pages

-- a cut that is copied beside the transactions
pub record Copies (s : TransactionsParts) (cut : CutParts) (w : World) : Type 0 where
  pub ready : IsReady s w
  pub opened : OpenedCut
  pub is : w.cut ≡ Some opened
  pub copying : IsCopying w opened cut.pages
  pub start : cut.start ≤ w.commits

-- ---- commits

-- the image of a frame was given to a cut, and the slots in which objects were made
pub record IsImageGiven (frame : Frame) (moment : ℕ) (old new : CutParts) : Type 0 where
  pub cut : new ≡ built.with_cut_page old frame.current.number
      (with_commit frame.current.slots moment (page_in_cut new.pages frame.current.number).born
      (page_in_cut old.pages frame.current.number))
  pub born : (s : ℕ) → has_slot (page_in_cut new.pages frame.current.number).born s
      ≡ (has_slot (page_in_cut old.pages frame.current.number).born s || is_made frame s)

-- a page after the commit
pub record IsPageGiven (w : World) (txn moment page : ℕ) (old new : CutPage) : Type 0 where
  pub made : IsMade (transaction w txn) page old.born new.born
  pub is : new ≡ with_commit (shown_in w (view w (transaction w txn)) page) moment new.born old

-- of the pages that a transaction commits these were given
pub record IsGivenUpTo (w : World) (txn moment : ℕ) (done : List ℕ) (old new : CutParts) : Type 0 where
  pub number : new.number ≡ old.number
  pub start : new.start ≡ old.start
  pub all : length new.pages ≡ length old.pages
  pub others : (page : ℕ) → has_page done page ≡ false → page_in_cut new.pages page ≡ page_in_cut old.pages page
  pub given : (page : ℕ) → has_page done page ≡ true
      → IsPageGiven w txn moment page (page_in_cut old.pages page) (page_in_cut new.pages page)
