-- How a caller shows what an event did to the pages of the cut, and the event's law with sealed words.
use Rattle.std.proofs.Common.{◌≡◌, ℕ, Bool, true, false, get_or, Option, Some, None, refl, sym, subst}
use Rattle.std.specs.Option.{MatchOption}
use Rattle.object_graph.specs.declared.calls.Phase.{Phase}
use Rattle.object_graph.specs.declared.calls.Phase.TheVariants.{Copying, Closed, Sweeping}
use Rattle.object_graph.specs.declared.calls.Call.{Call}
use Rattle.object_graph.specs.declared.calls.Call.TheVariants.{Commit, OpenCut, Copy, HandIn, Close}
use Rattle.object_graph.specs.declared.calls.Reply.{Reply}
use Rattle.object_graph.specs.declared.calls.Reply.TheVariants.{Refused}
use Rattle.store_model.specs.Worlds.{World, OpenedCut, Event, transaction, starts}
use Rattle.store_model.specs.Replies.{Allows}
use Rattle.store_model.specs.Steps.{next}
use Rattle.store_model.specs.States.{state_of}
use Rattle.cut_model.specs.CutPages.{CopyParts, bare_page}
use Rattle.cut_model.specs.Sound.{IsFitCopy}
use Rattle.cut_model.specs.Frames.{copy_now}
use Rattle.cut_model.specs.Changes.{IsCutAfter, Adds, ChangesBy}
use Rattle.cut_model.specs.Standing.{CutBeside, starts_after, IsStanding, TurnsIn, TurnsBeside, TurnsOf, Turns}
use Rattle.cut_model.proofs.Phases.{event_stands}

-- the calls that change the pages of a cut
abbrev pub changes_cut : Call → Bool
changes_cut (Commit t) = true
changes_cut OpenCut = true
changes_cut (Copy page) = true
changes_cut (HandIn page number seen) = true
changes_cut Close = true
changes_cut _ = false

still_in : (w : World) (cut : OpenedCut) (phase : Phase) (call : Call) (pages : CutBeside) → ChangesBy w cut.opening call pages.pages pages.pages → pages.starts ≡ starts_after w call pages.starts → TurnsIn w cut phase call pages pages
still_in w cut Copying call pages h k = (h, k)
still_in w cut Closed call pages h k = refl
still_in w cut Sweeping call pages h k = refl

still : (w : World) (call : Call) (pages : CutBeside) → ((cut : OpenedCut) → ChangesBy w cut.opening call pages.pages pages.pages) → pages.starts ≡ starts_after w call pages.starts
    → MatchOption w.cut (pages ≡ pages) (TurnsBeside w call pages pages)
still w call pages h k = by_cut w.cut
  where
    by_cut : (o : Option OpenedCut) → MatchOption o (pages ≡ pages) (TurnsBeside w call pages pages)
    by_cut None = refl
    by_cut (Some cut) = still_in w cut cut.phase call pages (h cut) k

still_of : (w : World) (call : Call) (pages : CutBeside) → changes_cut call ≡ false → TurnsOf w call pages pages
still_of w (Commit t) pages h = cc
still_of w OpenCut pages h = cc
still_of w (Copy page) pages h = cc
still_of w (HandIn page number seen) pages h = cc
still_of w Close pages h = cc
still_of w _ pages h = still w _ pages (λ cut. refl) refl

-- all other calls leave the pages
pub turns_still : (w : World) (call : Call) (reply : Reply) (pages : CutBeside) → changes_cut call ≡ false → Turns w call reply pages pages
turns_still w call (Refused why) pages h = refl
turns_still w call reply pages h = still_of w call pages h

-- a call on a cut that is copied
turns_in : (w : World) (cut : OpenedCut) (call : Call) (pages after : CutBeside) → w.cut ≡ Some cut → cut.phase ≡ Copying → ChangesBy w cut.opening call pages.pages after.pages
    → after.starts ≡ starts_after w call pages.starts
    → MatchOption w.cut (after ≡ pages) (TurnsBeside w call pages after)
turns_in w cut call pages after is phase changes same =
    subst (λ o. MatchOption o (after ≡ pages) (TurnsBeside w call pages after)) (sym is)
    (subst (λ p. TurnsIn w cut p call pages after) (sym phase) (changes, same))

pub turns_copy : (w : World) (cut : OpenedCut) (page : ℕ) (pages after : CutBeside) → w.cut ≡ Some cut → cut.phase ≡ Copying → Adds page (copy_now w page) pages.pages after.pages → after.starts ≡ pages.starts
    → TurnsOf w (Copy page) pages after
turns_copy w cut page pages after is phase adds same = turns_in w cut (Copy page) pages after is phase adds same

pub turns_hand : (w : World) (cut : OpenedCut) (page number seen : ℕ) (c : CopyParts) (pages after : CutBeside) → w.cut ≡ Some cut → cut.phase ≡ Copying
    → IsFitCopy (state_of w) cut.opening page (get_or pages.pages page bare_page) c → Adds page c pages.pages after.pages → after.starts ≡ pages.starts → TurnsOf w (HandIn page number seen) pages after
turns_hand w cut page number seen c pages after is phase fit adds same = turns_in w cut (HandIn page number seen) pages after is phase (c, fit, adds) same

pub turns_commit : (w : World) (cut : OpenedCut) (t : ℕ) (pages after : CutBeside) → w.cut ≡ Some cut → cut.phase ≡ Copying → IsCutAfter w (transaction w t) pages.pages after.pages → after.starts ≡ pages.starts
    → TurnsOf w (Commit t) pages after
turns_commit w cut t pages after is phase changes same = turns_in w cut (Commit t) pages after is phase changes same

pub turns_close : (w : World) (cut : OpenedCut) (pages after : CutBeside) → w.cut ≡ Some cut → cut.phase ≡ Copying → after.pages ≡ pages.pages → after.starts ≡ starts w → TurnsOf w Close pages after
turns_close w cut pages after is phase same from = turns_in w cut Close pages after is phase same from

-- the law of each event, with words that don't unfold
pub stands_after : (w : World) (e : Event) (pages after : CutBeside) → IsStanding w pages → Allows w e → Turns w e.entry.call e.entry.reply pages after
    → IsStanding (next w e) after
stands_after w e pages after stands may turns = event_stands w e.entry.call e.note e.entry.reply pages after stands may.1 turns
