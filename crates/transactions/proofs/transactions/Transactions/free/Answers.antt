use Rattle.std.proofs.Common.{◌≡◌, ℕ, ◌<◌, List, length, true, sym, subst, ap}
use Rattle.object_graph.specs.Slots.{has_slot}
use Rattle.page_image.specs.Pages.{slot_at}
use Rattle.page_buffer.specs.Frames.{frame_at}
use Rattle.page_buffer.specs.declared.frame.Frame.{Frame}
use Rattle.transactions.specs.Standing.{TransactionsParts, IsReady}
use Rattle.transactions.proofs.Sweeping.{sweep_stands}
use Rattle.transactions.proofs.transactions.Transactions.free.Goals as goal

pub returns-clause-swept : goal.returns-clause-swept
returns-clause-swept g c = λ w r.
    sweep_stands _ _ w c.args.page c.args.slots
    (subst (λ (s : TransactionsParts). IsReady s w) (sym c.self.view_is) r)
    (subst (λ (s : TransactionsParts). c.args.page < length s.frames) (sym c.self.view_is) c.requires.page)
    (subst (λ (s : TransactionsParts). (slot : ℕ) → has_slot c.args.slots slot ≡ true → (slot_at (frame_at s.frames c.args.page).before slot).in_use ≡ true) (sym c.self.view_is) c.requires.used)
    (ap (λ (fs : List Frame). record { table = c.self.inside.table; locks = c.self.inside.locks; frames = fs }) c.free.ensures.freed)
