use Rattle.page_buffer.proofs.Frees.{frames_freed}
use Rattle.page_buffer.proofs.buffer.Buffer.free.Goals as goal

pub invariant_of-self : goal.invariant_of-self
invariant_of-self g c =
    frames_freed c.args.slots c.args.page c.self.inside.frames.items c.index_mut-frame.result.now _ _
    (rw c.self.view_is c.requires.page)
    c.index_mut-frame.ensures.value
    (λ i. record { current = c.free_in.ensures i; before = c.free_in-2.ensures i; dirty = c.index_mut-frame.result.now.dirty })
    c.self.invariant
