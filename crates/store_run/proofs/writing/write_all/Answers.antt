use Rattle.store_run.proofs.Writings.{writing_more}
use Rattle.store_run.proofs.writing.write_all.Goals as goal

pub writing-preserved : goal.writing-preserved
writing-preserved g c =
    rw c.split_at.ensures.back
    (writing_more c.args.bytes.now c.writing.rest.now _ _ _ _ _ _ c.in_ok-count.count c.writing.invariant c.in_ok-count.ensures.bytes (c.in_ok-count.ensures.calm (λ e. absurd (c.if-count-eq0.false e))))
