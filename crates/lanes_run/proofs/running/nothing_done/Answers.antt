use Rattle.store_desk.proofs.Kept.{kept_from}
use Rattle.lanes_run.proofs.running.nothing_done.Goals as goal

pub returns-clause-kept : goal.returns-clause-kept
returns-clause-kept g c = kept_from g.D.Disk c.args.core.now g.met.D.Disk.only_now c.stands.ensures.now
