use Rattle.std.proofs.Common.{refl}
use Rattle.std.specs.Fmt.{digits}
use Rattle.store_model.proofs.Scripts.{nothing_is_collected_legal, nothing_is_collected_follows}
use Rattle.store_model.proofs.examples.nothing_is_collected.Goals as goal

pub returns-clause-legal : goal.returns-clause-legal
returns-clause-legal c = nothing_is_collected_legal

pub returns-clause-follows : goal.returns-clause-follows
returns-clause-follows c = nothing_is_collected_follows

pub returns-clause-run : goal.returns-clause-run
returns-clause-run c = record {
  lane = (refl, (refl, (refl, (refl, (refl, (refl, (refl, (refl, tt))))))));
  marks = (tt, (tt, (tt, (tt, (refl, (tt, (tt, (tt, tt))))))));
}

pub returns-clause-text : goal.returns-clause-text
unfolding digits
returns-clause-text c = refl
