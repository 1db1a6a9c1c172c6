use Rattle.std.proofs.Common.{rules, ◌≡◌}
use Rattle.generator.specs.Rounds.{store_pages}
use Rattle.generator.proofs.Resting.{just_rests}
use Rattle.generator.proofs.tests.run_of.Goals as goal

pub generate-requires-clause-resting : goal.generate-requires-clause-resting
generate-requires-clause-resting g c κs within =
    let pages : c.in-Ok-start.core.world.pages ≡ store_pages = search rules in
    let fresh : c.in-Ok-start.core.world.commits ≡ 0 = search rules in
    rw c.of-machine.ensures (just_rests c.in-Ok-start.core.world c.in-Ok-start.ensures.just_opened pages fresh)
