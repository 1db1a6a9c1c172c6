use mir.Val.{bool_byte}
use Rattle.std.proofs.Common.{◌≡◌, ◌+◌, ◌∙◌, refl, ap, Bool, true, false}
use Rattle.generator.specs.declared.summary.Tally.{Tally}
use Rattle.generator.proofs.Generating.{one_if, round_alone, round_collected, round_stops}
use Rattle.generator.proofs.running.run_round.Goals as goal

bit_is : (b : Bool) → bool_byte b ≡ one_if b
bit_is true = refl
bit_is false = refl

pub returns-then-round-ne0 : goal.returns-then-round-ne0
returns-then-round-ne0 g c =
    let before : Tally = c.args.tally.now in
    let now : Tally = record { rounds = before.rounds + 1; commits = c.in-Ok.end.1; full = before.full + c.from.result; freed = before.freed; ended = before.ended } in
    round_alone g.D.Disk c.args.machine.now c.transact.new.machine c.args.drawn c.args.round c.in-Ok.end.0 c.in-Ok.end.1 before now
    c.if-round-ne0.true c.in-Ok.ensures c.requires.counted c.requires.room refl refl (ap (λ n. before.full + n) (c.from.ensures ∙ bit_is c.in-Ok.end.0)) refl refl

pub returns-in-Ok-collect : goal.returns-in-Ok-collect
returns-in-Ok-collect g c =
    let before : Tally = c.args.tally.now in
    let now : Tally =
    record { rounds = before.rounds + 1; commits = c.in-Ok.end.1; full = before.full + c.from.result; freed = before.freed + c.in-Ok-collect.freed; ended = before.ended + 1 } in
    round_collected g.D.Disk c.args.machine.now c.transact.new.machine c.collect.new.machine c.args.drawn c.args.round c.in-Ok.end.0 c.in-Ok.end.1 c.in-Ok-collect.freed before now
    c.if-round-ne0.false c.in-Ok.ensures c.in-Ok-collect.ensures.collected c.in-Ok-collect.ensures.few c.requires.counted c.requires.room
    refl refl (ap (λ n. before.full + n) (c.from.ensures ∙ bit_is c.in-Ok.end.0)) refl refl

pub returns-in-Err-collect : goal.returns-in-Err-collect
returns-in-Err-collect g c =
    round_stops g.D.Disk c.args.machine.now c.transact.new.machine c.collect.new.machine c.args.drawn c.args.round c.in-Ok.end.0 c.in-Ok.end.1 c.in-Err-collect.stop
    c.if-round-ne0.false c.in-Ok.ensures c.in-Err-collect.ensures.collected
