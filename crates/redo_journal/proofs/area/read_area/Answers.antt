use Rattle.std.proofs.Common.{◌≡◌, ℕ, length, ◌∙◌, ap}
use Rattle.std.proofs.lemmas.List.{with_items_is}
use Rattle.disk_trait.specs.Disk.{piece}
use Rattle.disk_trait.proofs.DiskSteps.{no_call, looked}
use Rattle.redo_journal.proofs.Moments.{if_some_map}
use Rattle.redo_journal.proofs.area.read_area.Goals as goal
use Rattle.redo_journal.specs.declared.sizes.TheConstants.{AREA_SIZE}

pub returns-in_default-clause-reads : goal.returns-in_default-clause-reads
returns-in_default-clause-reads g c = no_call g.D.Disk c.args.disk.now (λ f left. g.met.D.Disk.only_now c.args.disk.now f left)

-- a fault isn't want of memory
pub returns-in-Err-clause-lack : goal.returns-in-Err-clause-lack
returns-in-Err-clause-lack g c = λ is. absurd cc

pub returns-in-Err-clause-reads : goal.returns-in-Err-clause-reads
returns-in-Err-clause-reads g c = looked g.D.Disk c.args.disk.now c.read_at.new.self c.read_at.ensures.content c.read_at.ensures.images c.read_at.ensures.size c.read_at.ensures.time (λ f left. g.met.D.Disk.only_now c.args.disk.now f left)

pub returns-in-Ok-read_at-clause-reads : goal.returns-in-Ok-read_at-clause-reads
returns-in-Ok-read_at-clause-reads g c = looked g.D.Disk c.args.disk.now c.read_at.new.self c.read_at.ensures.content c.read_at.ensures.images c.read_at.ensures.size c.read_at.ensures.time (λ f left. g.met.D.Disk.only_now c.args.disk.now f left)

pub returns-in-Ok-read_at-clause-read : goal.returns-in-Ok-read_at-clause-read
returns-in-Ok-read_at-clause-read g c =
    let asked : length c.deref_mut.result.now ≡ AREA_SIZE = c.deref_mut.ensures.len ∙ c.in-Ok.ensures.len in
    let same = with_items_is c.in-Ok.bytes c.read_at.new.out (c.read_at.auto.out ∙ c.deref_mut.ensures.len) in
    if_some_map (g.D.Disk.content c.args.disk.now) (λ d. c.read_at.new.out ≡ piece c.start_of.result (length c.deref_mut.result.now) d) _
    (λ d told is. same ∙ is ∙ ap (λ (n : ℕ). piece c.start_of.result n d) asked ∙ ap (λ (s : ℕ). piece s AREA_SIZE d) c.start_of.ensures)
    c.in-Ok-read_at.ensures.bytes
