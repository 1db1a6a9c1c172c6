use Rattle.std.proofs.Common.{◌≡◌, refl, sym, ap, subst, ◌∙◌, ◌<◌, ℕ, List}
use Rattle.std.specs.Prelude.{Err, IfSome, IsTrue, not}
use Rattle.redo_journal.specs.Homes.{store_size}
use Rattle.image_model.specs.Super.{is_page_count}
use Rattle.image_model.specs.Files.{fresh_pages}
use Rattle.image_model.specs.Stands.{opened_world}
use Rattle.store_model.specs.Worlds.{fresh_world}
use Rattle.store_run.specs.declared.status.Status.{Status}
use Rattle.store_run.specs.Generated.{Generated, GeneratedBy}
use Rattle.store_run.proofs.GeneratedStores.{making_refused, making_short, opening_refused, opening_not_short, rounds_generated, rounds_not_short}
use Rattle.store_run.proofs.generating.generate_store.Goals as goal

pub returns-in-Err-clause-generated : goal.returns-in-Err-clause-generated
returns-in-Err-clause-generated g c =
    subst (λ (s : Status). GeneratedBy s (g.D.Disk.size c.args.disk) (g.D.Disk.content c.args.disk)
    (Generated g.D.Disk s c.args.from c.args.count c.args.disk c.make.new.disk (g.K.Sink.held c.args.sink.now) (g.K.Sink.held c.args.sink.now)) (c.args.sink.now ≡ c.args.sink.now))
    (sym c.unmade.ensures)
    (making_refused c.in-Err.fault (g.D.Disk.size c.args.disk) (g.D.Disk.content c.args.disk) _ _ refl
    (λ pages e. subst (λ (n : ℕ). (pages ≡ n) × IsTrue (not (is_page_count n))) c.from.ensures ((c.make.ensures.bad pages).0 (c.in-Err.is ∙ ap Err e)))
    (λ len need e. subst (λ (n : ℕ). (len ≡ g.D.Disk.size c.args.disk) × (need ≡ store_size n) × IsTrue (is_page_count n) × (len < need)) c.from.ensures
    ((c.make.ensures.short len need).0 (c.in-Err.is ∙ ap Err e))))

pub returns-in-Ok-start-clause-generated : goal.returns-in-Ok-start-clause-generated
returns-in-Ok-start-clause-generated g c =
    rounds_generated g.D.Disk c.make_rounds.result.0 c.args.from c.args.count c.args.disk c.make.new.disk c.in-Ok-start.core c.make_rounds.result.1
    (g.K.Sink.held c.args.sink.now) (g.K.Sink.held c.make_rounds.new.sink) _ c.make.ensures.keeps c.in_default.ensures.calm
    (subst (λ (n : ℕ). IfSome (g.D.Disk.content c.make.new.disk) (λ (file : List ℕ). opened_world file ≡ fresh_world n)) c.from.ensures c.in_default.ensures.fresh)
    c.in-Ok-start.ensures.world c.in-Ok-start.ensures.just_opened c.in-Ok-start.ensures.content c.in-Ok-start.ensures.keeps c.make_rounds.ensures.made

pub returns-clause-generated : goal.returns-clause-generated
returns-clause-generated g c =
    subst (λ (s : Status). GeneratedBy s (g.D.Disk.size c.args.disk) (g.D.Disk.content c.args.disk)
    (Generated g.D.Disk s c.args.from c.args.count c.args.disk c.in-Err-start.disk (g.K.Sink.held c.args.sink.now) (g.K.Sink.held c.args.sink.now)) (c.args.sink.now ≡ c.args.sink.now))
    (sym c.refused.ensures)
    (opening_refused c.in-Err-start.fault (g.D.Disk.size c.args.disk) (g.D.Disk.content c.args.disk) (g.D.Disk.content c.make.new.disk) (record { commits = 0; pages = fresh_pages c.from.result }) _ _ refl
    c.make.ensures.keeps.told c.in_default.ensures.store
    (λ e. c.in-Err-start.ensures.none c.in-Err-start.disk (ap (λ f. Err (c.in-Err-start.disk, f)) e))
    (λ at e. c.in-Err-start.ensures.bad c.in-Err-start.disk at (ap (λ f. Err (c.in-Err-start.disk, f)) e)))

pub returns-in-Err-clause-untouched : goal.returns-in-Err-clause-untouched
returns-in-Err-clause-untouched g c len need is = c.in-Err.ensures.untouched (making_short c.in-Err.fault len need (sym c.unmade.ensures ∙ is))

pub returns-in-Ok-start-clause-untouched : goal.returns-in-Ok-start-clause-untouched
returns-in-Ok-start-clause-untouched g c len need is =
    absurd (rounds_not_short g.D.Disk c.make_rounds.result.0 c.args.from c.args.count c.in-Ok-start.core c.make_rounds.result.1
    (g.K.Sink.held c.args.sink.now) (g.K.Sink.held c.make_rounds.new.sink) len need c.make_rounds.ensures.made is)

pub returns-clause-untouched : goal.returns-clause-untouched
returns-clause-untouched g c len need is = absurd (opening_not_short c.in-Err-start.fault len need (sym c.refused.ensures ∙ is))
