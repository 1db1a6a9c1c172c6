use Rattle.std.proofs.Common.{◌≡◌, refl, sym, ap, ◌∙◌, subst, ℕ, map, string_bytes}
use Rattle.std.specs.Prelude.{Some}
use Rattle.store_run.specs.Made.{MadeBy}
use Rattle.store_run.specs.Generated.{Generated, GeneratedBy}
use Rattle.store_run.proofs.Asking.{nothing_asked, that_many, gen_no_run, gen_no_make, run_no_gen, make_no_gen, that_from}
use Rattle.store_run.proofs.GeneratedStores.{generated_whole, generated_no_usage, generated_no_read, generated_no_store, generated_no_damage, untold}
use Rattle.store_run.proofs.Completes.{completes}
use Rattle.cut_core.proofs.StoreFaults.{store_has_none}
use Rattle.store_run.proofs.Making.{made_whole, made_no_usage}
use Rattle.store_run.proofs.command.top.Goals as goal

pub returns-in-None-clause-ran : goal.returns-in-None-clause-ran
returns-in-None-clause-ran g c run = (nothing_asked (map string_bytes c.args.words.now) c.command_of.result c.in-None.is c.command_of.ensures.only).0 run

pub returns-in-None-clause-made : goal.returns-in-None-clause-made
returns-in-None-clause-made g c pages make = (nothing_asked (map string_bytes c.args.words.now) c.command_of.result c.in-None.is c.command_of.ensures.only).1 pages make

pub returns-in-None-clause-usage : goal.returns-in-None-clause-usage
returns-in-None-clause-usage g c = (λ _. nothing_asked (map string_bytes c.args.words.now) c.command_of.result c.in-None.is c.command_of.ensures.only, λ _. refl)

pub returns-in-None-clause-complete : goal.returns-in-None-clause-complete
returns-in-None-clause-complete g c script file store run told is_script kept is_store nr nw nf =
    absurd ((nothing_asked (map string_bytes c.args.words.now) c.command_of.result c.in-None.is c.command_of.ensures.only).0 run)

pub returns-in-None-clause-complete_make : goal.returns-in-None-clause-complete_make
returns-in-None-clause-complete_make g c pages make count long nf =
    absurd ((nothing_asked (map string_bytes c.args.words.now) c.command_of.result c.in-None.is c.command_of.ensures.only).1 pages make)

pub returns-in-Some-Run-clause-complete : goal.returns-in-Some-Run-clause-complete
returns-in-Some-Run-clause-complete g c script file store run told is_script kept is_store nr nw nf =
    completes g.D.Disk c.run.result.0 c.args.disk c.run.result.1
    (g.S.Source.left c.args.source.now) (g.S.Source.left c.run.new.source) (g.K.Sink.held c.args.sink.now) (g.K.Sink.held c.run.new.sink) _ script file
    (g.S.Source.faults c.args.source.now) (g.S.Source.faults c.run.new.source) (g.K.Sink.faults c.args.sink.now) (g.K.Sink.faults c.run.new.sink)
    c.run.ensures.ran c.run.ensures.read_fault c.run.ensures.write_fault c.run.ensures.disk_fault c.run.ensures.no_store c.run.ensures.damage
    told is_script kept (λ fault has. store_has_none file store fault is_store has) nr nw nf

pub returns-in-Some-Make-clause-made : goal.returns-in-Some-Make-clause-made
returns-in-Some-Make-clause-made g c pages make =
    subst (λ (n : ℕ). MadeBy c.make_store.result.0 n (g.D.Disk.size c.args.disk) (g.D.Disk.content c.make_store.result.1) (g.D.Disk.may_leave c.make_store.result.1))
    (sym (that_many (map string_bytes c.args.words.now) c.command_of.result c.in-Some-Make.pages pages (c.in-Some-Make.is ∙ ap Some c.in-Some-Make.field-0-is) c.command_of.ensures.only make)) c.make_store.ensures.made

pub returns-in-Some-Make-clause-usage : goal.returns-in-Some-Make-clause-usage
returns-in-Some-Make-clause-usage g c = (
  λ is. absurd (made_no_usage c.make_store.result.0 c.in-Some-Make.pages (g.D.Disk.size c.args.disk) (g.D.Disk.content c.make_store.result.1) (g.D.Disk.may_leave c.make_store.result.1) c.make_store.ensures.made is),
  λ no_words. absurd (no_words.1 c.in-Some-Make.pages (rw c.in-Some-Make.field-0-is at c.in-Some-Make.ensures.found)),
)

pub returns-in-Some-Make-clause-complete_make : goal.returns-in-Some-Make-clause-complete_make
returns-in-Some-Make-clause-complete_make g c pages make count long nf =
    let same = that_many (map string_bytes c.args.words.now) c.command_of.result c.in-Some-Make.pages pages (c.in-Some-Make.is ∙ ap Some c.in-Some-Make.field-0-is) c.command_of.ensures.only make in
    made_whole c.make_store.result.0 (g.D.Disk.size c.args.disk) pages (g.D.Disk.content c.make_store.result.1) (g.D.Disk.may_leave c.make_store.result.1)
    (g.D.Disk.fault_count c.args.disk) (g.D.Disk.fault_count c.make_store.result.1)
    (subst (λ (n : ℕ). MadeBy c.make_store.result.0 n (g.D.Disk.size c.args.disk) (g.D.Disk.content c.make_store.result.1) (g.D.Disk.may_leave c.make_store.result.1)) (sym same) c.make_store.ensures.made)
    c.make_store.ensures.disk_fault count long nf

-- ---- `gen`

pub generate_store-requires-after_bounds : goal.generate_store-requires-after_bounds
generate_store-requires-after_bounds g c κs within = (rw c.in-Some-Gen.field-0-is at c.in-Some-Gen.ensures.found).5

pub returns-in-None-clause-generated : goal.returns-in-None-clause-generated
returns-in-None-clause-generated g c from count gen = absurd ((nothing_asked (map string_bytes c.args.words.now) c.command_of.result c.in-None.is c.command_of.ensures.only).2 from count gen)

pub returns-in-None-clause-complete_gen : goal.returns-in-None-clause-complete_gen
returns-in-None-clause-complete_gen g c from count file gen told long nw nf = absurd ((nothing_asked (map string_bytes c.args.words.now) c.command_of.result c.in-None.is c.command_of.ensures.only).2 from count gen)

pub returns-in-Some-Run-clause-generated : goal.returns-in-Some-Run-clause-generated
returns-in-Some-Run-clause-generated g c from count gen = absurd (run_no_gen (map string_bytes c.args.words.now) c.command_of.result from count (c.in-Some-Run.is ∙ ap Some c.in-Some-Run.field-0-is) c.command_of.ensures.only gen)

pub returns-in-Some-Run-clause-gen_unread : goal.returns-in-Some-Run-clause-gen_unread
returns-in-Some-Run-clause-gen_unread g c from count gen = absurd (run_no_gen (map string_bytes c.args.words.now) c.command_of.result from count (c.in-Some-Run.is ∙ ap Some c.in-Some-Run.field-0-is) c.command_of.ensures.only gen)

pub returns-in-Some-Run-clause-gen_untouched : goal.returns-in-Some-Run-clause-gen_untouched
returns-in-Some-Run-clause-gen_untouched g c from count len need gen is = absurd (run_no_gen (map string_bytes c.args.words.now) c.command_of.result from count (c.in-Some-Run.is ∙ ap Some c.in-Some-Run.field-0-is) c.command_of.ensures.only gen)

pub returns-in-Some-Run-clause-calm_gen : goal.returns-in-Some-Run-clause-calm_gen
returns-in-Some-Run-clause-calm_gen g c from count gen done = absurd (run_no_gen (map string_bytes c.args.words.now) c.command_of.result from count (c.in-Some-Run.is ∙ ap Some c.in-Some-Run.field-0-is) c.command_of.ensures.only gen)

pub returns-in-Some-Run-clause-complete_gen : goal.returns-in-Some-Run-clause-complete_gen
returns-in-Some-Run-clause-complete_gen g c from count file gen told long nw nf = absurd (run_no_gen (map string_bytes c.args.words.now) c.command_of.result from count (c.in-Some-Run.is ∙ ap Some c.in-Some-Run.field-0-is) c.command_of.ensures.only gen)

pub returns-in-Some-Make-clause-generated : goal.returns-in-Some-Make-clause-generated
returns-in-Some-Make-clause-generated g c from count gen = absurd (make_no_gen (map string_bytes c.args.words.now) c.command_of.result from count c.in-Some-Make.pages (c.in-Some-Make.is ∙ ap Some c.in-Some-Make.field-0-is) c.command_of.ensures.only gen)

pub returns-in-Some-Make-clause-gen_untouched : goal.returns-in-Some-Make-clause-gen_untouched
returns-in-Some-Make-clause-gen_untouched g c from count len need gen is = absurd (make_no_gen (map string_bytes c.args.words.now) c.command_of.result from count c.in-Some-Make.pages (c.in-Some-Make.is ∙ ap Some c.in-Some-Make.field-0-is) c.command_of.ensures.only gen)

pub returns-in-Some-Make-clause-calm_gen : goal.returns-in-Some-Make-clause-calm_gen
returns-in-Some-Make-clause-calm_gen g c from count gen done = absurd (make_no_gen (map string_bytes c.args.words.now) c.command_of.result from count c.in-Some-Make.pages (c.in-Some-Make.is ∙ ap Some c.in-Some-Make.field-0-is) c.command_of.ensures.only gen)

pub returns-in-Some-Make-clause-complete_gen : goal.returns-in-Some-Make-clause-complete_gen
returns-in-Some-Make-clause-complete_gen g c from count file gen told long nw nf = absurd (make_no_gen (map string_bytes c.args.words.now) c.command_of.result from count c.in-Some-Make.pages (c.in-Some-Make.is ∙ ap Some c.in-Some-Make.field-0-is) c.command_of.ensures.only gen)

pub returns-in-Some-Gen-clause-ran : goal.returns-in-Some-Gen-clause-ran
returns-in-Some-Gen-clause-ran g c run = absurd (gen_no_run (map string_bytes c.args.words.now) c.command_of.result c.in-Some-Gen.from c.in-Some-Gen.count (c.in-Some-Gen.is ∙ ap Some c.in-Some-Gen.field-0-is) c.command_of.ensures.only run)

pub returns-in-Some-Gen-clause-made : goal.returns-in-Some-Gen-clause-made
returns-in-Some-Gen-clause-made g c pages make = absurd (gen_no_make (map string_bytes c.args.words.now) c.command_of.result c.in-Some-Gen.from c.in-Some-Gen.count pages (c.in-Some-Gen.is ∙ ap Some c.in-Some-Gen.field-0-is) c.command_of.ensures.only make)

pub returns-in-Some-Gen-clause-unwritten : goal.returns-in-Some-Gen-clause-unwritten
returns-in-Some-Gen-clause-unwritten g c pages make = absurd (gen_no_make (map string_bytes c.args.words.now) c.command_of.result c.in-Some-Gen.from c.in-Some-Gen.count pages (c.in-Some-Gen.is ∙ ap Some c.in-Some-Gen.field-0-is) c.command_of.ensures.only make)

pub returns-in-Some-Gen-clause-generated : goal.returns-in-Some-Gen-clause-generated
returns-in-Some-Gen-clause-generated g c from count gen =
    let same = that_from (map string_bytes c.args.words.now) c.command_of.result c.in-Some-Gen.from c.in-Some-Gen.count from count (c.in-Some-Gen.is ∙ ap Some c.in-Some-Gen.field-0-is) c.command_of.ensures.only gen in
    let P : ℕ → ℕ → Type 0 = λ a b. GeneratedBy c.generate_store.result.0 (g.D.Disk.size c.args.disk) (g.D.Disk.content c.args.disk)
    (Generated g.D.Disk c.generate_store.result.0 a b c.args.disk c.generate_store.result.1 (g.K.Sink.held c.args.sink.now) (g.K.Sink.held c.generate_store.new.sink))
    (c.generate_store.new.sink ≡ c.args.sink.now) in
    subst (λ (a : ℕ). P a count) (sym same.0) (subst (λ (b : ℕ). P c.in-Some-Gen.from b) (sym same.1) c.generate_store.ensures.generated)

pub returns-in-Some-Gen-clause-usage : goal.returns-in-Some-Gen-clause-usage
returns-in-Some-Gen-clause-usage g c = (
  λ is. absurd (generated_no_usage c.generate_store.result.0 (g.D.Disk.size c.args.disk) (g.D.Disk.content c.args.disk) _ _ c.generate_store.ensures.generated is),
  λ no_words. absurd (no_words.2 c.in-Some-Gen.from c.in-Some-Gen.count (rw c.in-Some-Gen.field-0-is at c.in-Some-Gen.ensures.found)),
)

pub returns-in-Some-Gen-clause-unused : goal.returns-in-Some-Gen-clause-unused
returns-in-Some-Gen-clause-unused g c is =
    absurd (generated_no_usage c.generate_store.result.0 (g.D.Disk.size c.args.disk) (g.D.Disk.content c.args.disk) _ _ c.generate_store.ensures.generated is)

pub returns-in-Some-Gen-clause-read_fault : goal.returns-in-Some-Gen-clause-read_fault
returns-in-Some-Gen-clause-read_fault g c is =
    absurd (generated_no_read c.generate_store.result.0 (g.D.Disk.size c.args.disk) (g.D.Disk.content c.args.disk) _ _ c.generate_store.ensures.generated is)

pub returns-in-Some-Gen-clause-no_store : goal.returns-in-Some-Gen-clause-no_store
returns-in-Some-Gen-clause-no_store g c is =
    untold (g.D.Disk.content c.args.disk) _ (generated_no_store c.generate_store.result.0 (g.D.Disk.size c.args.disk) (g.D.Disk.content c.args.disk) _ _ c.generate_store.ensures.generated is)

pub returns-in-Some-Gen-clause-damage : goal.returns-in-Some-Gen-clause-damage
returns-in-Some-Gen-clause-damage g c at is =
    untold (g.D.Disk.content c.args.disk) _ (generated_no_damage c.generate_store.result.0 (g.D.Disk.size c.args.disk) (g.D.Disk.content c.args.disk) _ _ at c.generate_store.ensures.generated is)

pub returns-in-Some-Gen-clause-calm_make : goal.returns-in-Some-Gen-clause-calm_make
returns-in-Some-Gen-clause-calm_make g c pages make done = absurd (gen_no_make (map string_bytes c.args.words.now) c.command_of.result c.in-Some-Gen.from c.in-Some-Gen.count pages (c.in-Some-Gen.is ∙ ap Some c.in-Some-Gen.field-0-is) c.command_of.ensures.only make)

pub returns-in-Some-Gen-clause-complete : goal.returns-in-Some-Gen-clause-complete
returns-in-Some-Gen-clause-complete g c script file store run told is_script kept is_store nr nw nf = absurd (gen_no_run (map string_bytes c.args.words.now) c.command_of.result c.in-Some-Gen.from c.in-Some-Gen.count (c.in-Some-Gen.is ∙ ap Some c.in-Some-Gen.field-0-is) c.command_of.ensures.only run)

pub returns-in-Some-Gen-clause-complete_make : goal.returns-in-Some-Gen-clause-complete_make
returns-in-Some-Gen-clause-complete_make g c pages make count long nf = absurd (gen_no_make (map string_bytes c.args.words.now) c.command_of.result c.in-Some-Gen.from c.in-Some-Gen.count pages (c.in-Some-Gen.is ∙ ap Some c.in-Some-Gen.field-0-is) c.command_of.ensures.only make)

pub returns-in-Some-Gen-clause-complete_gen : goal.returns-in-Some-Gen-clause-complete_gen
returns-in-Some-Gen-clause-complete_gen g c from count file gen told long nw nf =
    generated_whole c.generate_store.result.0 (g.D.Disk.size c.args.disk) (g.D.Disk.content c.args.disk) file _ _ (g.D.Disk.fault_count c.args.disk) (g.D.Disk.fault_count c.generate_store.result.1)
    (g.K.Sink.faults c.args.sink.now) (g.K.Sink.faults c.generate_store.new.sink) c.generate_store.ensures.generated told long c.generate_store.ensures.disk_fault c.generate_store.ensures.write_fault nf nw
