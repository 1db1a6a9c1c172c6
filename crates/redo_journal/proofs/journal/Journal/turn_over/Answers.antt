use Rattle.std.proofs.Common.{◌-◌, refl, ◌∙◌, ap, arith}
use Rattle.std.specs.Prelude.{option_map}
use Rattle.disk_trait.specs.Disk.{written}
use Rattle.redo_journal.specs.Journals.{JournalParts, staged_of}
use Rattle.redo_journal.specs.Sending.{empty_area}
use Rattle.redo_journal.proofs.Turning.{empty_stands_for}
use Rattle.redo_journal.proofs.journal.Journal.turn_over.Goals as goal

pub returns-clause-empty : goal.returns-clause-empty
returns-clause-empty g c = λ file told.
    let j = c.self.inside in
    let turned : JournalParts = record { area = 1 - j.area; pages = j.pages; base = c.args.commits; commits = 0; end = 8; places = c.clear.new.self.items; staged = staged_of j.kind j.images.items } in
    let long = g.met.D.Disk.told_whole c.args.disk.now file told in
    empty_stands_for turned c.start_of.result (g.D.Disk.content c.write_empty.new.disk) file c.requires.few refl refl c.clear.ensures.items c.start_of.ensures (omega (arith, long, c.requires.long))
    (c.in_ok-write_empty.ensures.written ∙ ap (option_map (written c.start_of.result (empty_area c.args.commits))) told)
