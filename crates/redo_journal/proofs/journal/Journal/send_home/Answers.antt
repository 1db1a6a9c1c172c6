use Rattle.std.proofs.Common.{◌≡◌, ℕ, List, Some, sym, ◌∙◌, ap, subst, arith}
use Rattle.std.specs.Prelude.{IsSomeAnd}
use Rattle.redo_journal.specs.Homes.{DiffersInHomes}
use Rattle.redo_journal.specs.Journals.{HoldsFor}
use Rattle.redo_journal.specs.Places.{StandAt}
use Rattle.redo_journal.specs.Record.{RecordParts}
use Rattle.redo_journal.specs.Replays.{is_named, images_in}
use Rattle.redo_journal.specs.declared.places.ImagePlace.{ImagePlace}
use Rattle.redo_journal.proofs.HomeMoments.{ok_more, some_more, from_only}
use Rattle.redo_journal.proofs.HomeWalks.{counted_stand, holds_still, own_still}
use Rattle.redo_journal.proofs.journal.Journal.send_home.Goals as goal

-- the images stand where the journal knows them
stand : (g : _) (c : goal.After-send_and_sync g) (file : List ℕ) (records : List RecordParts) → HoldsFor c.args.self.now records file → StandAt c.deref.result.now (images_in records) file
stand g c file records holds =
    subst (λ (l : List ImagePlace). StandAt l (images_in records) file) (sym (c.deref.ensures.value ∙ ap (λ j. j.places) c.self.view_is)) (counted_stand c.args.self.now records file holds)

pub returns-clause-sent : goal.returns-clause-sent
returns-clause-sent g c =
    ok_more c.send_and_sync.result _ _ (λ sent file records told holds. sent file (images_in records) told (stand g c file records holds)) c.send_and_sync.ensures.sent

pub returns-clause-elsewhere : goal.returns-clause-elsewhere
returns-clause-elsewhere g c = λ file records told holds. (c.send_and_sync.ensures.homes file (images_in records) told (stand g c file records holds)).told file told

pub returns-clause-any_moment : goal.returns-clause-any_moment
returns-clause-any_moment g c = λ file records told only holds.
    from_only g.D.Disk (is_named records) c.args.disk.now c.send_and_sync.new.disk file only
    (c.send_and_sync.ensures.homes file (images_in records) told (stand g c file records holds))

-- the area reads the same
area_still : (g : _) (c : goal.After-send_and_sync g) (file : List ℕ) (records : List RecordParts) → g.D.Disk.content c.args.disk.now ≡ Some file → HoldsFor c.args.self.now records file
    → IsSomeAnd (g.D.Disk.content c.send_and_sync.new.disk) (HoldsFor c.args.self.now records)
area_still g c file records told holds =
    some_more (g.D.Disk.content c.send_and_sync.new.disk) (DiffersInHomes (is_named records) file) (HoldsFor c.args.self.now records)
    (λ f differs. holds_still c.args.self.now records (is_named records) file f (omega (arith, ap (λ j. j.area) c.self.view_is, c.self.invariant.0.area)) differs holds)
    ((c.send_and_sync.ensures.homes file (images_in records) told (stand g c file records holds)).told file told)

pub returns-clause-area : goal.returns-clause-area
returns-clause-area g c = area_still g c

pub returns-clause-own : goal.returns-clause-own
returns-clause-own g c =
    own_still c.args.self.now (g.D.Disk.content c.args.disk.now) (g.D.Disk.content c.send_and_sync.new.disk) c.send_and_sync.ensures.keeps.told c.requires.own (area_still g c)
