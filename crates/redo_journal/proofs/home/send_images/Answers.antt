use Rattle.std.proofs.Common.{◌≤◌, ◌<◌, ◌+◌, ◌∷◌, List, ℕ, Option, drop, get_or, length, refl, ◌∙◌, ap, subst, arith, ◌≡◌, true, sym}
use Rattle.std.proofs.lemmas.List.{drop_more, drop_all}
use Rattle.std.proofs.lemmas.List.Elements.{All-get_or}
use Rattle.disk_trait.proofs.DiskSteps.{keeps_on}
use Rattle.page_image.specs.Pages.{PageParts}
use Rattle.redo_journal.specs.Homes.{home_start}
use Rattle.redo_journal.specs.Places.{has_place}
use Rattle.redo_journal.specs.Replays.{has_image}
use Rattle.redo_journal.specs.declared.places.ImagePlace.{ImagePlace}
use Rattle.redo_journal.proofs.HomeMoments.{unchanged}
use Rattle.redo_journal.proofs.HomeRuns.{ImagesLeft, images_start, images_next, images_end, images_change, copied_home}
use Rattle.redo_journal.proofs.home.send_images.Goals as goal
use Rattle.redo_journal.proofs.home.send_images.Goals.{then-not-has_page+in_ok-copy_image, else-not-has_page}
use Rattle.redo_journal.specs.declared.sizes.TheConstants.{HOMES_START, PAGE_SIZE}

pub loop-i-init : goal.loop-i-init
loop-i-init g c = record {
  images = λ file images told stand. (
    images_start c.args.places.now images file (g.D.Disk.content c.args.disk.now) told stand,
    unchanged g.D.Disk g.met.D.Disk.only_now (has_image images) c.args.disk.now,
  );
  keeps = record { size = refl; told = refl; later = omega arith };
  calm = refl;
}

abbrev place_at : List ImagePlace → ℕ → ImagePlace
place_at places i = get_or places i (record { page = 0; at = 0 })

next_left : (places : List ImagePlace) (i : ℕ) (images : List PageParts) (file : List ℕ) (content : Option (List ℕ)) → i < length places → ImagesLeft (drop i places) images file content
    → ImagesLeft (place_at places i ∷ drop (i + 1) places) images file content
next_left places i images file content lt l = subst (λ (x : List ImagePlace). ImagesLeft x images file content) (drop_more places i (record { page = 0; at = 0 }) lt) l

pub returns-in_err-copy_image-clause-homes : goal.returns-in_err-copy_image-clause-homes
returns-in_err-copy_image-clause-homes g c = λ file images told stand.
    let l = c.loop-i in
    let places = c.args.places.now in
    let lt = c.loop-i-test.true in
    let so_far = l.invariant.images file images told stand in
    let low = All-get_or (λ (place : ImagePlace). place.at + PAGE_SIZE ≤ HOMES_START) places l.i (record { page = 0; at = 0 }) lt c.requires.within in
    images_change g.D.Disk g.met.D.Disk.counts_now (place_at places l.i) (drop (l.i + 1) places) images file c.home_of.result
    c.args.disk.now l.disk c.copy_image.new.disk (next_left places l.i images file (g.D.Disk.content l.disk) lt so_far.0) low so_far.1 c.home_of.ensures c.copy_image.ensures.torn c.copy_image.ensures.any_moment

pub loop-i-preserved : goal.loop-i-preserved
loop-i-preserved g c =
    let l = c.loop-i in
    let places = c.args.places.now in
    let lt = c.loop-i-test.true in
    let place = place_at places l.i in
    let low = All-get_or (λ (q : ImagePlace). q.at + PAGE_SIZE ≤ HOMES_START) places l.i (record { page = 0; at = 0 }) lt c.requires.within in
    let fits = All-get_or (λ (q : ImagePlace). home_start q.page + PAGE_SIZE ≤ g.D.Disk.size c.args.disk.now) places l.i (record { page = 0; at = 0 }) lt c.requires.homes in
    elim c.if-not-has_page.branch [
      | then-not-has_page+in_ok-copy_image w ↦
          rw w.disk-is (record {
            images = λ file images told stand.
                let so_far = l.invariant.images file images told stand in
                let left = next_left places l.i images file (g.D.Disk.content l.disk) lt so_far.0 in
                let next = images_next images file (g.D.Disk.content l.disk) place (drop (l.i + 1) places) left low in
                let long = g.met.D.Disk.told_whole l.disk next.file next.told in
                let same = l.invariant.keeps.size in
                let home = copied_home next.image place.at w.home_of.result next.file (g.D.Disk.content l.disk) (g.D.Disk.content w.copy_image.new.disk) w.in_ok-copy_image.ensures.copied next.told
                (w.home_of.ensures ∙ ap home_start next.page) next.reads (omega (arith, low, fits, long, same)) (omega (arith, w.home_of.ensures, fits, long, same)) in (
                  next.goes_on (g.D.Disk.content w.copy_image.new.disk) home,
                  images_change g.D.Disk g.met.D.Disk.counts_now place (drop (l.i + 1) places) images file w.home_of.result
                      c.args.disk.now l.disk w.copy_image.new.disk left low so_far.1 w.home_of.ensures w.copy_image.ensures.torn w.copy_image.ensures.any_moment,
                );
            keeps = keeps_on g.D.Disk _ _ _ l.invariant.keeps w.copy_image.ensures.keeps;
            calm = w.in_ok-copy_image.ensures.calm ∙ l.invariant.calm;
          })
      | else-not-has_page w ↦
          let later : has_place (drop (l.i + 1) places) place.page ≡ true =
          ap (λ (q : List ImagePlace). has_place q place.page) (sym c.split_at.ensures.back) ∙ sym c.has_page.ensures ∙ w.if-not-has_page.false in
          rw w.disk-is (record {
            images = λ file images told stand.
                let so_far = l.invariant.images file images told stand in
                let left = next_left places l.i images file (g.D.Disk.content l.disk) lt so_far.0 in
                ((images_next images file (g.D.Disk.content l.disk) place (drop (l.i + 1) places) left low).skipped later, so_far.1);
            keeps = l.invariant.keeps;
            calm = l.invariant.calm;
          })
    ]

pub returns-clause-sent : goal.returns-clause-sent
returns-clause-sent g c = λ file images told stand.
    let l = c.loop-i in
    images_end images file (g.D.Disk.content l.disk) (drop l.i c.args.places.now) (l.invariant.images file images told stand).0 (drop_all l.i c.args.places.now c.loop-i-test.false)
