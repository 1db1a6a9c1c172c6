-- The files that a checkpoint leaves on its way.
use Rattle.std.proofs.Common.{◌≡◌, ℕ, ◌+◌, ◌-◌, ◌%◌, ◌<◌, ◌≤◌, ◌==◌, Bool, cond, List, [], ◌∷◌, length, get_or, take, drop, Option, Some, None, Result, Ok, Err, refl, sym, ◌∙◌, ap, subst, arith}
use Rattle.std.proofs.lemmas.Bool.{eq-eqb}
use Rattle.std.proofs.lemmas.List.{get_or-take, get_or_at, length-take-le, append_assoc}
use Rattle.disk_trait.specs.Disk.{written, Torn}
use Rattle.disk_trait.specs.NoteLaws.{torn_written}
use Rattle.page_image.specs.Pages.{PageParts}
use Rattle.redo_journal.specs.Area.{AreaHolds, area_start, read_area}
use Rattle.redo_journal.specs.declared.sizes.TheConstants.{AREA_SIZE}
use Rattle.redo_journal.specs.Homes.{DiffersInHomes, AreSentHome, home_start, home_of}
use Rattle.redo_journal.specs.Journals.{JournalParts, HoldsFor}
use Rattle.redo_journal.specs.Record.{RecordParts, grammar}
use Rattle.redo_journal.specs.Replays.{images_in, last_image, is_named}
use Rattle.redo_journal.specs.Results.{◌>>=◌}
use Rattle.redo_journal.specs.Sending.{turned_over}
use Rattle.redo_journal.proofs.HomeBytes.{same_front}
use Rattle.redo_journal.proofs.HomeWalks.{holds_still}
use Rattle.store_model.specs.States.{State}
use Rattle.image_model.specs.Super.{SuperParts, super_at, super_of, super_size, switch_place}
use Rattle.image_model.specs.Opening.{home_at, or_home, final_at, counted_of}
use Rattle.image_model.specs.Stands.{StandsFor, IsJournalOf}
use Rattle.image_model.specs.Files.{IsReadyToSwitch}
use Rattle.image_model.proofs.Openings.{ok, area_below, front_same, behind_same, home_behind}
use Rattle.image_model.proofs.RecordSteps.{last_has, unplace}
use Rattle.image_model.proofs.Standing.{homes_named_are_free, other_area_is_free, area_kept}
use Rattle.image_model.proofs.Switching.{switched, switch_is_same}
use Rattle.image_model.proofs.AppendedRecords.{super_for, journal_counted, journal_parts}

-- ---- the journal of the store on the way

-- while its images are sent home
pub own_sent : (journal : JournalParts) (records : List RecordParts) (file other : List ℕ) → IsJournalOf journal records file → DiffersInHomes (is_named records) file other → IsJournalOf journal records other
own_sent journal records file other own d =
    let small = area_below file (super_for journal) own.active in
    record {
      active = ap super_at (same_front (is_named records) file other 0 super_size d (omega arith)) ∙ own.active;
      holds = holds_still journal records (is_named records) file other small d own.holds;
    }

-- while the other area is made empty
pub own_beside : (journal : JournalParts) (records : List RecordParts) (size : ℕ) (file other : List ℕ) → IsJournalOf journal records file → size ≤ AREA_SIZE → Torn (area_start (1 - journal.area)) size file other → IsJournalOf journal records other
own_beside journal records size file other own few torn =
    let small = area_below file (super_for journal) own.active in
    record {
      active = ap super_at (front_same super_size (area_start (1 - journal.area)) other file (omega arith) torn.before) ∙ own.active;
      holds = record {
        holds = record {
          long = subst (λ (n : ℕ). area_start journal.area + AREA_SIZE ≤ n) (sym torn.same_length) own.holds.holds.long;
          reads = ap (read_area (grammar journal.pages) (area_start journal.area)) (area_kept journal.area size file other small few torn) ∙ own.holds.holds.reads;
        };
        end = own.holds.end;
        commits = own.holds.commits;
        places = own.holds.places;
      };
    }

-- the switch byte as it is written
switch_byte : (area : ℕ) (file : List ℕ) → area < 2 → 513 ≤ length file → get_or (take super_size (written switch_place (area ∷ []) file)) 512 0 % 2 ≡ area
switch_byte area file small long =
    let front : length (take 512 file) ≡ 512 = length-take-le 512 file (omega (arith, long)) in
    let is : get_or (take super_size (written switch_place (area ∷ []) file)) 512 0 ≡ area =
    get_or-take super_size (written switch_place (area ∷ []) file) 512 0 (omega arith)
    ∙ ap (λ (l : List ℕ). get_or l 512 0) (append_assoc (take 512 file) (area ∷ []) (drop 513 file))
    ∙ get_or_at (take 512 file) area (drop 513 file) 0 512 front in
    ap (λ (n : ℕ). n % 2) is ∙ omega (arith, small)

-- once the switch byte is written the other area is the active one
pub own_switched : (journal : JournalParts) (records : List RecordParts) (file : List ℕ) (area : ℕ) → super_of file ≡ Some (record { pages = journal.pages; area = area }) → HoldsFor journal records file → journal.area < 2
    → IsJournalOf journal records (written switch_place (journal.area ∷ []) file)
own_switched journal records file area head holds small =
    let enough : 513 ≤ length file = omega (arith, holds.holds.long) in
    let new : List ℕ = written switch_place (journal.area ∷ []) file in
    let torn : Torn switch_place 1 file new = torn_written switch_place (journal.area ∷ []) file (omega (arith, enough)) in
    record {
      active = switched file new (record { pages = journal.pages; area = area }) head torn
          ∙ ap (λ (a : ℕ). let x : Option SuperParts = Some (record { pages = journal.pages; area = a }) in x) (switch_byte journal.area file small enough);
      holds = record {
        holds = record {
          long = subst (λ (n : ℕ). area_start journal.area + AREA_SIZE ≤ n) (sym torn.same_length) holds.holds.long;
          reads = ap (λ (l : List ℕ). read_area (grammar journal.pages) (area_start journal.area) (take AREA_SIZE l)) (behind_same 513 (area_start journal.area) new file (omega arith) torn.after) ∙ holds.holds.reads;
        };
        end = holds.end;
        commits = holds.commits;
        places = holds.places;
      };
    }

-- ---- what the file stands for on the way

module _ (journal : JournalParts) (records : List RecordParts) (first : List ℕ) (pages : ℕ) (s : State) (h : StandsFor first pages s) (own : IsJournalOf journal records first) where
  -- while images are sent home
  pub stands_sent : (file : List ℕ) → DiffersInHomes (is_named records) first file → StandsFor file pages s
  stands_sent file d = homes_named_are_free first file pages s h (subst (λ (rs : List RecordParts). DiffersInHomes (is_named rs) first file) (sym (journal_counted journal records first own)) d)

  module _ (sent : List ℕ) (home : AreSentHome records first sent) where
    -- while the other area is made empty
    pub stands_beside : (file : List ℕ) → Torn (area_start (1 - journal.area)) 9 sent file → StandsFor file pages s
    stands_beside file torn =
        other_area_is_free sent file pages 9 s (super_for journal) (stands_sent sent home.elsewhere) (own_sent journal records first sent own home.elsewhere).active (omega arith) torn

    module _ (commits : ℕ) (counted : commits ≡ journal.base + journal.commits) (ready : List ℕ) (torn : Torn (area_start (1 - journal.area)) 9 sent ready) (empty : HoldsFor (turned_over commits journal) [] ready) where
      beside : IsJournalOf journal records ready
      beside = own_beside journal records 9 sent ready (own_sent journal records first sent own home.elsewhere) (omega arith) torn

      abbrev image_as : PageParts → Option PageParts
      image_as p = Some p

      -- each home has the final image of its page
      final_home : (page : ℕ) (p : PageParts) → final_at (counted_of ready) ready page ≡ Ok p → home_at page (home_of page ready) ≡ Ok p
      final_home page p final =
          by_image (last_image (images_in records) page) refl (ap (λ (rs : List RecordParts). final_at rs ready page) (sym (journal_counted journal records ready beside)) ∙ final)
        where
          same : home_of page ready ≡ home_of page sent
          same = home_behind page (area_start (1 - journal.area) + 9) ready sent (omega arith) torn.after

          read_home : (q : PageParts) → last_image (images_in records) page ≡ Some q → home_at page (home_of page ready) ≡ Ok q
          read_home q is =
              let number = (last_has (λ (x : PageParts). Unit {0}) (images_in records) page q (λ x i. tt) is).0 in
              ap (home_at page) same ∙ ap (λ (r : Result PageParts ℕ). r >>= λ (x : PageParts). cond (x.number == page) (ok x) (Err 4)) (home.homes page q is)
              ∙ ap (λ (b : Bool). let x : Result PageParts ℕ = cond b (ok q) (Err 4) in x) (eq-eqb q.number page number)

          by_image : (image : Option PageParts) → last_image (images_in records) page ≡ image → or_home (last_image (images_in records) page) page ready ≡ Ok p → home_at page (home_of page ready) ≡ Ok p
          by_image None is e = unplace (home_start page) (home_at page (home_of page ready)) p (ap (λ (image : Option PageParts). or_home image page ready) (sym is) ∙ e)
          by_image (Some q) is e =
              let found : ok q ≡ ok p = ap (λ (image : Option PageParts). or_home image page ready) (sym is) ∙ e in
              read_home q is ∙ found

      commits_are : commits ≡ s.commits
      commits_are = omega (arith, counted, journal_parts first pages s journal records h own)

      is_ready : IsReadyToSwitch (super_for journal) s.commits ready
      is_ready = record {
        head = beside.active;
        other = subst (λ (n : ℕ). AreaHolds (grammar journal.pages) (1 - journal.area) n [] ready) commits_are empty.holds;
        homes = λ page p lt final. final_home page p final;
      }

      -- while the switch byte is written
      pub stands_switching : (file : List ℕ) → Torn switch_place 1 ready file → StandsFor file pages s
      stands_switching file torn_switch = switch_is_same ready file pages s (super_for journal) (stands_beside ready torn) is_ready torn_switch
