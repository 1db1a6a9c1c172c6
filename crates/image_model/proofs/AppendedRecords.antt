-- Appending a record: at any moment the file stands for the state before or the state after.
use Rattle.std.proofs.Common.{◌≡◌, ℕ, ◌+◌, ◌<◌, ◌≤◌, List, [], ◌∷◌, ◌++◌, length, take, Result, Ok, sym, ◌∙◌, ap, subst, arith, ◌⊎◌, inl, inr}
use Rattle.disk_trait.specs.Disk.{Torn}
use Rattle.object_graph.specs.Slots.{below}
use Rattle.redo_journal.specs.Area.{Contents, AreaHolds, HoldsBeforeOrAfter, area_start}
use Rattle.redo_journal.specs.declared.sizes.TheConstants.{AREA_SIZE}
use Rattle.redo_journal.specs.Homes.{home_of, store_size}
use Rattle.redo_journal.specs.Journals.{JournalParts, IsAppendedOrNot, IsAppended, appended}
use Rattle.redo_journal.specs.Record.{RecordParts, grammar}
use Rattle.redo_journal.specs.Replays.{images_in, last_image}
use Rattle.redo_journal.specs.Walk.{weights}
use Rattle.store_model.specs.States.{State}
use Rattle.image_model.specs.Super.{SuperParts, super_at, super_size}
use Rattle.image_model.specs.Opening.{final_at, active_of, counted_of}
use Rattle.image_model.specs.Stands.{StandsFor, IsJournalOf}
use Rattle.image_model.specs.Records.{IsAfterRecord}
use Rattle.image_model.proofs.Openings.{Opens, opens_parts, each_ok, home_same, front_same, home_behind, area_below, unsome, counted_is}
use Rattle.image_model.proofs.RecordSteps.{opens_more, with_record}
use Rattle.image_model.proofs.Standing.{stands_as, stands_after, standing_pages}

abbrev contents_as : ℕ → List RecordParts → Contents RecordParts
contents_as base records = record { base = base; records = records }

abbrev read_as : Contents RecordParts → Result (Contents RecordParts) ℕ
read_as held = Ok held

unread : (x y : Contents RecordParts) → read_as x ≡ read_as y → x ≡ y
unread x y e = cc

-- the super block of a journal's store
abbrev pub super_for : JournalParts → SuperParts
super_for journal = record { pages = journal.pages; area = journal.area }

-- the records of the store's journal are those that count
pub journal_counted : (journal : JournalParts) (records : List RecordParts) (file : List ℕ) → IsJournalOf journal records file → counted_of file ≡ records
journal_counted journal records file h = counted_is file (super_for journal) (contents_as journal.base records) h.active h.holds.holds.reads

-- what stays where an area is torn
pub record DiffersInArea (file other : List ℕ) : Type 0 where
  pub long : length other ≡ length file
  pub head : take super_size other ≡ take super_size file
  pub homes : (page : ℕ) → home_of page other ≡ home_of page file

pub torn_area : (area : ℕ) (file other : List ℕ) → area < 2 → Torn (area_start area) AREA_SIZE file other → DiffersInArea file other
torn_area area file other small torn = record {
  long = torn.same_length;
  head = front_same super_size (area_start area) other file (omega arith) torn.before;
  homes = λ page. home_behind page (area_start area + AREA_SIZE) other file (omega (arith, small)) torn.after;
}

module _ (file other : List ℕ) (pages : ℕ) (s : State) (journal : JournalParts) (records : List RecordParts) (h : StandsFor file pages s) (own : IsJournalOf journal records file) where
  opens : Opens file h.content
  opens = opens_parts file h.content h.store.opens

  super_same : super_for journal ≡ opens.super
  super_same = unsome (super_for journal) opens.super (sym own.active ∙ opens.head)

  pages_same : journal.pages ≡ pages
  pages_same = ap (λ (x : SuperParts). x.pages) super_same ∙ standing_pages file pages s h opens

  held_same : contents_as journal.base records ≡ opens.held
  held_same = unread (contents_as journal.base records) opens.held (sym own.holds.holds.reads ∙ ap (λ (x : SuperParts). active_of x file) super_same ∙ opens.active)

  commits_counted : s.commits ≡ journal.base + journal.commits
  commits_counted =
      let base : journal.base ≡ opens.held.base = ap (λ (x : Contents RecordParts). x.base) held_same in
      let weighed : weights (grammar journal.pages) records ≡ weights (grammar opens.super.pages) opens.held.records =
      ap (λ (x : SuperParts). weights (grammar x.pages) records) super_same ∙ ap (λ (x : Contents RecordParts). weights (grammar opens.super.pages) x.records) held_same in
      omega (arith, base, weighed, own.holds.commits, opens.counted, h.commits)

  small : journal.area < 2
  small = area_below file (super_for journal) own.active

  -- the other's active area, where it holds these records
  active_now : (now : List RecordParts) → AreaHolds (grammar journal.pages) journal.area journal.base now other → active_of opens.super other ≡ Ok (record { base = opens.held.base; records = now })
  active_now now holds =
      ap (λ (x : SuperParts). active_of x other) (sym super_same) ∙ holds.reads ∙ ap (λ (x : Contents RecordParts). read_as (contents_as x.base now)) held_same

  pub stands_still : Torn (area_start journal.area) AREA_SIZE file other → AreaHolds (grammar journal.pages) journal.area journal.base records other → StandsFor other pages s
  stands_still torn holds =
      let d = torn_area journal.area file other small torn in
      stands_as file other pages s h (record {
        super = opens.super;
        head = ap super_at d.head ∙ opens.head;
        long = subst (λ (n : ℕ). store_size opens.super.pages ≤ n) (sym d.long) opens.long;
        held = opens.held;
        active = active_now records holds ∙ ap (λ (x : Contents RecordParts). read_as (contents_as opens.held.base x.records)) held_same;
        finals = each_ok (final_at opens.held.records file) (final_at opens.held.records other) (below opens.super.pages) h.content.pages opens.finals (λ page p m e.
            home_same (last_image (images_in opens.held.records) page) page file other (λ none. d.homes page) ∙ e);
        counted = opens.counted;
      })

  pub stands_with : (t : State) (new : RecordParts) → IsAfterRecord pages new s t → Torn (area_start journal.area) AREA_SIZE file other
      → AreaHolds (grammar journal.pages) journal.area journal.base (records ++ new ∷ []) other → StandsFor other pages t
  stands_with t new after torn holds =
      let d = torn_area journal.area file other small torn in
      let more : Opens other (with_record opens.super.pages new h.content) =
      opens_more file other new h.content opens d.long (ap super_at d.head ∙ opens.head)
      (active_now (records ++ new ∷ []) holds ∙ ap (λ (x : Contents RecordParts). read_as (contents_as opens.held.base (x.records ++ new ∷ []))) held_same) d.homes in
      stands_after file other pages s t new h (subst (λ (n : ℕ). Opens other (with_record n new h.content)) (standing_pages file pages s h opens) more) after

  -- at any moment
  pub before_or_after : (t : State) (new : RecordParts) → IsAfterRecord pages new s t → IsAppendedOrNot journal records new file other → StandsFor other pages s ⊎ StandsFor other pages t
  before_or_after t new after left = by_area left.area
    where
      by_area : HoldsBeforeOrAfter (grammar journal.pages) journal.area journal.base records new other → StandsFor other pages s ⊎ StandsFor other pages t
      by_area (inl holds) = inl (stands_still left.elsewhere holds)
      by_area (inr holds) = inr (stands_with t new after left.elsewhere holds)

-- and in the end
pub record_counts : (file other : List ℕ) (pages : ℕ) (s t : State) (journal : JournalParts) (records : List RecordParts) (new : RecordParts) → StandsFor file pages s → IsJournalOf journal records file
    → IsAfterRecord pages new s t → IsAppended (appended new journal) records new file other → StandsFor other pages t
record_counts file other pages s t journal records new h own after now = stands_with file other pages s journal records h own t new after now.elsewhere now.area.holds

pub journal_counts : (file other : List ℕ) (journal : JournalParts) (records : List RecordParts) (new : RecordParts) → IsJournalOf journal records file → IsAppended (appended new journal) records new file other
    → IsJournalOf (appended new journal) (records ++ new ∷ []) other
journal_counts file other journal records new own now =
    let small : journal.area < 2 = area_below file (super_for journal) own.active in
    record {
      active = ap super_at (torn_area journal.area file other small now.elsewhere).head ∙ own.active;
      holds = now.area;
    }

-- at any moment, with the arguments in the law's order
pub record_or_not : (file other : List ℕ) (pages : ℕ) (s t : State) (journal : JournalParts) (records : List RecordParts) (new : RecordParts) → StandsFor file pages s → IsJournalOf journal records file
    → IsAfterRecord pages new s t → IsAppendedOrNot journal records new file other → StandsFor other pages s ⊎ StandsFor other pages t
record_or_not file other pages s t journal records new h own after left = before_or_after file other pages s journal records h own t new after left

-- the state has the commits that the journal counts
pub journal_parts : (file : List ℕ) (pages : ℕ) (s : State) (journal : JournalParts) (records : List RecordParts) → StandsFor file pages s → IsJournalOf journal records file → s.commits ≡ journal.base + journal.commits
journal_parts file pages s journal records h own = commits_counted file file pages s journal records h own
