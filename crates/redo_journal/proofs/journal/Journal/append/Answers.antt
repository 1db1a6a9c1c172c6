use Rattle.std.proofs.Common.{◌≡◌, None, Some, ℕ, List, ◌+◌, ◌++◌, ◌≤◌, ◌^◌, refl, sym, ◌∙◌, ◌<◌, length, ap, subst, arith}
use Rattle.std.specs.Prelude.{Option, option_map, IfSome, IsSomeAnd}
use Rattle.std.proofs.lemmas.List.{with_items_is}
use Rattle.std.proofs.lemmas.Option.{same_Some}
use Rattle.page_image.specs.Pages.{PageParts}
use Rattle.redo_journal.specs.Area.{area_start}
use Rattle.redo_journal.specs.Gated.{TornBehind, behind_open}
use Rattle.redo_journal.specs.Journals.{JournalParts, IsJournal, IsAppendedOrNot, IsAppended, appended, staged_of, need_of}
use Rattle.redo_journal.specs.Places.{places_of}
use Rattle.redo_journal.specs.Record.{RecordParts, IsRecordOf, spelled_with_gate, size_of, commits_of}
use Rattle.redo_journal.specs.declared.places.ImagePlace.{ImagePlace}
use Rattle.redo_journal.specs.declared.kind.Kind.{Kind}
use Rattle.redo_journal.specs.declared.kind.Kind.TheVariants.{Commit}
use Rattle.redo_journal.proofs.Appending.{meanwhile, as_before, afterwards, ready, IsReady, still_journal}
use Rattle.disk_trait.proofs.DiskSteps.{started, weaker}
use Rattle.redo_journal.specs.declared.sizes.TheConstants.{AREA_SIZE, FRAME_SIZE}
use Rattle.object_graph.specs.declared.limits.TheConstants.{MOST_COUNTED}
use Rattle.redo_journal.proofs.journal.Journal.append.Goals as goal

pub returns-then-left-need-clause-any_moment : goal.returns-then-left-need-clause-any_moment
returns-then-left-need-clause-any_moment g c file rs new told only holds staged =
    let j : JournalParts = c.args.self.now in
    started g.D.Disk c.args.disk.now (IsAppendedOrNot j rs new file)
    (λ f left. subst (λ (x : List ℕ). IsAppendedOrNot j rs new file x) (sym (only f (g.met.D.Disk.only_now c.args.disk.now f left))) (as_before j rs new file holds))

-- the record that the journal has staged
staged_is : (j k : JournalParts) (kind : Option Kind) (some : Kind) (images seen : List PageParts) → k ≡ j → k.staged ≡ staged_of kind images → kind ≡ Some some → seen ≡ images → j.staged ≡ Some (record { kind = some; images = seen })
staged_is j k kind some images seen view is kind_is seen_is =
    ap (λ (x : JournalParts). x.staged) (sym view) ∙ is ∙ ap (λ (x : Option Kind). staged_of x images) kind_is ∙ ap (λ (xs : List PageParts). Some (record { kind = some; images = xs })) (sym seen_is)

-- the journal after it
after_is : (area pages base commits end counted need : ℕ) (places noted : List ImagePlace) (o : Option RecordParts) (j : JournalParts) (new : RecordParts) → record { area = area; pages = pages; base = base; commits = commits; end = end; places = places; staged = o } ≡ j → counted ≡ commits_of new.kind → need ≡ size_of new
    → noted ≡ places ++ places_of (area_start area + end + FRAME_SIZE) new.images
    → appended new j ≡ record { area = area; pages = pages; base = base; commits = commits + counted; end = end + need; places = noted; staged = None }
after_is area pages base commits end counted need places noted o j new view counted_is need_is noted_is =
    ap (λ (x : JournalParts). appended new x) (sym view)
    ∙ ap (λ (n : ℕ). let x : JournalParts = record { area = area; pages = pages; base = base; commits = commits + n; end = end + size_of new; places = places ++ places_of (area_start area + end + FRAME_SIZE) new.images; staged = None } in x) (sym counted_is)
    ∙ ap (λ (n : ℕ). let x : JournalParts = record { area = area; pages = pages; base = base; commits = commits + counted; end = end + n; places = places ++ places_of (area_start area + end + FRAME_SIZE) new.images; staged = None } in x) (sym need_is)
    ∙ ap (λ (l : List ImagePlace). let x : JournalParts = record { area = area; pages = pages; base = base; commits = commits + counted; end = end + need; places = l; staged = None } in x) (sym noted_is)

pub returns-in_err-write_record-clause-any_moment : goal.returns-in_err-write_record-clause-any_moment
returns-in_err-write_record-clause-any_moment g c file rs new told only holds staged =
    let j : JournalParts = c.args.self.now in
    let i = c.self.inside in
    let view : record { area = i.area; pages = i.pages; base = i.base; commits = i.commits; end = i.end; places = i.places.items; staged = staged_of i.kind i.images.items } ≡ j = c.self.view_is in
    let r : RecordParts = record { kind = c.in-Some.kind; images = c.deref.result.now } in
    let is : j.staged ≡ Some r = staged_is j _ i.kind c.in-Some.kind i.images.items c.deref.result.now view refl c.in-Some.is c.deref.ensures.value in
    let small : j.pages ≤ 2 ^ 32 = omega (arith, ap (λ (x : JournalParts). x.pages) view, c.self.ranges.1) in
    let here : IsReady j new (spelled_with_gate r) = ready j new r c.need-need.result c.left-left.result (subst (λ (x : JournalParts). IsJournal x) view c.self.invariant.0) small staged is c.requires.staged c.requires.unspent c.write_record.ensures.again c.need-need.ensures c.left-left.ensures c.if-left-need.false in
    let gate_is : c.start_of.result + i.end ≡ area_start j.area + j.end = ap (λ (n : ℕ). n + i.end) c.start_of.ensures ∙ ap (λ (x : JournalParts). area_start x.area + x.end) view in
    weaker g.D.Disk c.args.disk.now c.write_record.new.disk (TornBehind (c.start_of.result + i.end) (spelled_with_gate r) file) (IsAppendedOrNot j rs new file)
    (λ f torn. meanwhile j rs new file holds (spelled_with_gate r) here.staged here.room f (subst (λ (n : ℕ). TornBehind n (spelled_with_gate r) file f) gate_is torn))
    (c.write_record.ensures.any_moment file told only)

pub returns-clause-any_moment : goal.returns-clause-any_moment
returns-clause-any_moment g c file rs new told only holds staged =
    let j : JournalParts = c.args.self.now in
    let i = c.self.inside in
    let view : record { area = i.area; pages = i.pages; base = i.base; commits = i.commits; end = i.end; places = i.places.items; staged = staged_of i.kind i.images.items } ≡ j = c.self.view_is in
    let r : RecordParts = record { kind = c.in-Some.kind; images = c.deref.result.now } in
    let is : j.staged ≡ Some r = staged_is j _ i.kind c.in-Some.kind i.images.items c.deref.result.now view refl c.in-Some.is c.deref.ensures.value in
    let small : j.pages ≤ 2 ^ 32 = omega (arith, ap (λ (x : JournalParts). x.pages) view, c.self.ranges.1) in
    let here : IsReady j new (spelled_with_gate r) = ready j new r c.need-need.result c.left-left.result (subst (λ (x : JournalParts). IsJournal x) view c.self.invariant.0) small staged is c.requires.staged c.requires.unspent c.write_record.ensures.again c.need-need.ensures c.left-left.ensures c.if-left-need.false in
    let gate_is : c.start_of.result + i.end ≡ area_start j.area + j.end = ap (λ (n : ℕ). n + i.end) c.start_of.ensures ∙ ap (λ (x : JournalParts). area_start x.area + x.end) view in
    weaker g.D.Disk c.args.disk.now c.write_record.new.disk (TornBehind (c.start_of.result + i.end) (spelled_with_gate r) file) (IsAppendedOrNot j rs new file)
    (λ f torn. meanwhile j rs new file holds (spelled_with_gate r) here.staged here.room f (subst (λ (n : ℕ). TornBehind n (spelled_with_gate r) file f) gate_is torn))
    (c.write_record.ensures.any_moment file told only)

pub returns-clause-acknowledged : goal.returns-clause-acknowledged
returns-clause-acknowledged g c file rs new told holds staged =
    let j : JournalParts = c.args.self.now in
    let i = c.self.inside in
    let view : record { area = i.area; pages = i.pages; base = i.base; commits = i.commits; end = i.end; places = i.places.items; staged = staged_of i.kind i.images.items } ≡ j = c.self.view_is in
    let r : RecordParts = record { kind = c.in-Some.kind; images = c.deref.result.now } in
    let is : j.staged ≡ Some r = staged_is j _ i.kind c.in-Some.kind i.images.items c.deref.result.now view refl c.in-Some.is c.deref.ensures.value in
    let small : j.pages ≤ 2 ^ 32 = omega (arith, ap (λ (x : JournalParts). x.pages) view, c.self.ranges.1) in
    let here : IsReady j new (spelled_with_gate r) = ready j new r c.need-need.result c.left-left.result (subst (λ (x : JournalParts). IsJournal x) view c.self.invariant.0) small staged is c.requires.staged c.requires.unspent c.write_record.ensures.again c.need-need.ensures c.left-left.ensures c.if-left-need.false in
    let gate_is : c.start_of.result + i.end ≡ area_start j.area + j.end = ap (λ (n : ℕ). n + i.end) c.start_of.ensures ∙ ap (λ (x : JournalParts). area_start x.area + x.end) view in
    let same : r ≡ new = same_Some r new (sym is ∙ staged) in
    let counted_is : c.counted.result ≡ commits_of new.kind = c.counted.ensures ∙ ap (λ (q : RecordParts). commits_of q.kind) same in
    let need_is : c.need-need.result ≡ size_of new = c.need-need.ensures ∙ ap need_of staged in
    let noted_is : c.note.new.places.items ≡ i.places.items ++ places_of (area_start i.area + i.end + FRAME_SIZE) new.images =
    c.note.ensures.noted ∙ ap (λ (n : ℕ). i.places.items ++ places_of (n + i.end + FRAME_SIZE) c.deref-2.result.now) c.start_of.ensures
    ∙ ap (λ (xs : List PageParts). i.places.items ++ places_of (area_start i.area + i.end + FRAME_SIZE) xs) (c.deref-2.ensures.value ∙ sym c.deref.ensures.value ∙ ap (λ (q : RecordParts). q.images) same) in
    let now = after_is i.area i.pages i.base i.commits i.end c.counted.result c.need-need.result i.places.items c.note.new.places.items (staged_of i.kind i.images.items) j new view counted_is need_is noted_is in
    let told_now : g.D.Disk.content c.write_record.new.disk ≡ Some (behind_open (area_start j.area + j.end) (spelled_with_gate r) file) =
    c.in_ok-write_record.ensures.done ∙ ap (option_map (behind_open (c.start_of.result + i.end) (spelled_with_gate r))) told ∙ ap (λ (n : ℕ). Some (behind_open n (spelled_with_gate r) file)) gate_is in
    let done = subst (λ (x : JournalParts). IsAppended x rs new file (behind_open (area_start j.area + j.end) (spelled_with_gate r) file)) now (afterwards j rs new file holds (spelled_with_gate r) here.staged here.room) in
    let after : JournalParts = record { area = i.area; pages = i.pages; base = i.base; commits = i.commits + c.counted.result; end = i.end + c.need-need.result; places = c.note.new.places.items; staged = None } in
    subst (λ (o : Option (List ℕ)). IsSomeAnd o (IsAppended after rs new file)) (sym told_now) done

pub invariant_of-self-2 : goal.invariant_of-self-2
invariant_of-self-2 g c =
    let j : JournalParts = c.args.self.now in
    let i = c.self.inside in
    let old : JournalParts = record { area = i.area; pages = i.pages; base = i.base; commits = i.commits; end = i.end; places = i.places.items; staged = staged_of i.kind i.images.items } in
    let view : old ≡ j = c.self.view_is in
    let r : RecordParts = record { kind = c.in-Some.kind; images = c.deref-2.result.now } in
    let is : j.staged ≡ Some r = staged_is j old i.kind c.in-Some.kind i.images.items c.deref-2.result.now view refl c.in-Some.is c.deref-2.ensures.value in
    let keeps : IsJournal old = c.self.invariant.0 in
    let here : old.staged ≡ Some r = ap (λ (x : JournalParts). x.staged) view ∙ is in
    let record_is : IsRecordOf old.pages r = subst (λ (s : Option RecordParts). IfSome s (IsRecordOf old.pages)) here keeps.staged in
    let unspent = subst (λ (x : JournalParts). IfSome x.staged (λ q. q.kind ≡ Commit → x.base + x.commits < MOST_COUNTED)) (sym view) c.requires.unspent in
    let need : c.need-need.result ≡ size_of r = c.need-need.ensures ∙ ap need_of is in
    let within : i.end + c.need-need.result < AREA_SIZE = omega (arith, keeps.within, c.if-left-need.false, c.left-left.ensures, ap (λ (x : JournalParts). x.end) view) in
    let long : length c.write_record.new.buffer ≡ i.buffer.len = omega (arith, c.write_record.ensures.room, c.self.invariant.3, i.buffer.ok) in (
      still_journal old r (i.commits + c.counted.result) (i.end + c.need-need.result) (c.start_of.result + i.end + FRAME_SIZE) c.note.new.places.items keeps record_is
          (subst (λ (s : Option RecordParts). IfSome s (λ q. q.kind ≡ Commit → old.base + old.commits < MOST_COUNTED)) here unspent)
          (ap (λ (n : ℕ). i.commits + n) c.counted.ensures) (ap (λ (n : ℕ). i.end + n) need) within (ap (λ (n : ℕ). n + i.end + FRAME_SIZE) c.start_of.ensures) c.note.ensures.noted,
      omega (arith, c.self.invariant.1, c.note.ensures.reserved),
      c.self.invariant.2,
      ap length (with_items_is i.buffer c.write_record.new.buffer long) ∙ c.write_record.ensures.room,
    )
