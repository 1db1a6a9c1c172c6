-- What a commit gives a cut.
use Rattle.std.proofs.Common.{◌≡◌, ◌≢◌, ℕ, zero, suc, ◌+◌, ◌<◌, ◌≤◌, Bool, true, false, not, ◌&&◌, ◌||◌, List, [], ◌∷◌, length, take, get_or, set, Option, Some, None, refl, sym, subst, ap, ◌∙◌, arith}
use Rattle.std.proofs.lemmas.List.{get_or-set_same, get_or-set_other, length-set}
use Rattle.object_graph.specs.Slots.{has_slot}
use Rattle.page_image.specs.Pages.{slot_at}
use Rattle.page_buffer.specs.declared.frame.Frame.{Frame}
use Rattle.cut_model.specs.CutPages.{CutPage, bare_page, with_commit, with_born}
use Rattle.cut_core.specs.Joints.{is_made}
use Rattle.cut_builder.specs.CutParts.{CutParts, page_in_cut, with_cut_page}
use Rattle.std.proofs.lemmas.List.{length-map, take_all}
use Rattle.page_image.specs.Pages.{PageParts}
use Rattle.page_buffer.specs.Frames.{frame_at}
use Rattle.store_model.specs.Worlds.{World, transaction, view}
use Rattle.transactions.specs.Standing.{TransactionsParts, IsReady, image_in}
use Rattle.transactions.specs.Tables.{entry_of, pages_in, written_at}
use Rattle.transactions.proofs.Opened.{opened}
use Rattle.cut_core.specs.Writing.{images_written}
use Rattle.cut_core.proofs.Staging.{none_left, entry_found, page_seen, has_there}
use Rattle.std.proofs.Common.{inl, inr, ◌==◌}
use Rattle.std.specs.List.{AllByRecursion}
use Rattle.std.proofs.lemmas.Bool.{cases_Bool, cases_eq}
use Rattle.object_graph.specs.ObjectParts.{ObjectParts}
use Rattle.object_graph.specs.Slots.{below}
use Rattle.object_graph.proofs.Members.{In, each_in}
use Rattle.cut_model.proofs.Fits.{all_right}
use Rattle.store_model.specs.Worlds.{Opening, Transaction}
use Rattle.store_model.specs.Lawful.{IsOrderly}
use Rattle.store_model.specs.Images.{objects_of, shown_in}
use Rattle.store_model.proofs.Cuts.{below_bound}
use Rattle.store_model.proofs.Flats.{in_flat}
use Rattle.cut_model.specs.CutPages.{images_of, images_of_after, images_of_copy, objects_on, cut_graph}
use Rattle.cut_model.specs.Sound.{IsSafeObject, IsSafeImage}
use Rattle.cut_model.specs.States.{KeepsOpening}
use Rattle.cut_model.proofs.Views.{view_safe}
use Rattle.cut_core.proofs.OneName.{one_name_each}
use Rattle.cut_builder.specs.CutParts.{HasOneNameEach}
use Rattle.transactions.proofs.Numbers.{transaction_found, found_in_list}
use Rattle.std.specs.List.{list_any}
use Rattle.store_model.specs.Images as I
use Rattle.std.specs.Option.{unwrap_or}
use Rattle.std.proofs.lemmas.Bool.{and_parts, eqb-true}
use Rattle.object_graph.specs.NameParts.{NameParts}
use Rattle.object_graph.specs.SlotParts.{SlotParts}
use Rattle.object_graph.proofs.Members.{any_in}
use Rattle.page_image.specs.Slots.{fresh_slot}
use Rattle.object_graph.specs.declared.sizes.TheConstants.{SLOTS_PER_PAGE}
use Rattle.store_model.specs.Worlds.{slots_of, find_transaction, fresh_transaction}
use Rattle.store_model.specs.Lawful.{IsLawful, IsPlaced}
use Rattle.std.proofs.lemmas.Bool.{cases_lt, eq-eqb}
use Rattle.object_graph.specs.Graphs.{is_at}
use Rattle.transactions.specs.Standing.{wrote}
use Rattle.cut_core.proofs.MadeSlots.{frame_made}
use Rattle.cut_core.specs.Holding.{IsPageGiven}
use Rattle.std.specs.Prelude.{slice_get, slice_index, IfSome}
use Rattle.std.proofs.lemmas.Bool.{ne_eqb}
use Rattle.std.proofs.lemmas.Option.{slice_get_within}
use Rattle.store_model.specs.Causes.{has_page}
use Rattle.transactions.specs.Tables.{OpenParts, IsAscending}
use Rattle.cut_model.specs.CutPages.{CopyParts, AfterImage}
use Rattle.cut_builder.specs.CutParts.{IsLater}
use Rattle.cut_core.specs.Holding.{IsImageGiven, IsGivenUpTo, Copies}

set_again : (pages : List CutPage) (page : ℕ) (p q : CutPage) → set (set pages page p) page q ≡ set pages page q
set_again [] page p q = refl
set_again (x ∷ xs) zero p q = refl
set_again (x ∷ xs) (suc page) p q = ap (λ ys. x ∷ ys) (set_again xs page p q)

pub image_given : (old mid new : CutParts) (frame : Frame) (moment number made used before : ℕ) → frame.current.number < length old.pages
    → mid ≡ with_cut_page old frame.current.number (with_commit frame.current.slots moment (page_in_cut old.pages frame.current.number).born (page_in_cut old.pages frame.current.number))
    → number ≡ frame.current.number → new ≡ with_cut_page mid number (with_born (page_in_cut new.pages number).born (page_in_cut mid.pages number))
    → ((s : ℕ) → has_slot (page_in_cut new.pages number).born s ≡ (has_slot (page_in_cut mid.pages number).born s || has_slot made s))
    → ((s : ℕ) → has_slot made s ≡ (has_slot used s && not (has_slot before s)))
    → ((s : ℕ) → has_slot used s ≡ (slot_at frame.current s).in_use) → ((s : ℕ) → has_slot before s ≡ (slot_at frame.before s).in_use)
    → IsImageGiven frame moment old new
image_given old mid new frame moment number made used before within is same then born made_is used_is before_is =
    let page = frame.current.number in
    let p = page_in_cut old.pages page in
    let given : page_in_cut mid.pages page ≡ with_commit frame.current.slots moment p.born p =
    ap (λ (c : CutParts). page_in_cut c.pages page) is ∙ get_or-set_same old.pages page (with_commit frame.current.slots moment p.born p) bare_page within in
    let then_at : new ≡ with_cut_page mid page (with_born (page_in_cut new.pages page).born (page_in_cut mid.pages page)) = subst (λ n. new ≡ with_cut_page mid n (with_born (page_in_cut new.pages n).born (page_in_cut mid.pages n))) same then in
    let b : ℕ = (page_in_cut new.pages page).born in
    record {
      cut = then_at ∙ (ap (λ q. with_cut_page mid page (with_born b q)) given ∙ (ap (λ (c : CutParts). with_cut_page c page (with_commit frame.current.slots moment b p)) is
          ∙ ap (λ ps. record old { pages = ps }) (set_again old.pages page (with_commit frame.current.slots moment p.born p) (with_commit frame.current.slots moment b p))));
      born = λ s.
          subst (λ n. has_slot (page_in_cut new.pages n).born s ≡ (has_slot (page_in_cut mid.pages n).born s || has_slot made s)) same (born s)
          ∙ (ap (λ (q : CutPage). has_slot q.born s || has_slot made s) given
          ∙ ap (λ d. has_slot p.born s || d) (made_is s ∙ (ap (λ u. u && not (has_slot before s)) (used_is s) ∙ ap (λ u. (slot_at frame.current s).in_use && not u) (before_is s))));
    }

-- ---- the pages that a transaction wrote

pub written_length : (s : TransactionsParts) (txn : ℕ) → length (images_written s txn) ≡ length (pages_in (entry_of s.table txn))
written_length s txn = length-map (pages_in (entry_of s.table txn)) (λ page. (frame_at s.frames page).current)

pub all_given : (s : TransactionsParts) (txn at : ℕ) → written_at s.table txn at ≡ None → take at (pages_in (entry_of s.table txn)) ≡ pages_in (entry_of s.table txn)
all_given s txn at is = take_all at (pages_in (entry_of s.table txn)) (none_left (entry_of s.table txn) at is)

-- the page at a place in what a transaction wrote, as its frame shows it
pub seen_at : (s : TransactionsParts) (w : World) (txn at page : ℕ) → IsReady s w → written_at s.table txn at ≡ Some page
    → (page < w.pages) × ((frame_at s.frames page).current ≡ image_in w (view w (transaction w txn)) page)
seen_at s w txn at page ready is =
    let found = entry_found (entry_of s.table txn) at page is in
    page_seen s w txn found.0 page (opened s s w txn found.0 refl found.1 ready) (has_there found.0.written at page found.2)

pub within_cut : (s : TransactionsParts) (w : World) (txn at page moment : ℕ) (done : List ℕ) (frame : Frame) (old now : CutParts) → Copies s old w → written_at s.table txn at ≡ Some page → frame ≡ frame_at s.frames page
    → IsGivenUpTo w txn moment done old now → frame.current.number < length now.pages
within_cut s w txn at page moment done frame old now k is frame_is g =
    let seen = seen_at s w txn at page k.ready is in
    let number : frame.current.number ≡ page = ap (λ (f : Frame). f.current.number) frame_is ∙ ap (λ (p : PageParts). p.number) seen.1 in
    let count : w.pages ≡ length now.pages = sym k.copying.all ∙ sym g.all in
    subst (λ n. n < length now.pages) (sym number) (subst (λ n. page < n) count seen.0)

-- ---- a page isn't given twice

index_is : (pages : List ℕ) (at page : ℕ) → slice_get pages at ≡ Some page → slice_index pages at ≡ page
index_is [] at page is = absurd cc
index_is (p ∷ ps) zero page is = cc
index_is (p ∷ ps) (suc at) page is = index_is ps at page is

not_before : (pages : List ℕ) (at page : ℕ) → IsAscending pages → slice_get pages at ≡ Some page → has_page (take at pages) page ≡ false
not_before [] at page up is = absurd cc
not_before (p ∷ ps) zero page up is = refl
not_before (p ∷ ps) (suc at) page up is =
    let low : suc at < length (p ∷ ps) = slice_get_within (p ∷ ps) (suc at) page is in
    let less : p < slice_index ps at = up 0 (suc at) (omega arith) low in
    let same : slice_index ps at ≡ page = index_is ps at page is in
    let other : p ≢ page = (λ e. omega (arith, less, same, e)) in
    ap (λ b. b || has_page (take at ps) page) (ne_eqb p page other)
    ∙ not_before ps at page (λ i j l h. let l2 : suc i < suc j = omega (arith, l) in let h2 : suc j < length (p ∷ ps) = omega (arith, h) in up (suc i) (suc j) l2 h2) is

pub not_given : (s : TransactionsParts) (txn at page : ℕ) → written_at s.table txn at ≡ Some page → ((e : OpenParts) → entry_of s.table txn ≡ Some e → IsAscending e.written)
    → has_page (take at (pages_in (entry_of s.table txn))) page ≡ false
not_given s txn at page is up =
    let found = entry_found (entry_of s.table txn) at page is in
    ap (λ o. has_page (take at (pages_in o)) page) found.1 ∙ not_before found.0.written at page (up found.0 found.1) found.2

less_of : {A : Type 0} (f : A → ℕ) (o : Option A) (n m : ℕ) → n + 1 ≡ m → IfSome o (λ a. f a ≤ n) → IfSome o (λ a. f a < m)
less_of f None n m e h = tt
less_of f (Some a) n m e h = omega (arith, e, h)

pub later_given : (s : TransactionsParts) (w : World) (txn at page moment : ℕ) (frame : Frame) (old now : CutParts) → Copies s old w → w.commits + 1 ≡ moment → written_at s.table txn at ≡ Some page
    → ((e : OpenParts) → entry_of s.table txn ≡ Some e → IsAscending e.written) → frame ≡ frame_at s.frames page
    → IsGivenUpTo w txn moment (take at (pages_in (entry_of s.table txn))) old now → IsLater moment (page_in_cut now.pages frame.current.number)
later_given s w txn at page moment frame old now k m is up frame_is g =
    let seen = seen_at s w txn at page k.ready is in
    let number : frame.current.number ≡ page = ap (λ (f : Frame). f.current.number) frame_is ∙ ap (λ (p : PageParts). p.number) seen.1 in
    let within : page < length old.pages = subst (λ n. page < n) (sym k.copying.all) seen.0 in
    let sound = k.copying.sound page within in
    let same : page_in_cut now.pages page ≡ page_in_cut old.pages page = g.others page (not_given s txn at page is up) in
    subst (λ n. IsLater moment (page_in_cut now.pages n)) (sym number) (subst (IsLater moment) (sym same)
    (less_of (λ (c : CopyParts). c.moment) (page_in_cut old.pages page).copy w.commits moment m sound.copied, less_of (λ (a : AfterImage). a.moment) (page_in_cut old.pages page).after w.commits moment m sound.changed))

-- ---- the images stay safe

abbrev AreSafe : Opening → List CutPage → Type 0
AreSafe opening pages = (page : ℕ) → page < length pages → AllByRecursion (IsSafeImage opening page) (images_of (page_in_cut pages page))

graph_safe : (opening : Opening) (pages : List CutPage) (o : ObjectParts) → AreSafe opening pages → In o (cut_graph pages) → IsSafeObject opening o
graph_safe opening pages o safe m =
    let a = in_flat (λ (page : ℕ). objects_on page (get_or pages page bare_page)) (below (length pages)) o m in
    let page : ℕ = a.0 in
    let b = in_flat (objects_of page) (images_of (get_or pages page bare_page)) o a.2 in
    each_in (IsSafeObject opening) (objects_of page b.0) o (each_in (IsSafeImage opening page) (images_of (get_or pages page bare_page)) b.0 (safe page (below_bound (length pages) page a.1)) b.1) b.2

safe_given : (w : World) (txn moment : ℕ) (done : List ℕ) (opening : Opening) (old now : CutParts) → IsOrderly w → In (transaction w txn) w.transactions → KeepsOpening w opening → AreSafe opening old.pages
    → IsGivenUpTo w txn moment done old now → AreSafe opening now.pages
safe_given w txn moment done opening old now orderly there keeps safe g page low =
    let before = safe page (subst (λ n. page < n) g.all low) in
    elim (cases_Bool (has_page done page)) [
      | inr e ↦ subst (λ q. AllByRecursion (IsSafeImage opening page) (images_of q)) (sym (g.others page e)) before
      | inl e ↦
          subst (λ q. AllByRecursion (IsSafeImage opening page) (images_of q)) (sym (g.given page e).is) (
            view_safe w (transaction w txn) opening page orderly there keeps,
            all_right (IsSafeImage opening page) (images_of_after (page_in_cut old.pages page).after) (images_of_copy (page_in_cut old.pages page).copy) before,
          )
    ]

safe_set : (opening : Opening) (pages : List CutPage) (page : ℕ) (p : CutPage) → AreSafe opening pages → page < length pages → AllByRecursion (IsSafeImage opening page) (images_of p) → AreSafe opening (set pages page p)
safe_set opening pages page p safe low one q within = elim (cases_eq q page) [
  | inl e ↦ subst (λ k. AllByRecursion (IsSafeImage opening k) (images_of (page_in_cut (set pages page p) k))) (sym e)
      (subst (λ x. AllByRecursion (IsSafeImage opening page) (images_of x)) (sym (get_or-set_same pages page p bare_page low)) one)
  | inr ne ↦ subst (λ x. AllByRecursion (IsSafeImage opening q) (images_of x)) (sym (get_or-set_other pages page q p bare_page ne)) (safe q (subst (λ n. q < n) (length-set pages page p) within))
]

pub names_given : (s : TransactionsParts) (w : World) (txn at page moment : ℕ) (done : List ℕ) (frame : Frame) (old now : CutParts) → Copies s old w → written_at s.table txn at ≡ Some page → frame ≡ frame_at s.frames page
    → IsGivenUpTo w txn moment done old now
    → HasOneNameEach (set now.pages frame.current.number (with_commit frame.current.slots moment (page_in_cut now.pages frame.current.number).born (page_in_cut now.pages frame.current.number)))
names_given s w txn at page moment done frame old now k is frame_is g =
    let found = entry_found (entry_of s.table txn) at page is in
    let o = opened s s w txn found.0 refl found.1 k.ready in
    let orderly = k.ready.lawful.orderly in
    let opening = k.opened.opening in
    let t = transaction w txn in
    let there : In t w.transactions = subst (λ u. In u w.transactions) (sym (transaction_found w txn o.of o.found)) (found_in_list (λ (u : Transaction). u.number == txn) w.transactions o.of o.found).0 in
    let seen = seen_at s w txn at page k.ready is in
    let number : frame.current.number ≡ page = ap (λ (f : Frame). f.current.number) frame_is ∙ ap (λ (p : PageParts). p.number) seen.1 in
    let slots : frame.current.slots ≡ shown_in w (view w t) page = ap (λ (f : Frame). f.current.slots) frame_is ∙ ap (λ (p : PageParts). p.slots) seen.1 in
    let low : page < length now.pages = subst (λ n. n < length now.pages) number (within_cut s w txn at page moment done frame old now k is frame_is g) in
    let safe = safe_given w txn moment done opening old now orderly there k.copying.keeps (λ q within. (k.copying.sound q within).images) g in
    let p = page_in_cut now.pages page in
    let image = shown_in w (view w t) page in
    let after = safe_set opening now.pages page (with_commit image moment p.born p) safe low
    (view_safe w t opening page orderly there k.copying.keeps, all_right (IsSafeImage opening page) (images_of_after p.after) (images_of_copy p.copy) (safe page low)) in
    let one = one_name_each w opening (set now.pages page (with_commit image moment p.born p)) orderly k.copying.keeps (λ x m. graph_safe opening (set now.pages page (with_commit image moment p.born p)) x after m) in
    subst (λ n. HasOneNameEach (set now.pages n (with_commit frame.current.slots moment (page_in_cut now.pages n).born (page_in_cut now.pages n)))) (sym number)
    (subst (λ i. HasOneNameEach (set now.pages page (with_commit i moment p.born p))) (sym slots) one)

-- ---- one page more

either_last : (a b : Bool) → ((a || b) ≡ false) → (a ≡ false) × (b ≡ false)
either_last true b e = absurd cc
either_last false b e = (refl, e)

regroup : (a b c : Bool) → (a || (b || c)) ≡ ((a || b) || c)
regroup true b c = refl
regroup false b c = refl

last_only : (a : Bool) → (a || false) ≡ a
last_only true = refl
last_only false = refl

has_more : (pages : List ℕ) (at page q : ℕ) → slice_get pages at ≡ Some page → has_page (take (suc at) pages) q ≡ (has_page (take at pages) q || (page == q))
has_more [] at page q is = absurd cc
has_more (p ∷ ps) zero page q is = (let same : p ≡ page = cc in last_only (p == q) ∙ ap (λ n. n == q) same)
has_more (p ∷ ps) (suc at) page q is = ap (λ b. (p == q) || b) (has_more ps at page q is) ∙ regroup (p == q) (has_page (take at ps) q) (page == q)

past_get : {A : Type 0} (xs : List A) (i : ℕ) (d : A) → length xs ≤ i → get_or xs i d ≡ d
past_get [] i d h = refl
past_get (x ∷ xs) zero d h = absurd (omega arith)
past_get (x ∷ xs) (suc i) d h = past_get xs i d (omega arith)

wrote_there : (s : TransactionsParts) (w : World) (txn page : ℕ) → IsReady s w → wrote w txn page ≡ true → In (transaction w txn) w.transactions
wrote_there s w txn page ready did = by (find_transaction w txn) refl
  where
    by : (o : Option Transaction) → find_transaction w txn ≡ o → In (transaction w txn) w.transactions
    by None is = let bad : false ≡ true = sym (ap (λ o. has_page (unwrap_or o (fresh_transaction txn)).pages_written page) is) ∙ did in absurd cc
    by (Some t) is = subst (λ u. In u w.transactions) (sym (transaction_found w txn t is)) (found_in_list (λ (u : Transaction). u.number == txn) w.transactions t is).0

none_past : (w : World) (txn page slot : ℕ) → IsLawful w → SLOTS_PER_PAGE ≤ slot → In (transaction w txn) w.transactions → list_any (is_at page slot) (transaction w txn).own ≡ false
none_past w txn page slot lawful past there = elim (cases_Bool (list_any (is_at page slot) (transaction w txn).own)) [
  | inr e ↦ e
  | inl e ↦
      let a = any_in (is_at page slot) (transaction w txn).own e in
      let n : NameParts = a.0 in
      let b = and_parts (n.page == page) (n.slot == slot) a.2 in
      let all = each_in (λ (t : Transaction). AllByRecursion (λ m. IsPlaced w.pages (slots_of w) m) t.own) w.transactions (transaction w txn) lawful.orderly.own_placed there in
      let placed = each_in (λ m. IsPlaced w.pages (slots_of w) m) (transaction w txn).own n all a.1 in
      let low : n.slot < SLOTS_PER_PAGE = placed.1 in
      let same : n.slot ≡ slot = eqb-true n.slot slot b.1 in
      absurd (omega (arith, low, same, past))
]

-- what was made, also past the last slot of a page
made_at : (s : TransactionsParts) (w : World) (txn page slot : ℕ) → IsReady s w → page < w.pages → wrote w txn page ≡ true → is_made (frame_at s.frames page) slot ≡ list_any (is_at page slot) (transaction w txn).own
unfolding I.shown_of
made_at s w txn page slot ready low did = elim (cases_lt slot SLOTS_PER_PAGE) [
  | inl within ↦ frame_made s w txn page slot ready low did within
  | inr past ↦
      let o : list_any (is_at page slot) (transaction w txn).own ≡ false = none_past w txn page slot ready.lawful past (wrote_there s w txn page ready did) in
      let seen = (ready.stands.frames.each page low).current txn did in
      let free : (slot_at (frame_at s.frames page).current slot).in_use ≡ false =
      ap (λ (p : PageParts). (slot_at p slot).in_use) seen ∙ ap (λ (x : SlotParts). x.in_use) (past_get (shown_in w (view w (transaction w txn)) page) slot fresh_slot past) in
      ap (λ b. b && not (slot_at (frame_at s.frames page).before slot).in_use) free ∙ sym o
]

pub given_more : (s : TransactionsParts) (w : World) (txn at page moment : ℕ) (frame : Frame) (old now new : CutParts) → Copies s old w → written_at s.table txn at ≡ Some page
    → ((e : OpenParts) → entry_of s.table txn ≡ Some e → IsAscending e.written) → frame ≡ frame_at s.frames page → IsImageGiven frame moment now new
    → IsGivenUpTo w txn moment (take at (pages_in (entry_of s.table txn))) old now → IsGivenUpTo w txn moment (take (at + 1) (pages_in (entry_of s.table txn))) old new
given_more s w txn at page moment frame old now new k is up frame_is image g = record {
  number = ap (λ (c : CutParts). c.number) image.cut ∙ g.number;
  start = ap (λ (c : CutParts). c.start) image.cut ∙ g.start;
  all = ap (λ (c : CutParts). length c.pages) image.cut ∙ (length-set now.pages frame.current.number p_new ∙ g.all);
  others = λ q e. let b = either_last (has_page done q) (page == q) (sym (more q) ∙ e) in elsewhere q (λ same. let t : (page == q) ≡ true = eq-eqb page q (sym same) in cc) ∙ g.others q b.0;
  given = λ q h. elim (cases_eq q page) [
    | inl same ↦ subst (λ n. IsPageGiven w txn moment n (page_in_cut old.pages n) (page_in_cut new.pages n)) (sym same) here
    | inr ne ↦
        let was : has_page done q ≡ true = elim (cases_Bool (has_page done q)) [
          | inl e ↦ e
          | inr e ↦ let f : (page == q) ≡ false = ne_eqb page q (λ x. ne (sym x)) in let z : true ≡ false = sym h ∙ (more q ∙ (ap (λ b. b || (page == q)) e ∙ f)) in cc
        ] in
        subst (λ x. IsPageGiven w txn moment q (page_in_cut old.pages q) x) (sym (elsewhere q ne)) (g.given q was)
  ];
}
  where
    done : List ℕ
    done = take at (pages_in (entry_of s.table txn))

    found : (e : OpenParts) × (entry_of s.table txn ≡ Some e) × (slice_get e.written at ≡ Some page)
    found = entry_found (entry_of s.table txn) at page is

    more : (q : ℕ) → has_page (take (at + 1) (pages_in (entry_of s.table txn))) q ≡ (has_page done q || (page == q))
    more q =
        let step : at + 1 ≡ suc at = omega arith in
        subst (λ o. has_page (take (at + 1) (pages_in o)) q ≡ (has_page (take at (pages_in o)) q || (page == q))) (sym found.1)
        (ap (λ n. has_page (take n found.0.written) q) step ∙ has_more found.0.written at page q found.2)

    seen : (page < w.pages) × ((frame_at s.frames page).current ≡ image_in w (view w (transaction w txn)) page)
    seen = seen_at s w txn at page k.ready is

    number : frame.current.number ≡ page
    number = ap (λ (f : Frame). f.current.number) frame_is ∙ ap (λ (p : PageParts). p.number) seen.1

    p_new : CutPage
    p_new = with_commit frame.current.slots moment (page_in_cut new.pages frame.current.number).born (page_in_cut now.pages frame.current.number)

    low : page < length now.pages
    low = subst (λ n. n < length now.pages) number (within_cut s w txn at page moment done frame old now k is frame_is g)

    elsewhere : (q : ℕ) → q ≢ page → page_in_cut new.pages q ≡ page_in_cut now.pages q
    elsewhere q ne = ap (λ (c : CutParts). page_in_cut c.pages q) image.cut ∙ get_or-set_other now.pages frame.current.number q p_new bare_page (λ e. ne (e ∙ number))

    same_page : page_in_cut now.pages page ≡ page_in_cut old.pages page
    same_page = g.others page (not_given s txn at page is up)

    did : wrote w txn page ≡ true
    did =
        let o = opened s s w txn found.0 refl found.1 k.ready in
        ap (λ (x : Transaction). has_page x.pages_written page) (transaction_found w txn o.of o.found) ∙ (sym (o.entry.written.each page) ∙ has_there found.0.written at page found.2)

    here : IsPageGiven w txn moment page (page_in_cut old.pages page) (page_in_cut new.pages page)
    here = record {
      made = λ slot.
          subst (λ n. has_slot (page_in_cut new.pages n).born slot ≡ (has_slot (page_in_cut now.pages n).born slot || is_made frame slot)) number (image.born slot)
          ∙ (ap (λ (q : CutPage). has_slot q.born slot || is_made frame slot) same_page
          ∙ ap (λ b. has_slot (page_in_cut old.pages page).born slot || b) (ap (λ f. is_made f slot) frame_is ∙ made_at s w txn page slot k.ready seen.0 did));
      is =
          subst (λ n. page_in_cut new.pages n ≡ with_commit frame.current.slots moment (page_in_cut new.pages n).born (page_in_cut now.pages n)) number
          (ap (λ (c : CutParts). page_in_cut c.pages frame.current.number) image.cut ∙ get_or-set_same now.pages frame.current.number p_new bare_page (subst (λ n. n < length now.pages) (sym number) low))
          ∙ (ap (λ i. with_commit i moment (page_in_cut new.pages page).born (page_in_cut now.pages page)) (ap (λ (f : Frame). f.current.slots) frame_is ∙ ap (λ (p : PageParts). p.slots) seen.1)
          ∙ ap (λ x. with_commit (shown_in w (view w (transaction w txn)) page) moment (page_in_cut new.pages page).born x) same_page);
    }
