-- What the marks of a closed sound cut leave is garbage, and all that was lost is left.
use Rattle.std.proofs.Common.{◌≡◌, ℕ, ◌<◌, true, false, not, ◌&&◌, List, [], ◌∷◌, length, get_or, Some, refl, sym, subst, ap, ◌∙◌, arith}
use Rattle.std.specs.List.{list_any, filter}
use Rattle.std.proofs.lemmas.Bool.{and_parts, not-false}
use Rattle.object_graph.specs.NameParts.{NameParts}
use Rattle.object_graph.specs.Names.{name_eq}
use Rattle.object_graph.specs.SlotParts.{SlotParts}
use Rattle.object_graph.specs.Slots.{has_slot}
use Rattle.object_graph.specs.ObjectParts.{ObjectParts}
use Rattle.object_graph.specs.Graphs.{has_name, has_object, is_to, IsPath}
use Rattle.store_model.specs.Worlds.{World, Opening, starts, is_freed, IsReached}
use Rattle.store_model.specs.Lawful.{IsPlaced}
use Rattle.store_model.specs.Worlds.{slots_of, fields_of}
use Rattle.object_graph.proofs.Members.{In, any_in, in_any, each_in, filter_in}
use Rattle.object_graph.proofs.Paths.{name_eq_same, has_object_in, in_has_object, reached_more, path_first}
use Rattle.store_model.proofs.OutOfReach.{unreached_is_out, reached_unfreed}
use Rattle.store_model.specs.Lawful.{KeepsLost}
use Rattle.store_model.specs.Worlds.{is_unfreed, is_old, IsLost}
use Rattle.store_model.specs.Images.{shown, objects_of}
use Rattle.store_model.specs.States.{State, state_of}
use Rattle.cut_model.specs.CutPages.{CutPage, bare_page, settled_image, cut_graph, IsMarked}
use Rattle.cut_model.specs.Sound.{IsBornRight, IsSound, IsClosedBeside}
use Rattle.cut_model.specs.Doomed.{IsDoomed, IsSafeToFree, KeepsDoomed}
use Rattle.store_model.proofs.Shown.{one_each, in_shown, shows_object}
use Rattle.cut_model.proofs.CutGraphs.{settled_in, settled_shown, in_cut_graph, cut_graph_safe}

-- an unfreed object is in the settled image of its page
pub settled_has : (w : World) (opening : Opening) (pages : List CutPage) (o : ObjectParts) → IsClosedBeside w opening pages → In o w.graph → is_unfreed w.freed o ≡ true
    → (o.name.page < length pages) × (settled_image (get_or pages o.name.page bare_page) ≡ Some (shown w o.name.page))
    × In o (objects_of o.name.page (shown w o.name.page))
settled_has w opening pages o closed m u =
    let placed = each_in (λ (o : ObjectParts). IsPlaced w.pages (slots_of w) o.name) w.graph o closed.orderly.placed m in
    let within : o.name.page < length pages = let p = placed.0 in let e = closed.all in omega arith in (
      within,
      settled_shown (state_of w) opening o.name.page (get_or pages o.name.page bare_page) (closed.sound o.name.page within) (closed.copied o.name.page within),
      shows_object (slots_of w o.name.page) (fields_of w o.name.page) w.graph w.freed o (one_each w.graph w.freed closed.orderly.counted closed.orderly.last) m u placed.1,
    )

-- so it is in the graph of the cut
pub graph_in_cut : (w : World) (opening : Opening) (pages : List CutPage) (o : ObjectParts) → IsClosedBeside w opening pages → In o w.graph → is_unfreed w.freed o ≡ true → In o (cut_graph pages)
graph_in_cut w opening pages o closed m u =
    let h = settled_has w opening pages o closed m u in
    in_cut_graph pages o.name.page (shown w o.name.page) o h.0
    (settled_in (get_or pages o.name.page bare_page) (shown w o.name.page) h.1) h.2

-- a path from what is reached is a path in the cut
path_in_cut : (w : World) (opening : Opening) (pages : List CutPage) (first : NameParts) (rest : List NameParts) (last : NameParts)
    → IsClosedBeside w opening pages → IsReached w first → IsPath w.graph first rest last → IsPath (cut_graph pages) first rest last
path_in_cut w opening pages first [] last closed reached p = (p.0, there w opening pages first closed reached p.1)
  where
    there : (w : World) (opening : Opening) (pages : List CutPage) (name : NameParts) → IsClosedBeside w opening pages → IsReached w name → has_object w.graph name ≡ true
        → has_object (cut_graph pages) name ≡ true
    there w opening pages name closed reached h =
        let a = has_object_in w.graph name h in
        let o : ObjectParts = a.0 in
        let u : is_unfreed w.freed o ≡ true = subst (λ n. not (has_name w.freed n) ≡ true) (sym a.2) (reached_unfreed w name closed.freed reached) in
        subst (λ n. has_object (cut_graph pages) n ≡ true) a.2 (in_has_object (cut_graph pages) o (graph_in_cut w opening pages o closed a.1 u))
path_in_cut w opening pages first (n ∷ ns) last closed reached p =
    let a = any_in (λ (o : ObjectParts). name_eq o.name first && list_any (is_to n) o.refs) w.graph p.0 in
    let o : ObjectParts = a.0 in
    let b = and_parts (name_eq o.name first) (list_any (is_to n) o.refs) a.2 in
    let same = name_eq_same o.name first b.0 in
    let u : is_unfreed w.freed o ≡ true = subst (λ n. not (has_name w.freed n) ≡ true) (sym same) (reached_unfreed w first closed.freed reached) in
    let m : In o (cut_graph pages) = graph_in_cut w opening pages o closed a.1 u in (
      in_any (λ (o : ObjectParts). name_eq o.name first && list_any (is_to n) o.refs) (cut_graph pages) o m a.2,
      subst (λ n. has_object (cut_graph pages) n ≡ true) same (in_has_object (cut_graph pages) o m),
      path_in_cut w opening pages n ns last closed (reached_more w.graph (starts w) first n reached p.0 (path_first w.graph n ns last p.2)) p.2,
    )

-- what is reached is marked
pub reached_is_marked : (w : World) (opening : Opening) (pages : List CutPage) (name : NameParts) → IsClosedBeside w opening pages
    → IsReached w name → IsMarked (starts w) pages name
reached_is_marked w opening pages name closed reached = (
  reached.0,
  reached.1,
  (reached.2.0, path_in_cut w opening pages reached.0 reached.2.0 name closed (reached.0, reached.1, ([], (refl, path_first w.graph reached.0 reached.2.0 name reached.2.1))) reached.2.1),
)

-- a slot in use in a settled image, neither born nor marked, has an unfreed name that was there and is out of reach
pub doomed_is_safe : (w : World) (opening : Opening) (pages : List CutPage) (page : ℕ) (image : List SlotParts) (o : ObjectParts) → IsClosedBeside w opening pages
    → page < length pages → settled_image (get_or pages page bare_page) ≡ Some image → In o (objects_of page image)
    → has_slot (get_or pages page bare_page).born o.name.slot ≡ false → ¬ IsMarked (starts w) pages o.name → IsSafeToFree w opening o.name
doomed_is_safe w opening pages page image o closed within settled m unborn unmarked =
    let p : CutPage = get_or pages page bare_page in
    let sound = closed.sound page within in
    let e = settled_shown (state_of w) opening page p sound (closed.copied page within) in
    let same : image ≡ shown w page = cc in
    let shown = in_shown (slots_of w page) (fields_of w page) w.graph w.freed page o (subst (λ i. In o (objects_of page i)) same m) in
    let born = each_in (IsBornRight opening page p.born) (filter (is_unfreed w.freed) w.graph) o sound.born (filter_in (is_unfreed w.freed) w.graph o shown.there shown.unfreed) shown.on in
    let there : has_object w.graph o.name ≡ true = in_has_object w.graph o shown.there in
    let no : not (is_old opening o.name) ≡ false = sym born ∙ unborn in
    record {
      there = there;
      unfreed = shown.unfreed;
      old = not-false (is_old opening o.name) no;
      out = unreached_is_out w o.name closed.orderly there (λ reached. unmarked (reached_is_marked w opening pages o.name closed reached));
    }

-- ---- what was lost

-- a path in the cut from what wasn't lost ends in what wasn't lost
safe_path : (s : State) (opening : Opening) (pages : List CutPage) (first : NameParts) (rest : List NameParts) (last : NameParts) → IsSound s opening pages
    → ¬ IsLost opening first → IsPath (cut_graph pages) first rest last → ¬ IsLost opening last
safe_path s opening pages first [] last sound safe p = subst (λ n. ¬ IsLost opening n) p.0 safe
safe_path s opening pages first (n ∷ ns) last sound safe p =
    let a = any_in (λ (o : ObjectParts). name_eq o.name first && list_any (is_to n) o.refs) (cut_graph pages) p.0 in
    let o : ObjectParts = a.0 in
    let b = and_parts (name_eq o.name first) (list_any (is_to n) o.refs) a.2 in
    let same = name_eq_same o.name first b.0 in
    let object = cut_graph_safe s opening pages o sound a.1 in
    safe_path s opening pages n ns last sound
    (λ lost. object.kept (subst (λ k. ¬ IsLost opening k) (sym same) safe) n lost b.1) p.2

-- a start wasn't lost: it is reached
pub start_is_safe : (w : World) (opening : Opening) (start : NameParts) → KeepsLost w opening → has_name (starts w) start ≡ true → ¬ IsLost opening start
start_is_safe w opening start keeps h = λ lost. (keeps.out start lost).0 (start, h, ([], (refl, keeps.there start lost.old)))

pub lost_is_unmarked : (w : World) (opening : Opening) (pages : List CutPage) (name : NameParts) → IsClosedBeside w opening pages
    → IsLost opening name → ¬ IsMarked (starts w) pages name
lost_is_unmarked w opening pages name closed lost = λ marked.
    safe_path (state_of w) opening pages marked.0 marked.2.0 name closed.sound
    (start_is_safe w opening marked.0 closed.keeps.lost marked.1) marked.2.1 lost

-- a lost and unfreed name is in the settled image of its page, neither born nor marked
pub lost_is_doomed : (w : World) (opening : Opening) (pages : List CutPage) (name : NameParts) → IsClosedBeside w opening pages
    → IsLost opening name → not (is_freed w name) ≡ true → IsDoomed (starts w) pages name
lost_is_doomed w opening pages name closed lost unfreed =
    let a = has_object_in w.graph name (closed.keeps.lost.there name lost.old) in
    let o : ObjectParts = a.0 in
    let u : is_unfreed w.freed o ≡ true = subst (λ n. not (has_name w.freed n) ≡ true) (sym a.2) unfreed in
    let h = settled_has w opening pages o closed a.1 u in
    let sound = closed.sound o.name.page h.0 in
    let born = each_in (IsBornRight opening o.name.page (get_or pages o.name.page bare_page).born) (filter (is_unfreed w.freed) w.graph) o sound.born (filter_in (is_unfreed w.freed) w.graph o a.1 u) refl in
    let old : is_old opening o.name ≡ true = subst (λ n. is_old opening n ≡ true) (sym a.2) lost.old in
    let unmarked : ¬ IsMarked (starts w) pages o.name = subst (λ n. ¬ IsMarked (starts w) pages n) (sym a.2) (lost_is_unmarked w opening pages name closed lost) in
    let doomed : IsDoomed (starts w) pages o.name = record {
      image = shown w o.name.page;
      object = o;
      within = h.0;
      settled = h.1;
      shown = h.2;
      named = refl;
      unborn = born ∙ ap not old;
      unmarked = unmarked;
    } in
    subst (λ n. IsDoomed (starts w) pages n) a.2 doomed

-- ---- the closing

pub closing_keeps_doomed : (w : World) (opening : Opening) (pages : List CutPage) → IsClosedBeside w opening pages → KeepsDoomed w opening (starts w) pages []
closing_keeps_doomed w opening pages closed = record {
  safe = λ name doomed unswept. subst (IsSafeToFree w opening) doomed.named
      (doomed_is_safe w opening pages name.page doomed.image doomed.object closed doomed.within doomed.settled doomed.shown
      (subst (λ (n : NameParts). has_slot (get_or pages name.page bare_page).born n.slot ≡ false) (sym doomed.named) doomed.unborn)
      (subst (λ n. ¬ IsMarked (starts w) pages n) (sym doomed.named) doomed.unmarked));
  lost = λ name lost unfreed. (refl, lost_is_doomed w opening pages name closed lost unfreed);
}
