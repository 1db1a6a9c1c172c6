-- A commit keeps a cut sound that is given an after-image of each page that it wrote.
use Rattle.std.proofs.Common.{◌≡◌, ℕ, ◌+◌, ◌<◌, ◌≤◌, ◌==◌, Bool, true, false, not, ◌||◌, List, [], ◌∷◌, map, length, get_or, Option, Some, None, refl, sym, subst, ap, ◌∙◌, inl, inr, arith}
use Rattle.std.specs.List.{list_any, filter, AllByRecursion}
use Rattle.std.specs.Bool.{IsTrue}
use Rattle.std.specs.Option.{IfSome}
use Rattle.std.proofs.lemmas.Bool.{and_parts, and_from, cases_Bool, eqb-true, eq-eqb, not-true}
use Rattle.object_graph.specs.NameParts.{NameParts}
use Rattle.object_graph.specs.Slots.{has_slot}
use Rattle.object_graph.specs.ObjectParts.{ObjectParts}
use Rattle.object_graph.specs.Graphs.{has_name, has_object, is_at, objects_at}
use Rattle.object_graph.specs.Slots.{below}
use Rattle.store_model.specs.Images.{shown_slot, shown_of, shown_in, shown}
use Rattle.store_model.specs.Worlds.{World, Transaction, Opening, slots_of, fields_of, view, new_object}
use Rattle.store_model.specs.Causes.{has_page}
use Rattle.store_model.specs.Lawful.{IsOwn, IsLawfulTransaction}
use Rattle.object_graph.proofs.Members.{In, any_in, in_any, in_filter, filter_in, each_in, each_from, or_right}
use Rattle.object_graph.proofs.Paths.{in_has_name}
use Rattle.store_model.proofs.Images.{commit_keeps_slot}
use Rattle.store_model.proofs.Reach.{name-with_writes, view_object}
use Rattle.store_model.proofs.Cuts.{safe_view}
use Rattle.store_model.specs.Lawful.{IsOrderly}
use Rattle.store_model.specs.Worlds.{is_unfreed, is_old}
use Rattle.store_model.specs.States.{state_of, state_after}
use Rattle.cut_model.specs.States.{KeepsOpening}
use Rattle.cut_model.specs.CutPages.{CopyParts, AfterImage, CutPage, bare_page, settled_with, settled_image, images_of_copy, images_of_after, with_commit}
use Rattle.cut_model.specs.Sound.{IsSafeImage, IsBornRight, IsSoundPage, IsSound, IsFitCopy}
use Rattle.cut_model.specs.Changes.{IsMade, IsCutAfter}
use Rattle.cut_model.proofs.Views.{view_safe}
use Rattle.cut_model.proofs.Fits.{all_right}

-- ---- a page that wasn't written

pub map_same : {A B : Type 0} (f g : A → B) (xs : List A) → ((x : A) → f x ≡ g x) → map f xs ≡ map g xs
map_same f g [] h = refl
map_same f g (x ∷ xs) h = ap (λ y. y ∷ map f xs) (h x) ∙ ap (λ ys. g x ∷ ys) (map_same f g xs h)

lawful_one : (w : World) (t : Transaction) → IsOrderly w → In t w.transactions → IsLawfulTransaction w.graph w.freed t
lawful_one w t lawful m = each_in (IsLawfulTransaction w.graph w.freed) w.transactions t lawful.transactions m

-- the image of such a page stays
pub shown_stays : (w : World) (t : Transaction) (page : ℕ) → IsOrderly w → In t w.transactions → has_page t.pages_written page ≡ false
    → shown_in w (view w t) page ≡ shown w page
unfolding shown_of
shown_stays w t page lawful m away =
    let lt = lawful_one w t lawful m in
    let own : AllByRecursion (λ (n : NameParts). has_page t.pages_written n.page ≡ true) t.own =
    each_from (λ (n : NameParts). has_page t.pages_written n.page ≡ true) t.own (λ n i. (each_in (IsOwn w.graph w.freed t) t.own n lt.own i).page) in
    map_same (shown_slot (fields_of w page) (view w t) w.freed page) (shown_slot (fields_of w page) w.graph w.freed page) (below (slots_of w page))
    (λ slot. commit_keeps_slot w t (fields_of w page) page slot lt.writes own away)

-- ---- born objects

-- no own object stands where an unfreed one does
own_elsewhere : (w : World) (t : Transaction) (o : ObjectParts) → IsOrderly w → In t w.transactions → In o w.graph → is_unfreed w.freed o ≡ true
    → list_any (is_at o.name.page o.name.slot) t.own ≡ false
own_elsewhere w t o lawful m i u = elim (cases_Bool (list_any (is_at o.name.page o.name.slot) t.own)) [
  | inr e ↦ e
  | inl e ↦
      let a = any_in (is_at o.name.page o.name.slot) t.own e in
      let n : NameParts = a.0 in
      let b = and_parts (n.page == o.name.page) (n.slot == o.name.slot) a.2 in
      let own = each_in (IsOwn w.graph w.freed t) t.own n (lawful_one w t lawful m).own a.1 in
      let at : is_at n.page n.slot o.name ≡ true =
      and_from (o.name.page == n.page) (o.name.slot == n.slot)
      (eq-eqb o.name.page n.page (sym (eqb-true n.page o.name.page b.0))) (eq-eqb o.name.slot n.slot (sym (eqb-true n.slot o.name.slot b.1))) in
      let f = each_in (λ (o : ObjectParts). IsTrue (has_name w.freed o.name)) (objects_at w.graph n.page n.slot) o own.free
      (filter_in (λ (p : ObjectParts). is_at n.page n.slot p.name) w.graph o i at) in
      let g = not-true (has_name w.freed o.name) u in
      cc
]

pub or_false : (a b : Bool) → b ≡ false → (a || b) ≡ a
or_false true b e = refl
or_false false b e = e

-- after the commit the born slots are those of the unfreed objects that weren't there as the cut opened
pub born_after : (w : World) (t : Transaction) (opening : Opening) (page born after : ℕ) → IsOrderly w → In t w.transactions → KeepsOpening w opening → IsMade t page born after
    → AllByRecursion (IsBornRight opening page born) (filter (is_unfreed w.freed) w.graph)
    → AllByRecursion (IsBornRight opening page after) (filter (is_unfreed w.freed) (view w t))
born_after w t opening page born after lawful m keeps made h =
    each_from (IsBornRight opening page after) (filter (is_unfreed w.freed) (view w t)) (λ seen i.
    let a = in_filter (is_unfreed w.freed) (view w t) seen i in
    let u = view_object w t seen a.0 in
    let o : ObjectParts = u.0 in
    let named : seen.name ≡ o.name = ap (λ (x : ObjectParts). x.name) u.1.1 ∙ name-with_writes t.writes o in
    let right : IsBornRight opening page after o = elim u.1.0 [
      | inl g ↦
          let unf : is_unfreed w.freed o ≡ true = subst (λ n. not (has_name w.freed n) ≡ true) named a.1 in
          old_one o g unf (each_in (IsBornRight opening page born) (filter (is_unfreed w.freed) w.graph) o h (filter_in (is_unfreed w.freed) w.graph o g unf))
      | inr n ↦ subst (IsBornRight opening page after) (sym n.2) (new_one n.0 n.1)
    ] in
    subst (λ n. n.page ≡ page → has_slot after n.slot ≡ not (is_old opening n)) (sym named) right)
  where
    old_one : (o : ObjectParts) → In o w.graph → is_unfreed w.freed o ≡ true → IsBornRight opening page born o → IsBornRight opening page after o
    old_one o g unf before = λ on.
        let e : list_any (is_at page o.name.slot) t.own ≡ false = subst (λ k. list_any (is_at k o.name.slot) t.own ≡ false) on (own_elsewhere w t o lawful m g unf) in
        made o.name.slot ∙ (or_false (has_slot born o.name.slot) (list_any (is_at page o.name.slot) t.own) e ∙ before on)

    new_one : (n : NameParts) → In n t.own → IsBornRight opening page after (new_object w n)
    new_one n i = λ on.
        let at : is_at page n.slot n ≡ true = and_from (n.page == page) (n.slot == n.slot) (eq-eqb n.page page on) (eq-eqb n.slot n.slot refl) in
        let sv = safe_view w t lawful.counted (lawful_one w t lawful m) in
        let new : has_object w.graph n ≡ false = sv.own_are_new n (in_has_name t.own n i) in
        let out : is_old opening n ≡ false = elim (cases_Bool (is_old opening n)) [
          | inr e ↦ e
          | inl e ↦ let b : has_object w.graph n ≡ true = keeps.lost.there n e in cc
        ] in
        made n.slot ∙ (or_right (has_slot born n.slot) (list_any (is_at page n.slot) t.own) (in_any (is_at page n.slot) t.own n i at) ∙ sym (ap not out))

-- on a page that wasn't written nothing was made
made_none : (w : World) (t : Transaction) (page born : ℕ) → IsOrderly w → In t w.transactions → has_page t.pages_written page ≡ false → IsMade t page born born
made_none w t page born lawful m away = λ slot.
    let none : list_any (is_at page slot) t.own ≡ false = elim (cases_Bool (list_any (is_at page slot) t.own)) [
      | inr e ↦ e
      | inl e ↦
          let a = any_in (is_at page slot) t.own e in
          let n : NameParts = a.0 in
          let b = and_parts (n.page == page) (n.slot == slot) a.2 in
          let own : has_page t.pages_written n.page ≡ true = (each_in (IsOwn w.graph w.freed t) t.own n (lawful_one w t lawful m).own a.1).page in
          let c : has_page t.pages_written page ≡ true = subst (λ k. has_page t.pages_written k ≡ true) (eqb-true n.page page b.0) own in
          cc
    ] in
    sym (or_false (has_slot born slot) (list_any (is_at page slot) t.own) none)

-- ---- the commit

later : {A : Type 0} (f : A → ℕ) (o : Option A) (n : ℕ) → IfSome o (λ a. f a ≤ n) → IfSome o (λ a. f a ≤ n + 1)
later f None n h = tt
later f (Some a) n h = omega arith

-- a page that was written, with its after-image
pub commit_keeps_written : (w : World) (t : Transaction) (opening : Opening) (page born : ℕ) (p : CutPage) → IsOrderly w → In t w.transactions → KeepsOpening w opening
    → IsMade t page p.born born → IsSoundPage (state_of w) opening page p
    → IsSoundPage (state_after w t) opening page (with_commit (shown_in w (view w t) page) (w.commits + 1) born p)
commit_keeps_written w t opening page born p lawful m keeps made sound = record {
  settled = refl;
  images = (view_safe w t opening page lawful m keeps, all_right (IsSafeImage opening page) (images_of_after p.after) (images_of_copy p.copy) sound.images);
  born = born_after w t opening page p.born born lawful m keeps made sound.born;
  copied = later (λ (c : CopyParts). c.moment) p.copy w.commits sound.copied;
  changed = omega arith;
}

-- a page that wasn't written stays as it is
pub commit_keeps_other : (w : World) (t : Transaction) (opening : Opening) (page : ℕ) (p : CutPage) → IsOrderly w → In t w.transactions → KeepsOpening w opening
    → has_page t.pages_written page ≡ false → IsSoundPage (state_of w) opening page p → IsSoundPage (state_after w t) opening page p
commit_keeps_other w t opening page p lawful m keeps away sound = record {
  settled = subst (λ shown. IfSome (settled_image p) (λ image. image ≡ shown)) (sym (shown_stays w t page lawful m away)) sound.settled;
  images = sound.images;
  born = born_after w t opening page p.born p.born lawful m keeps (made_none w t page p.born lawful m away) sound.born;
  copied = later (λ (c : CopyParts). c.moment) p.copy w.commits sound.copied;
  changed = later (λ (a : AfterImage). a.moment) p.after w.commits sound.changed;
}

-- a page that was written and has no image yet may stay without one
pub commit_keeps_bare : (w : World) (t : Transaction) (opening : Opening) (page born : ℕ) (p : CutPage) → IsOrderly w → In t w.transactions → KeepsOpening w opening
    → p.copy ≡ None → p.after ≡ None → IsMade t page p.born born → IsSoundPage (state_of w) opening page p
    → IsSoundPage (state_after w t) opening page (record p { born = born })
commit_keeps_bare w t opening page born p lawful m keeps no_copy no_change made sound = record {
  settled = subst (λ a. IfSome (settled_with a p.copy) (λ image. image ≡ shown_in w (view w t) page)) (sym no_change)
      (subst (λ c. IfSome (settled_with None c) (λ image. image ≡ shown_in w (view w t) page)) (sym no_copy) tt);
  images = sound.images;
  born = born_after w t opening page p.born born lawful m keeps made sound.born;
  copied = later (λ (c : CopyParts). c.moment) p.copy w.commits sound.copied;
  changed = later (λ (a : AfterImage). a.moment) p.after w.commits sound.changed;
}

pub commit_keeps_cut : (w : World) (t : Transaction) (opening : Opening) (pages after : List CutPage) → IsOrderly w → In t w.transactions → KeepsOpening w opening
    → IsCutAfter w t pages after → IsSound (state_of w) opening pages → IsSound (state_after w t) opening after
commit_keeps_cut w t opening pages after lawful m keeps is sound = λ page within.
    let low : page < length pages = let e = is.all in omega arith in
    elim (cases_Bool (has_page t.pages_written page)) [
      | inl e ↦ elim (is.written page low e) [
        | inl q ↦ subst (IsSoundPage (state_after w t) opening page) (sym q)
            (commit_keeps_written w t opening page (is.made page) (get_or pages page bare_page) lawful m keeps (is.is_made page e) (sound page low))
        | inr q ↦ subst (IsSoundPage (state_after w t) opening page) (sym q.2)
            (commit_keeps_bare w t opening page (is.made page) (get_or pages page bare_page) lawful m keeps q.0 q.1 (is.is_made page e) (sound page low))
      ]
      | inr e ↦ subst (IsSoundPage (state_after w t) opening page) (sym (is.others page e))
          (commit_keeps_other w t opening page (get_or pages page bare_page) lawful m keeps e (sound page low))
    ]

-- ---- a fit copy stays fit

-- where the page was written, its after-image is later than the copy
pub fit_stays_written : (w : World) (t : Transaction) (opening : Opening) (page born : ℕ) (p : CutPage) (c : CopyParts)
    → IsFitCopy (state_of w) opening page p c → IsFitCopy (state_after w t) opening page (with_commit (shown_in w (view w t) page) (w.commits + 1) born p) c
fit_stays_written w t opening page born p c fit = let h = fit.moment in record { settled = inr (omega arith); images = fit.images; since = fit.since; moment = omega arith }

pub fit_stays_other : (w : World) (t : Transaction) (opening : Opening) (page : ℕ) (p : CutPage) (c : CopyParts) → IsOrderly w → In t w.transactions
    → has_page t.pages_written page ≡ false → IsFitCopy (state_of w) opening page p c → IsFitCopy (state_after w t) opening page p c
fit_stays_other w t opening page p c lawful m away fit = let h = fit.moment in record {
  settled = elim fit.settled [ inl e ↦ inl (e ∙ sym (shown_stays w t page lawful m away)) | inr z ↦ inr z ];
  images = fit.images;
  since = fit.since;
  moment = omega arith;
}
