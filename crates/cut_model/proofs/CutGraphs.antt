-- The graph of a cut: which objects are in it.
use Rattle.std.proofs.Common.{◌≡◌, ℕ, ◌<◌, true, List, ◌++◌, length, get_or, Option, Some, None, refl, sym, subst, ap, ◌∙◌, inl, inr}
use Rattle.std.specs.Option.{is_some, IfSome, unwrap_or}
use Rattle.object_graph.specs.SlotParts.{SlotParts}
use Rattle.object_graph.specs.ObjectParts.{ObjectParts}
use Rattle.object_graph.specs.Slots.{below}
use Rattle.store_model.specs.Worlds.{Opening}
use Rattle.object_graph.proofs.Members.{In, each_in}
use Rattle.store_model.proofs.Cuts.{below_bound}
use Rattle.store_model.specs.States.{State, shown_by}
use Rattle.store_model.specs.Images.{objects_of}
use Rattle.cut_model.specs.CutPages.{CopyParts, AfterImage, CutPage, bare_page, committed_image, settled_with, settled_image, images_of_before, images_of_copy, images_of_after, images_of, objects_on, cut_graph}
use Rattle.cut_model.specs.Sound.{IsSafeObject, IsSafeImage, IsSoundPage, IsSound}
use Rattle.store_model.proofs.Flats.{in_flat, flat_in}
use Rattle.store_model.proofs.Lists.{in_below}

-- the settled image is one of the images
committed_in : (c : CopyParts) (before : Option (List SlotParts)) → before ≡ c.before → In (committed_image c) (images_of_copy (Some c))
committed_in c None e = inl (ap (λ (b : Option (List SlotParts)). unwrap_or b c.current) (sym e))
committed_in c (Some image) e =
    inr (subst (λ (b : Option (List SlotParts)). In (unwrap_or b c.current) (images_of_before b)) e (inl refl))

settled_in_with : (after : Option AfterImage) (copy : Option CopyParts) (image : List SlotParts) → settled_with after copy ≡ Some image
    → In image (images_of_after after ++ images_of_copy copy)
settled_in_with (Some a) copy image e = inl (let q : a.image ≡ image = cc in sym q)
settled_in_with None None image e = cc
settled_in_with None (Some c) image e =
    let q : committed_image c ≡ image = cc in
    subst (λ i. In i (images_of_copy (Some c))) q (committed_in c c.before refl)

pub settled_in : (p : CutPage) (image : List SlotParts) → settled_image p ≡ Some image → In image (images_of p)
settled_in p image e = settled_in_with p.after p.copy image e

-- a page with a copy has a settled image
settled_there_with : (after : Option AfterImage) (copy : Option CopyParts) → is_some copy ≡ true → (image : List SlotParts) × (settled_with after copy ≡ Some image)
settled_there_with (Some a) copy h = (a.image, refl)
settled_there_with None (Some c) h = (committed_image c, refl)
settled_there_with None None h = cc

-- what a sound page with a copy has settled is what is shown
pub settled_shown : (s : State) (opening : Opening) (page : ℕ) (p : CutPage) → IsSoundPage s opening page p → is_some p.copy ≡ true
    → settled_image p ≡ Some (shown_by s page)
settled_shown s opening page p sound h =
    let t = settled_there_with p.after p.copy h in
    let k = subst (λ o. IfSome o (λ image. image ≡ shown_by s page)) t.1 sound.settled in
    t.1 ∙ ap (λ (i : List SlotParts). Some i) k

-- an object in an image of a page is in the graph of the cut
pub in_cut_graph : (pages : List CutPage) (page : ℕ) (image : List SlotParts) (o : ObjectParts) → page < length pages
    → In image (images_of (get_or pages page bare_page)) → In o (objects_of page image) → In o (cut_graph pages)
in_cut_graph pages page image o h i m =
    flat_in (λ (page : ℕ). objects_on page (get_or pages page bare_page)) (below (length pages)) page o (in_below (length pages) page h)
    (flat_in (objects_of page) (images_of (get_or pages page bare_page)) image o i m)

-- an object of the graph of a sound cut is safe
pub cut_graph_safe : (s : State) (opening : Opening) (pages : List CutPage) (o : ObjectParts) → IsSound s opening pages → In o (cut_graph pages) → IsSafeObject opening o
cut_graph_safe s opening pages o sound m =
    let a = in_flat (λ (page : ℕ). objects_on page (get_or pages page bare_page)) (below (length pages)) o m in
    let page : ℕ = a.0 in
    let b = in_flat (objects_of page) (images_of (get_or pages page bare_page)) o a.2 in
    let p = sound page (below_bound (length pages) page a.1) in
    each_in (IsSafeObject opening) (objects_of page b.0) o (each_in (IsSafeImage opening page) (images_of (get_or pages page bare_page)) b.0 p.images b.1) b.2
