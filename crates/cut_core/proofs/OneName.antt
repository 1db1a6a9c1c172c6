-- One name at each place of a cut.
use Rattle.std.proofs.Common.{◌≡◌, ℕ, true, not, List, [], ◌∷◌, length, refl, sym, ap, ◌∙◌, inl}
use Rattle.std.specs.List.{filter}
use Rattle.std.proofs.lemmas.Bool.{and_parts}
use Rattle.object_graph.specs.NameParts.{NameParts}
use Rattle.object_graph.specs.Names.{root_name}
use Rattle.object_graph.specs.ObjectParts.{ObjectParts}
use Rattle.object_graph.specs.Graphs.{has_name, has_object, is_at, objects_at}
use Rattle.object_graph.proofs.Members.{In, each_in, in_filter, filter_in}
use Rattle.object_graph.proofs.Paths.{has_object_in}
use Rattle.store_model.specs.Worlds.{World, Opening, is_unfreed}
use Rattle.store_model.specs.Images.{unfreed_at}
use Rattle.store_model.specs.Lawful.{IsOrderly, IsLastOfPlace}
use Rattle.cut_model.specs.CutPages.{CutPage, cut_graph}
use Rattle.cut_model.specs.Sound.{IsSafeObject}
use Rattle.cut_model.specs.States.{KeepsOpening, generation_at, generation_with}
use Rattle.cut_model.proofs.Places.{one_name}
use Rattle.transactions.proofs.Viewed.{place_of}
use Rattle.cut_builder.specs.CutParts.{HasOneNameEach}

-- an unfreed object at a place has the last generation there
last_there : (w : World) (page slot : ℕ) (o : ObjectParts) → IsOrderly w → In o (unfreed_at w.graph w.freed page slot) → o.name.generation ≡ length (objects_at w.graph page slot)
last_there w page slot o h m =
    let a = in_filter (is_unfreed w.freed) (objects_at w.graph page slot) o m in
    let p = place_of page slot w.graph o a.0 in
    let in_graph : In o w.graph = (in_filter (λ (x : ObjectParts). is_at page slot x.name) w.graph o a.0).0 in
    each_in (IsLastOfPlace w.graph) (filter (is_unfreed w.freed) w.graph) o h.last (filter_in (is_unfreed w.freed) w.graph o in_graph a.1)
    ∙ (ap (λ n. length (objects_at w.graph n o.name.slot)) p.0 ∙ ap (λ n. length (objects_at w.graph page n)) p.1)

root_there : (w : World) → IsOrderly w → (r : ObjectParts) × In r (unfreed_at w.graph w.freed 0 0) × (r.name ≡ root_name)
root_there w h =
    let both = and_parts (has_object w.graph root_name) (not (has_name w.freed root_name)) h.root in
    let r = has_object_in w.graph root_name both.0 in
    let placed : is_at 0 0 r.0.name ≡ true = ap (is_at 0 0) r.2 in
    let unfreed : is_unfreed w.freed r.0 ≡ true = ap (λ n. not (has_name w.freed n)) r.2 ∙ both.1 in
    (r.0, filter_in (is_unfreed w.freed) (objects_at w.graph 0 0) r.0 (filter_in (λ (x : ObjectParts). is_at 0 0 x.name) w.graph r.0 r.1 placed) unfreed, r.2)

first_is : (us : List ObjectParts) (n k : ℕ) (r : ObjectParts) → In r us → ((o : ObjectParts) → In o us → o.name.generation ≡ n) → generation_with us k ≡ n
first_is [] n k r m all = absurd m
first_is (o ∷ os) n k r m all = all o (inl refl)

root_generation : (w : World) → IsOrderly w → generation_at w.graph w.freed 0 0 ≡ 1
root_generation w h =
    let r = root_there w h in
    let count : length (objects_at w.graph 0 0) ≡ 1 = sym (last_there w 0 0 r.0 h r.1) ∙ ap (λ (n : NameParts). n.generation) r.2 in
    first_is (unfreed_at w.graph w.freed 0 0) 1 (length (objects_at w.graph 0 0)) r.0 r.1 (λ o m. last_there w 0 0 o h m ∙ count)

same_name : (a b : NameParts) → a.page ≡ b.page → a.slot ≡ b.slot → a.generation ≡ b.generation → a ≡ b
same_name a b page slot generation = λ i. record { page = page i; slot = slot i; generation = generation i }

pub one_name_each : (w : World) (opening : Opening) (pages : List CutPage) → IsOrderly w → KeepsOpening w opening → ((o : ObjectParts) → In o (cut_graph pages) → IsSafeObject opening o) → HasOneNameEach pages
one_name_each w opening pages orderly keeps safe = record {
  once = λ a b m n page slot. one_name opening a b (safe a m) (safe b n) page slot;
  root = λ o m page slot.
      same_name o.name root_name page slot
      ((safe o m).name
      ∙ (ap (λ n. generation_at opening.graph opening.freed n o.name.slot) page ∙ (ap (λ n. generation_at opening.graph opening.freed 0 n) slot
      ∙ (sym (keeps.names 0 0) ∙ root_generation w orderly))));
}
