-- The small cuts: what they mark, and that the spoiled ones aren't sound.
use Rattle.std.proofs.Common.{◌≡◌, List, [], ◌∷◌, get_or, Option, Some, None, refl, ap, arith}
use Rattle.object_graph.specs.NameParts.{NameParts}
use Rattle.object_graph.specs.Names.{root_name}
use Rattle.object_graph.specs.SlotParts.{SlotParts}
use Rattle.store_model.specs.Images.{shown_of, no_slot}
use Rattle.store_model.specs.States.{state_of}
use Rattle.cut_model.specs.CutPages.{IsMarked}
use Rattle.cut_model.specs.Sound.{IsSound}
use Rattle.cut_model.specs.Examples.{dirty_at, dirty_opening, linked, dirty_cut, lossy_cut, moved_at, moved_opening, target, moved_cut, stale_cut}

pub linked_is_marked : IsMarked (root_name ∷ []) dirty_cut linked
unfolding shown_of
linked_is_marked = (root_name, refl, (linked ∷ [], (refl, refl, (refl, refl))))

abbrev first_ref : List SlotParts → Option NameParts
first_ref image = get_or (get_or image 0 no_slot).refs 0 None

pub lossy_is_unsound : ¬ IsSound (state_of (dirty_at 10)) dirty_opening lossy_cut
unfolding shown_of
lossy_is_unsound = λ sound.
    let settled = (sound 0 (omega arith)).settled in
    let z : None ≡ Some linked = ap first_ref settled in cc

pub target_is_marked : IsMarked (root_name ∷ []) moved_cut target
unfolding shown_of
target_is_marked = (root_name, refl, (target ∷ [], (refl, refl, (refl, refl))))

abbrev second_ref : List SlotParts → Option NameParts
second_ref image = get_or (get_or image 0 no_slot).refs 1 None

pub stale_is_unsound : ¬ IsSound (state_of (moved_at 16)) moved_opening stale_cut
unfolding shown_of
stale_is_unsound = λ sound.
    let settled = (sound 0 (omega arith)).settled in
    let z : None ≡ Some target = ap second_ref settled in cc
