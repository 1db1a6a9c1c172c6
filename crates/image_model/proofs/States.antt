-- The states of lawful worlds, and of the world that a store opens to.
use Rattle.std.proofs.Common.{◌≡◌, ℕ, List, Result, refl, sym, ap, subst}
use Rattle.store_model.specs.Lawful.{IsLawful}
use Rattle.store_model.specs.Worlds.{World}
use Rattle.store_model.proofs.OpenedWorlds.{opened_is_lawful, opened_shows}
use Rattle.store_model.proofs.ShownWorlds.{shows_root, shows_whole}
use Rattle.store_model.specs.States.{state_of}
use Rattle.image_model.specs.Opening.{StoreParts, Fault, store_images}
use Rattle.image_model.specs.Stores.{IsStore}
use Rattle.image_model.specs.Stands.{IsState, StandsFor, StandsForWorld, store_or_none, world_held, opened_world}
use Rattle.image_model.proofs.Openings.{opens_parts}
use Rattle.image_model.proofs.Pages.{opened_images}
use Rattle.image_model.proofs.Doubts.{stands_as_before}

-- what a lawful world has committed is a state that a store may have
pub lawful_state : (w : World) → IsLawful w → IsState w.pages (state_of w)
lawful_state w h = record {
  placed = h.orderly.placed;
  counted = h.orderly.counted;
  last = h.orderly.last;
  freed_there = h.orderly.freed_there;
  rooted = record { root = shows_root w h.orderly; whole = shows_whole w h };
}

pub opened_is : (file : List ℕ) (store : StoreParts) → IsStore file store → opened_world file ≡ world_held store
opened_is file store h = ap (λ (r : Result StoreParts Fault). world_held (store_or_none r)) h.opens

held_lawful : (file : List ℕ) (store : StoreParts) → IsStore file store → IsLawful (world_held store)
held_lawful file store h = opened_is_lawful store.commits (store_images store) (opened_images file store (opens_parts file store h.opens)) h.rooted.root h.rooted.whole

pub opened_lawful : (file : List ℕ) (store : StoreParts) → IsStore file store → IsLawful (opened_world file)
opened_lawful file store h = subst IsLawful (sym (opened_is file store h)) (held_lawful file store h)

pub held_stands : (file : List ℕ) (store : StoreParts) → IsStore file store → StandsFor file (world_held store).pages (state_of (world_held store))
held_stands file store h = record {
  content = store;
  store = h;
  shows = sym (opened_shows store.commits (store_images store) (opened_images file store (opens_parts file store h.opens)));
  commits = refl;
  state = lawful_state (world_held store) (held_lawful file store h);
}

pub store_stands : (file : List ℕ) (store : StoreParts) → IsStore file store → StandsForWorld file (opened_world file)
store_stands file store h = subst (StandsForWorld file) (sym (opened_is file store h)) (stands_as_before file (world_held store) (held_stands file store h))
