-- What a commit's record does to the images is what the commit does to the state.
use Rattle.std.proofs.Common.{◌≡◌, ℕ, ◌+◌, false, List, [], ◌∷◌, map, Option, Some, None, refl, sym, ◌∙◌, ap, true}
use Rattle.std.specs.Prelude.{is_some}
use Rattle.std.specs.List.{AllByRecursion}
use Rattle.object_graph.specs.NameParts.{NameParts}
use Rattle.object_graph.specs.Slots.{below}
use Rattle.object_graph.specs.declared.calls.Call.TheVariants.{Commit}
use Rattle.object_graph.specs.declared.calls.Reply.TheVariants.{Committed}
use Rattle.object_graph.proofs.Members.{each_in}
use Rattle.page_image.specs.Pages.{PageParts}
use Rattle.redo_journal.specs.Replays.{last_image}
use Rattle.store_model.specs.Causes.{has_page, first_refusal}
use Rattle.store_model.specs.Images.{shown_slot, shown_of, shown_in, shown}
use Rattle.store_model.specs.Lawful.{IsLawful, IsKnownWrite, IsOwn, IsLawfulTransaction}
use Rattle.store_model.specs.Steps.{committed}
use Rattle.store_model.specs.Worlds.{World, Transaction, Note, transaction, view, slots_of, fields_of}
use Rattle.store_model.proofs.Lists.{all_map}
use Rattle.store_model.proofs.Images.{commit_keeps_slot}
use Rattle.store_model.proofs.Lawfulness.{event_is_lawful}
use Rattle.store_model.proofs.Opened.{commit_is_open}
use Rattle.store_model.specs.States.{state_of, state_after}
use Rattle.image_model.specs.Records.{slots_or, TakesImages, IsAfterRecord, AreOfCommit, commit_record}
use Rattle.image_model.proofs.RecordSteps.{last_has}
use Rattle.image_model.proofs.States.{lawful_state}

map_same : {A B : Type 0} (f g : A → B) (xs : List A) → ((x : A) → f x ≡ g x) → map f xs ≡ map g xs
map_same f g [] h = refl
map_same {A} {B} f g (x ∷ xs) h = ap (λ (y : B). y ∷ map f xs) (h x) ∙ ap (λ (l : List B). g x ∷ l) (map_same f g xs h)

-- a page that the transaction didn't write stays
commit_keeps_page : (w : World) (t : Transaction) (page : ℕ) → AllByRecursion (IsKnownWrite t) t.writes → AllByRecursion (λ n. has_page t.pages_written n.page ≡ true) t.own
    → has_page t.pages_written page ≡ false → shown_in w (view w t) page ≡ shown w page
unfolding shown_of
commit_keeps_page w t page known own away =
    map_same (shown_slot (fields_of w page) (view w t) w.freed page) (shown_slot (fields_of w page) w.graph w.freed page) (below (slots_of w page)) (λ slot. commit_keeps_slot w t (fields_of w page) page slot known own away)

pub commit_takes : (w : World) (t : Transaction) (images : List PageParts) → AllByRecursion (IsKnownWrite t) t.writes → AllByRecursion (λ n. has_page t.pages_written n.page ≡ true) t.own
    → AreOfCommit w t images → TakesImages w.pages images (state_of w) (state_after w t)
commit_takes w t images known own h = λ page lt. by_image page (last_image images page) refl
  where
    by_image : (page : ℕ) (image : Option PageParts) → last_image images page ≡ image → shown_in w (view w t) page ≡ slots_or (shown w page) (last_image images page)
    by_image page None e = commit_keeps_page w t page known own (h.all page (ap (λ (image : Option PageParts). is_some image) e)) ∙ ap (slots_or (shown w page)) (sym e)
    by_image page (Some p) e =
        let a = last_has (λ (q : PageParts). q.slots ≡ shown_in w (view w t) q.number) images page p (λ q i. each_in (λ (q : PageParts). q.slots ≡ shown_in w (view w t) q.number) images q h.shows i) e in
        sym (a.1 ∙ ap (shown_in w (view w t)) a.0) ∙ ap (slots_or (shown w page)) (sym e)

pub commit_makes : (w : World) (n : ℕ) (note : Note) (images : List PageParts) → IsLawful w → first_refusal w (Commit n) note ≡ None → AreOfCommit w (transaction w n) images
    → IsAfterRecord w.pages (commit_record images) (state_of w) (state_after w (transaction w n))
commit_makes w n note images h open_now are =
    let t : Transaction = transaction w n in
    let l = each_in (IsLawfulTransaction w.graph w.freed) w.transactions t h.orderly.transactions (commit_is_open w n note open_now) in
    record {
      images = commit_takes w t images l.writes (all_map (IsOwn w.graph w.freed t) (λ (k : NameParts). has_page t.pages_written k.page ≡ true) t.own l.own (λ k m own. own.page)) are;
      commits = refl;
      state = lawful_state (committed w n) (event_is_lawful w (Commit n) note (Committed (w.commits + 1)) h (open_now, refl));
    }
