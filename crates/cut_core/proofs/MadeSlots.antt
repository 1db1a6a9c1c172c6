-- The slots that a commit makes.
use Rattle.std.proofs.Common.{◌≡◌, ℕ, ◌<◌, ◌==◌, Bool, true, false, not, ◌&&◌, cond, List, [], ◌∷◌, ◌++◌, map, length, Option, Some, None, refl, sym, subst, ap, ◌∙◌, inl, append-nil, arith}
use Rattle.std.specs.List.{filter, list_any}
use Rattle.std.specs.Option.{unwrap_or}
use Rattle.std.proofs.lemmas.Bool.{false_from_ne_true}
use Rattle.object_graph.specs.NameParts.{NameParts}
use Rattle.object_graph.specs.SlotParts.{SlotParts}
use Rattle.object_graph.specs.ObjectParts.{ObjectParts}
use Rattle.object_graph.specs.Graphs.{has_name, is_at}
use Rattle.object_graph.proofs.Members.{In, any_in, in_any, each_in, in_filter, filter_in}
use Rattle.page_image.specs.Pages.{PageParts, slot_at}
use Rattle.page_image.specs.Slots.{fresh_slot}
use Rattle.page_buffer.specs.Frames.{frame_at}
use Rattle.store_model.specs.Worlds.{World, Transaction, find_transaction, transaction, fresh_transaction, view, slots_of, fields_of, is_unfreed, new_object, with_writes}
use Rattle.store_model.specs.Causes.{has_page}
use Rattle.store_model.specs.Images.{unfreed_at, slot_with, shown_slot}
use Rattle.store_model.specs.Lawful.{IsLawful, IsLawfulTransaction}
use Rattle.transactions.specs.Standing.{TransactionsParts, IsReady, IsFrameOf, image_in, wrote}
use Rattle.transactions.proofs.Numbers.{found_in_list, transaction_found}
use Rattle.transactions.proofs.Seen.{unfreed_at-view, nothing_unfreed, own_unfreed}
use Rattle.transactions.proofs.Shown.{get-shown}
use Rattle.cut_core.specs.Joints.{is_made}

abbrev has_some : List ObjectParts → Bool
has_some [] = false
has_some (o ∷ os) = true

in_use_with : (fields : ℕ) (us : List ObjectParts) (n : ℕ) → (slot_with fields us n).in_use ≡ has_some us
in_use_with fields [] n = refl
in_use_with fields (o ∷ os) n = refl

some_mapped : (f : ObjectParts → ObjectParts) (us : List ObjectParts) → has_some (map f us) ≡ has_some us
some_mapped f [] = refl
some_mapped f (o ∷ os) = refl

none_at : (q : NameParts → Bool) (xs : List NameParts) → filter q xs ≡ [] → list_any q xs ≡ false
none_at q xs e = false_from_ne_true (list_any q xs) (λ t. let a = any_in q xs t in subst (λ ys. In a.0 ys) e (filter_in q xs a.0 a.1 a.2))

not_both : (b : Bool) → (b && not b) ≡ false
not_both true = refl
not_both false = refl

module _ (w : World) (txn : ℕ) (t : Transaction) (page slot : ℕ) (lawful : IsLawful w) (found : find_transaction w txn ≡ Some t) where
  lt : IsLawfulTransaction w.graph w.freed t
  lt = each_in (IsLawfulTransaction w.graph w.freed) w.transactions t lawful.orderly.transactions (found_in_list (λ (u : Transaction). u.number == txn) w.transactions t found).0

  abbrev seen : List ObjectParts
  seen = unfreed_at (view w t) w.freed page slot

  abbrev there : List ObjectParts
  there = unfreed_at w.graph w.freed page slot

  pub made_there : (has_some seen && not (has_some there)) ≡ list_any (is_at page slot) t.own
  made_there = by (filter (is_at page slot) t.own) refl (lt.one_at_each_place page slot)
    where
      by : (names : List NameParts) → filter (is_at page slot) t.own ≡ names → length names < 2 → (has_some seen && not (has_some there)) ≡ list_any (is_at page slot) t.own
      by [] e few =
          let same : has_some seen ≡ has_some there =
          ap has_some (unfreed_at-view w t page slot
          ∙ (ap (λ ns. map (with_writes t.writes) (there ++ filter (is_unfreed w.freed) (map (new_object w) ns))) e
          ∙ ap (map (with_writes t.writes)) (append-nil there)))
          ∙ some_mapped (with_writes t.writes) there in
          ap (λ b. b && not (has_some there)) same ∙ (not_both (has_some there) ∙ sym (none_at (is_at page slot) t.own e))
      by (n ∷ []) e few =
          let i : In n (filter (is_at page slot) t.own) = subst (λ ns. In n ns) (sym e) (inl refl) in
          let a = in_filter (is_at page slot) t.own n i in
          let new : not (has_name w.freed n) ≡ true = ap not (own_unfreed w t n lawful lt a.0) in
          let none : there ≡ [] = nothing_unfreed w t n page slot lt i in
          let one : seen ≡ map (with_writes t.writes) (new_object w n ∷ []) =
          unfreed_at-view w t page slot
          ∙ (ap (λ ns. map (with_writes t.writes) (there ++ filter (is_unfreed w.freed) (map (new_object w) ns))) e
          ∙ (ap (λ us. map (with_writes t.writes) (us ++ filter (is_unfreed w.freed) (map (new_object w) (n ∷ [])))) none
          ∙ ap (λ b. map (with_writes t.writes) (cond b (new_object w n ∷ []) [])) new)) in
          ap (λ us. has_some us && not (has_some there)) one ∙ (ap (λ us. not (has_some us)) none ∙ sym (in_any (is_at page slot) t.own n a.0 a.1))
      by (n ∷ k ∷ ns) e few = absurd (omega arith)

pub frame_made : (s : TransactionsParts) (w : World) (txn page slot : ℕ) → IsReady s w → page < w.pages → wrote w txn page ≡ true → slot < slots_of w page
    → is_made (frame_at s.frames page) slot ≡ list_any (is_at page slot) (transaction w txn).own
frame_made s w txn page slot ready low did within = by (find_transaction w txn) refl
  where
    f : IsFrameOf w page (frame_at s.frames page)
    f = ready.stands.frames.each page low

    by : (o : Option Transaction) → find_transaction w txn ≡ o → is_made (frame_at s.frames page) slot ≡ list_any (is_at page slot) (transaction w txn).own
    by None is = let bad : false ≡ true = sym (ap (λ o. has_page (unwrap_or o (fresh_transaction txn)).pages_written page) is) ∙ did in absurd cc
    by (Some t) is =
        let same = transaction_found w txn t is in
        let current : slot_at (frame_at s.frames page).current slot ≡ shown_slot (fields_of w page) (view w t) w.freed page slot =
        ap (λ (p : PageParts). slot_at p slot) (f.current txn did ∙ ap (λ (u : Transaction). image_in w (view w u) page) same)
        ∙ get-shown (slots_of w page) (fields_of w page) (view w t) w.freed page slot fresh_slot within in
        let before : slot_at (frame_at s.frames page).before slot ≡ shown_slot (fields_of w page) w.graph w.freed page slot =
        ap (λ (p : PageParts). slot_at p slot) f.before ∙ get-shown (slots_of w page) (fields_of w page) w.graph w.freed page slot fresh_slot within in
        ap (λ (c : SlotParts). c.in_use && not (slot_at (frame_at s.frames page).before slot).in_use) current
        ∙ (ap (λ (b : SlotParts). (shown_slot (fields_of w page) (view w t) w.freed page slot).in_use && not b.in_use) before
        ∙ (ap (λ b. b && not (shown_slot (fields_of w page) w.graph w.freed page slot).in_use) (in_use_with (fields_of w page) (unfreed_at (view w t) w.freed page slot) _)
        ∙ (ap (λ b. has_some (unfreed_at (view w t) w.freed page slot) && not b) (in_use_with (fields_of w page) (unfreed_at w.graph w.freed page slot) _)
        ∙ (made_there w txn t page slot ready.lawful is ∙ ap (λ (u : Transaction). list_any (is_at page slot) u.own) (sym same)))))
