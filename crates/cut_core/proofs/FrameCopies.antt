-- What frames give a cut.
use Rattle.std.proofs.Common.{◌≡◌, ℕ, ◌<◌, ◌==◌, Bool, true, false, if◌then◌else◌, List, [], ◌∷◌, Option, Some, None, refl, sym, ap, ◌∙◌, inl, inr}
use Rattle.std.specs.List.{find}
use Rattle.std.specs.Option.{unwrap_or}
use Rattle.object_graph.proofs.Members.{In}
use Rattle.page_image.specs.Pages.{PageParts}
use Rattle.page_buffer.specs.Frames.{clean_frame, frame_at}
use Rattle.page_buffer.specs.declared.frame.Frame.{Frame}
use Rattle.store_model.specs.Worlds.{World, Transaction, find_transaction, transaction, fresh_transaction, view}
use Rattle.store_model.specs.Causes.{has_page}
use Rattle.cut_model.specs.CutPages.{CopyParts}
use Rattle.cut_model.specs.Frames.{writer_of, copy_with, copy_now}
use Rattle.transactions.specs.Standing.{TransactionsParts, IsReady, IsFrameOf, image_in, wrote}
use Rattle.transactions.proofs.Numbers.{found_at, found_in_list, transaction_found}
use Rattle.cut_core.specs.Joints.{copy_of_frame}

-- where nobody wrote the page, nobody did
unfound : (p : Transaction → Bool) (ts : List Transaction) → find p ts ≡ None → (t : Transaction) → In t ts → p t ≡ false
unfound p [] none t m = absurd m
unfound p (u ∷ us) none t m = by (p u) refl (unfound p us)
  where
    by : (b : Bool) → p u ≡ b → (find p us ≡ None → (t : Transaction) → In t us → p t ≡ false) → p t ≡ false
    by true e rest = let z : Some u ≡ None = sym (ap (λ (b : Bool). if b then Some u else find p us) e) ∙ none in absurd cc
    by false e rest = elim m [
      | inl same ↦ ap p same ∙ e
      | inr later ↦ rest (sym (ap (λ (b : Bool). if b then Some u else find p us) e) ∙ none) t later
    ]

unwritten : (w : World) (page : ℕ) → writer_of w.transactions page ≡ None → (txn : ℕ) → wrote w txn page ≡ false
unwritten w page none txn = by (find_transaction w txn) refl
  where
    by : (o : Option Transaction) → find_transaction w txn ≡ o → has_page (unwrap_or (find_transaction w txn) (fresh_transaction txn)).pages_written page ≡ false
    by None is = ap (λ o. has_page (unwrap_or o (fresh_transaction txn)).pages_written page) is
    by (Some t) is =
        ap (λ o. has_page (unwrap_or o (fresh_transaction txn)).pages_written page) is
        ∙ unfound (λ u. has_page u.pages_written page) w.transactions none t (found_in_list (λ (u : Transaction). u.number == txn) w.transactions t is).0

same_copy : (a b : CopyParts) → a.current ≡ b.current → a.before ≡ b.before → a.moment ≡ b.moment → a ≡ b
same_copy a b current before moment = λ i. record { current = current i; before = before i; moment = moment i }

-- the frame of a page that nobody wrote
clean_copy : (w : World) (page : ℕ) (frame : Frame) → IsFrameOf w page frame → ((txn : ℕ) → wrote w txn page ≡ false) → copy_of_frame w.commits frame ≡ copy_with w page None
clean_copy w page frame f nobody =
    let clean = f.clean nobody in
    ap (copy_of_frame w.commits) clean
    ∙ ap (λ (p : PageParts). copy_of_frame w.commits (clean_frame p)) f.before

-- and of one that a transaction wrote
dirty_copy : (w : World) (page : ℕ) (frame : Frame) (t : Transaction) → IsFrameOf w page frame → transaction w t.number ≡ t → has_page t.pages_written page ≡ true → copy_of_frame w.commits frame ≡ copy_with w page (Some t)
dirty_copy w page frame t f is did =
    let wrote_it : wrote w t.number page ≡ true = ap (λ (u : Transaction). has_page u.pages_written page) is ∙ did in
    let current : frame.current ≡ image_in w (view w t) page = f.current t.number wrote_it ∙ ap (λ (u : Transaction). image_in w (view w u) page) is in
    same_copy (copy_of_frame w.commits frame) (copy_with w page (Some t))
    (ap (λ (p : PageParts). p.slots) current)
    (ap (λ b. if b then Some frame.before.slots else None) (f.dirty t.number wrote_it) ∙ ap (λ (p : PageParts). Some p.slots) f.before)
    refl

pub frame_copy : (s : TransactionsParts) (w : World) (page : ℕ) → IsReady s w → page < w.pages → copy_of_frame w.commits (frame_at s.frames page) ≡ copy_now w page
frame_copy s w page ready low = by (writer_of w.transactions page) refl
  where
    by : (o : Option Transaction) → writer_of w.transactions page ≡ o → copy_of_frame w.commits (frame_at s.frames page) ≡ copy_with w page (writer_of w.transactions page)
    by None is = clean_copy w page (frame_at s.frames page) (ready.stands.frames.each page low) (unwritten w page is) ∙ ap (copy_with w page) (sym is)
    by (Some t) is =
        let m = found_in_list (λ (u : Transaction). has_page u.pages_written page) w.transactions t is in
        dirty_copy w page (frame_at s.frames page) t (ready.stands.frames.each page low) (transaction_found w t.number t (found_at w t ready.lawful.orderly.distinct m.0)) m.1
        ∙ ap (copy_with w page) (sym is)
