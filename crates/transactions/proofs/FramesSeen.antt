-- The frames after a step of a transaction.
use Rattle.std.proofs.Common.{◌≡◌, ◌≢◌, ℕ, ◌<◌, true, false, ◌||◌, ◌==◌, List, length, Some, refl, sym, subst, ap, ◌∙◌, inl, inr, arith, set, get_or-set_same, get_or-set_other}
use Rattle.std.proofs.lemmas.Bool.{cases_Bool, cases_eq, eq-eqb, eqb-true, ne_eqb, or_cases}
use Rattle.std.proofs.lemmas.List.{length-set}
use Rattle.store_model.specs.Worlds.{World, Transaction, find_transaction, transaction, view}
use Rattle.store_model.specs.Causes.{has_page}
use Rattle.store_model.specs.Steps.{with_page, with_transaction}
use Rattle.store_model.specs.Lawful.{IsLawfulTransaction}
use Rattle.page_buffer.specs.Frames.{frame_at, blank_frame}
use Rattle.page_buffer.specs.declared.frame.Frame.{Frame}
use Rattle.transactions.specs.Standing.{image_in, wrote, IsFrameOf, AreFramesOf}
use Rattle.transactions.proofs.Numbers.{KeepsNumber, transaction_found}
use Rattle.transactions.proofs.Images.{unwritten_page}
use Rattle.transactions.proofs.Entries.{or_false, or_true, has_page-with_page}
use Rattle.transactions.proofs.LocksHeld.{at_same, at_other}

-- the current image of a page that nobody else wrote is what the transaction sees
pub sees : (w : World) (page : ℕ) (frame : Frame) (txn : ℕ) (t : Transaction) → IsFrameOf w page frame → find_transaction w txn ≡ Some t
    → IsLawfulTransaction w.graph w.freed t → ((u : ℕ) → u ≢ txn → wrote w u page ≡ false)
    → frame.current ≡ image_in w (view w t) page
sees w page frame txn t is found lawful alone =
    let e : transaction w txn ≡ t = transaction_found w txn t found in
    elim (cases_Bool (has_page t.pages_written page)) [
      | inl was ↦
          is.current txn (subst (λ u. has_page u.pages_written page ≡ true) (sym e) was)
          ∙ ap (λ u. image_in w (view w u) page) e
      | inr not_yet ↦
          ap (λ (f : Frame). f.current) (is.clean (λ u. elim (cases_eq u txn) [
            | inl same ↦ subst (λ v. wrote w v page ≡ false) (sym same) (subst (λ x. has_page x.pages_written page ≡ false) (sym e) not_yet)
            | inr ne ↦ alone u ne
          ]))
          ∙ (is.before ∙ ap (λ slots. record { number = page; slots = slots }) (sym (unwritten_page w t page lawful not_yet)))
    ]

-- a transaction changes a page that nobody else wrote
pub frames_change : (w : World) (frames : List Frame) (txn page : ℕ) (frame : Frame) (change : Transaction → Transaction) (t : Transaction) → AreFramesOf w frames
    → page < w.pages → find_transaction w txn ≡ Some t → KeepsNumber change
    → (change t).pages_written ≡ with_page page t.pages_written
    → ((u : ℕ) → u ≢ txn → wrote w u page ≡ false)
    → frame.before ≡ (frame_at frames page).before
    → frame.dirty ≡ true
    → frame.current ≡ image_in w (view w (change t)) page
    → ((p : ℕ) → p ≢ page → image_in w (view w (change t)) p ≡ image_in w (view w t) p)
    → AreFramesOf (with_transaction w txn change) (set frames page frame)
frames_change w frames txn page frame change t h lt found kept pages alone before dirty current elsewhere = record {
  count = length-set frames page frame ∙ h.count;
  written = λ u p e. elim (cases_eq u txn) [
    | inl same ↦ elim (or_cases (has_page t.pages_written p) (page == p) (sym (wrote_is p) ∙ subst (λ v. wrote w2 v p ≡ true) same e)) [
      | inl was ↦ h.written txn p (ap (λ x. has_page x.pages_written p) old ∙ was)
      | inr here ↦ subst (λ q. q < w.pages) (eqb-true page p here) lt
    ]
    | inr ne ↦ h.written u p (subst (λ x. has_page x.pages_written p ≡ true) (at_other w txn u change kept ne) e)
  ];
  each = λ p below_n. elim (cases_eq p page) [
    | inl here ↦
        subst (λ q. IsFrameOf w2 q (frame_at (set frames page frame) q)) (sym here)
        (subst (IsFrameOf w2 page) (sym (get_or-set_same frames page frame blank_frame in_frames)) (record {
          before = before ∙ (h.each page lt).before;
          current = λ u e. elim (cases_eq u txn) [
            | inl same ↦ current ∙ ap (λ x. image_in w (view w x) page) (sym (ap (transaction w2) same ∙ now))
            | inr ne ↦
                let z : wrote w u page ≡ true = subst (λ x. has_page x.pages_written page ≡ true) (at_other w txn u change kept ne) e in
                let y : wrote w u page ≡ false = alone u ne in cc
          ];
          dirty = λ u e. dirty;
          clean = λ none.
              let z : wrote w2 txn page ≡ false = none txn in
              let y : wrote w2 txn page ≡ true = wrote_is page ∙ (ap (λ b. has_page t.pages_written page || b) (eq-eqb page page refl) ∙ or_true (has_page t.pages_written page)) in cc;
        }))
    | inr away ↦
        subst (IsFrameOf w2 p) (sym (get_or-set_other frames page p frame blank_frame away)) (record {
          before = (h.each p below_n).before;
          current = λ u e. elim (cases_eq u txn) [
            | inl same ↦
                (h.each p below_n).current txn (still p away u same e)
                ∙ (ap (λ x. image_in w (view w x) p) old ∙ (sym (elsewhere p away) ∙ ap (λ x. image_in w (view w x) p) (sym (ap (transaction w2) same ∙ now))))
            | inr ne ↦
                (h.each p below_n).current u (subst (λ x. has_page x.pages_written p ≡ true) (at_other w txn u change kept ne) e)
                ∙ ap (λ x. image_in w (view w x) p) (sym (at_other w txn u change kept ne))
          ];
          dirty = λ u e. elim (cases_eq u txn) [
            | inl same ↦ (h.each p below_n).dirty txn (still p away u same e)
            | inr ne ↦ (h.each p below_n).dirty u (subst (λ x. has_page x.pages_written p ≡ true) (at_other w txn u change kept ne) e)
          ];
          clean = λ none. (h.each p below_n).clean (λ u. elim (cases_eq u txn) [
            | inl same ↦ subst (λ v. wrote w v p ≡ false) (sym same) (ap (λ x. has_page x.pages_written p) old ∙ (sym (unmoved p away) ∙ none txn))
            | inr ne ↦ sym (ap (λ x. has_page x.pages_written p) (at_other w txn u change kept ne)) ∙ none u
          ]);
        })
  ];
}
  where
    w2 : World
    w2 = with_transaction w txn change

    in_frames : page < length frames
    in_frames = let e : length frames ≡ w.pages = h.count in omega arith

    now : transaction w2 txn ≡ change t
    now = at_same w txn change t kept found

    old : transaction w txn ≡ t
    old = transaction_found w txn t found

    wrote_is : (p : ℕ) → wrote w2 txn p ≡ (has_page t.pages_written p || (page == p))
    wrote_is p = ap (λ x. has_page x.pages_written p) now ∙ (ap (λ ps. has_page ps p) pages ∙ has_page-with_page page p t.pages_written)

    unmoved : (p : ℕ) → p ≢ page → wrote w2 txn p ≡ has_page t.pages_written p
    unmoved p away = wrote_is p ∙ (ap (λ b. has_page t.pages_written p || b) (ne_eqb page p (λ f. away (sym f))) ∙ or_false (has_page t.pages_written p))

    still : (p : ℕ) → p ≢ page → (u : ℕ) → u ≡ txn → wrote w2 u p ≡ true → wrote w txn p ≡ true
    still p away u same e = subst (λ x. has_page x.pages_written p ≡ true) (sym old) (sym (unmoved p away) ∙ subst (λ v. wrote w2 v p ≡ true) same e)

-- the frames where only what is read or known changes
pub frames_kept : (w : World) (frames : List Frame) (txn : ℕ) (change : Transaction → Transaction) (t : Transaction) → AreFramesOf w frames → find_transaction w txn ≡ Some t → KeepsNumber change
    → (change t).pages_written ≡ t.pages_written → ((p : ℕ) → image_in w (view w (change t)) p ≡ image_in w (view w t) p)
    → AreFramesOf (with_transaction w txn change) frames
frames_kept w frames txn change t h found kept pages seen = record {
  count = h.count;
  written = λ u p e. h.written u p (sym (same_wrote u p) ∙ e);
  each = λ p lt. record {
    before = (h.each p lt).before;
    current = λ u e. (h.each p lt).current u (sym (same_wrote u p) ∙ e) ∙ elim (cases_eq u txn) [
      | inl same ↦
          ap (λ v. image_in w (view w (transaction w v)) p) same
          ∙ (ap (λ x. image_in w (view w x) p) old ∙ (sym (seen p) ∙ ap (λ x. image_in w (view w x) p) (sym (ap (transaction (with_transaction w txn change)) same ∙ now))))
      | inr ne ↦ ap (λ x. image_in w (view w x) p) (sym (at_other w txn u change kept ne))
    ];
    dirty = λ u e. (h.each p lt).dirty u (sym (same_wrote u p) ∙ e);
    clean = λ none. (h.each p lt).clean (λ u. sym (same_wrote u p) ∙ none u);
  };
}
  where
    now : transaction (with_transaction w txn change) txn ≡ change t
    now = at_same w txn change t kept found

    old : transaction w txn ≡ t
    old = transaction_found w txn t found

    same_wrote : (u p : ℕ) → wrote (with_transaction w txn change) u p ≡ wrote w u p
    same_wrote u p = elim (cases_eq u txn) [
      | inl same ↦
          ap (λ v. wrote (with_transaction w txn change) v p) same
          ∙ (ap (λ x. has_page x.pages_written p) now ∙ (ap (λ ps. has_page ps p) pages ∙ (ap (λ x. has_page x.pages_written p) (sym old) ∙ ap (λ v. wrote w v p) (sym same))))
      | inr ne ↦ ap (λ x. has_page x.pages_written p) (at_other w txn u change kept ne)
    ]
