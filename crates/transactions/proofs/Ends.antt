-- The end of a transaction.
use Rattle.std.proofs.Common.{◌≡◌, ◌≢◌, ℕ, ◌<◌, Bool, true, false, not, ◌&&◌, ◌||◌, ◌==◌, cond, List, [], ◌∷◌, ◌++◌, map, reverse, Option, Some, None, refl, sym, subst, ap, ◌∙◌, inl, inr, append-nil, nat_eq}
use Rattle.std.specs.List.{filter, find}
use Rattle.std.specs.Option.{unwrap_or}
use Rattle.std.proofs.lemmas.Bool.{cases_Bool, cases_eq, eqb-true, eq-eqb, ne_eqb, cond-true, cond-false}
use Rattle.std.proofs.lemmas.List.{reverse-append}
use Rattle.std.proofs.lemmas.List.Elements.{filter-append}
use Rattle.std.proofs.lemmas.Map.Entries.{lookup-filter-keys}
use Rattle.object_graph.specs.ObjectParts.{ObjectParts}
use Rattle.store_model.specs.Worlds.{World, Transaction, find_transaction, transaction, fresh_transaction, view, slots_of, fields_of, with_writes, new_object}
use Rattle.store_model.specs.Causes.{has_page}
use Rattle.store_model.specs.Images.{shown_of}
use Rattle.store_model.specs.Steps.{without}
use Rattle.store_model.specs.Lawful.{IsLawful, IsLawfulTransaction}
use Rattle.store_model.proofs.Lists.{filter_same, apart_at}
use Rattle.store_model.proofs.Orders.{lawful_one}
use Rattle.page_buffer.specs.Frames.{clean_frame, frame_at, settled, reverted}
use Rattle.page_buffer.specs.declared.frame.Frame.{Frame}
use Rattle.page_locks.specs.Holding.{LockTable, shares, excludes, Releases}
use Rattle.transactions.specs.Tables.{OpenParts, Entries, entry_of}
use Rattle.transactions.specs.Standing.{image_in, wrote, IsFrameOf, AreFramesOf, AreAlike, IsTable, AreLocks}
use Rattle.transactions.proofs.Numbers.{found_in_list, transaction_found, find-without_same, find-without_other}
use Rattle.transactions.proofs.Images.{unwritten_page, others_see}
use Rattle.transactions.proofs.PagesChanged.{AreChanged}
use Rattle.transactions.proofs.Entries.{alike_by, or_true}

-- ---- lists without one

filter-reverse : (p : ℕ → Bool) (xs : List ℕ) → filter p (reverse xs) ≡ reverse (filter p xs)
filter-reverse p [] = refl
filter-reverse p (x ∷ xs) =
    ap (filter p) (reverse-append (x ∷ []) xs)
    ∙ (filter-append p (reverse xs) (x ∷ [])
    ∙ (ap (λ ys. ys ++ filter p (x ∷ [])) (filter-reverse p xs) ∙ by (p x)))
  where
    by : (b : Bool) → reverse (filter p xs) ++ cond b (x ∷ []) [] ≡ reverse (cond b (x ∷ filter p xs) (filter p xs))
    by true = sym (reverse-append (x ∷ []) (filter p xs))
    by false = append-nil (reverse (filter p xs))

map-filter : {A : Type 0} (f : A → ℕ) (p : ℕ → Bool) (xs : List A) → map f (filter (λ x. p (f x)) xs) ≡ filter p (map f xs)
map-filter f p [] = refl
map-filter f p (x ∷ xs) = by f p x xs (map-filter f p xs) (p (f x))
  where
    by : {A : Type 0} (f : A → ℕ) (p : ℕ → Bool) (x : A) (xs : List A) → map f (filter (λ x. p (f x)) xs) ≡ filter p (map f xs)
        → (b : Bool) → map f (cond b (x ∷ filter (λ x. p (f x)) xs) (filter (λ x. p (f x)) xs)) ≡ cond b (f x ∷ filter p (map f xs)) (filter p (map f xs))
    by f p x xs ih true = ap (λ ys. f x ∷ ys) ih
    by f p x xs ih false = ih

abbrev pub is_other : ℕ → ℕ → Bool
is_other txn n = not (nat_eq txn n)

other_same : (txn n : ℕ) → is_other txn n ≡ not (n == txn)
other_same txn n = ap not (elim (cases_eq n txn) [
  | inl e ↦ eq-eqb txn n (sym e) ∙ sym (eq-eqb n txn e)
  | inr ne ↦ ne_eqb txn n (λ f. ne (sym f)) ∙ sym (ne_eqb n txn ne)
])

-- the table without a transaction
abbrev pub others : ℕ → Entries → Entries
others txn table = filter (λ e. is_other txn e.0) table

entry_gone : (txn : ℕ) (table : Entries) → entry_of (others txn table) txn ≡ None
entry_gone txn table = lookup-filter-keys (nat_eq txn) (is_other txn) false (λ k e. ap not e) table

entry_stays : (txn u : ℕ) (table : Entries) → u ≢ txn → entry_of (others txn table) u ≡ entry_of table u
entry_stays txn u table ne = lookup-filter-keys (nat_eq u) (is_other txn) true (λ k e. ap not (ne_eqb txn k (λ f. ne (eqb-true u k e ∙ sym f)))) table

-- ---- the world without the transaction: its graph is any, as the commit or the abort has it

pub table_without : (w w2 : World) (old new : Entries) (txn : ℕ) → w2.transactions ≡ without w txn → IsTable w old → new ≡ others txn old → IsTable w2 new
table_without w w2 old new txn is h same = subst (IsTable w2) (sym same) (record {
  numbers =
      map-filter (λ (e : ℕ × OpenParts). e.0) (is_other txn) old
      ∙ (ap (filter (is_other txn)) h.numbers
      ∙ (filter_same (is_other txn) (λ n. not (n == txn)) (reverse (map (λ (t : Transaction). t.number) w.transactions)) (other_same txn)
      ∙ (filter-reverse (λ n. not (n == txn)) (map (λ (t : Transaction). t.number) w.transactions)
      ∙ (ap reverse (sym (map-filter (λ (t : Transaction). t.number) (λ n. not (n == txn)) w.transactions))
      ∙ ap (λ ts. reverse (map (λ (t : Transaction). t.number) ts)) (sym is)))));
  each = λ u. elim (cases_eq u txn) [
    | inl here ↦
        subst (λ v. AreAlike (entry_of (others txn old) v) (find_transaction w2 v)) (sym here)
        (alike_by None (entry_of (others txn old) txn) None (find_transaction w2 txn) (sym (entry_gone txn old))
        (sym (ap (find (λ (t : Transaction). t.number == txn)) is ∙ find-without_same w txn)) tt)
    | inr ne ↦
        alike_by (entry_of old u) (entry_of (others txn old) u) (find_transaction w u) (find_transaction w2 u) (sym (entry_stays txn u old ne))
        (sym (ap (find (λ (t : Transaction). t.number == u)) is ∙ find-without_other w txn u ne)) (h.each u)
  ];
})

gone_now : (w w2 : World) (txn : ℕ) → w2.transactions ≡ without w txn → transaction w2 txn ≡ fresh_transaction txn
gone_now w w2 txn is = ap (λ o. unwrap_or o (fresh_transaction txn)) (ap (find (λ (t : Transaction). t.number == txn)) is ∙ find-without_same w txn)

stays_now : (w w2 : World) (txn u : ℕ) → w2.transactions ≡ without w txn → u ≢ txn → transaction w2 u ≡ transaction w u
stays_now w w2 txn u is ne = ap (λ o. unwrap_or o (fresh_transaction u)) (ap (find (λ (t : Transaction). t.number == u)) is ∙ find-without_other w txn u ne)

and_on : (a : Bool) → (a && true) ≡ a
and_on true = refl
and_on false = refl

and_off : (a : Bool) → (a && false) ≡ false
and_off true = refl
and_off false = refl

-- pages of one kind, locked for those who have them
released : (w w2 : World) (txn u p : ℕ) (held : Bool) (pages : Transaction → List ℕ) → w2.transactions ≡ without w txn → pages (fresh_transaction txn) ≡ []
    → held ≡ has_page (pages (transaction w u)) p → (held && not (u == txn)) ≡ has_page (pages (transaction w2 u)) p
released w w2 txn u p held pages is fresh h = elim (cases_eq u txn) [
  | inl same ↦
      ap (λ b. held && not b) (eq-eqb u txn same) ∙ (and_off held
      ∙ sym (ap (λ v. has_page (pages (transaction w2 v)) p) same ∙ (ap (λ (x : Transaction). has_page (pages x) p) (gone_now w w2 txn is) ∙ ap (λ ps. has_page ps p) fresh)))
  | inr ne ↦
      ap (λ b. held && not b) (ne_eqb u txn ne) ∙ (and_on held
      ∙ (h ∙ ap (λ (x : Transaction). has_page (pages x) p) (sym (stays_now w w2 txn u is ne))))
]

pub locks_without : (w w2 : World) (old new : LockTable) (txn : ℕ) → w2.transactions ≡ without w txn → w2.pages ≡ w.pages → AreLocks w old → new.pages ≡ old.pages → Releases old.held new.held txn
    → AreLocks w2 new
locks_without w w2 old new txn is same_pages h pages gone = record {
  pages = pages ∙ (h.pages ∙ sym same_pages);
  admitted =
      gone.admitted
      ∙ (ap (filter (λ n. not (n == txn))) h.admitted
      ∙ (filter-reverse (λ n. not (n == txn)) (map (λ (t : Transaction). t.number) w.transactions)
      ∙ (ap reverse (sym (map-filter (λ (t : Transaction). t.number) (λ n. not (n == txn)) w.transactions))
      ∙ ap (λ ts. reverse (map (λ (t : Transaction). t.number) ts)) (sym is))));
  shared = λ u p. gone.shared u p ∙ released w w2 txn u p (shares old.held u p) (λ x. x.pages_read) is refl (h.shared u p);
  exclusive = λ u p. gone.exclusive u p ∙ released w w2 txn u p (excludes old.held u p) (λ x. x.pages_written) is refl (h.exclusive u p);
}

-- who wrote a page afterwards is another, who wrote it before
still_wrote : (w w2 : World) (txn u page : ℕ) → w2.transactions ≡ without w txn → wrote w2 u page ≡ true → (u ≢ txn) × (wrote w u page ≡ true)
still_wrote w w2 txn u page is e =
    let ne : u ≢ txn = λ same.
    let z : wrote w2 u page ≡ false = ap (λ v. wrote w2 v page) same ∙ ap (λ (x : Transaction). has_page x.pages_written page) (gone_now w w2 txn is) in
    let y : true ≡ false = sym e ∙ z in cc in
    (ne, ap (λ (x : Transaction). has_page x.pages_written page) (sym (stays_now w w2 txn u is ne)) ∙ e)

-- nobody else wrote a page that the transaction wrote
wrote_alone : (w : World) (txn u page : ℕ) (t : Transaction) → IsLawful w → find_transaction w txn ≡ Some t → has_page t.pages_written page ≡ true → u ≢ txn → wrote w u page ≡ true → ⊥
wrote_alone w txn u page t lawful found mine ne theirs = by (find_transaction w u) refl
  where
    by : (o : Option Transaction) → find_transaction w u ≡ o → ⊥
    by None e =
        let z : wrote w u page ≡ false = ap (λ o. has_page (unwrap_or o (fresh_transaction u)).pages_written page) e in
        let y : true ≡ false = sym theirs ∙ z in cc
    by (Some x) e =
        let a = found_in_list (λ (t : Transaction). t.number == txn) w.transactions t found in
        let b = found_in_list (λ (t : Transaction). t.number == u) w.transactions x e in
        let their : has_page x.pages_written page ≡ true = ap (λ (t : Transaction). has_page t.pages_written page) (sym (transaction_found w u x e)) ∙ theirs in
        let used : (has_page x.pages_read page || has_page x.pages_written page) ≡ true = ap (λ b. has_page x.pages_read page || b) their ∙ or_true (has_page x.pages_read page) in
        let z : has_page t.pages_written page ≡ false =
        apart_at w.transactions t x lawful.orderly.apart a.0 b.0 (λ f. ne (sym (eqb-true x.number u b.1) ∙ (f ∙ eqb-true t.number txn a.1))) page used in
        let y : true ≡ false = sym mine ∙ z in cc

-- what the end makes of the images
pub record EndsImages (w w2 : World) (t : Transaction) (frames : List Frame) (change : Frame → Frame) : Type 0 where
  pub clean : (frame : Frame) → change frame ≡ clean_frame (change frame).before
  pub mine : (p : ℕ) → p < w.pages → has_page t.pages_written p ≡ true → (change (frame_at frames p)).before ≡ image_in w2 w2.graph p
  pub committed : (p : ℕ) → has_page t.pages_written p ≡ false → image_in w w.graph p ≡ image_in w2 w2.graph p
  pub seen : (u : Transaction) (p : ℕ) → has_page t.pages_written p ≡ false → image_in w (view w u) p ≡ image_in w2 (view w2 u) p

frames_end : (w w2 : World) (frames new : List Frame) (txn : ℕ) (t : Transaction) (pages : List ℕ) (change : Frame → Frame) → IsLawful w → find_transaction w txn ≡ Some t
    → w2.pages ≡ w.pages → w2.transactions ≡ without w txn → ((page : ℕ) → has_page pages page ≡ has_page t.pages_written page)
    → AreFramesOf w frames → AreChanged change frames new pages → EndsImages w w2 t frames change → AreFramesOf w2 new
frames_end w w2 frames new txn t pages change lawful found same_pages is noted h run ends = record {
  count = run.count ∙ (h.count ∙ sym same_pages);
  written = λ u p e. subst (λ n. p < n) (sym same_pages) (h.written u p (still_wrote w w2 txn u p is e).1);
  each = λ p below_n.
      let low : p < w.pages = subst (λ n. p < n) same_pages below_n in
      let before : IsFrameOf w p (frame_at frames p) = h.each p low in
      let frame : frame_at new p ≡ cond (has_page t.pages_written p) (change (frame_at frames p)) (frame_at frames p) =
      run.frames p ∙ ap (λ b. cond b (change (frame_at frames p)) (frame_at frames p)) (noted p) in
      elim (cases_Bool (has_page t.pages_written p)) [
        | inl mine ↦
            subst (IsFrameOf w2 p) (sym (frame ∙ cond-true (has_page t.pages_written p) (change (frame_at frames p)) (frame_at frames p) mine)) (record {
              before = ends.mine p low mine;
              current = λ u e. let k = still_wrote w w2 txn u p is e in absurd (wrote_alone w txn u p t lawful found mine k.0 k.1);
              dirty = λ u e. let k = still_wrote w w2 txn u p is e in absurd (wrote_alone w txn u p t lawful found mine k.0 k.1);
              clean = λ none. ends.clean (frame_at frames p);
            })
        | inr off ↦
            subst (IsFrameOf w2 p) (sym (frame ∙ cond-false (has_page t.pages_written p) (change (frame_at frames p)) (frame_at frames p) off)) (record {
              before = before.before ∙ ends.committed p off;
              current = λ u e.
                  let k = still_wrote w w2 txn u p is e in
                  before.current u k.1 ∙ (ends.seen (transaction w u) p off ∙ ap (λ x. image_in w2 (view w2 x) p) (sym (stays_now w w2 txn u is k.0)));
              dirty = λ u e. before.dirty u (still_wrote w w2 txn u p is e).1;
              clean = λ none. before.clean (λ u. elim (cases_eq u txn) [
                | inl same ↦ ap (λ v. wrote w v p) same ∙ (ap (λ (x : Transaction). has_page x.pages_written p) (transaction_found w txn t found) ∙ off)
                | inr ne ↦ ap (λ (x : Transaction). has_page x.pages_written p) (sym (stays_now w w2 txn u is ne)) ∙ none u
              ]);
            })
      ];
}

-- an image depends on the graph and the freed names alone
image_same : (w w2 : World) (one two : List ObjectParts) (p : ℕ) → one ≡ two → w.freed ≡ w2.freed → image_in w one p ≡ image_in w2 two p
image_same w w2 one two p graph freed =
    ap (λ g. image_in w g p) graph ∙ ap (λ f. record { number = p; slots = shown_of (slots_of w p) (fields_of w p) two f p }) freed

-- the frames after a commit
pub frames_commit : (w w2 : World) (frames new : List Frame) (txn : ℕ) (t : Transaction) (pages : List ℕ) → IsLawful w → find_transaction w txn ≡ Some t
    → w2.pages ≡ w.pages → w2.graph ≡ view w t → w2.freed ≡ w.freed → w2.transactions ≡ without w txn
    → ((page : ℕ) → has_page pages page ≡ has_page t.pages_written page)
    → AreFramesOf w frames → AreChanged settled frames new pages → AreFramesOf w2 new
frames_commit w w2 frames new txn t pages lawful found same_pages graph freed is noted h run =
    frames_end w w2 frames new txn t pages settled lawful found same_pages is noted h run (record {
      clean = λ frame. refl;
      mine = λ p low mine.
          (h.each p low).current txn (ap (λ (x : Transaction). has_page x.pages_written p) (transaction_found w txn t found) ∙ mine)
          ∙ (ap (λ x. image_in w (view w x) p) (transaction_found w txn t found)
          ∙ image_same w w2 (view w t) w2.graph p (sym graph) (sym freed));
      committed = λ p off.
          ap (λ slots. record { number = p; slots = slots }) (sym (unwritten_page w t p lawful_t off))
          ∙ image_same w w2 (view w t) w2.graph p (sym graph) (sym freed);
      seen = λ u p off. ap (λ slots. record { number = p; slots = slots }) (sym (others_see w w2 t u p graph freed lawful_t off));
    })
  where
    lawful_t : IsLawfulTransaction w.graph w.freed t
    lawful_t = lawful_one w t lawful.orderly (found_in_list (λ (t : Transaction). t.number == txn) w.transactions t found).0

-- the frames after an abort
pub frames_abort : (w w2 : World) (frames new : List Frame) (txn : ℕ) (t : Transaction) (pages : List ℕ) → IsLawful w → find_transaction w txn ≡ Some t
    → w2.pages ≡ w.pages → w2.graph ≡ w.graph → w2.freed ≡ w.freed → w2.transactions ≡ without w txn
    → ((page : ℕ) → has_page pages page ≡ has_page t.pages_written page)
    → AreFramesOf w frames → AreChanged reverted frames new pages → AreFramesOf w2 new
frames_abort w w2 frames new txn t pages lawful found same_pages graph freed is noted h run =
    frames_end w w2 frames new txn t pages reverted lawful found same_pages is noted h run (record {
      clean = λ frame. refl;
      mine = λ p low mine. (h.each p low).before ∙ image_same w w2 w.graph w2.graph p (sym graph) (sym freed);
      committed = λ p off. image_same w w2 w.graph w2.graph p (sym graph) (sym freed);
      seen = λ u p off. image_same w w2 (view w u) (view w2 u) p (ap (λ g. map (with_writes u.writes) (g ++ map (new_object w) u.own)) (sym graph)) (sym freed);
    })
