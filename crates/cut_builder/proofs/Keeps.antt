-- What the calls of a cut keep.
use Rattle.std.proofs.Common.{Bor, ◌≡◌, ℕ, ◌<◌, ◌≤◌, ◌≢◌, true, Option, Some, None, List, replicate, length, get_or, set, cond, nat_lt, refl, sym, subst, ap, ◌∙◌, arith, length-set, inl, inr}
use Rattle.std.specs.Prelude.{option_map, IfSome}
use Rattle.std.specs.Option.{is_some, option_copied}
use mathlib.Core.Logic.{dite}
use native.Mathlib.Decide.{ℕ_discrete}
use Rattle.std.proofs.lemmas.Bool.{cases_Bool}
use Rattle.std.proofs.lemmas.List.{length-replicate, get_or-set_same, get_or-set_other, get_or-replicate, same_lists}
use Rattle.std.proofs.lemmas.List.FromFn.{length-map-range_with_len, get_or-map-range_with_len}
use Rattle.object_graph.specs.ObjectParts.{ObjectParts}
use Rattle.object_graph.specs.declared.limits.TheConstants.{MOST_PAGES}
use Rattle.object_graph.specs.Slots.{below}
use Rattle.object_graph.proofs.Members.{In}
use Rattle.page_image.specs.Pages.{PageParts}
use Rattle.page_image.specs.declared.page_copy.PageCopy.{PageCopy}
use Rattle.store_model.proofs.Flats.{in_flat, flat_in}
use Rattle.cut_model.specs.CutPages.{CopyParts, AfterImage, CutPage, bare_page, objects_on, cut_graph, kept_beside, settled_with, settled_image, with_copy, with_commit, with_born}
use Rattle.cut_model.proofs.Openings.{get-replicate_same}
use Rattle.cut_builder.specs.declared.column.KeptImage.{KeptImage}
use Rattle.cut_builder.specs.declared.kept.KeptPages.TheInside.{Inside}
use Rattle.cut_builder.specs.CutParts.{page_in_cut, copied_of, before_of, as_page, IsOfItsPage, HasOneNameEach}
use Rattle.cut_builder.specs.Kept.{kept_at, copy_of, change_of, cut_page_of, Kept, cut_page_at, cut_pages_of, before_kept, kept_later, AreOn, AreKeptImages, AreKept}

-- what a cut has of a page, by what is kept of it
pub length-cut : (k : Kept) → length (cut_pages_of k) ≡ length k.born
length-cut k = length-map-range_with_len (cut_page_at k) 0 (length k.born)

pub cut_at : (k : Kept) (page : ℕ) (d : CutPage) → page < length k.born → get_or (cut_pages_of k) page d ≡ cut_page_at k page
cut_at k page d within = get_or-map-range_with_len (cut_page_at k) 0 (length k.born) page page d within (omega arith)

-- a page of the cut is one of those that are kept
pub low : (k : Kept) (pages : List CutPage) (page : ℕ) → cut_pages_of k ≡ pages → page < length pages → page < length k.born
low k pages page same within = let l = length-cut k in let e = ap (λ (ps : List CutPage). length ps) same in omega (arith, l, e, within)

-- the parts of what is kept
abbrev pub kept_in : Inside → Kept
kept_in inside = record { current = inside.current; before = inside.before; after = inside.after; born = inside.born.items }

-- a page of the cut, by what is kept of it
pub read_cut : (k : Kept) (pages : List CutPage) (page : ℕ) → cut_pages_of k ≡ pages → page < length pages → page_in_cut pages page ≡ cut_page_at k page
read_cut k pages page same within = ap (λ (ps : List CutPage). page_in_cut ps page) (sym same) ∙ cut_at k page bare_page (low k pages page same within)

-- where one page is kept otherwise, the cut has another page in its place
pub changed : (k new : Kept) (page : ℕ) (p : CutPage) → length new.born ≡ length k.born → page < length k.born → cut_page_at new page ≡ p
    → ((other : ℕ) → other ≢ page → cut_page_at new other ≡ cut_page_at k other) → cut_pages_of new ≡ set (cut_pages_of k) page p
changed k new page p long within is others =
    let ln = length-cut new in
    let lk = length-cut k in
    let ls = length-set (cut_pages_of k) page p in
    same_lists (cut_pages_of new) (set (cut_pages_of k) page p) (omega (arith, ln, lk, ls, long)) (λ i d h.
    let low_new : i < length new.born = omega (arith, ln, h) in
    let low_old : i < length k.born = omega (arith, ln, h, long) in
    dite (ℕ_discrete i page)
    (λ e. subst (λ (j : ℕ). get_or (cut_pages_of new) j d ≡ get_or (set (cut_pages_of k) page p) j d) (sym e)
    (cut_at new page d (omega (arith, long, within)) ∙ (is ∙ sym (get_or-set_same (cut_pages_of k) page p d (omega (arith, lk, within))))))
    (λ n. cut_at new i d low_new ∙ (others i n ∙ sym (get_or-set_other (cut_pages_of k) page i p d n ∙ cut_at k i d low_old))))

-- a page is as it is kept
same_page : (c d b e a f : Option KeptImage) (m n : ℕ) → c ≡ d → b ≡ e → a ≡ f → m ≡ n → cut_page_of c b a m ≡ cut_page_of d e f n
same_page c d b e a f m n p q r s = λ i. cut_page_of (p i) (q i) (r i) (s i)

-- a copy with its before-image, as it is kept
before_page : (before : Option PageParts) (moment : ℕ) → option_map (λ (i : KeptImage). i.image.slots) (option_map (λ (p : PageParts). record { image = p; moment = moment }) before)
    ≡ option_map (λ (p : PageParts). p.slots) before
before_page None moment = refl
before_page (Some p) moment = refl

before_same : (c : PageCopy) → option_map (λ (i : KeptImage). i.image.slots) (before_kept c) ≡ option_map (λ (p : PageParts). p.slots) c.before
before_same c = before_page c.before c.moment

-- the after-image beside it
pub later_same : (moment : ℕ) (after : Option KeptImage) → option_map change_of (kept_later moment after) ≡ kept_beside moment (option_map change_of after)
later_same moment None = refl
later_same moment (Some a) = elim (cases_Bool (nat_lt moment a.moment)) [
  | inl y ↦ ap (λ b. option_map change_of (cond b (Some a) None)) y ∙ sym (ap (λ b. cond b (Some (change_of a)) None) y)
  | inr n ↦ ap (λ b. option_map change_of (cond b (Some a) None)) n ∙ sym (ap (λ b. cond b (Some (change_of a)) None) n)
]

-- a list of images with one put at a page
pub put_same : (images : List (Option KeptImage)) (pages page : ℕ) (x : Option KeptImage) → AreOn pages images → page < pages → kept_at (set images page x) page ≡ x
put_same images pages page x on within = get_or-set_same images page x None (let n = on.count in omega (arith, n, within))

pub put_other : (images : List (Option KeptImage)) (page other : ℕ) (x : Option KeptImage) → other ≢ page → kept_at (set images page x) other ≡ kept_at images other
put_other images page other x n = get_or-set_other images page other x None n

pub put_on : (images : List (Option KeptImage)) (pages page : ℕ) (x : Option KeptImage) → AreOn pages images → page < pages → IfSome x (λ i. i.image.number ≡ page)
    → AreOn pages (set images page x)
put_on images pages page x on within is = record {
  count = length-set images page x ∙ on.count;
  each = λ k. dite (ℕ_discrete k page)
      (λ e. subst (λ (j : ℕ). IfSome (kept_at (set images page x) j) (λ i. i.image.number ≡ j)) (sym e)
      (subst (λ (y : Option KeptImage). IfSome y (λ i. i.image.number ≡ page)) (sym (put_same images pages page x on within)) is))
      (λ n. subst (λ (y : Option KeptImage). IfSome y (λ i. i.image.number ≡ k)) (sym (put_other images page k x n)) (on.each k));
}

-- a copy is kept
abbrev pub kept_copy : Kept → PageCopy → Kept
kept_copy k c = record {
  current = set k.current c.page (Some (record { image = c.current; moment = c.moment }));
  before = set k.before c.page (before_kept c);
  after = set k.after c.page (kept_later c.moment (kept_at k.after c.page));
  born = k.born;
}

pub copied_pages : (k : Kept) (c : PageCopy) → AreKeptImages k → c.page < length k.born
    → cut_pages_of (kept_copy k c) ≡ set (cut_pages_of k) c.page (with_copy (copied_of c) (page_in_cut (cut_pages_of k) c.page))
copied_pages k c are within =
    let n : ℕ = length k.born in
    let current : Option KeptImage = Some (record { image = c.current; moment = c.moment }) in
    let after : Option KeptImage = kept_later c.moment (kept_at k.after c.page) in
    let old : page_in_cut (cut_pages_of k) c.page ≡ cut_page_at k c.page = cut_at k c.page bare_page within in
    changed k (kept_copy k c) c.page (with_copy (copied_of c) (page_in_cut (cut_pages_of k) c.page)) refl within
    (same_page (kept_at (set k.current c.page current) c.page) current (kept_at (set k.before c.page (before_kept c)) c.page) (before_kept c)
    (kept_at (set k.after c.page after) c.page) after (get_or k.born c.page 0) (get_or k.born c.page 0)
    (put_same k.current n c.page current are.current within) (put_same k.before n c.page (before_kept c) are.before within) (put_same k.after n c.page after are.after within) refl
    ∙ ((λ i. record {
      copy = Some (record { current = c.current.slots; before = before_same c i; moment = c.moment });
      after = later_same c.moment (kept_at k.after c.page) i;
      born = get_or k.born c.page 0;
    })
    ∙ ap (with_copy (copied_of c)) (sym old)))
    (λ other d. same_page (kept_at (set k.current c.page current) other) (kept_at k.current other) (kept_at (set k.before c.page (before_kept c)) other) (kept_at k.before other)
    (kept_at (set k.after c.page after) other) (kept_at k.after other) (get_or k.born other 0) (get_or k.born other 0)
    (put_other k.current c.page other current d) (put_other k.before c.page other (before_kept c) d) (put_other k.after c.page other after d) refl)

before_on : (before : Option PageParts) (moment page : ℕ) → IfSome before (λ p. p.number ≡ page)
    → IfSome (option_map (λ (p : PageParts). record { image = p; moment = moment }) before) (λ (i : KeptImage). i.image.number ≡ page)
before_on None moment page on = tt
before_on (Some p) moment page on = on

later_on : (moment page : ℕ) (after : Option KeptImage) → IfSome after (λ i. i.image.number ≡ page) → IfSome (kept_later moment after) (λ i. i.image.number ≡ page)
later_on moment page None on = tt
later_on moment page (Some a) on = elim (cases_Bool (nat_lt moment a.moment)) [
  | inl y ↦ subst (λ b. IfSome (cond b (Some a) None) (λ i. i.image.number ≡ page)) (sym y) on
  | inr n ↦ subst (λ b. IfSome (cond b (Some a) None) (λ i. i.image.number ≡ page)) (sym n) tt
]

pub copied_images : (k : Kept) (c : PageCopy) → AreKeptImages k → c.page < length k.born → IsOfItsPage c → AreKeptImages (kept_copy k c)
copied_images k c are within of =
    let current : Option KeptImage = Some (record { image = c.current; moment = c.moment }) in record {
      current = put_on k.current (length k.born) c.page current are.current within of.0;
      before = put_on k.before (length k.born) c.page (before_kept c) are.before within (before_on c.before c.moment c.page of.1);
      after = put_on k.after (length k.born) c.page (kept_later c.moment (kept_at k.after c.page)) are.after within (later_on c.moment c.page (kept_at k.after c.page) (are.after.each c.page));
      beside = λ page none. dite (ℕ_discrete page c.page)
          (λ e. let there : kept_at (set k.current c.page current) page ≡ current = subst (λ (j : ℕ). kept_at (set k.current c.page current) j ≡ current) (sym e) (put_same k.current (length k.born) c.page current are.current within) in absurd cc)
          (λ n. put_other k.before c.page page (before_kept c) n ∙ are.beside page (sym (put_other k.current c.page page current n) ∙ none));
    }

-- an image after a commit is kept
abbrev pub kept_after : Kept → PageParts → ℕ → Kept
kept_after k image moment = record k { after = set k.after image.number (Some (record { image = image; moment = moment })) }

pub changed_pages : (k : Kept) (image : PageParts) (moment : ℕ) → AreKeptImages k → image.number < length k.born
    → cut_pages_of (kept_after k image moment)
    ≡ set (cut_pages_of k) image.number (with_commit image.slots moment (page_in_cut (cut_pages_of k) image.number).born (page_in_cut (cut_pages_of k) image.number))
changed_pages k image moment are within =
    let page : ℕ = image.number in
    let after : Option KeptImage = Some (record { image = image; moment = moment }) in
    let old : page_in_cut (cut_pages_of k) page ≡ cut_page_at k page = cut_at k page bare_page within in
    changed k (kept_after k image moment) page (with_commit image.slots moment (page_in_cut (cut_pages_of k) page).born (page_in_cut (cut_pages_of k) page)) refl within
    (ap (λ (a : Option KeptImage). cut_page_of (kept_at k.current page) (kept_at k.before page) a (get_or k.born page 0)) (put_same k.after (length k.born) page after are.after within)
    ∙ ap (λ (p : CutPage). with_commit image.slots moment p.born p) (sym old))
    (λ other d. ap (λ (a : Option KeptImage). cut_page_of (kept_at k.current other) (kept_at k.before other) a (get_or k.born other 0)) (put_other k.after page other after d))

pub changed_images : (k : Kept) (image : PageParts) (moment : ℕ) → AreKeptImages k → image.number < length k.born → AreKeptImages (kept_after k image moment)
changed_images k image moment are within = record {
  current = are.current;
  before = are.before;
  after = put_on k.after (length k.born) image.number (Some (record { image = image; moment = moment })) are.after within refl;
  beside = are.beside;
}

-- what is born is kept
abbrev pub kept_born : Kept → ℕ → ℕ → Kept
kept_born k page born = record k { born = set k.born page born }

pub born_pages : (k : Kept) (page born : ℕ) → page < length k.born → cut_pages_of (kept_born k page born) ≡ set (cut_pages_of k) page (with_born born (page_in_cut (cut_pages_of k) page))
born_pages k page born within =
    let old : page_in_cut (cut_pages_of k) page ≡ cut_page_at k page = cut_at k page bare_page within in
    changed k (kept_born k page born) page (with_born born (page_in_cut (cut_pages_of k) page)) (length-set k.born page born) within
    (ap (cut_page_of (kept_at k.current page) (kept_at k.before page) (kept_at k.after page)) (get_or-set_same k.born page born 0 within) ∙ ap (with_born born) (sym old))
    (λ other d. ap (cut_page_of (kept_at k.current other) (kept_at k.before other) (kept_at k.after other)) (get_or-set_other k.born page other born 0 d))

pub born_images : (k : Kept) (page born : ℕ) → AreKeptImages k → AreKeptImages (kept_born k page born)
born_images k page born are =
    let long = sym (length-set k.born page born) in record {
      current = subst (λ (n : ℕ). AreOn n k.current) long are.current;
      before = subst (λ (n : ℕ). AreOn n k.before) long are.before;
      after = subst (λ (n : ℕ). AreOn n k.after) long are.after;
      beside = are.beside;
    }

pub born_is : (k : Kept) (page born : ℕ) → page < length k.born → (page_in_cut (cut_pages_of (kept_born k page born)) page).born ≡ born
born_is k page born within =
    ap (λ (p : CutPage). p.born) (cut_at (kept_born k page born) page bare_page (let l = length-set k.born page born in omega (arith, l, within)))
    ∙ get_or-set_same k.born page born 0 within

-- nothing is kept
abbrev pub kept_none : ℕ → Kept
kept_none n = record { current = replicate n None; before = replicate n None; after = replicate n None; born = replicate n 0 }

none_at : (n page : ℕ) → kept_at (replicate n None) page ≡ None
none_at n page = get-replicate_same {A = Option KeptImage} n page None

pub no_pages : (n : ℕ) → cut_pages_of (kept_none n) ≡ replicate n bare_page
no_pages n =
    let ln = length-cut (kept_none n) in
    let lb : length {A = ℕ} (replicate n 0) ≡ n = length-replicate {A = ℕ} n 0 in
    let lr : length (replicate n bare_page) ≡ n = length-replicate {A = CutPage} n bare_page in
    same_lists (cut_pages_of (kept_none n)) (replicate n bare_page) (omega (arith, ln, lb, lr)) (λ i d h.
    cut_at (kept_none n) i d (omega (arith, ln, h))
    ∙ (same_page (kept_at (replicate n None) i) None (kept_at (replicate n None) i) None (kept_at (replicate n None) i) None (get_or (replicate n 0) i 0) 0 (none_at n i) (none_at n i) (none_at n i) (get-replicate_same {A = ℕ} n i 0)
    ∙ sym (get_or-replicate n i bare_page d (omega (arith, ln, lb, h)))))

none_on : (n : ℕ) → AreOn (length {A = ℕ} (replicate n 0)) (replicate n None)
none_on n = record {
  count = length-replicate {A = Option KeptImage} n None ∙ sym (length-replicate {A = ℕ} n 0);
  each = λ page. subst (λ (x : Option KeptImage). IfSome x (λ i. i.image.number ≡ page)) (sym (none_at n page)) tt;
}

pub no_images : (n : ℕ) → AreKeptImages (kept_none n)
no_images n = record { current = none_on n; before = none_on n; after = none_on n; beside = λ page none. none_at n page }

-- an image that is of a page
on_page : (image : PageParts) (page : ℕ) → image.number ≡ page → image ≡ as_page page image.slots
on_page image page on = λ i. record { number = on i; slots = image.slots }

pub current_image : (current before : Option KeptImage) (page : ℕ) → IfSome current (λ i. i.image.number ≡ page)
    → option_map (λ (i : KeptImage). i.image) current ≡ option_map (as_page page) (option_map (λ (c : CopyParts). c.current) (option_map (copy_of before) current))
current_image None before page on = refl
current_image (Some x) before page on = λ i. Some (on_page x.image page on i)

some_before : (before : Option KeptImage) (page : ℕ) → IfSome before (λ i. i.image.number ≡ page)
    → option_map (λ (i : KeptImage). i.image) before ≡ option_map (as_page page) (option_map (λ (i : KeptImage). i.image.slots) before)
some_before None page on = refl
some_before (Some x) page on = λ i. Some (on_page x.image page on i)

pub before_image : (current before : Option KeptImage) (page : ℕ) → (current ≡ None → before ≡ None) → IfSome before (λ i. i.image.number ≡ page)
    → option_map (λ (i : KeptImage). i.image) before ≡ option_map (as_page page) (before_of (option_map (copy_of before) current))
before_image None before page beside on = ap (option_map (λ (i : KeptImage). i.image)) (beside refl)
before_image (Some x) before page beside on = some_before before page on

pub after_image : (after : Option KeptImage) (page : ℕ) → IfSome after (λ i. i.image.number ≡ page)
    → option_map (λ (i : KeptImage). i.image) after ≡ option_map (as_page page) (option_map (λ (a : AfterImage). a.image) (option_map change_of after))
after_image None page on = refl
after_image (Some x) page on = λ i. Some (on_page x.image page on i)

-- which image was committed as the cut closed
pub settled_after : (k : Kept) (page : ℕ) (x : KeptImage) → Some x ≡ kept_at k.after page → settled_image (cut_page_at k page) ≡ Some x.image.slots
settled_after k page x after = ap (λ (a : Option KeptImage). settled_with (option_map change_of a) (option_map (copy_of (kept_at k.before page)) (kept_at k.current page))) (sym after)

committed_before : (current : Option KeptImage) (x : KeptImage) → is_some (option_map (copy_of (Some x)) current) ≡ true
    → settled_with None (option_map (copy_of (Some x)) current) ≡ Some x.image.slots
committed_before None x copied = absurd cc
committed_before (Some current) x copied = refl

pub settled_before : (k : Kept) (page : ℕ) (x : KeptImage) → None ≡ kept_at k.after page → Some x ≡ kept_at k.before page → is_some (cut_page_at k page).copy ≡ true
    → settled_image (cut_page_at k page) ≡ Some x.image.slots
settled_before k page x none before copied =
    ap (λ (a : Option KeptImage). settled_with (option_map change_of a) (option_map (copy_of (kept_at k.before page)) (kept_at k.current page))) (sym none)
    ∙ subst (λ (b : Option KeptImage). settled_with None (option_map (copy_of b) (kept_at k.current page)) ≡ Some x.image.slots) before
    (committed_before (kept_at k.current page) x (subst (λ (b : Option KeptImage). is_some (option_map (copy_of b) (kept_at k.current page)) ≡ true) (sym before) copied))

pub settled_current : (k : Kept) (page : ℕ) (x : KeptImage) → None ≡ kept_at k.after page → None ≡ kept_at k.before page → Some x ≡ kept_at k.current page
    → settled_image (cut_page_at k page) ≡ Some x.image.slots
settled_current k page x none alone current =
    ap (λ (a : Option KeptImage). settled_with (option_map change_of a) (option_map (copy_of (kept_at k.before page)) (kept_at k.current page))) (sym none)
    ∙ (ap (λ (b : Option KeptImage). settled_with None (option_map (copy_of b) (kept_at k.current page))) (sym alone)
    ∙ ap (λ (c : Option KeptImage). settled_with None (option_map (copy_of None) c)) (sym current))

-- a page has a copy where it has a current image
pub has_copy : (before current : Option KeptImage) → is_some (option_map (copy_of before) current) ≡ is_some current
has_copy before None = refl
has_copy before (Some x) = refl

pub some_copied : (image : Option (Bor KeptImage)) → is_some image ≡ is_some (option_copied image)
some_copied None = refl
some_copied (Some x) = refl

pub not_none : (image : Option KeptImage) → is_some image ≡ true → ¬ None ≡ image
not_none None copied same = absurd cc
not_none (Some x) copied same = absurd cc

-- fewer objects have no more names
fewer_names : (pages after : List CutPage) → ((o : ObjectParts) → In o (cut_graph after) → In o (cut_graph pages)) → HasOneNameEach pages → HasOneNameEach after
fewer_names pages after fewer names = record {
  once = λ a b m n. names.once a b (fewer a m) (fewer b n);
  root = λ o m. names.root o (fewer o m);
}

-- what is born changes no image
born_objects : (pages : List CutPage) (page born k : ℕ) (o : ObjectParts) → page < length pages
    → In o (objects_on k (page_in_cut (set pages page (with_born born (page_in_cut pages page))) k)) → In o (objects_on k (page_in_cut pages k))
born_objects pages page born k o within m =
    let p : CutPage = with_born born (page_in_cut pages page) in
    dite (ℕ_discrete k page)
    (λ e. let m : In o (objects_on k (page_in_cut (set pages page p) page)) = subst (λ j. In o (objects_on k (page_in_cut (set pages page p) j))) e m in
    subst (λ j. In o (objects_on k (page_in_cut pages j))) (sym e) (subst (λ (q : CutPage). In o (objects_on k q)) (get_or-set_same pages page p bare_page within) m))
    (λ n. subst (λ (q : CutPage). In o (objects_on k q)) (get_or-set_other pages page k p bare_page n) m)

born_names : (pages : List CutPage) (page born : ℕ) → page < length pages → HasOneNameEach pages → HasOneNameEach (set pages page (with_born born (page_in_cut pages page)))
born_names pages page born within =
    let after : List CutPage = set pages page (with_born born (page_in_cut pages page)) in
    fewer_names pages after (λ o m.
    let a = in_flat (λ (k : ℕ). objects_on k (page_in_cut after k)) (below (length after)) o m in
    flat_in (λ (k : ℕ). objects_on k (page_in_cut pages k)) (below (length pages)) a.0 o
    (subst (λ n. In a.0 (below n)) (length-set pages page (with_born born (page_in_cut pages page))) a.1) (born_objects pages page born a.0 o within a.2))

-- the invariant stays where the names do
keeps : (pages : List CutPage) (page : ℕ) (p : CutPage) → AreKept pages → HasOneNameEach (set pages page p) → AreKept (set pages page p)
keeps pages page p kept names = record {
  some = (let l = length-set pages page p in let k = kept.some in omega (arith, l, k));
  few = (let l = length-set pages page p in let k = kept.few in omega (arith, l, k));
  names = names;
}

pub keeps_born : (pages : List CutPage) (page born : ℕ) → AreKept pages → page < length pages → AreKept (set pages page (with_born born (page_in_cut pages page)))
keeps_born pages page born kept within = keeps pages page (with_born born (page_in_cut pages page)) kept (born_names pages page born within kept.names)

-- as nothing is copied yet
no_objects : (n : ℕ) (o : ObjectParts) → ¬ In o (cut_graph (replicate n bare_page))
no_objects n o m =
    let a = in_flat (λ (k : ℕ). objects_on k (page_in_cut (replicate n bare_page) k)) (below (length (replicate n bare_page))) o m in
    subst (λ (p : CutPage). In o (objects_on a.0 p)) (get-replicate_same n a.0 bare_page) a.2

pub keeps_none : (n : ℕ) → 0 < n → n ≤ MOST_PAGES → AreKept (replicate n bare_page)
keeps_none n some few = record {
  some = (let l = length-replicate n bare_page in omega (arith, l, some));
  few = (let l = length-replicate n bare_page in omega (arith, l, few));
  names = record {
    once = λ a b m k. absurd (no_objects n a m);
    root = λ o m. absurd (no_objects n o m);
  };
}
