-- Images that stand at places, as they are sent one by one.
use Rattle.std.proofs.Common.{◌≡◌, inl, inr, ℕ, ◌+◌, ◌≤◌, ◌==◌, Bool, true, false, List, [], ◌∷◌, ◌++◌, length, Option, Some, None, Ok, is_some, if◌then◌else◌, refl, sym, ◌∙◌, ap, subst, arith, append_assoc}
use Rattle.std.proofs.lemmas.Bool.{or_cases, eqb-true}
use Rattle.std.proofs.lemmas.List.{append-nil}
use Rattle.std.specs.Prelude.{IsSomeAnd, option_map}
use Rattle.disk_trait.specs.Disk.{piece, written, Torn, TornContent}
use Rattle.disk_trait.specs.DiskFacts.{LeavesOnly}
use Rattle.disk_trait.specs.declared.disk.Disk.{Ghosts as DiskOf}
use Rattle.page_image.specs.Pages.{PageParts}
use Rattle.page_image.specs.Fields.{page_at}
use Rattle.redo_journal.specs.Homes.{DiffersInHomes, AreHome, home_start, home_of}
use Rattle.redo_journal.specs.Places.{StandAt, has_place}
use Rattle.redo_journal.specs.Replays.{later, last_image, has_image}
use Rattle.redo_journal.specs.Sending.{After, ChangesHomes}
use Rattle.redo_journal.specs.declared.places.ImagePlace.{ImagePlace}
use Rattle.redo_journal.proofs.FileLaws.{length-piece}
use Rattle.redo_journal.proofs.HomeBytes.{same_front, same_home, differs_not, differs_then, differs_more}
use Rattle.redo_journal.proofs.HomeImages.{one_home, among_one, among_left, among_right}
use Rattle.redo_journal.proofs.LastImages.{last-append}
use Rattle.redo_journal.proofs.HomeMoments.{some_and, and_some, some_more, wrote, changes_more, changes_then}
use Rattle.redo_journal.specs.declared.sizes.TheConstants.{HOMES_START, PAGE_SIZE}

-- ---- places and the pages whose images stand there

-- an image of a page that stands there
pub among_placed : (places : List ImagePlace) (images : List PageParts) (file : List ℕ) (page : ℕ) → StandAt places images file → has_place places page ≡ true → has_image images page ≡ true
among_placed [] [] file page stand is = absurd cc
among_placed [] (p ∷ ps) file page stand is = absurd stand
among_placed (x ∷ xs) [] file page stand is = absurd stand
among_placed (x ∷ xs) (p ∷ ps) file page stand is = elim (or_cases (x.page == page) (has_place xs page) is) [
  | inl here ↦
      let same : p.number ≡ page = sym stand.0 ∙ eqb-true x.page page here in
      among_left (p ∷ []) ps page (ap (λ (n : ℕ). has_image (p ∷ []) n) (sym same) ∙ among_one p)
  | inr later ↦ among_right (p ∷ []) ps page (among_placed xs ps file page stand.2 later)
]

-- ---- images that are sent one by one

-- Homes alone differ, and each page that has an image among those before, and none among the rest, has the last of them
-- at home.
pub record SentBefore (done rest : List PageParts) (old new : List ℕ) : Type 0 where
  pub elsewhere : DiffersInHomes (has_image (done ++ rest)) old new
  pub homes : (page : ℕ) (p : PageParts) → has_image rest page ≡ false → last_image done page ≡ Some p → page_at (home_of page new) ≡ Ok p

-- the images at these places are left
pub record ImagesLeft (left : List ImagePlace) (images : List PageParts) (first : List ℕ) (content : Option (List ℕ)) : Type 0 where
  pub done : List PageParts
  pub rest : List PageParts
  pub split : images ≡ done ++ rest
  pub stand : StandAt left rest first
  pub sent : IsSomeAnd content (SentBefore done rest first)

-- the next of them
pub record NextImage (place : ImagePlace) (left : List ImagePlace) (images : List PageParts) (first : List ℕ) (content : Option (List ℕ)) : Type 0 where
  pub file : List ℕ
  pub told : content ≡ Some file
  pub image : PageParts
  pub page : place.page ≡ image.number
  pub reads : page_at (piece place.at PAGE_SIZE file) ≡ Ok image
  pub among : (page : ℕ) → has_image (image ∷ []) page ≡ true → has_image images page ≡ true
  pub skipped : has_place left place.page ≡ true → ImagesLeft left images first content
  pub goes_on : (new : Option (List ℕ)) → IsSomeAnd new (AreHome (image ∷ []) file) → ImagesLeft left images first new

pub images_start : (places : List ImagePlace) (images : List PageParts) (first : List ℕ) (content : Option (List ℕ)) → content ≡ Some first → StandAt places images first → ImagesLeft places images first content
images_start places images first content told stand = record {
  done = [];
  rest = images;
  split = refl;
  stand = stand;
  sent = and_some content (SentBefore [] images first) first told (record { elsewhere = differs_not (has_image images) first; homes = λ page p none e. absurd cc });
}

-- one image more, which was sent or is superseded
module _ (done rest : List PageParts) (image : PageParts) (first now : List ℕ) (sent : SentBefore done (image ∷ rest) first now) where
  same_images : done ++ image ∷ rest ≡ (done ++ image ∷ []) ++ rest
  same_images = sym (append_assoc done (image ∷ []) rest)

  -- of another page
  none_here : (page : ℕ) → (image.number == page) ≡ false → has_image rest page ≡ false → has_image (image ∷ rest) page ≡ false
  none_here page other none = by_last (last_image rest page) none
    where
      by_last : (last : Option PageParts) → is_some last ≡ false → is_some (later last (if image.number == page then Some image else None)) ≡ false
      by_last (Some q) has = absurd cc
      by_last None has = rw other refl

  last_before : (page : ℕ) (p : PageParts) → (image.number == page) ≡ false → last_image (done ++ image ∷ []) page ≡ Some p → last_image done page ≡ Some p
  last_before page p other e =
      let here : last_image (image ∷ []) page ≡ None = rw other refl in
      ap (λ (o : Option PageParts). later o (last_image done page)) (sym here) ∙ sym (last-append done (image ∷ []) page) ∙ e

  superseded : has_image rest image.number ≡ true → SentBefore (done ++ image ∷ []) rest first now
  superseded is = record {
    elsewhere = subst (λ (l : List PageParts). DiffersInHomes (has_image l) first now) same_images sent.elsewhere;
    homes = λ page p none e. by_page page p none e (image.number == page) refl;
  }
    where
      by_page : (page : ℕ) (p : PageParts) → has_image rest page ≡ false → last_image (done ++ image ∷ []) page ≡ Some p → (test : Bool) → (image.number == page) ≡ test → page_at (home_of page now) ≡ Ok p
      by_page page p none e true here =
          let both : true ≡ false = sym is ∙ ap (λ (n : ℕ). has_image rest n) (eqb-true image.number page here) ∙ none in
          absurd (cc both)
      by_page page p none e false other = sent.homes page p (none_here page other none) (last_before page p other e)

  written_home : (new : List ℕ) → AreHome (image ∷ []) now new → SentBefore (done ++ image ∷ []) rest first new
  written_home new home = record {
    elsewhere =
        let all = subst (λ (l : List PageParts). DiffersInHomes (has_image l) first now) same_images sent.elsewhere in
        differs_then (has_image ((done ++ image ∷ []) ++ rest)) first now new all
        (differs_more (has_image (image ∷ [])) (has_image ((done ++ image ∷ []) ++ rest)) now new (λ page is. among_left (done ++ image ∷ []) rest page (among_right done (image ∷ []) page is)) home.elsewhere);
    homes = λ page p none e. by_page page p none e (image.number == page) refl;
  }
    where
      by_page : (page : ℕ) (p : PageParts) → has_image rest page ≡ false → last_image (done ++ image ∷ []) page ≡ Some p → (test : Bool) → (image.number == page) ≡ test → page_at (home_of page new) ≡ Ok p
      by_page page p none e true here =
          let last : last_image (image ∷ []) page ≡ Some image = rw here refl in
          home.homes page p (last ∙ ap (λ (o : Option PageParts). later o (last_image done page)) (sym last) ∙ sym (last-append done (image ∷ []) page) ∙ e)
      by_page page p none e false other =
          let away : has_image (image ∷ []) page ≡ false = rw other refl in
          ap page_at (same_home (has_image (image ∷ [])) now new page home.elsewhere away) ∙ sent.homes page p (none_here page other none) (last_before page p other e)

module _ (images : List PageParts) (first : List ℕ) (content : Option (List ℕ)) where
  next_of : (place : ImagePlace) (left : List ImagePlace) (done rest : List PageParts) → images ≡ done ++ rest → StandAt (place ∷ left) rest first → IsSomeAnd content (SentBefore done rest first) → place.at + PAGE_SIZE ≤ HOMES_START
      → NextImage place left images first content
  next_of place left done [] split stand sent low = absurd stand
  next_of place left done (p ∷ rest) split stand sent low =
      let now = some_and content (SentBefore done (p ∷ rest) first) sent in
      let more : images ≡ (done ++ p ∷ []) ++ rest = split ∙ sym (append_assoc done (p ∷ []) rest) in
      record {
        file = now.0;
        told = now.1;
        image = p;
        page = stand.0;
        reads = ap page_at (same_front (has_image (done ++ p ∷ rest)) first now.0 place.at PAGE_SIZE now.2.elsewhere low) ∙ stand.1;
        among = λ page is. ap (λ (l : List PageParts). has_image l page) more ∙ among_left (done ++ p ∷ []) rest page (among_right done (p ∷ []) page is);
        skipped = λ is. record {
          done = done ++ p ∷ [];
          rest = rest;
          split = more;
          stand = stand.2;
          sent = some_more content (SentBefore done (p ∷ rest) first) (SentBefore (done ++ p ∷ []) rest first)
              (λ f s. superseded done rest p first f s (ap (λ (n : ℕ). has_image rest n) (sym stand.0) ∙ among_placed left rest first place.page stand.2 is)) sent;
        };
        goes_on = λ new home. record {
          done = done ++ p ∷ [];
          rest = rest;
          split = more;
          stand = stand.2;
          sent = some_more new (AreHome (p ∷ []) now.0) (SentBefore (done ++ p ∷ []) rest first) (λ f h. written_home done rest p first now.0 now.2 f h) home;
        };
      }

  pub images_next : (place : ImagePlace) (left : List ImagePlace) → ImagesLeft (place ∷ left) images first content → place.at + PAGE_SIZE ≤ HOMES_START → NextImage place left images first content
  images_next place left l low = next_of place left l.done l.rest l.split l.stand l.sent low

  none_left : (done rest : List PageParts) → images ≡ done ++ rest → StandAt [] rest first → IsSomeAnd content (SentBefore done rest first) → IsSomeAnd content (AreHome images first)
  none_left done (p ∷ rest) split stand sent = absurd stand
  none_left done [] split stand sent =
      let whole : images ≡ done = split ∙ append-nil done in
      some_more content (SentBefore done [] first) (AreHome images first)
      (λ f s. record {
        elsewhere = subst (λ (l : List PageParts). DiffersInHomes (has_image l) first f) (sym split) s.elsewhere;
        homes = λ page p e. s.homes page p refl (ap (λ (l : List PageParts). last_image l page) (sym whole) ∙ e);
      }) sent

  pub images_end : (left : List ImagePlace) → ImagesLeft left images first content → left ≡ [] → IsSomeAnd content (AreHome images first)
  images_end left l none = none_left l.done l.rest l.split (subst (λ (x : List ImagePlace). StandAt x l.rest first) none l.stand) l.sent

-- an image that was copied to the home of its page
pub copied_home : (p : PageParts) (from to : ℕ) (file : List ℕ) (old new : Option (List ℕ)) → new ≡ option_map (λ f. written to (piece from PAGE_SIZE f) f) old → old ≡ Some file → to ≡ home_start p.number
    → page_at (piece from PAGE_SIZE file) ≡ Ok p → from + PAGE_SIZE ≤ length file → to + PAGE_SIZE ≤ length file → IsSomeAnd new (AreHome (p ∷ []) file)
copied_home p from to file old new copied told to_is reads inside fits =
    let bytes = piece from PAGE_SIZE file in
    let home : home_start p.number + PAGE_SIZE ≤ length file = omega (arith, to_is, fits) in
    let is : new ≡ Some (written (home_start p.number) bytes file) =
    copied ∙ ap (option_map (λ f. written to (piece from PAGE_SIZE f) f)) told ∙ ap (λ (n : ℕ). Some (written n bytes file)) to_is in
    and_some new (AreHome (p ∷ []) file) (written (home_start p.number) bytes file) is (one_home p bytes file (length-piece from PAGE_SIZE file inside) reads home)

module _ {D : Type 0} (disks : DiskOf D)
    (counts_now : (d : D) (t : ℕ) (c : List ℕ) → t ≤ disks.moment d → disks.may_leave d c → disks.left_since d t c)
  where
    -- the write of the next image changes the homes of the images alone
    pub images_change : (place : ImagePlace) (left : List ImagePlace) (images : List PageParts) (first : List ℕ) (to : ℕ) (old mid new : D) → ImagesLeft (place ∷ left) images first (disks.content mid) → place.at + PAGE_SIZE ≤ HOMES_START
        → ChangesHomes disks (has_image images) old mid → to ≡ home_start place.page
        → TornContent to PAGE_SIZE (disks.content mid) (disks.content new) → LeavesOnly disks mid new (After (Torn to PAGE_SIZE) (disks.may_leave mid))
        → ChangesHomes disks (has_image images) old new
    images_change place left images first to old mid new l low before to_is torn leaves =
        let next = images_next images first (disks.content mid) place left l low in
        let home : to ≡ home_start next.image.number = to_is ∙ ap home_start next.page in
        let one = wrote disks (has_image (next.image ∷ [])) next.image.number mid new (among_one next.image)
        (subst (λ at. TornContent at PAGE_SIZE (disks.content mid) (disks.content new)) home torn)
        (subst (λ at. LeavesOnly disks mid new (After (Torn at PAGE_SIZE) (disks.may_leave mid))) home leaves) in
        changes_then disks counts_now (has_image images) old mid new before
        (changes_more disks (has_image (next.image ∷ [])) (has_image images) mid new next.among one)
