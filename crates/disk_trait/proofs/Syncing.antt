-- A disk in memory after a sync.
use Rattle.std.proofs.Common.{◌≡◌, ℕ, true, List, [], ◌∷◌, ◌++◌, length, drop, take, Some, refl, sym, ◌∙◌, ap, subst}
use Rattle.std.proofs.lemmas.List.{append-nil}
use Rattle.disk_trait.specs.Disk.{Elapses}
use Rattle.disk_trait.specs.NoteLaws.{honest_notes}
use Rattle.disk_trait.specs.Notes.{PastParts, synced_past, content_after, Images, notes_fit, LeftSince, synced_count}
use Rattle.disk_trait.specs.declared.note.Note.{Note}
use Rattle.disk_trait.specs.declared.note.Note.TheVariants.{Sync}
use Rattle.disk_trait.proofs.NoteSteps.{content_after-append, notes_fit-append, elapses_note, synced_notes, all_synced, safe_all, none_waits}

-- after these writes came a sync: what was done up to the sync before is old, up to this one new, and no write is left
module _ (old new : PastParts) (bytes : List ℕ) (writes left : List Note) (is : new ≡ synced_past old writes) (none : left ≡ [])
    (kept : bytes ≡ content_after old.first (old.notes ++ writes)) (fits : notes_fit (length old.first) (old.notes ++ writes) ≡ true)
  where
    same : new.first ≡ old.first
    same = ap (λ (p : PastParts). p.first) is

    notes_are : new.notes ≡ old.notes ++ writes ++ Sync ∷ []
    notes_are = ap (λ (p : PastParts). p.notes) is

    all_is : new.notes ++ left ≡ old.notes ++ writes ++ Sync ∷ []
    all_is = ap (λ (l : List Note). new.notes ++ l) none ∙ append-nil new.notes ∙ notes_are

    as_first : (c : List ℕ) → Images new.first (λ e. e ≡ new.first) (new.notes ++ left) c → Images old.first (λ e. e ≡ old.first) (new.notes ++ left) c
    as_first c = subst (λ (x : List ℕ). Images x (λ e. e ≡ x) (new.notes ++ left) c) same

    pub sync_kept : bytes ≡ content_after new.first (new.notes ++ left)
    sync_kept = kept ∙ sym (ap (λ (x : List ℕ). content_after x (new.notes ++ left)) same ∙ ap (content_after old.first) all_is ∙ content_after-append old.first (old.notes ++ writes) (Sync ∷ []))

    pub sync_fits : notes_fit (length new.first) (new.notes ++ left) ≡ true
    sync_fits = ap (λ (x : List ℕ). notes_fit (length x) (new.notes ++ left)) same ∙ ap (notes_fit (length old.first)) all_is ∙ notes_fit-append (length old.first) (old.notes ++ writes) (Sync ∷ []) fits refl

    pub sync_synced : synced_count (new.notes ++ left) ≡ length new.notes
    sync_synced = all_synced (old.notes ++ writes) (new.notes ++ left) all_is ∙ ap (λ (l : List Note). length (new.notes ++ l)) none ∙ ap length (append-nil new.notes)

    pub sync_safe : (safe now waiting : _) → safe ≡ content_after old.first old.notes → now ≡ content_after safe waiting → waiting ≡ writes → now ≡ content_after new.first new.notes
    sync_safe safe now waiting before done all =
        done ∙ ap (content_after safe) all ∙ ap (λ (x : List ℕ). content_after x writes) before ∙ sym (content_after-append old.first old.notes writes)
        ∙ sym (ap (λ (x : List ℕ). content_after x new.notes) same ∙ ap (content_after old.first) notes_are ∙ content_after-append old.first (old.notes ++ writes) (Sync ∷ []))

    pub sync_only : (c : List ℕ) → Images new.first (λ e. e ≡ new.first) (new.notes ++ left) c → c ≡ bytes
    sync_only c image = synced_notes old.first bytes (old.notes ++ writes) (new.notes ++ left) c all_is kept (as_first c image)

    pub sync_before : (c : List ℕ) → Images new.first (λ e. e ≡ new.first) (new.notes ++ left) c → Images old.first (λ e. e ≡ old.first) (old.notes ++ writes) c
    sync_before c image = honest_notes old.first bytes (old.notes ++ writes) c kept fits (ap (λ (l : List ℕ). Some l) (sym (sync_only c image)))

    pub sync_time : Elapses (length (old.notes ++ writes)) (length (new.notes ++ left)) (LeftSince old.first (old.notes ++ writes)) (LeftSince new.first (new.notes ++ left)) (Images new.first (λ e. e ≡ new.first) (new.notes ++ left))
    sync_time =
        subst (λ (x : List ℕ). Elapses (length (old.notes ++ writes)) (length (new.notes ++ left)) (LeftSince old.first (old.notes ++ writes)) (LeftSince x (new.notes ++ left)) (Images x (λ e. e ≡ x) (new.notes ++ left))) (sym same)
        (elapses_note old.first (old.notes ++ writes) (new.notes ++ left) Sync all_is)

    pub sync_content : content_after new.first (take (synced_count (new.notes ++ left)) (new.notes ++ left)) ≡ bytes
    sync_content = safe_all new.first bytes (new.notes ++ left) sync_kept (all_synced (old.notes ++ writes) (new.notes ++ left) all_is)

    pub sync_none : drop (synced_count (new.notes ++ left)) (new.notes ++ left) ≡ []
    sync_none = none_waits (new.notes ++ left) (all_synced (old.notes ++ writes) (new.notes ++ left) all_is)
