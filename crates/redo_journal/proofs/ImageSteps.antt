-- One page image after the other.
use Rattle.std.proofs.Common.{◌≡◌, ℕ, zero, suc, ◌+◌, ◌-◌, ◌<◌, List, [], ◌∷◌, ◌++◌, drop, Result, Ok, Err, refl, ◌∙◌, ap, arith, append_assoc}
use Rattle.std.proofs.lemmas.List.{append-nil}
use Rattle.page_image.specs.Pages.{PageParts}
use Rattle.redo_journal.specs.Results.{◌>>=◌}
use Rattle.redo_journal.specs.Walk.{with_front}
use Rattle.redo_journal.specs.Judging.{IsAreaFaultIn}
use Rattle.redo_journal.specs.Record.{image_at, images_at}
use Rattle.redo_journal.specs.declared.faults.AreaFault.{AreaFault}
use Rattle.redo_journal.specs.declared.faults.AreaFault.TheVariants.{DiskFault, BadRecord, Memory}
use Rattle.redo_journal.specs.declared.sizes.TheConstants.{IMAGE_SIZE}

regroup : (front : List PageParts) (image : PageParts) (read : Result (List PageParts) ℕ) → with_front (front ++ image ∷ []) read ≡ with_front front (read >>= λ others. Ok (image ∷ others))
regroup front image (Ok rest) = ap (λ (l : List PageParts). Ok l) (append_assoc front (image ∷ []) rest)
regroup front image (Err at) = refl

pub images_more : (front : List PageParts) (pages place low n : ℕ) (bytes : List ℕ) (image : PageParts) → 0 < n → image_at pages place low bytes ≡ Ok image → with_front (front ++ image ∷ []) (images_at pages (place + IMAGE_SIZE) (image.number + 1) (n - 1) (drop IMAGE_SIZE bytes)) ≡ with_front front (images_at pages place low n bytes)
unfolding images_at
images_more front pages place low zero bytes image some is = absurd (omega arith)
images_more front pages place low (suc n) bytes image some is =
    ap (λ (m : ℕ). with_front (front ++ image ∷ []) (images_at pages (place + IMAGE_SIZE) (image.number + 1) m (drop IMAGE_SIZE bytes))) (omega arith)
    ∙ regroup front image (images_at pages (place + IMAGE_SIZE) (image.number + 1) n (drop IMAGE_SIZE bytes)) ∙ rw is refl

pub images_wrong : (front : List PageParts) (pages place low n : ℕ) (bytes : List ℕ) (wrong : ℕ) → 0 < n → image_at pages place low bytes ≡ Err wrong → with_front front (images_at pages place low n bytes) ≡ Err wrong
unfolding images_at
images_wrong front pages place low zero bytes wrong some is = absurd (omega arith)
images_wrong front pages place low (suc n) bytes wrong some is = rw is refl

pub images_fault : (front : List PageParts) (pages place low n : ℕ) (bytes : List ℕ) (fault : AreaFault) → 0 < n → IsAreaFaultIn (image_at pages place low bytes) fault → IsAreaFaultIn (with_front front (images_at pages place low n bytes)) fault
images_fault front pages place low n bytes DiskFault some is = is
images_fault front pages place low n bytes (BadRecord at) some is = images_wrong front pages place low n bytes at some is
images_fault front pages place low n bytes Memory some is = is

pub images_end : (front : List PageParts) (pages place low n : ℕ) (bytes : List ℕ) → n ≡ 0 → with_front front (images_at pages place low n bytes) ≡ Ok front
unfolding images_at
images_end front pages place low zero bytes is = ap (λ (l : List PageParts). Ok l) (append-nil front)
images_end front pages place low (suc n) bytes is = absurd (omega arith)
