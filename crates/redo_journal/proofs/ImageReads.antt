-- How one page image is read.
use Rattle.std.proofs.Common.{◌≡◌, ◌≢◌, ◌⊎◌, inl, inr, ℕ, ◌+◌, ◌<◌, ◌≤◌, Bool, true, false, ◌&&◌, leb, ltb, List, take, drop, Ok, Err, refl}
use Rattle.std.specs.Int.{w32, from_be_bytes}
use Rattle.std.proofs.lemmas.Bool.{le-leb, lt-leb, lt-ltb, le-ltb, eq-eqb, ne_eqb}
use Rattle.page_image.specs.Pages.{PageParts}
use Rattle.page_image.specs.Fields.{page_at}
use Rattle.redo_journal.specs.Results.{from_place}
use Rattle.redo_journal.specs.Judging.{IsAreaFaultIn}
use Rattle.redo_journal.specs.Record.{image_at}
use Rattle.redo_journal.specs.declared.faults.AreaFault.{AreaFault}
use Rattle.redo_journal.specs.declared.faults.AreaFault.TheVariants.{DiskFault, BadRecord, Memory}
use Rattle.redo_journal.specs.declared.sizes.TheConstants.{PAGE_SIZE}

abbrev pub number_in : List ℕ → ℕ
number_in bytes = from_be_bytes w32 (take 4 bytes)

in_range : (low pages n : ℕ) → low ≤ n → n < pages → (leb low n && ltb n pages) ≡ true
in_range low pages n le lt = rw (le-leb low n le, lt-ltb n pages lt) refl

never : (b : Bool) → (b && false) ≡ false
never true = refl
never false = refl

out_of_range : (low pages n : ℕ) → (n < low) ⊎ (pages ≤ n) → (leb low n && ltb n pages) ≡ false
out_of_range low pages n (inl lt) = rw (lt-leb low n lt) refl
out_of_range low pages n (inr le) = rw (le-ltb n pages le) (never (leb low n))

pub image_out : (pages place low : ℕ) (bytes : List ℕ) → (number_in bytes < low) ⊎ (pages ≤ number_in bytes) → image_at pages place low bytes ≡ Err place
unfolding image_at
image_out pages place low bytes out = rw (out_of_range low pages (number_in bytes) out) refl

pub image_bad : (pages place low wrong : ℕ) (bytes : List ℕ) → low ≤ number_in bytes → number_in bytes < pages → from_place (place + 4) (page_at (take PAGE_SIZE (drop 4 bytes))) ≡ Err wrong → image_at pages place low bytes ≡ Err wrong
unfolding image_at
image_bad pages place low wrong bytes le lt bad = rw (in_range low pages (number_in bytes) le lt, bad) refl

pub image_fault : (pages place low : ℕ) (bytes : List ℕ) (fault : AreaFault) → low ≤ number_in bytes → number_in bytes < pages → IsAreaFaultIn (from_place (place + 4) (page_at (take PAGE_SIZE (drop 4 bytes)))) fault → IsAreaFaultIn (image_at pages place low bytes) fault
image_fault pages place low bytes DiskFault le lt is = is
image_fault pages place low bytes (BadRecord at) le lt is = image_bad pages place low at bytes le lt is
image_fault pages place low bytes Memory le lt is = is

pub image_other : (pages place low : ℕ) (bytes : List ℕ) (image : PageParts) → low ≤ number_in bytes → number_in bytes < pages → from_place (place + 4) (page_at (take PAGE_SIZE (drop 4 bytes))) ≡ Ok image → image.number ≢ number_in bytes → image_at pages place low bytes ≡ Err (place + 8)
unfolding image_at
image_other pages place low bytes image le lt is apart = rw (in_range low pages (number_in bytes) le lt, is, ne_eqb image.number (number_in bytes) apart) refl

pub image_is : (pages place low : ℕ) (bytes : List ℕ) (image : PageParts) → low ≤ number_in bytes → number_in bytes < pages → from_place (place + 4) (page_at (take PAGE_SIZE (drop 4 bytes))) ≡ Ok image → image.number ≡ number_in bytes → image_at pages place low bytes ≡ Ok image
unfolding image_at
image_is pages place low bytes image le lt is same = rw (in_range low pages (number_in bytes) le lt, is, eq-eqb image.number (number_in bytes) same) refl
