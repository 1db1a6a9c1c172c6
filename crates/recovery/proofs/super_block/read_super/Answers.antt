use Rattle.std.proofs.Common.{◌≡◌, ℕ, ◌<◌, List, length, Some, Err, Result, Option, sym, ◌∙◌, ap, arith}
use Rattle.std.specs.Prelude.{IfSome}
use Rattle.disk_trait.specs.Disk.{piece}
use Rattle.redo_journal.specs.Homes.{store_size}
use Rattle.image_model.specs.Opening.{StoreParts, Fault, not_a_store, damaged, open_of}
use Rattle.image_model.specs.Super.{super_at, super_of}
use Rattle.image_model.proofs.FaultyFiles.{no_block, opens_no_store, opens_short}
use Rattle.recovery.proofs.Contents.{if_known}
use Rattle.redo_journal.proofs.HomeMoments.{in_some}
use Rattle.recovery.proofs.super_block.read_super.Goals as goal

pub returns-then-len-lt-HEAD_SIZE-clause-none : goal.returns-then-len-lt-HEAD_SIZE-clause-none
returns-then-len-lt-HEAD_SIZE-clause-none g c _ =
    if_known (λ file. open_of file ≡ Err not_a_store) (g.D.Disk.content c.args.disk.now) (λ file told.
    opens_no_store file (no_block file (omega (arith, g.met.D.Disk.told_whole c.args.disk.now file told, c.len-len.ensures, c.if-len-lt-HEAD_SIZE.true))))

-- the block that was read is the file's
read_is : (content : Option (List ℕ)) (out file : List ℕ) → content ≡ Some file → IfSome content (λ c. out ≡ piece 0 1024 c) → super_of file ≡ super_at out
read_is content out file told bytes = ap super_at (sym (in_some content (λ c. out ≡ piece 0 1024 c) file told bytes))

pub returns-in_default-super_in-clause-none : goal.returns-in_default-super_in-clause-none
returns-in_default-super_in-clause-none g c _ =
    if_known (λ file. open_of file ≡ Err not_a_store) (g.D.Disk.content c.args.disk.now) (λ file told.
    opens_no_store file (read_is (g.D.Disk.content c.args.disk.now) c.read_at.new.out file told c.in-Ok.ensures.bytes ∙ c.in_default-super_in.ensures.none))

short_is : (file : List ℕ) (pages area len at need : ℕ) → super_of file ≡ Some (record { pages = pages; area = area }) → length file ≡ len → need ≡ store_size pages → len < need → len ≡ at → open_of file ≡ Err (damaged at)
short_is file pages area len at need head long need_is low is =
    opens_short file (record { pages = pages; area = area }) head (omega (arith, long, need_is, low))
    ∙ ap (λ (n : ℕ). let x : Result StoreParts Fault = Err (damaged n) in x) (long ∙ is)

pub returns-then-len-size_of-clause-short : goal.returns-then-len-size_of-clause-short
returns-then-len-size_of-clause-short g c at e =
    let is : c.len-len.result ≡ at = cc e in
    if_known (λ file. open_of file ≡ Err (damaged at)) (g.D.Disk.content c.args.disk.now) (λ file told.
    short_is file c.in-Some.found.pages c.in-Some.found.area c.len-len.result at c.size_of.result (read_is (g.D.Disk.content c.args.disk.now) c.read_at.new.out file told c.in-Ok.ensures.bytes ∙ c.in-Some.ensures.found)
    (g.met.D.Disk.told_whole c.args.disk.now file told ∙ sym c.len-len.ensures) c.size_of.ensures c.if-len-size_of.true is)
