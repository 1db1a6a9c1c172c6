use Rattle.std.proofs.Common.{◌≡◌, ◌+◌, ℕ, List, length, Ok, ◌∙◌, subst, arith}
use Rattle.std.proofs.lemmas.Result.{err_from_is_err_and}
use Rattle.redo_journal.specs.Replays.{image_among}
use Rattle.image_model.specs.Opening.{or_spelled}
use Rattle.recovery.specs.Reading.{IsFaultIn, page_in, IsAhead}
use Rattle.recovery.specs.declared.faults.OpenFault.{OpenFault}
use Rattle.recovery.specs.declared.faults.OpenFault.TheVariants.{Damaged}
use Rattle.recovery.proofs.ReadPages.{handed, pages_more, pages_stop, numbers_more, home_within, one_longer}
use Rattle.recovery.proofs.homes.read_homes_in.Goals as goal

pub returns-in_err-found-clause-bad : goal.returns-in_err-found-clause-bad
returns-in_err-found-clause-bad c at e file count read so_far few =
    let p = err_from_is_err_and c.from_residual.result c.from_residual.ensures.1 in
    let is : c.in_err-found.field-0.0 ≡ Damaged at = handed c.from_residual.result p.0 c.in_err-found.field-0.0 at p.1 p.2 e in
    let n : ℕ = length c.homes.pages.items in
    let page : c.len.result ≡ n = omega (arith, c.len.ensures, c.homes.pages.ok.0) in
    let home = home_within file c.args.bytes.now c.home_in.result.now (length c.args.pages.now.items) c.homes.at n read c.home_in.ensures (omega arith) c.homes.invariant.more in
    let fault = subst (λ (b : List ℕ). IsFaultIn (or_spelled (image_among c.args.images.now n) n b) c.in_err-found.field-0.0) home
    (subst (λ (k : ℕ). IsFaultIn (or_spelled (image_among c.args.images.now k) k c.home_in.result.now) c.in_err-found.field-0.0) page c.in_err-found.ensures.read) in
    pages_stop c.args.images.now file n count at c.homes.pages.items (omega (arith, few, c.homes.invariant.more)) (c.homes.invariant.read file read so_far)
    (subst (λ (x : OpenFault). IsFaultIn (page_in c.args.images.now file n) x) is fault)

pub homes-preserved : goal.homes-preserved
homes-preserved c =
    let n : ℕ = length c.homes.pages.items in
    let next : ℕ = length c.push.new.self.items in
    let page : c.len.result ≡ n = omega (arith, c.len.ensures, c.homes.pages.ok.0) in
    let longer : next ≡ n + 1 = one_longer c.homes.pages.items c.push.new.self.items c.in_ok-found.found c.in-Ok.ensures.items in
    record {
      ahead = subst (λ (k : ℕ). IsAhead c.args.images.now c.page_from.new.next k) (omega (arith, page, longer)) c.page_from.ensures.ahead;
      more = omega (arith, longer, c.homes.invariant.more);
      read = λ file read so_far.
          let home = home_within file c.args.bytes.now c.home_in.result.now (length c.args.pages.now.items) c.homes.at n read c.home_in.ensures (omega arith) c.homes.invariant.more in
          pages_more c.args.images.now file n next c.homes.pages.items c.push.new.self.items c.in_ok-found.found longer (c.homes.invariant.read file read so_far)
          (subst (λ (b : List ℕ). or_spelled (image_among c.args.images.now n) n b ≡ Ok c.in_ok-found.found) home
          (subst (λ (k : ℕ). or_spelled (image_among c.args.images.now k) k c.home_in.result.now ≡ Ok c.in_ok-found.found) page c.in_ok-found.ensures.read)) c.in-Ok.ensures.items;
      numbered = λ so_far. numbers_more n next c.homes.pages.items c.push.new.self.items c.in_ok-found.found longer (c.homes.invariant.numbered so_far) (c.in_ok-found.ensures.number ∙ page) c.in-Ok.ensures.items;
    }
