use Rattle.std.proofs.Common.{IfSome, sym, subst, length}
use Rattle.mark_pool.specs.Walks.{AreClosedOn, IsOpen}
use Rattle.mark_pool.proofs.Seats.{has_then, looks_has, works_has, whole_looks}
use Rattle.mark_pool.proofs.Unscanned.{fewer}
use Rattle.mark_pool.proofs.marking.next_round.Goals as goal

pub returns-clause-fewer : goal.returns-clause-fewer
returns-clause-fewer g c _ =
    let old = c.args.seat.now in
    let one = c.list_all.new.seat in
    let two = c.visit.new.seat in
    let three = c.round.new.seat in
    let open_place = subst (λ o. IfSome o (IsOpen c.args.cut.now old.scans)) c.in-Some.is c.in_ok-first.ensures.first in
    let looked = whole_looks c.args.table.now old one c.requires.whole c.list_all.ensures.looks in
    let more = has_then old two three (has_then old one two (looks_has old one c.list_all.ensures.looks) (works_has one two c.visit.ensures.works)) c.in_ok-round.ensures.more in
    let there = c.in_ok-round.ensures.more.scans c.in-Some.first.page c.in-Some.first.slot (c.visit.ensures.scanned looked.parts looked.tidy) in
    fewer (length c.args.cut.now.pages) c.in-Some.first.page c.in-Some.first.slot old.scans three.scans more.scans open_place.listed.page_within open_place.listed.slot_within open_place.unscanned there

pub returns-in_default-clause-closed : goal.returns-in_default-clause-closed
returns-in_default-clause-closed g c _ =
    subst (λ l. AreClosedOn c.args.cut.now l (length c.args.cut.now.pages)) (sym c.list_all.ensures.looks.claims) (c.in_ok-first.ensures.closed c.in_default.is)
