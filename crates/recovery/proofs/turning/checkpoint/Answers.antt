use Rattle.std.proofs.Common.{◌≡◌, ℕ, ◌+◌, ◌-◌, ◌<◌, ◌≤◌, List, [], ◌∷◌, length, Option, Some, None, refl, sym, ◌∙◌, ap, subst, arith}
use Rattle.std.specs.Prelude.{IsSomeAnd, option_map}
use Rattle.disk_trait.specs.Disk.{written, Torn, Only}
use Rattle.disk_trait.specs.DiskFacts.{LeavesOnly}
use Rattle.disk_trait.specs.declared.disk.Disk.{Ghosts as DiskOf}
use Rattle.redo_journal.specs.Area.{area_start}
use Rattle.redo_journal.specs.Homes.{DiffersInHomes, AreSentHome}
use Rattle.redo_journal.specs.Journals.{JournalParts, HoldsFor}
use Rattle.redo_journal.specs.Record.{RecordParts}
use Rattle.redo_journal.specs.Replays.{is_named}
use Rattle.redo_journal.specs.Sending.{turned_over, empty_area}
use Rattle.redo_journal.proofs.HomeMoments.{some_and, some_more, in_some, ok_more}
use Rattle.disk_trait.proofs.DiskSteps.{weaker, goes_further, only_synced}
use Rattle.image_model.specs.Stands.{StandsFor, IsJournalOf, IsStoreOf}
use Rattle.image_model.proofs.Checkpoints.{own_sent, own_beside, own_switched, stands_sent, stands_beside, stands_switching}
use Rattle.recovery.proofs.Contents.{torn_some, written_torn, if_told}
use Rattle.recovery.proofs.turning.checkpoint.Goals as goal

-- one run after the other, both of which leave what has P
further : {D : Type 0} (disks : DiskOf D) (old mid new : D) (P : List ℕ → Type 0) → LeavesOnly disks old mid P → LeavesOnly disks mid new P → LeavesOnly disks old new P
further disks old mid new P first second = goes_further disks old mid new P P first second (λ c p. p)

-- while the images are sent home
pub returns-in_err-send_home-clause-any_moment : goal.returns-in_err-send_home-clause-any_moment
returns-in_err-send_home-clause-any_moment g c file pages s told only h =
    let j : JournalParts = c.args.journal.now in
    let own : IsStoreOf j file = in_some (g.D.Disk.content c.args.disk.now) (IsStoreOf j) file told c.requires.own in
    weaker g.D.Disk c.args.disk.now c.send_home.new.disk (DiffersInHomes (is_named own.0) file) (λ f. StandsFor f pages s)
    (stands_sent j own.0 file pages s h own.1) (c.send_home.ensures.any_moment file own.0 told only own.1.holds)

pub returns-in_err-send_home-clause-stands : goal.returns-in_err-send_home-clause-stands
returns-in_err-send_home-clause-stands g c file pages s told h =
    let j : JournalParts = c.args.journal.now in
    let own : IsStoreOf j file = in_some (g.D.Disk.content c.args.disk.now) (IsStoreOf j) file told c.requires.own in
    some_more (g.D.Disk.content c.send_home.new.disk) (DiffersInHomes (is_named own.0) file) (λ f. StandsFor f pages s)
    (stands_sent j own.0 file pages s h own.1) (c.send_home.ensures.elsewhere file own.0 told own.1.holds)

-- while the other area is made empty
pub returns-in_err-turn_over-clause-any_moment : goal.returns-in_err-turn_over-clause-any_moment
returns-in_err-turn_over-clause-any_moment g c file pages s told only h =
    let j : JournalParts = c.args.journal.now in
    let own : IsStoreOf j file = in_some (g.D.Disk.content c.args.disk.now) (IsStoreOf j) file told c.requires.own in
    let sent = some_and (g.D.Disk.content c.send_home.new.disk) (AreSentHome own.0 file) (c.in_ok-send_home.ensures.sent file own.0 told own.1.holds) in
    let only_sent : Only sent.0 (g.D.Disk.may_leave c.send_home.new.disk) = only_synced (g.D.Disk.content c.send_home.new.disk) (g.D.Disk.may_leave c.send_home.new.disk) sent.0 sent.1 c.in_ok-send_home.ensures.synced in
    further g.D.Disk c.args.disk.now c.send_home.new.disk c.turn_over.new.disk (λ f. StandsFor f pages s)
    (weaker g.D.Disk c.args.disk.now c.send_home.new.disk (DiffersInHomes (is_named own.0) file) (λ f. StandsFor f pages s)
    (stands_sent j own.0 file pages s h own.1) (c.send_home.ensures.any_moment file own.0 told only own.1.holds))
    (weaker g.D.Disk c.send_home.new.disk c.turn_over.new.disk (Torn (area_start (1 - j.area)) 9 sent.0) (λ f. StandsFor f pages s)
    (stands_beside j own.0 file pages s h own.1 sent.0 sent.2) (c.turn_over.ensures.any_moment sent.0 sent.1 only_sent))

pub returns-in_err-turn_over-clause-stands : goal.returns-in_err-turn_over-clause-stands
returns-in_err-turn_over-clause-stands g c file pages s told h =
    let j : JournalParts = c.args.journal.now in
    let own : IsStoreOf j file = in_some (g.D.Disk.content c.args.disk.now) (IsStoreOf j) file told c.requires.own in
    let sent = some_and (g.D.Disk.content c.send_home.new.disk) (AreSentHome own.0 file) (c.in_ok-send_home.ensures.sent file own.0 told own.1.holds) in
    some_more (g.D.Disk.content c.turn_over.new.disk) (Torn (area_start (1 - j.area)) 9 sent.0) (λ f. StandsFor f pages s)
    (stands_beside j own.0 file pages s h own.1 sent.0 sent.2)
    (torn_some (area_start (1 - j.area)) 9 (g.D.Disk.content c.send_home.new.disk) (g.D.Disk.content c.turn_over.new.disk) sent.0 sent.1 c.in_err-turn_over.ensures.failed)

-- the file whose other area is empty
record Ready (j : JournalParts) (commits : ℕ) (sent : List ℕ) (content : Option (List ℕ)) : Type 0 where
  pub file : List ℕ
  pub told : content ≡ Some file
  pub torn : Torn (area_start (1 - j.area)) 9 sent file
  pub empty : HoldsFor (turned_over commits j) [] file

ready : (j k : JournalParts) (commits : ℕ) (sent : List ℕ) (old new : Option (List ℕ)) → old ≡ Some sent → k ≡ turned_over commits j → area_start (1 - j.area) + 9 ≤ length sent
    → new ≡ option_map (written (area_start (1 - j.area)) (empty_area commits)) old → IsSomeAnd new (HoldsFor k []) → Ready j commits sent new
ready j k commits sent old new told turned within is holds =
    let torn : IsSomeAnd new (Torn (area_start (1 - j.area)) 9 sent) =
    torn_some (area_start (1 - j.area)) 9 old new sent told (written_torn (area_start (1 - j.area)) (empty_area commits) old new (λ c also. by_length c also) is) in
    both new torn (subst (λ (x : JournalParts). IsSomeAnd new (HoldsFor x [])) turned holds)
  where
    by_length : (c : List ℕ) → old ≡ Some c → area_start (1 - j.area) + 9 ≤ length c
    by_length c also = let same : c ≡ sent = cc (also, told) in subst (λ (l : List ℕ). area_start (1 - j.area) + 9 ≤ length l) (sym same) within

    both : (o : Option (List ℕ)) → IsSomeAnd o (Torn (area_start (1 - j.area)) 9 sent) → IsSomeAnd o (HoldsFor (turned_over commits j) []) → Ready j commits sent o
    both None torn holds = absurd torn
    both (Some c) torn holds = record { file = c; told = refl; torn = torn; empty = holds }

-- while the switch byte is written
pub returns-clause-any_moment : goal.returns-clause-any_moment
returns-clause-any_moment g c file pages s told only h =
    let j : JournalParts = c.args.journal.now in
    let n : ℕ = c.args.commits in
    let own : IsStoreOf j file = in_some (g.D.Disk.content c.args.disk.now) (IsStoreOf j) file told c.requires.own in
    let sent = some_and (g.D.Disk.content c.send_home.new.disk) (AreSentHome own.0 file) (c.in_ok-send_home.ensures.sent file own.0 told own.1.holds) in
    let only_sent : Only sent.0 (g.D.Disk.may_leave c.send_home.new.disk) = only_synced (g.D.Disk.content c.send_home.new.disk) (g.D.Disk.may_leave c.send_home.new.disk) sent.0 sent.1 c.in_ok-send_home.ensures.synced in
    let within : area_start (1 - j.area) + 9 ≤ length sent.0 = omega (arith, g.met.D.Disk.told_whole c.send_home.new.disk sent.0 sent.1, c.send_home.ensures.keeps.size, c.requires.long) in
    let r = ready j c.turn_over.new.self n sent.0 (g.D.Disk.content c.send_home.new.disk) (g.D.Disk.content c.turn_over.new.disk) sent.1 c.in_ok-turn_over.ensures.turned within c.in_ok-turn_over.ensures.written (c.in_ok-turn_over.ensures.empty sent.0 sent.1) in
    let only_ready : Only r.file (g.D.Disk.may_leave c.turn_over.new.disk) = only_synced (g.D.Disk.content c.turn_over.new.disk) (g.D.Disk.may_leave c.turn_over.new.disk) r.file r.told c.in_ok-turn_over.ensures.synced in
    further g.D.Disk c.args.disk.now c.turn_over.new.disk c.write_switch.new.disk (λ f. StandsFor f pages s)
    (further g.D.Disk c.args.disk.now c.send_home.new.disk c.turn_over.new.disk (λ f. StandsFor f pages s)
    (weaker g.D.Disk c.args.disk.now c.send_home.new.disk (DiffersInHomes (is_named own.0) file) (λ f. StandsFor f pages s)
    (stands_sent j own.0 file pages s h own.1) (c.send_home.ensures.any_moment file own.0 told only own.1.holds))
    (weaker g.D.Disk c.send_home.new.disk c.turn_over.new.disk (Torn (area_start (1 - j.area)) 9 sent.0) (λ f. StandsFor f pages s)
    (stands_beside j own.0 file pages s h own.1 sent.0 sent.2) (c.turn_over.ensures.any_moment sent.0 sent.1 only_sent)))
    (weaker g.D.Disk c.turn_over.new.disk c.write_switch.new.disk (Torn 512 1 r.file) (λ f. StandsFor f pages s)
    (stands_switching j own.0 file pages s h own.1 sent.0 sent.2 n c.requires.counted r.file r.torn r.empty) (c.write_switch.ensures.any_moment r.file r.told only_ready))

pub returns-clause-stands : goal.returns-clause-stands
returns-clause-stands g c file pages s told h =
    let j : JournalParts = c.args.journal.now in
    let n : ℕ = c.args.commits in
    let own : IsStoreOf j file = in_some (g.D.Disk.content c.args.disk.now) (IsStoreOf j) file told c.requires.own in
    let sent = some_and (g.D.Disk.content c.send_home.new.disk) (AreSentHome own.0 file) (c.in_ok-send_home.ensures.sent file own.0 told own.1.holds) in
    let within : area_start (1 - j.area) + 9 ≤ length sent.0 = omega (arith, g.met.D.Disk.told_whole c.send_home.new.disk sent.0 sent.1, c.send_home.ensures.keeps.size, c.requires.long) in
    let r = ready j c.turn_over.new.self n sent.0 (g.D.Disk.content c.send_home.new.disk) (g.D.Disk.content c.turn_over.new.disk) sent.1 c.in_ok-turn_over.ensures.turned within c.in_ok-turn_over.ensures.written (c.in_ok-turn_over.ensures.empty sent.0 sent.1) in
    some_more (g.D.Disk.content c.write_switch.new.disk) (Torn 512 1 r.file) (λ f. StandsFor f pages s)
    (stands_switching j own.0 file pages s h own.1 sent.0 sent.2 n c.requires.counted r.file r.torn r.empty)
    (torn_some 512 1 (g.D.Disk.content c.turn_over.new.disk) (g.D.Disk.content c.write_switch.new.disk) r.file r.told c.write_switch.ensures.torn)

-- the journal of the other area, once it is the active one
switched_own : (j k : JournalParts) (records : List RecordParts) (commits other : ℕ) (sent : List ℕ) (old new : Option (List ℕ)) → IsJournalOf j records sent → Ready j commits sent old → k ≡ turned_over commits j → other ≡ 1 - j.area
    → new ≡ option_map (written 512 (other ∷ [])) old → IsSomeAnd new (IsJournalOf k [])
switched_own j k records commits other sent old new own r turned other_is is =
    let beside = own_beside j records 9 sent r.file own (omega arith) r.torn in
    let small : (turned_over commits j).area < 2 = omega arith in
    let now = own_switched (turned_over commits j) [] r.file j.area beside.active r.empty small in
    let new_is : new ≡ Some (written 512 ((1 - j.area) ∷ []) r.file) =
    is ∙ ap (λ (o : Option (List ℕ)). option_map (written 512 (other ∷ [])) o) r.told ∙ ap (λ (a : ℕ). let x : Option (List ℕ) = Some (written 512 (a ∷ []) r.file) in x) other_is in
    subst (λ (x : JournalParts). IsSomeAnd new (IsJournalOf x [])) (sym turned)
    (subst (λ (o : Option (List ℕ)). IsSomeAnd o (IsJournalOf (turned_over commits j) [])) (sym new_is) now)

pub returns-clause-own : goal.returns-clause-own
returns-clause-own g c =
    let j : JournalParts = c.args.journal.now in
    let n : ℕ = c.args.commits in
    ok_more c.write_switch.result _ _ (λ is.
    if_told (IsJournalOf c.turn_over.new.self []) (g.D.Disk.content c.args.disk.now) (g.D.Disk.content c.write_switch.new.disk) (c.write_switch.ensures.keeps.told ∙ c.turn_over.ensures.keeps.told ∙ c.send_home.ensures.keeps.told) (λ file told.
    let own : IsStoreOf j file = in_some (g.D.Disk.content c.args.disk.now) (IsStoreOf j) file told c.requires.own in
    let sent = some_and (g.D.Disk.content c.send_home.new.disk) (AreSentHome own.0 file) (c.in_ok-send_home.ensures.sent file own.0 told own.1.holds) in
    let within : area_start (1 - j.area) + 9 ≤ length sent.0 = omega (arith, g.met.D.Disk.told_whole c.send_home.new.disk sent.0 sent.1, c.send_home.ensures.keeps.size, c.requires.long) in
    let r = ready j c.turn_over.new.self n sent.0 (g.D.Disk.content c.send_home.new.disk) (g.D.Disk.content c.turn_over.new.disk) sent.1 c.in_ok-turn_over.ensures.turned within c.in_ok-turn_over.ensures.written (c.in_ok-turn_over.ensures.empty sent.0 sent.1) in
    switched_own j c.turn_over.new.self own.0 n (1 - c.area-other.result) sent.0 (g.D.Disk.content c.turn_over.new.disk) (g.D.Disk.content c.write_switch.new.disk) (own_sent j own.0 file sent.0 own.1 sent.2.elsewhere) r
    c.in_ok-turn_over.ensures.turned (ap (λ (a : ℕ). 1 - a) c.area-other.ensures.value) is))
    c.write_switch.ensures.written
