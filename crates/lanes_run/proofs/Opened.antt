-- Lanes on a store that was just opened.
use Rattle.std.proofs.Common.{◌≡◌, sym, ap, ◌∙◌, subst, ℕ, inl, List, Option, arith}
use Rattle.std.specs.Prelude.{is_some}
use Rattle.disk_trait.specs.declared.disk.Disk.{Ghosts as DiskOf}
use Rattle.disk_trait.specs.Causes.{Rose}
use Rattle.disk_trait.specs.DiskFacts.{KeepsDisk}
use Rattle.script_lang.specs.declared.line.LaneLine.{LaneLine}
use Rattle.store_model.specs.Worlds.{World, Event}
use Rattle.store_model.specs.Histories.{IsLegal}
use Rattle.store_model.proofs.FaultCounts.{ascend_within}
use Rattle.cut_core.specs.Seen.{Seen}
use Rattle.store_desk.specs.Chronicles.{IsKnown}
use Rattle.store_desk.specs.Events.{history}
use Rattle.store_machine.proofs.Counts.{rose_later}
use Rattle.store_machine.proofs.Promising.{safe, collected}
use Rattle.store_run.specs.Ran.{EndsBy}
use Rattle.store_run.specs.declared.status.Status.{Status}
use Rattle.store_run.specs.declared.status.Status.TheVariants.{Done, BadLine, TooLong, ReadFault, WriteFault, DiskFault, NotAStore, Damaged, Memory}
use Rattle.store_run.proofs.Opened.{Opening, opens_to, leaves_both, leaves_history, not_broken}
use Rattle.lanes_run.specs.Ended.{StoreLanes}
use Rattle.lanes_run.specs.RanLanes.{RanLanes, LanesBy, DidBy}

-- a status with which lanes end
by_status : (status : Status) (known : Type 0) (w : World) (taken : List ℕ) (left : Option (List ℕ)) (said : List LaneLine) (events : List Event) (R N C : Type 0)
    → DidBy status known w taken left said events → R → LanesBy status R N C
by_status Done known w taken left said events R N C did r = r
by_status (BadLine line column) known w taken left said events R N C did r = r
by_status TooLong known w taken left said events R N C did r = r
by_status ReadFault known w taken left said events R N C did r = r
by_status WriteFault known w taken left said events R N C did r = r
by_status DiskFault known w taken left said events R N C did r = inl r
by_status Memory known w taken left said events R N C did r = inl r
by_status _ known w taken left said events R N C did r = absurd did.0

module _ {D : Type 0} (disks : DiskOf D) where
  lanes_ran : (status : Status) (disk : D) (core new : Seen D) (a b h i : Option (List ℕ)) → Opening disks disk core → StoreLanes disks status core new a b h i
      → RanLanes disks status disk new.disk a b h i
  lanes_ran status disk core new a b h i o s = record {
    world = core.world;
    history = events;
    last = new.world;
    taken = s.taken;
    said = s.said;
    just_opened = o.just_opened;
    opens = opens_to (disks.content disk) core.world o.world o.store;
    legal = legal;
    last_is = λ known. s.kept.leads (at_core known);
    safe = λ known. safe core.world events s.lawful (legal known);
    collected = λ known. collected core.world events s.lawful (legal known);
    consumed = s.consumed;
    did = subst (λ (content : Option (List ℕ)). DidBy status (IsKnown content events) core.world s.taken b s.said events) o.content_kept s.did;
    written = s.written;
    ends = s.ends;
    crashes = leaves_both (disks.content disk) (disks.content core.disk) (disks.content new.disk) (ap is_some o.content_kept) s.kept.keeps.told
        (λ is. leaves_history disks disk core new events o (s.kept.leads (inl is))) s.kept.any_moment s.kept.now;
    faults = ascend_within (disks.fault_count disk) (disks.fault_count core.disk) (disks.fault_count new.disk) (disks.fault_count new.disk) events o.keeps.later (omega arith) s.kept.faults;
    calm = λ none. s.kept.calm none ∙ o.calm;
  }
    where
      events : List Event
      events = history s.chronicle

      at_core : IsKnown (disks.content disk) events → IsKnown (disks.content core.disk) events
      at_core known = subst (λ (content : Option (List ℕ)). IsKnown content events) (sym o.content_kept) known

      legal : IsKnown (disks.content disk) events → IsLegal core.world events
      legal known = (s.kept.told (at_core known)).legal

  pub opened_lanes : (status : Status) (disk now : D) (core new : Seen D) (a b h i : Option (List ℕ)) (N C : Type 0) → Opening disks disk core → now ≡ new.disk
      → StoreLanes disks status core new a b h i → LanesBy status (RanLanes disks status disk now a b h i) N C
  opened_lanes status disk now core new a b h i N C o is s =
      by_status status (IsKnown (disks.content core.disk) (history s.chronicle)) core.world s.taken b s.said (history s.chronicle) (RanLanes disks status disk now a b h i) N C s.did
      (subst (λ (end : D). RanLanes disks status disk end a b h i) (sym is) (lanes_ran status disk core new a b h i o s))

  -- a store that is broken at the end has seen a fault
  pub lanes_fault : (status : Status) (disk now : D) (core new : Seen D) (a b h i : Option (List ℕ)) → Opening disks disk core → now ≡ new.disk
      → StoreLanes disks status core new a b h i → status ≡ DiskFault → Rose (disks.fault_count disk) (disks.fault_count now)
  lanes_fault status disk now core new a b h i o is s st =
      let ends : EndsBy DiskFault new.world = subst (λ (x : Status). EndsBy x new.world) st s.ends in
      subst (λ (end : D). Rose (disks.fault_count disk) (disks.fault_count end)) (sym is)
      (rose_later (disks.fault_count disk) (disks.fault_count core.disk) (disks.fault_count new.disk) o.keeps.later (s.kept.cause (not_broken core.world o.just_opened) ends))

  pub lanes_keep : (status : Status) (disk now : D) (core new : Seen D) (a b h i : Option (List ℕ)) → Opening disks disk core → now ≡ new.disk
      → StoreLanes disks status core new a b h i → KeepsDisk disks disk now
  lanes_keep status disk now core new a b h i o is s = subst (λ (end : D). KeepsDisk disks disk end) (sym is) (record {
    size = s.kept.keeps.size ∙ o.keeps.size;
    told = s.kept.keeps.told ∙ o.keeps.told;
    later = omega (arith, o.keeps.later, s.kept.keeps.later);
  })

  -- a store that was opened is one
  pub lanes_no_store : (status : Status) (core new : Seen D) (a b h i : Option (List ℕ)) → StoreLanes disks status core new a b h i → status ≡ NotAStore → ⊥
  lanes_no_store status core new a b h i s is =
      (subst (λ (x : Status). DidBy x (IsKnown (disks.content core.disk) (history s.chronicle)) core.world s.taken b s.said (history s.chronicle)) is s.did).0

  pub lanes_no_damage : (status : Status) (core new : Seen D) (a b h i : Option (List ℕ)) (at : ℕ) → StoreLanes disks status core new a b h i → status ≡ Damaged at → ⊥
  lanes_no_damage status core new a b h i at s is =
      (subst (λ (x : Status). DidBy x (IsKnown (disks.content core.disk) (history s.chronicle)) core.world s.taken b s.said (history s.chronicle)) is s.did).0
