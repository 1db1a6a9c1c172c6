-- The state keeps what is true of it over an event.
use Rattle.std.proofs.Common.{◌≡◌, ◌≢◌, refl, sym, ap, ◌∙◌, subst, ℕ, inl, inr, ⊎_elim, List, [], ◌∷◌, ◌++◌, Option, Some, None, arith}
use Rattle.std.proofs.lemmas.List.{map-append}
use Rattle.std.specs.Prelude.{IfSome, IsTrue, is_some}
use Rattle.object_graph.specs.declared.calls.Call.TheVariants.{Reopen}
use Rattle.object_graph.proofs.Members.{each_in, each_from, in_append, append_left, append_right}
use Rattle.disk_trait.specs.declared.disk.Disk.{Ghosts as DiskOf}
use Rattle.disk_trait.specs.DiskFacts.{LeavesOnly}
use Rattle.store_model.specs.Worlds as model
use Rattle.store_model.specs.Worlds.{World}
use Rattle.store_model.specs.Faults.{FaultsAscend}
use Rattle.store_model.specs.Histories.{after, IsLegal}
use Rattle.store_model.specs.Steps.{next}
use Rattle.store_model.proofs.Parts.{after-append, IsLegal-append}
use Rattle.store_model.proofs.FaultCounts.{none_ascends, ascend_over_parts}
use Rattle.image_model.specs.Stands.{StandsForWorld}
use Rattle.cut_builder.specs.CutParts.{ClosedParts}
use Rattle.cut_core.specs.Given.{HasGiven}
use Rattle.cut_core.specs.Seen.{Seen, StandsForEither}
use Rattle.store_machine.specs.Acts.{StandsForFront}
use Rattle.store_machine.specs.Faults.{NoneFailed}
use Rattle.store_machine.proofs.Counts.{all_before, all_after, none_or_some, rose_later, rose_before, broken_not_none}
use Rattle.store_machine.proofs.Moments.{if_some_map, leaves_more, leaves_then, front_none, front_all, front_before}
use Rattle.store_desk.specs.Chronicles.{IsKnown, KeepsCut, KeepCuts, IsChronicle}
use Rattle.store_desk.specs.Events.{told, history, Keeps, HasClosing}
use Rattle.store_desk.specs.Happenings.{Happened}
use Rattle.store_desk.specs.States.{IsKept}
use Rattle.store_desk.specs.declared.event.Event.{Event}

-- ---- what is known

pub known_first : (content : Option (List ℕ)) (events more : List model.Event) → IsKnown content (events ++ more) → IsKnown content events
known_first content events more known = ⊎_elim (λ t. inl t)
    (λ all. inr (each_from (λ (e : model.Event). e.entry.call ≢ Reopen) events (λ e i. each_in (λ (d : model.Event). d.entry.call ≢ Reopen) (events ++ more) e all (append_left events more e i)))) known

known_last : (content now : Option (List ℕ)) (events more : List model.Event) → is_some now ≡ is_some content → IsKnown content (events ++ more) → IsKnown now more
known_last content now events more same known = ⊎_elim (λ t. inl (same ∙ t))
    (λ all. inr (each_from (λ (e : model.Event). e.entry.call ≢ Reopen) more (λ e i. each_in (λ (d : model.Event). d.entry.call ≢ Reopen) (events ++ more) e all (append_right events more e i)))) known

pub history-append : (chronicle more : List Event) → history (chronicle ++ more) ≡ history chronicle ++ history more
history-append chronicle more = map-append told chronicle more

-- ---- chronicles in two parts

pub cuts-append : (w : World) (chronicle : List Event) (e : Event) → KeepCuts w chronicle → KeepsCut (after w (history chronicle)) e.note → KeepCuts w (chronicle ++ e ∷ [])
cuts-append w [] e all last = (last, tt)
cuts-append w (d ∷ chronicle) e all last = (all.0, cuts-append (next w (told d)) chronicle e all.1 last)

pub cut_at : (w : World) (chronicle : List Event) (e : Event) → KeepCuts w (chronicle ++ e ∷ []) → KeepsCut (after w (history chronicle)) e.note
cut_at w [] e all = all.0
cut_at w (d ∷ chronicle) e all = cut_at (next w (told d)) chronicle e all.1

pub closing_in_more : (chronicle more : List Event) (cut : ClosedParts) → HasClosing chronicle cut → HasClosing (chronicle ++ more) cut
closing_in_more chronicle more cut c = record { event = c.event; is_in = append_left chronicle more c.event c.is_in; keeps = c.keeps }

-- ---- where both disks tell

told_both : {A P Q R : Type 0} (o p : Option A) → is_some p ≡ is_some o → (IsTrue (is_some o) → P → Q → R) → IfSome o (λ _. P) → IfSome p (λ _. Q) → IfSome o (λ _. R)
told_both None p same f x y = tt
told_both (Some a) None same f x y = absurd cc
told_both (Some a) (Some b) same f x y = f refl x y

module _ {D : Type 0} (disks : DiskOf D) where
  -- nothing happened yet
  pub kept_from : (s : Seen D) → ((disk : D) (file : List ℕ) → disks.left_since disk (disks.moment disk) file → disks.may_leave disk file)
      → IfSome (disks.content s.disk) (λ _. (file : List ℕ) → disks.may_leave s.disk file → StandsForWorld file s.world) → IsKept disks s s []
  kept_from s only_now now = record {
    told = λ known. record { legal = tt; cuts = tt };
    leads = λ known. refl;
    pages = refl;
    given = λ cut c. absurd c.is_in;
    keeps = record { size = refl; told = refl; later = omega arith };
    any_moment = if_some_map (disks.content s.disk) (λ stands. record {
      later = omega arith;
      each = λ file left. front_none s.world [] file (stands file (only_now s.disk file left));
      before = λ t file le left. inl left;
    }) now;
    now = now;
    faults = none_ascends (disks.fault_count s.disk) (disks.fault_count s.disk) [] refl (omega arith);
    calm = λ none. refl;
    cause = λ none some. absurd (broken_not_none s.world.broken none some);
  }

  module _ (start old new : Seen D) (chronicle : List Event) (e : Event) (k : IsKept disks start old chronicle) (h : Happened disks old new e) where
    abbrev past : List model.Event
    past = history chronicle

    abbrev last : List model.Event
    last = told e ∷ []

    whole : history (chronicle ++ e ∷ []) ≡ past ++ last
    whole = history-append chronicle (e ∷ [])

    known_past : IsKnown (disks.content start.disk) (past ++ last) → IsKnown (disks.content start.disk) past
    known_past known = known_first (disks.content start.disk) past last known

    known_now : IsKnown (disks.content start.disk) (past ++ last) → IsKnown (disks.content old.disk) last
    known_now known = known_last (disks.content start.disk) (disks.content old.disk) past last k.keeps.told known

    leads_on : IsKnown (disks.content start.disk) (past ++ last) → new.world ≡ after start.world (past ++ last)
    leads_on known = h.is (known_now known) ∙ (ap (λ w. next w (told e)) (k.leads (known_past known)) ∙ sym (after-append start.world past last))

    told_on : IsKnown (disks.content start.disk) (past ++ last) → IsLegal start.world (past ++ last) × KeepCuts start.world (chronicle ++ e ∷ [])
    told_on known =
        let before : IsChronicle start.world chronicle = k.told (known_past known) in
        let is : old.world ≡ after start.world past = k.leads (known_past known) in (
          IsLegal-append start.world past last before.legal (subst (λ (w : World). IsLegal w last) is (h.allowed (known_now known), tt)),
          cuts-append start.world chronicle e before.cuts (subst (λ (w : World). KeepsCut w e.note) is h.cut),
        )

    given_on : (cut : ClosedParts) → HasClosing (chronicle ++ e ∷ []) cut → HasGiven new.world new.beside cut.number cut.pages
    given_on cut c = ⊎_elim
        (λ i. h.given cut.number cut.pages (k.given cut (record { event = c.event; is_in = i; keeps = c.keeps })))
        (λ i. h.gives cut (⊎_elim (λ is. subst (λ (d : Event). Keeps d.note cut) is c.keeps) (λ none. absurd none) i)) (in_append chronicle (e ∷ []) c.event c.is_in)

    -- where the disk tells, what stood for the core before or after it stands for a front
    front_of : IsTrue (is_some (disks.content start.disk)) → (file : List ℕ) → StandsForEither old.world new.world file → StandsForFront start.world (past ++ last) file
    front_of tells file s =
        let known : IsKnown (disks.content start.disk) (past ++ last) = inl tells in
        ⊎_elim (λ a. front_before start.world past last file (front_all start.world old.world past file (k.leads (known_past known)) a))
        (λ b. front_all start.world new.world (past ++ last) file (leads_on known) b) s

    any_on : IfSome (disks.content start.disk) (λ _. LeavesOnly disks start.disk new.disk (StandsForFront start.world (past ++ last)))
    any_on = told_both (disks.content start.disk) (disks.content old.disk) k.keeps.told
        (λ tells (p : LeavesOnly disks start.disk old.disk (StandsForFront start.world past)) (q : LeavesOnly disks old.disk new.disk (StandsForEither old.world new.world)).
        leaves_then disks start.disk old.disk new.disk (StandsForFront start.world (past ++ last))
        (leaves_more disks start.disk old.disk (StandsForFront start.world past) (StandsForFront start.world (past ++ last)) (λ file s. front_before start.world past last file s) p)
        (leaves_more disks old.disk new.disk (StandsForEither old.world new.world) (StandsForFront start.world (past ++ last)) (front_of tells) q))
        k.any_moment h.any_moment

    calm_on : NoneFailed (past ++ last) → disks.fault_count new.disk ≡ disks.fault_count start.disk
    calm_on none =
        let after_it : NoneFailed last = all_after past last none in
        h.calm after_it.0 ∙ k.calm (all_before past last none)

    pub kept_after : IsKept disks start new (chronicle ++ e ∷ [])
    kept_after = record {
      told = λ known. let all = told_on (subst (IsKnown (disks.content start.disk)) whole known) in record { legal = subst (IsLegal start.world) (sym whole) all.0; cuts = all.1 };
      leads = λ known. leads_on (subst (IsKnown (disks.content start.disk)) whole known) ∙ ap (after start.world) (sym whole);
      pages = h.pages ∙ k.pages;
      given = given_on;
      keeps = record { size = h.keeps.size ∙ k.keeps.size; told = h.keeps.told ∙ k.keeps.told; later = omega (arith, k.keeps.later, h.keeps.later) };
      any_moment = subst (λ (hs : List model.Event). IfSome (disks.content start.disk) (λ _. LeavesOnly disks start.disk new.disk (StandsForFront start.world hs))) (sym whole) any_on;
      now = h.now;
      faults = subst (FaultsAscend (disks.fault_count start.disk) (disks.fault_count new.disk)) (sym whole)
          (ascend_over_parts (disks.fault_count start.disk) (disks.fault_count old.disk) (disks.fault_count new.disk) past last k.faults h.faults);
      calm = λ none. calm_on (subst NoneFailed whole none);
      cause = λ none some. none_or_some old.world.broken
          (λ mid. rose_later (disks.fault_count start.disk) (disks.fault_count old.disk) (disks.fault_count new.disk) k.keeps.later (h.cause mid some))
          (λ mid. rose_before (disks.fault_count start.disk) (disks.fault_count old.disk) (disks.fault_count new.disk) (k.cause none mid) h.keeps.later);
    }
