-- What legal histories promise of what they free.
use Rattle.std.proofs.Common.{◌≡◌, refl, sym, ap, ◌∙◌, subst, ℕ, ◌+◌, false, List, [], ◌∷◌, ◌++◌, Option, Some, None}
use Rattle.std.specs.Prelude.{IsTrue, IsSomeAnd, option_map}
use Rattle.std.specs.List.{AllByRecursion}
use Rattle.object_graph.specs.NameParts.{NameParts}
use Rattle.object_graph.proofs.Members.{each_in}
use Rattle.object_graph.proofs.Paths.{has_name_in}
use Rattle.object_graph.specs.Graphs.{has_name}
use Rattle.object_graph.specs.declared.calls.Phase.{Phase}
use Rattle.object_graph.specs.declared.calls.Phase.TheVariants.{Closed, Sweeping}
use Rattle.object_graph.specs.declared.calls.Refusal.{Refusal}
use Rattle.object_graph.specs.declared.calls.Refusal.TheVariants.{DiskFault}
use Rattle.object_graph.specs.declared.calls.Call.{Call}
use Rattle.object_graph.specs.declared.calls.Call.TheVariants.{OpenCut, Close, Mark, EndCut}
use Rattle.object_graph.specs.declared.calls.Reply.{Reply}
use Rattle.object_graph.specs.declared.calls.Reply.TheVariants.{Done, Cut, Refused}
use Rattle.store_model.specs.Worlds.{World, OpenedCut, Event, Note, is_freed, IsOutOfReach}
use Rattle.store_model.specs.Replies.{Allows, AllowsReply}
use Rattle.store_model.specs.Steps.{next, after_answer, after_refusal, after_reply, cut_opened}
use Rattle.store_model.specs.Histories.{after, IsLegal, is_refused}
use Rattle.store_model.specs.Lawful.{IsLawful}
use Rattle.store_model.proofs.Lawfulness.{history_is_lawful, event_is_lawful}
use Rattle.store_model.proofs.KeptOpenings.{freed_from_opening}
use Rattle.store_model.proofs.Parts.{after-append, IsLegal-parts}
use Rattle.store_machine.specs.Calls.{takes_cut}
use Rattle.store_machine.specs.Promises.{IsSafe, IsCollected, IsUnreached, IsWholeCut}
use Rattle.store_machine.proofs.Keeping.{seal, answered_seal, opens_none}

pub safe : (w : World) (history : List Event) → IsLawful w → IsLegal w history → IsSafe w history
safe w history lawful legal done later name split freed =
    let legal_done : IsLegal w done = (IsLegal-parts w done later (subst (λ (h : List Event). IsLegal w h) split legal)).0 in
    let lawful_done = history_is_lawful w done lawful legal_done in
    each_in (IsOutOfReach (after w done)) (after w done).freed name lawful_done.freed (has_name_in (after w done).freed name freed)

-- ---- a cut that isn't taken away

abbrev pub HasCut : ℕ → World → Type 0
HasCut n w = IsSomeAnd w.cut (λ cut. cut.number ≡ n)

same_number : (n : ℕ) (o p : Option OpenedCut) → option_map seal p ≡ option_map seal o → IsSomeAnd o (λ cut. cut.number ≡ n) → IsSomeAnd p (λ cut. cut.number ≡ n)
same_number n None p same h = absurd h
same_number n (Some c) None same h = absurd cc
same_number n (Some c) (Some d) same h = let s : seal d ≡ seal c = cc in ap (λ x. x.0) s ∙ h

other_phase : (n : ℕ) (o : Option OpenedCut) (phase : Phase) → IsSomeAnd o (λ cut. cut.number ≡ n) → IsSomeAnd (option_map (λ (cut : OpenedCut). record cut { phase = phase }) o) (λ cut. cut.number ≡ n)
other_phase n None phase h = absurd h
other_phase n (Some c) phase h = h

no_cut : (n : ℕ) (w : World) → w.cut ≡ None → HasCut n w → ⊥
no_cut n w none h = subst (λ (o : Option OpenedCut). IsSomeAnd o (λ cut. cut.number ≡ n)) none h

refused_has : (n : ℕ) (w : World) (call : Call) (note : Note) (why : Refusal) → HasCut n w → HasCut n (after_refusal w call note why)
refused_has n w call note DiskFault h = h
refused_has n w call note _ h = h

answered_has : (n : ℕ) (w : World) (call : Call) (note : Note) (reply : Reply) → HasCut n w → AllowsReply w call note reply → is_refused reply ≡ false → takes_cut call reply ≡ false
    → HasCut n (after_answer w call note reply)
answered_has n w OpenCut note reply h allowed given stays = absurd (no_cut n w (opens_none w note reply allowed given) h)
answered_has n w Close note reply h allowed given stays = other_phase n w.cut Closed h
answered_has n w (Mark workers) note reply h allowed given stays = other_phase n w.cut Sweeping h
answered_has n w call note reply h allowed given stays = same_number n w.cut (after_answer w call note reply).cut (answered_seal w call note reply tt given stays) h

reply_has : (n : ℕ) (w : World) (call : Call) (note : Note) (reply : Reply) → HasCut n w → AllowsReply w call note reply → takes_cut call reply ≡ false → HasCut n (after_reply w call note reply)
reply_has n w call note (Refused why) h allowed stays = refused_has n w call note why h
reply_has n w call note reply h allowed stays = answered_has n w call note reply h allowed refl stays

during_has : (n : ℕ) (w : World) (during : List Event) → HasCut n w → IsLegal w during → AllByRecursion (λ (e : Event). takes_cut e.entry.call e.entry.reply ≡ false) during → HasCut n (after w during)
during_has n w [] h legal stays = h
during_has n w (e ∷ during) h legal stays =
    during_has n (next w e) during (reply_has n w e.entry.call e.note e.entry.reply h legal.0.1 stays.0) legal.1 stays.1

the_cut : (n : ℕ) (o : Option OpenedCut) → IsSomeAnd o (λ cut. cut.number ≡ n) → (cut : OpenedCut) × (o ≡ Some cut) × (cut.number ≡ n)
the_cut n None h = absurd h
the_cut n (Some cut) h = (cut, refl, h)

-- ---- from a cut's opening to its end

-- the reply that opened it was allowed in this world
module _ (u : World) (opening ending : Event) (during : List Event) (number : ℕ) (name : NameParts) (lawful : IsLawful u)
    (opens : (opening.entry.call ≡ OpenCut) × (opening.entry.reply ≡ Cut number)) (ends : (ending.entry.call ≡ EndCut) × (ending.entry.reply ≡ Done)) where
  may_open : Allows u opening → AllowsReply u OpenCut opening.note (Cut number)
  may_open allowed =
      subst (λ (c : Call). AllowsReply u c opening.note (Cut number)) opens.0 (subst (λ (r : Reply). AllowsReply u opening.entry.call opening.note r) opens.1 allowed.1)

  is_opened : next u opening ≡ cut_opened u
  is_opened = ap (λ r. after_reply u opening.entry.call opening.note r) opens.1 ∙ ap (λ c. after_reply u c opening.note (Cut number)) opens.0

  may_end : (v : World) → Allows v ending → AllowsReply v EndCut ending.note Done
  may_end v allowed =
      subst (λ (c : Call). AllowsReply v c ending.note Done) ends.0 (subst (λ (r : Reply). AllowsReply v ending.entry.call ending.note r) ends.1 allowed.1)

  is_ended : (v : World) → (next v ending).freed ≡ v.freed
  is_ended v = ap (λ r. (after_reply v ending.entry.call ending.note r).freed) ends.1 ∙ ap (λ c. (after_reply v c ending.note Done).freed) ends.0

  freed_as_it_ends : Allows u opening → IsLegal (next u opening) during → Allows (after (next u opening) during) ending
      → AllByRecursion (λ (e : Event). takes_cut e.entry.call e.entry.reply ≡ false) during → IsUnreached u name → IsTrue (is_freed (next (after (next u opening) during) ending) name)
  freed_as_it_ends allowed legal may stays out =
      let first = may_open allowed in
      let legal_opened : IsLegal (cut_opened u) during = subst (λ (v : World). IsLegal v during) is_opened legal in
      let c = the_cut (u.last_cut + 1) (after (cut_opened u) during).cut (during_has (u.last_cut + 1) (cut_opened u) during refl legal_opened stays) in
      let last : AllowsReply (after (cut_opened u) during) EndCut ending.note Done = subst (λ (v : World). AllowsReply (after v during) EndCut ending.note Done) is_opened (may_end (after (next u opening) during) may) in
      let freed = freed_from_opening u during c.0 ending.note name (event_is_lawful u OpenCut opening.note (Cut number) lawful first) legal_opened c.1 c.2 last.0 out.there out.unfreed out.unreached in
      subst (λ (names : List NameParts). IsTrue (has_name names name)) (sym (is_ended (after (next u opening) during)))
      (subst (λ (v : World). IsTrue (is_freed (after v during) name)) (sym is_opened) freed)

whole_cut : (u : World) (cut : List Event) (name : NameParts) → IsLawful u → IsLegal u cut → IsWholeCut cut → IsUnreached u name → IsTrue (is_freed (after u cut) name)
whole_cut u cut name lawful legal whole out =
    let parts = IsLegal-parts u (whole.opening ∷ whole.during) (whole.ending ∷ []) (subst (λ (h : List Event). IsLegal u h) whole.is legal) in
    subst (λ (h : List Event). IsTrue (is_freed (after u h) name)) (sym whole.is)
    (subst (λ (v : World). IsTrue (is_freed v name)) (sym (after-append u (whole.opening ∷ whole.during) (whole.ending ∷ [])))
    (freed_as_it_ends u whole.opening whole.ending whole.during whole.number name lawful whole.opens whole.ends parts.0.0 parts.0.1 parts.1.0 whole.stays out))

pub collected : (w : World) (history : List Event) → IsLawful w → IsLegal w history → IsCollected w history
collected w history lawful legal before cut later name split whole out =
    let first = IsLegal-parts w before (cut ++ later) (subst (λ (h : List Event). IsLegal w h) split legal) in
    let second = IsLegal-parts (after w before) cut later first.1 in
    subst (λ (v : World). IsTrue (is_freed v name)) (sym (after-append w before cut))
    (whole_cut (after w before) cut name (history_is_lawful w before lawful first.0) second.0 whole out)
