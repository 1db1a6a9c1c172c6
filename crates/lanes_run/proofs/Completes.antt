-- A script of lanes in the grammar is run to its end where nothing fails.
use Rattle.std.proofs.Common.{◌≡◌, refl, sym, ap, ◌∙◌, subst, ℕ, ◌+◌, inl, inr, ⊎_elim, List, [], ◌∷◌, ◌++◌, length, Option, Some, append-nil, arith, length-append}
use Rattle.std.specs.Prelude.{IfSome}
use Rattle.disk_trait.specs.declared.disk.Disk.{Ghosts as DiskOf}
use Rattle.disk_trait.specs.Causes.{Rose}
use Rattle.image_model.specs.Opening.{not_a_store, damaged}
use Rattle.image_model.specs.Stands.{opened_world}
use Rattle.image_model.specs.Stores.{HasFault}
use Rattle.script_lang.specs.declared.line.LaneLine.{LaneLine}
use Rattle.script_lang.specs.Script.{lines_of, SaysInLane}
use Rattle.script_lang.proofs.OneMeaning.{one_lane_thing}
use Rattle.store_lanes.specs.LaneScripts.{SayInLanes}
use Rattle.store_model.specs.Worlds.{World}
use Rattle.store_run.specs.Complete.{IsDoneOrMemory}
use Rattle.store_run.specs.Ran.{OpensTo}
use Rattle.store_run.specs.declared.pieces.TheConstants.{SCRIPT_LIMIT}
use Rattle.store_run.specs.declared.status.Status.{Status}
use Rattle.store_run.specs.declared.status.Status.TheVariants.{Done, BadLine, TooLong, ReadFault, WriteFault, DiskFault, NotAStore, Damaged, Memory}
use Rattle.store_run.proofs.Completes.{TakenOf, taken_of, meets_line, nothing_left, HasNoFault, told_no_fault}
use Rattle.lanes_run.specs.Asked.{entries_asked}
use Rattle.lanes_run.specs.Complete.{IsLaneScript}
use Rattle.lanes_run.specs.Judged.{HasBadLine, GoBeyond, AskTooMuch}
use Rattle.lanes_run.specs.RanLanes.{RanLanes, LanesBy}
use Rattle.lanes_run.proofs.Counted.{long_bad}

-- ---- a line of a script is in the grammar

said_at : (good : List (List ℕ)) (bad : List ℕ) (later : List (List ℕ)) (said : List LaneLine) → SayInLanes (good ++ bad ∷ later) said → (s : LaneLine) × SaysInLane bad s.lane s.line
said_at [] bad later [] s = absurd s
said_at [] bad later (x ∷ said) s = (x, s.0)
said_at (g ∷ good) bad later [] s = absurd s
said_at (g ∷ good) bad later (x ∷ said) s = said_at good bad later said s.1

says : (pages : ℕ) (script : List ℕ) (good : List (List ℕ)) (bad : List ℕ) (later : List (List ℕ)) → IsLaneScript pages script → lines_of script ≡ good ++ bad ∷ later → (s : LaneLine) × SaysInLane bad s.lane s.line
says pages script good bad later s e = said_at good bad later s.said (subst (λ (lines : List (List ℕ)). SayInLanes lines s.said) e s.say)

no_bad_line : (pages : ℕ) (script taken : List ℕ) (left : Option (List ℕ)) (said : List LaneLine) (line column : ℕ) → IsLaneScript pages script → TakenOf script left taken → HasBadLine taken left said line column → ⊥
no_bad_line pages script taken left said line column s t f =
    let m = meets_line script taken left f.good f.bad line t f.stops in
    let x = says pages script f.good m.0 m.1 s m.2 in
    ⊎_elim (λ same. f.is_bad.outside x.0 (subst (λ bytes. SaysInLane bytes x.0.lane x.0.line) same x.1)) (λ long. (long_bad m.0 long).outside x.0 x.1) m.3

-- ---- it isn't too long

not_beyond : (pages : ℕ) (script taken : List ℕ) (left : Option (List ℕ)) (said : List LaneLine) → IsLaneScript pages script → TakenOf script left taken → GoBeyond taken said → ⊥
not_beyond pages script taken left said s t g =
    let whole : length script ≡ length taken + length t.rest = ap length t.whole ∙ length-append taken t.rest in
    let over : length taken ≡ SCRIPT_LIMIT + 1 = ap length g.split ∙ (length-append g.bytes (g.byte ∷ []) ∙ ap (λ n. n + 1) g.full) in
    absurd (omega (arith, s.within, over, whole))

same_line : (a b : LaneLine) → a.lane ≡ b.lane → a.line ≡ b.line → a ≡ b
same_line a b l m = λ i. record { lane = l i; line = m i }

say_once : (lines : List (List ℕ)) (a b : List LaneLine) → SayInLanes lines a → SayInLanes lines b → a ≡ b
say_once [] a b s t = s ∙ sym t
say_once (line ∷ lines) [] b s t = absurd s
say_once (line ∷ lines) (x ∷ a) [] s t = absurd t
say_once (line ∷ lines) (x ∷ a) (y ∷ b) s t =
    let h = one_lane_thing line x.lane y.lane x.line y.line s.0 t.0 in let l = say_once lines a b s.1 t.1 in let e = same_line x y h.0 h.1 in λ i. e i ∷ l i

not_too_much : (pages : ℕ) (script taken : List ℕ) (left : Option (List ℕ)) (said : List LaneLine) → IsLaneScript pages script → TakenOf script left taken → AskTooMuch pages taken left said → ⊥
not_too_much pages script taken left said s t g =
    let all : script ≡ taken = t.whole ∙ (ap (λ x. taken ++ x) (nothing_left script taken left t g.all.at_end) ∙ append-nil taken) in
    let same : said ≡ s.said = say_once (lines_of script) said s.said (subst (λ (x : List ℕ). SayInLanes (lines_of x) said) (sym all) g.all.says) s.say in
    absurd (omega (arith, g.many, s.few, ap (entries_asked pages) same))

-- ---- the whole

opened_pages : (content : Option (List ℕ)) (file : List ℕ) (w : World) → content ≡ Some file → IfSome content (λ f. OpensTo f w) → (opened_world file).pages ≡ w.pages
opened_pages content file w is opens = ap (λ (v : World). v.pages) (sym (subst (λ (o : Option (List ℕ)). IfSome o (λ f. OpensTo f w)) is opens).is)

module _ {D : Type 0} (disks : DiskOf D) where
  right_pages : (status : Status) (disk now : D) (a b h i : Option (List ℕ)) (script file : List ℕ) → (r : RanLanes disks status disk now a b h i) → disks.content disk ≡ Some file
      → IsLaneScript (opened_world file).pages script → IsLaneScript r.world.pages script
  right_pages status disk now a b h i script file r kept s = subst (λ (pages : ℕ). IsLaneScript pages script) (opened_pages (disks.content disk) file r.world kept r.opens) s

  pub completes : (status : Status) (disk now : D) (a b h i : Option (List ℕ)) (N C : Type 0) (script file : List ℕ) (source_before source_now sink_before sink_now : ℕ)
      → LanesBy status (RanLanes disks status disk now a b h i) N C
      → (status ≡ ReadFault → Rose source_before source_now) → (status ≡ WriteFault → Rose sink_before sink_now) → (status ≡ DiskFault → Rose (disks.fault_count disk) (disks.fault_count now))
      → (status ≡ NotAStore → IfSome (disks.content disk) (λ f. HasFault f not_a_store)) → ((at : ℕ) → status ≡ Damaged at → IfSome (disks.content disk) (λ f. HasFault f (damaged at)))
      → a ≡ Some script → disks.content disk ≡ Some file → HasNoFault file → IsLaneScript (opened_world file).pages script
      → (Rose source_before source_now → ⊥) → (Rose sink_before sink_now → ⊥) → (Rose (disks.fault_count disk) (disks.fault_count now) → ⊥) → IsDoneOrMemory status
  completes Done disk now a b h i N C script file s t k l ran read write fault none bad told kept sound is_script nr nw nf = inl refl
  completes Memory disk now a b h i N C script file s t k l ran read write fault none bad told kept sound is_script nr nw nf = inr refl
  completes (BadLine line column) disk now a b h i N C script file s t k l ran read write fault none bad told kept sound is_script nr nw nf =
      absurd (no_bad_line ran.world.pages script ran.taken b ran.said line column (right_pages (BadLine line column) disk now a b h i script file ran kept is_script)
      (taken_of a b script ran.taken told ran.consumed) ran.did.0)
  completes TooLong disk now a b h i N C script file s t k l ran read write fault none bad told kept sound is_script nr nw nf =
      let right = right_pages TooLong disk now a b h i script file ran kept is_script in let taken = taken_of a b script ran.taken told ran.consumed in
      absurd (⊎_elim (λ g. not_beyond ran.world.pages script ran.taken b ran.said right taken g) (λ g. not_too_much ran.world.pages script ran.taken b ran.said right taken g) ran.did.0)
  completes ReadFault disk now a b h i N C script file s t k l ran read write fault none bad told kept sound is_script nr nw nf = absurd (nr (read refl))
  completes WriteFault disk now a b h i N C script file s t k l ran read write fault none bad told kept sound is_script nr nw nf = absurd (nw (write refl))
  completes DiskFault disk now a b h i N C script file s t k l ran read write fault none bad told kept sound is_script nr nw nf = absurd (nf (fault refl))
  completes NotAStore disk now a b h i N C script file s t k l ran read write fault none bad told kept sound is_script nr nw nf =
      absurd (told_no_fault (disks.content disk) file (λ f. HasFault f not_a_store) kept (sound not_a_store) (none refl))
  completes (Damaged at) disk now a b h i N C script file s t k l ran read write fault none bad told kept sound is_script nr nw nf =
      absurd (told_no_fault (disks.content disk) file (λ f. HasFault f (damaged at)) kept (sound (damaged at)) (bad at refl))
  completes _ disk now a b h i N C script file s t k l ran read write fault none bad told kept sound is_script nr nw nf = absurd ran
