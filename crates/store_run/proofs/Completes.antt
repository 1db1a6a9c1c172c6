-- A script in the grammar is run to its end where nothing fails.
use Rattle.std.proofs.Common.{◌≡◌, refl, sym, ap, ◌∙◌, subst, ℕ, ◌+◌, ◌<◌, inl, inr, ⊎_elim, Bool, true, false, List, [], ◌∷◌, ◌++◌, length, Option, Some, None, append_assoc, append-nil, arith, length-append, nat_eq, if◌then◌else◌}
use Rattle.std.specs.Prelude.{◌⊎◌, IfSome}
use Rattle.std.specs.Io.KnownBytes.{Consumes, IsAtEnd}
use Rattle.disk_trait.specs.declared.disk.Disk.{Ghosts as DiskOf}
use Rattle.disk_trait.specs.Causes.{Rose}
use Rattle.image_model.specs.Opening.{Fault, not_a_store, damaged}
use Rattle.image_model.specs.Stores.{HasFault}
use Rattle.store_model.specs.Worlds.{Event}
use Rattle.script_lang.specs.declared.line.Line.{Line}
use Rattle.script_lang.specs.declared.line.TheConstants.{LINE_LIMIT}
use Rattle.script_lang.specs.Script.{lines_of, onto_first, Says}
use Rattle.store_run.specs.Complete.{IsScript, IsDoneOrMemory}
use Rattle.store_run.specs.Following.{SayInTurn}
use Rattle.store_run.specs.Pieces.{whole_lines, onto_whole}
use Rattle.store_run.specs.declared.pieces.TheConstants.{SCRIPT_LIMIT}
use Rattle.store_run.specs.Ran.{Ran, RunBy, FollowsToBad, StopsAtLine, EndsLine}
use Rattle.store_run.specs.declared.status.Status.{Status}
use Rattle.store_run.specs.declared.status.Status.TheVariants.{Done, BadLine, TooLong, ReadFault, WriteFault, DiskFault, NotAStore, Damaged, Memory}
use Rattle.store_run.proofs.WholeLines.{too_long}

-- ---- what was taken of a known script

pub record TakenOf (script : List ℕ) (left : Option (List ℕ)) (taken : List ℕ) : Type 0 where
  pub rest : List ℕ
  pub left_is : left ≡ Some rest
  pub whole : script ≡ taken ++ rest

taken_now : (script : List ℕ) (left : Option (List ℕ)) (taken : List ℕ) → Consumes (Some script) left taken → TakenOf script left taken
taken_now script None taken c = absurd c
taken_now script (Some rest) taken c = record { rest = rest; left_is = refl; whole = c }

pub taken_of : (before left : Option (List ℕ)) (script taken : List ℕ) → before ≡ Some script → Consumes before left taken → TakenOf script left taken
taken_of before left script taken is c = taken_now script left taken (subst (λ (b : Option (List ℕ)). Consumes b left taken) is c)

pub nothing_left : (script taken : List ℕ) (left : Option (List ℕ)) (t : TakenOf script left taken) → IsAtEnd left → t.rest ≡ []
nothing_left script taken left t end = subst (λ (o : Option (List ℕ)). IsAtEnd o) t.left_is end

-- ---- lines of a front

no_first : (b : ℕ) (lines : List (List ℕ)) → onto_first b lines ≡ [] → ⊥
no_first b [] e = absurd cc
no_first b (line ∷ lines) e = absurd cc

head_same : (x y : List ℕ) (xs ys : List (List ℕ)) → ◌≡◌ {A = List (List ℕ)} (x ∷ xs) (y ∷ ys) → x ≡ y
head_same x y xs ys e = cc

tail_same : (x y : List ℕ) (xs ys : List (List ℕ)) → ◌≡◌ {A = List (List ℕ)} (x ∷ xs) (y ∷ ys) → xs ≡ ys
tail_same x y xs ys e = cc

byte_tail : (b : ℕ) (x y : List ℕ) → ◌≡◌ {A = List ℕ} (b ∷ x) (b ∷ y) → x ≡ y
byte_tail b x y e = cc

not_none : (good : List (List ℕ)) (bad : List ℕ) → ◌≡◌ {A = List (List ℕ)} [] (good ++ bad ∷ []) → ⊥
not_none [] bad e = absurd cc
not_none (line ∷ good) bad e = absurd cc

-- a line of some bytes, where the first of them may end it
first_some : (t : Bool) (b : ℕ) (lines : List (List ℕ)) → (if t then [] ∷ lines else onto_first b lines) ≡ [] → ⊥
first_some true b lines e = absurd cc
first_some false b lines e = no_first b lines e

none_both : (front : List ℕ) → lines_of front ≡ [] → whole_lines front ≡ []
none_both [] e = refl
none_both (b ∷ front) e = absurd (first_some (nat_eq b 10) b (lines_of front) e)

none_first : (front more : List ℕ) → lines_of front ≡ [] → lines_of (front ++ more) ≡ lines_of more
none_first [] more e = refl
none_first (b ∷ front) more e = absurd (first_some (nat_eq b 10) b (lines_of front) e)

-- where all lines of a front are whole, they are the first lines of what it begins
whole_step : (t : Bool) (b : ℕ) (wholes lines both more : List (List ℕ)) → (lines ≡ [] → wholes ≡ []) → (wholes ≡ lines → both ≡ lines ++ more)
    → (if t then [] ∷ wholes else onto_whole b wholes) ≡ (if t then [] ∷ lines else onto_first b lines)
    → (if t then [] ∷ both else onto_first b both) ≡ (if t then [] ∷ lines else onto_first b lines) ++ more
whole_step true b wholes lines both more none ih e = ap (λ x. [] ∷ x) (ih (tail_same [] [] wholes lines e))
whole_step false b [] [] both more none ih e = absurd cc
whole_step false b [] (l ∷ lines) both more none ih e = absurd cc
whole_step false b (w ∷ wholes) [] both more none ih e = let x : ◌≡◌ {A = List (List ℕ)} (w ∷ wholes) [] = none refl in absurd cc
whole_step false b (w ∷ wholes) (l ∷ lines) both more none ih e =
    let same : w ∷ wholes ≡ l ∷ lines =
    ap (λ x. x ∷ wholes) (byte_tail b w l (head_same (b ∷ w) (b ∷ l) wholes lines e)) ∙ ap (λ x. l ∷ x) (tail_same (b ∷ w) (b ∷ l) wholes lines e) in
    ap (onto_first b) (ih same)

pub whole_front : (front more : List ℕ) → whole_lines front ≡ lines_of front → lines_of (front ++ more) ≡ lines_of front ++ lines_of more
whole_front [] more e = refl
whole_front (b ∷ front) more e =
    whole_step (nat_eq b 10) b (whole_lines front) (lines_of front) (lines_of (front ++ more)) (lines_of more) (none_both front) (whole_front front more) e

-- the last line of a front may go on behind it
pub record GoesOn (lines good : List (List ℕ)) (bad : List ℕ) : Type 0 where
  pub more : List ℕ
  pub later : List (List ℕ)
  pub is : lines ≡ good ++ (bad ++ more) ∷ later

last_byte : (b : ℕ) (bad : List ℕ) (lines : List (List ℕ)) → bad ≡ b ∷ [] → GoesOn (onto_first b lines) [] bad
last_byte b bad [] e = record { more = []; later = []; is = ap (λ x. x ∷ []) (sym (append-nil bad ∙ e)) }
last_byte b bad (l ∷ lines) e = record { more = l; later = lines; is = ap (λ x. (x ++ l) ∷ lines) (sym e) }

goes_step : (t : Bool) (b : ℕ) (lines both rest good : List (List ℕ)) (bad : List ℕ) → (lines ≡ [] → both ≡ rest)
    → ((good : List (List ℕ)) (bad : List ℕ) → lines ≡ good ++ bad ∷ [] → GoesOn both good bad) → (if t then [] ∷ lines else onto_first b lines) ≡ good ++ bad ∷ []
    → GoesOn (if t then [] ∷ both else onto_first b both) good bad
goes_step true b lines both rest [] bad none ih e =
    record { more = []; later = both; is = ap (λ x. x ∷ both) (head_same [] bad lines [] e ∙ sym (append-nil bad)) }
goes_step true b lines both rest (g ∷ good) bad none ih e =
    let r = ih good bad (tail_same [] g lines (good ++ bad ∷ []) e) in
    record { more = r.more; later = r.later; is = ap (λ x. x ∷ both) (head_same [] g lines (good ++ bad ∷ []) e) ∙ ap (λ x. g ∷ x) r.is }
goes_step false b [] both rest [] bad none ih e = last_byte b bad both (sym (head_same (b ∷ []) bad [] [] e))
goes_step false b [] both rest (g ∷ good) bad none ih e = absurd (not_none good bad (tail_same (b ∷ []) g [] (good ++ bad ∷ []) e))
goes_step false b (l ∷ lines) both rest [] bad none ih e =
    let r = ih [] l (ap (λ x. l ∷ x) (tail_same (b ∷ l) bad lines [] e)) in
    record { more = r.more; later = r.later; is = ap (onto_first b) r.is ∙ ap (λ x. (x ++ r.more) ∷ r.later) (head_same (b ∷ l) bad lines [] e) }
goes_step false b (l ∷ lines) both rest (g ∷ good) bad none ih e =
    let r = ih (l ∷ good) bad (ap (λ x. l ∷ x) (tail_same (b ∷ l) g lines (good ++ bad ∷ []) e)) in
    record { more = r.more; later = r.later; is = ap (onto_first b) r.is ∙ ap (λ x. x ∷ (good ++ (bad ++ r.more) ∷ r.later)) (head_same (b ∷ l) g lines (good ++ bad ∷ []) e) }

pub goes_on : (front more : List ℕ) (good : List (List ℕ)) (bad : List ℕ) → lines_of front ≡ good ++ bad ∷ [] → GoesOn (lines_of (front ++ more)) good bad
goes_on [] more good bad e = absurd (not_none good bad e)
goes_on (b ∷ front) more good bad e =
    goes_step (nat_eq b 10) b (lines_of front) (lines_of (front ++ more)) (lines_of more) good bad (none_first front more) (λ g d x. goes_on front more g d x) e

-- ---- a line of a script is in the grammar

meant_at : (good : List (List ℕ)) (bad : List ℕ) (later : List (List ℕ)) (meanings : List Line) → SayInTurn (good ++ bad ∷ later) meanings → (m : Line) × Says bad m
meant_at [] bad later [] s = absurd s
meant_at [] bad later (m ∷ meanings) s = (m, s.0)
meant_at (g ∷ good) bad later [] s = absurd s
meant_at (g ∷ good) bad later (m ∷ meanings) s = meant_at good bad later meanings s.1

says : (script : List ℕ) (good : List (List ℕ)) (bad : List ℕ) (later : List (List ℕ)) → IsScript script → lines_of script ≡ good ++ bad ∷ later → (m : Line) × Says bad m
says script good bad later s e = meant_at good bad later s.meanings (subst (λ (lines : List (List ℕ)). SayInTurn lines s.meanings) e s.say)

pub whole_text : (script taken front rest behind : List ℕ) → script ≡ taken ++ behind → taken ≡ front ++ rest → script ≡ front ++ (rest ++ behind)
whole_text script taken front rest behind s t = s ∙ (ap (λ x. x ++ behind) t ∙ append_assoc front rest behind)

pub no_more : (front rest behind : List ℕ) → rest ≡ [] → behind ≡ [] → front ++ (rest ++ behind) ≡ front
no_more front rest behind r b = ap (λ x. front ++ (x ++ behind)) r ∙ (ap (λ x. front ++ x) b ∙ append-nil front)

-- the line that is judged is one of the script, or the beginning of one that is too long
pub meets_line : (script taken : List ℕ) (left : Option (List ℕ)) (good : List (List ℕ)) (bad : List ℕ) (line : ℕ) → TakenOf script left taken → StopsAtLine taken left good bad line
    → (found : List ℕ) × (later : List (List ℕ)) × (lines_of script ≡ good ++ found ∷ later) × ((found ≡ bad) ⊎ (LINE_LIMIT < length found))
meets_line script taken left good bad line t f =
    let whole = whole_text script taken f.front f.rest t.rest t.whole f.split in
    ⊎_elim
    (λ (ends : EndsLine f.front f.rest left). ⊎_elim
    (λ w.
    let behind : List (List ℕ) = lines_of (f.rest ++ t.rest) in
    (bad, behind, ap lines_of whole ∙ (whole_front f.front (f.rest ++ t.rest) w ∙ (ap (λ x. x ++ behind) f.lines ∙ append_assoc good (bad ∷ []) behind)), inl refl))
    (λ e. (bad, [], ap lines_of (whole ∙ no_more f.front f.rest t.rest e.0 (nothing_left script taken left t e.1)) ∙ f.lines, inl refl)) ends)
    (λ long.
    let g = goes_on f.front (f.rest ++ t.rest) good bad f.lines in
    (bad ++ g.more, g.later, ap lines_of whole ∙ g.is, inr (omega (arith, length-append bad g.more, long.1))))
    f.judged

no_bad_line : (pages : ℕ) (script taken : List ℕ) (left : Option (List ℕ)) (history : List Event) (line column : ℕ) → IsScript script → TakenOf script left taken
    → FollowsToBad pages taken left history line column → ⊥
no_bad_line pages script taken left history line column s t f =
    let m = meets_line script taken left f.good f.bad line t f.stops in
    let said = says script f.good m.0 m.1 s m.2 in
    ⊎_elim (λ same. f.is_bad.outside said.0 (subst (λ bytes. Says bytes said.0) same said.1)) (λ long. too_long m.0 long said.0 said.1) m.3

not_too_long : (script taken : List ℕ) (left : Option (List ℕ)) → IsScript script → TakenOf script left taken → length taken ≡ SCRIPT_LIMIT + 1 → ⊥
not_too_long script taken left s t len =
    let whole : length script ≡ length taken + length t.rest = ap length t.whole ∙ length-append taken t.rest in
    absurd (omega (arith, s.within, len, whole))

-- ---- the whole

-- nothing is wrong with the file
abbrev pub HasNoFault : List ℕ → Type 0
HasNoFault file = (fault : Fault) → HasFault file fault → ⊥

pub told_no_fault : (content : Option (List ℕ)) (file : List ℕ) (P : List ℕ → Type 0) → content ≡ Some file → (P file → ⊥) → IfSome content P → ⊥
told_no_fault content file P is never h = never (subst (λ (o : Option (List ℕ)). IfSome o P) is h)

module _ {D : Type 0} (disks : DiskOf D) where
  pub completes : (status : Status) (disk now : D) (a b h i : Option (List ℕ)) (N : Type 0) (script file : List ℕ) (source_before source_now sink_before sink_now : ℕ)
      → RunBy status (Ran disks status disk now a b h i) N
      → (status ≡ ReadFault → Rose source_before source_now) → (status ≡ WriteFault → Rose sink_before sink_now) → (status ≡ DiskFault → Rose (disks.fault_count disk) (disks.fault_count now))
      → (status ≡ NotAStore → IfSome (disks.content disk) (λ f. HasFault f not_a_store)) → ((at : ℕ) → status ≡ Damaged at → IfSome (disks.content disk) (λ f. HasFault f (damaged at)))
      → a ≡ Some script → IsScript script → disks.content disk ≡ Some file → HasNoFault file
      → (Rose source_before source_now → ⊥) → (Rose sink_before sink_now → ⊥) → (Rose (disks.fault_count disk) (disks.fault_count now) → ⊥) → IsDoneOrMemory status
  completes Done disk now a b h i N script file s t k l ran read write fault none bad told is_script kept sound nr nw nf = inl refl
  completes Memory disk now a b h i N script file s t k l ran read write fault none bad told is_script kept sound nr nw nf = inr refl
  completes (BadLine line column) disk now a b h i N script file s t k l ran read write fault none bad told is_script kept sound nr nw nf =
      absurd (no_bad_line ran.world.pages script ran.taken b ran.history line column is_script (taken_of a b script ran.taken told ran.consumed) ran.follows)
  completes TooLong disk now a b h i N script file s t k l ran read write fault none bad told is_script kept sound nr nw nf =
      absurd (not_too_long script ran.taken b is_script (taken_of a b script ran.taken told ran.consumed) ran.reads)
  completes ReadFault disk now a b h i N script file s t k l ran read write fault none bad told is_script kept sound nr nw nf = absurd (nr (read refl))
  completes WriteFault disk now a b h i N script file s t k l ran read write fault none bad told is_script kept sound nr nw nf = absurd (nw (write refl))
  completes DiskFault disk now a b h i N script file s t k l ran read write fault none bad told is_script kept sound nr nw nf = absurd (nf (fault refl))
  completes NotAStore disk now a b h i N script file s t k l ran read write fault none bad told is_script kept sound nr nw nf =
      absurd (told_no_fault (disks.content disk) file (λ f. HasFault f not_a_store) kept (sound not_a_store) (none refl))
  completes (Damaged at) disk now a b h i N script file s t k l ran read write fault none bad told is_script kept sound nr nw nf =
      absurd (told_no_fault (disks.content disk) file (λ f. HasFault f (damaged at)) kept (sound (damaged at)) (bad at refl))
  completes _ disk now a b h i N script file s t k l ran read write fault none bad told is_script kept sound nr nw nf = absurd ran
