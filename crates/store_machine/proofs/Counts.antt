-- Counts of faults over several calls.
use Rattle.std.proofs.Common.{◌≡◌, refl, sym, ap, ◌∙◌, subst, ⊎_elim, ℕ, ◌+◌, ◌-◌, ◌^◌, ◌≤◌, ◌<◌, min, Bool, false, List, [], ◌∷◌, ◌++◌, Option, Some, None, arith}
use Rattle.std.specs.Prelude.{is_some, IsTrue}
use Rattle.disk_trait.specs.Causes.{Rose}
use Rattle.object_graph.specs.declared.calls.Call.{Call}
use Rattle.object_graph.specs.declared.calls.Call.TheVariants.{New, Mark, Reopen}
use Rattle.object_graph.specs.declared.calls.Reply.{Reply}
use Rattle.object_graph.specs.declared.calls.Reply.TheVariants.{Refused, Reopened}
use Rattle.object_graph.specs.declared.calls.Refusal.{Refusal}
use Rattle.object_graph.specs.declared.calls.Refusal.TheVariants.{DiskFault}
use Rattle.object_graph.specs.NameParts.{NameParts}
use Rattle.store_model.specs.Worlds.{World, Event, Note}
use Rattle.store_model.specs.Causes.{new_name}
use Rattle.store_model.specs.Steps.{after_answer, after_refusal, after_reply, with_new, next}
use Rattle.store_model.specs.Histories.{HasPresentMarks}
use Rattle.cut_core.specs.Calls.{event_of, note_of}
use Rattle.cut_core.specs.Reopening.{IsNoteOf, IsOpenedAnew}
use Rattle.store_model.specs.Faults.{last_count, count_in, counts_noted, Ascend, FaultsAscend}
use Rattle.store_machine.specs.Acts.{event_with, FindsAnew, ReopensAnew, StepsTo}
use Rattle.store_machine.specs.Faults.{NoneFailed}

rose_by : (b n m : ℕ) → min (b + 1) m ≤ n → n < m → b < n
rose_by b n m rose lt = omega arith

rises_later : (a b c m : ℕ) → a ≤ b → min (b + 1) m ≤ c → min (a + 1) m ≤ c
rises_later a b c m le rose = omega arith

rises_before : (a b c m : ℕ) → min (a + 1) m ≤ b → b ≤ c → min (a + 1) m ≤ c
rises_before a b c m rose le = omega arith

pub rose_later : (a b c : ℕ) → a ≤ b → Rose b c → Rose a c
rose_later a b c le rose = rises_later a b c (2 ^ 64 - 1) le rose

pub rose_before : (a b c : ℕ) → Rose a b → b ≤ c → Rose a c
rose_before a b c rose le = rises_before a b c (2 ^ 64 - 1) rose le

-- ---- no disk fault in two parts

pub all_before : (history part : List Event) → NoneFailed (history ++ part) → NoneFailed history
all_before [] part all = tt
all_before (e ∷ history) part all = (all.0, all_before history part all.1)

pub all_after : (history part : List Event) → NoneFailed (history ++ part) → NoneFailed part
all_after [] part all = all
all_after (e ∷ history) part all = all_after history part all.1

-- ---- what one call notes

ascend_refusal : (call : Call) (why : Refusal) (b n : ℕ) → (Refused why ≡ Refused DiskFault → Rose b n) → b ≤ n → n < last_count → Ascend b (counts_noted (event_of call (Refused why) n ∷ [])) n
ascend_refusal call DiskFault b n rose le lt = (rose_by b n last_count (rose refl) lt, omega arith)
ascend_refusal call _ b n rose le lt = le

ascend_one : (call : Call) (reply : Reply) (b n : ℕ) → (reply ≡ Refused DiskFault → Rose b n) → b ≤ n → n < last_count → Ascend b (counts_noted (event_of call reply n ∷ [])) n
ascend_one call (Refused why) b n rose le lt = ascend_refusal call why b n rose le lt
ascend_one call _ b n rose le lt = le

pub ascend_once : (call : Call) (reply : Reply) (b n : ℕ) → (reply ≡ Refused DiskFault → Rose b n) → b ≤ n → FaultsAscend b n (event_of call reply n ∷ [])
ascend_once call reply b n rose le = record { later = le; ascend = λ lt. ascend_one call reply b n rose le lt }

-- the note that goes with a reply has no other counts
noted_refusal : (call : Call) (why : Refusal) (note : Note) (n : ℕ) → IsNoteOf (Refused why) n note → counts_noted (event_with call (Refused why) note ∷ []) ≡ counts_noted (event_of call (Refused why) n ∷ [])
noted_refusal call DiskFault note n is = ap (λ m. count_in m ++ []) is
noted_refusal call _ note n is = ap (λ m. count_in m ++ []) is

noted : (call : Call) (reply : Reply) (note : Note) (n : ℕ) → IsNoteOf reply n note → counts_noted (event_with call reply note ∷ []) ≡ counts_noted (event_of call reply n ∷ [])
noted call (Refused why) note n is = noted_refusal call why note n is
noted call (Reopened commits) note n is = ap (λ m. count_in m ++ []) is.1
noted call _ note n is = ap (λ m. count_in m ++ []) is

pub ascend_noted : (call : Call) (reply : Reply) (note : Note) (b n : ℕ) → IsNoteOf reply n note → (reply ≡ Refused DiskFault → Rose b n) → b ≤ n → FaultsAscend b n (event_with call reply note ∷ [])
ascend_noted call reply note b n is rose le = record {
  later = le;
  ascend = λ lt. subst (λ (counts : List ℕ). Ascend b counts n) (sym (noted call reply note n is)) (ascend_one call reply b n rose le lt);
}

-- ---- what it notes are no marks

no_marks : (w : World) (workers : ℕ) (reply : Reply) (n : ℕ) → HasPresentMarks w (Mark workers) (note_of reply n)
no_marks w workers (Refused DiskFault) n = tt
no_marks w workers (Refused why) n = tt
no_marks w workers reply n = tt

pub present_marks : (w : World) (call : Call) (reply : Reply) (n : ℕ) → HasPresentMarks w call (note_of reply n)
present_marks w (Mark workers) reply n = no_marks w workers reply n
present_marks w _ reply n = tt

-- ---- what breaks a world

broken-with_new : (w : World) (t : ℕ) (name : Option NameParts) → (with_new w t name).broken ≡ w.broken
broken-with_new w t None = refl
broken-with_new w t (Some name) = refl

broken-after_answer : (w : World) (call : Call) (note : Note) (reply : Reply) → w.broken ≡ None → (after_answer w call note reply).broken ≡ None
broken-after_answer w (New t page) note reply none = broken-with_new w t (new_name w t page) ∙ none
broken-after_answer w Reopen note reply none = refl
broken-after_answer w _ note reply none = none

not_some : (o : Option ℕ) → o ≡ None → IsTrue (is_some o) → ⊥
not_some None e t = absurd cc
not_some (Some n) e t = absurd cc

breaks_refusal : (w : World) (call : Call) (note : Note) (why : Refusal) → w.broken ≡ None → IsTrue (is_some (after_refusal w call note why).broken) → Refused why ≡ Refused DiskFault
breaks_refusal w call note DiskFault none some = refl
breaks_refusal w call note _ none some = absurd (not_some w.broken none some)

breaks_reply : (w : World) (call : Call) (note : Note) (reply : Reply) → w.broken ≡ None → IsTrue (is_some (after_reply w call note reply).broken) → reply ≡ Refused DiskFault
breaks_reply w call note (Refused why) none some = breaks_refusal w call note why none some
breaks_reply w call note reply none some = absurd (not_some (after_answer w call note reply).broken (broken-after_answer w call note reply none) some)

-- only a disk fault breaks a store
pub breaks : (w v : World) (call : Call) (reply : Reply) (note : Note) → v ≡ next w (event_with call reply note) → w.broken ≡ None → IsTrue (is_some v.broken) → reply ≡ Refused DiskFault
breaks w v call reply note is none some =
    breaks_reply w call note reply none (subst (λ (x : World). IsTrue (is_some x.broken)) is some)

-- nor does a reopening over a disk that doesn't tell break it
anew_whole : (w v : World) (commits : ℕ) → IsOpenedAnew w commits v → v.broken ≡ None
anew_whole w v commits a = ap (λ (x : World). x.broken) a.is

finds_whole : (w v : World) (reply : Reply) → FindsAnew w reply v → w.broken ≡ None → v.broken ≡ None
finds_whole w v (Reopened commits) f none = anew_whole w v commits f
finds_whole w v (Refused why) f none = ap (λ (x : World). x.broken) f ∙ none
finds_whole w v _ f none = absurd f

pub step_breaks : (told : Bool) (w v : World) (call : Call) (reply : Reply) (note : Note) → StepsTo told w (event_with call reply note) v → w.broken ≡ None → IsTrue (is_some v.broken) → reply ≡ Refused DiskFault
step_breaks told w v call reply note s none some =
    ⊎_elim (λ m. breaks w v call reply note m.1 none some)
    (λ (o : (told ≡ false) × ReopensAnew w (event_with call reply note) v). absurd (not_some v.broken (finds_whole w v reply o.1.finds none) some)) s.is

pub none_or_some : {P : Type 0} (o : Option ℕ) → (o ≡ None → P) → (IsTrue (is_some o) → P) → P
none_or_some None f g = f refl
none_or_some (Some n) f g = g refl

pub broken_not_none : (o : Option ℕ) → o ≡ None → IsTrue (is_some o) → ⊥
broken_not_none o e t = not_some o e t
