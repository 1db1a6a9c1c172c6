-- What each event keeps of a cut's opening.
use Rattle.std.proofs.Common.{◌≡◌, ℕ, zero, suc, ◌+◌, ◌≤◌, arith, ◌==◌, false, not, get_or, replicate, None, refl, sym, subst, ap, ◌∙◌, ◌⊎◌, inl, inr}
use Rattle.std.specs.List.{filter}
use Rattle.std.proofs.lemmas.Bool.{and_from}
use Rattle.std.proofs.lemmas.Nat.Bits.{bit_at-zero}
use Rattle.object_graph.specs.Slots.{has_slot}
use Rattle.object_graph.specs.declared.calls.Call.{Call}
use Rattle.object_graph.specs.declared.calls.Call.TheVariants.{New, Commit, Sweep, Reopen}
use Rattle.object_graph.specs.declared.calls.Reply.{Reply}
use Rattle.object_graph.specs.declared.calls.Reply.TheVariants.{Refused}
use Rattle.object_graph.specs.Graphs.{has_object}
use Rattle.store_model.specs.Worlds.{World, Transaction, Opening, Note, is_freed, transaction}
use Rattle.store_model.specs.Causes.{first_refusal, new_name}
use Rattle.store_model.specs.Replies.{AllowsReply}
use Rattle.store_model.specs.Steps.{after_answer, after_reply, opening_of}
use Rattle.object_graph.proofs.Members.{In, in_filter, each_from}
use Rattle.object_graph.proofs.Paths.{in_has_object}
use Rattle.store_model.specs.Lawful.{IsOrderly}
use Rattle.store_model.specs.Worlds.{is_unfreed}
use Rattle.store_model.specs.States.{State, state_of, state_after}
use Rattle.cut_model.specs.States.{generation_at, KeepsOpening}
use Rattle.cut_model.specs.CutPages.{bare_page}
use Rattle.cut_model.specs.Sound.{IsBornRight, IsSoundPage, IsSound}
use Rattle.cut_model.specs.Changes.{ends_copying}
use Rattle.store_model.proofs.Keeps.{opening_keeps_lost, event_keeps_lost}
use Rattle.cut_model.proofs.Views.{view_keeps_names}
use Rattle.store_model.proofs.Opened.{commit_is_open}
use Rattle.cut_model.proofs.Events.{state-with_new, state-after_refusal}

-- ---- the state after an event

-- the state stays, or a commit of an open transaction changes it
abbrev pub StateFollows : World → State → Type 0
StateFollows w after = (after ≡ state_of w) ⊎ ((t : Transaction) × In t w.transactions × (after ≡ state_after w t))

state_follows_answer : (w : World) (call : Call) (note : Note) (reply : Reply) → first_refusal w call note ≡ None → ends_copying call ≡ false
    → StateFollows w (state_of (after_answer w call note reply))
state_follows_answer w (New t page) note reply may stays = inl (state-with_new w t (new_name w t page))
state_follows_answer w (Commit t) note reply may stays = inr (transaction w t, commit_is_open w t note may, refl)
state_follows_answer w (Sweep page) note reply may stays = cc
state_follows_answer w Reopen note reply may stays = cc
state_follows_answer w _ note reply may stays = inl refl

pub state_follows : (w : World) (call : Call) (note : Note) (reply : Reply) → AllowsReply w call note reply → ends_copying call ≡ false
    → StateFollows w (state_of (after_reply w call note reply))
state_follows w call note (Refused why) may stays = inl (state-after_refusal w call note why)
state_follows w call note reply may stays = state_follows_answer w call note reply may.0 stays

-- ---- what is kept of an opening

-- while a cut is copied each place keeps its name
pub names_stay : (w : World) (after : State) (page slot : ℕ) → IsOrderly w → StateFollows w after → generation_at after.graph after.freed page slot ≡ generation_at w.graph w.freed page slot
names_stay w after page slot lawful follows = elim follows [
  | inl e ↦ ap (λ (s : State). generation_at s.graph s.freed page slot) e
  | inr s ↦ ap (λ (s : State). generation_at s.graph s.freed page slot) s.2 ∙ view_keeps_names w s.0 page slot lawful s.1
]

-- the number of commits does not fall
pub commits_stay : (w : World) (after : State) → StateFollows w after → w.commits ≤ after.commits
commits_stay w after follows = elim follows [
  | inl e ↦ let h : after.commits ≡ w.commits = ap (λ (s : State). s.commits) e in omega arith
  | inr s ↦ let h : after.commits ≡ w.commits + 1 = ap (λ (s : State). s.commits) s.2 in omega arith
]

pub event_keeps_opening : (w : World) (opening : Opening) (call : Call) (note : Note) (reply : Reply) → IsOrderly w → IsOrderly (after_reply w call note reply)
    → AllowsReply w call note reply → ends_copying call ≡ false → KeepsOpening w opening → KeepsOpening (after_reply w call note reply) opening
event_keeps_opening w opening call note reply lawful next may stays keeps = record {
  lost = event_keeps_lost w opening call note reply lawful next may keeps.lost;
  commits = let h = commits_stay w (state_of (after_reply w call note reply)) (state_follows w call note reply may stays) in let k = keeps.commits in omega arith;
  names = λ page slot. names_stay w (state_of (after_reply w call note reply)) page slot lawful (state_follows w call note reply may stays) ∙ keeps.names page slot;
}

-- ---- a cut opens

-- the opening is kept as it is made
pub opening_is_kept : (w : World) → IsOrderly w → KeepsOpening w (opening_of w)
opening_is_kept w orderly = record { lost = opening_keeps_lost w orderly; commits = omega arith; names = λ page slot. refl }

pub get-replicate_same : {A : Type 0} (n k : ℕ) (d : A) → get_or (replicate n d) k d ≡ d
get-replicate_same zero k d = refl
get-replicate_same (suc n) zero d = refl
get-replicate_same (suc n) (suc k) d = get-replicate_same n k d

none_has : (slot : ℕ) → has_slot 0 slot ≡ false
none_has slot = ap (λ n. n == 1) (bit_at-zero slot)

-- a cut with nothing in it is sound
pub empty_cut_is_sound : (w : World) (n : ℕ) → IsSound (state_of w) (opening_of w) (replicate n bare_page)
empty_cut_is_sound w n = λ page within. subst (IsSoundPage (state_of w) (opening_of w) page) (sym (get-replicate_same n page bare_page)) (record {
  settled = tt;
  images = tt;
  born = each_from (IsBornRight (opening_of w) page 0) (filter (is_unfreed w.freed) w.graph) (λ o m on.
      let a = in_filter (is_unfreed w.freed) w.graph o m in
      none_has o.name.slot ∙ sym (ap not (and_from (has_object w.graph o.name) (not (is_freed w o.name)) (in_has_object w.graph o a.0) a.1)));
  copied = tt;
  changed = tt;
})
