-- The name of a new object is new.
use Rattle.std.proofs.Common.{◌≡◌, ℕ, true, false, ◌==◌, Option, Some, None, refl, sym, subst, inl, inr}
use Rattle.std.specs.List.{AllByRecursion}
use Rattle.std.specs.Option.{option_map}
use Rattle.std.proofs.lemmas.Bool.{cases_Bool, cases_eq, eq-eqb, and_from}
use Rattle.object_graph.specs.NameParts.{NameParts}
use Rattle.object_graph.specs.declared.calls.Call.TheVariants.{New}
use Rattle.object_graph.specs.declared.calls.Reply.TheVariants.{Made}
use Rattle.object_graph.specs.Graphs.{has_name, has_object, is_at}
use Rattle.store_model.specs.Worlds.{World, Transaction, Note, transaction}
use Rattle.store_model.specs.Causes.{has_page, causes, free_slot, new_name_at}
use Rattle.store_model.specs.Replies.{AllowsReply, AnswersNew}
use Rattle.store_model.specs.Lawful.{IsOwn, IsOrderly}
use Rattle.object_graph.proofs.Members.{In, in_any, each_in, each_from}
use Rattle.object_graph.proofs.Paths.{has_name_in}
use Rattle.store_model.proofs.Cuts.{next_name_is_new}
use Rattle.store_model.proofs.Opened.{nones, is_open, number_of_open, open_in}
use Rattle.store_model.proofs.Orders.{the_one, lawful_one}
use Rattle.store_model.proofs.Calls.{no_user, vacant, right_false}

-- the slot that is taken
the_slot : (w : World) (n page : ℕ) (name : NameParts) (o : Option ℕ) → free_slot w n page ≡ o → AnswersNew (option_map (new_name_at w.graph page) o) (Made name)
    → (slot : ℕ) × (free_slot w n page ≡ Some slot) × (name ≡ new_name_at w.graph page slot)
the_slot w n page name None e is = absurd is
the_slot w n page name (Some slot) e is = (slot, e, let z : name ≡ new_name_at w.graph page slot = cc in z)

pub new_is_uncommitted : (w : World) (n page : ℕ) (note : Note) (name : NameParts) → IsOrderly w → AllowsReply w (New n page) note (Made name) → has_object w.graph name ≡ false
new_is_uncommitted w n page note name orderly may =
    let s = the_slot w n page name (free_slot w n page) refl may.1 in
    subst (λ k. has_object w.graph k ≡ false) (sym s.2) (next_name_is_new w (new_name_at w.graph page s.0) orderly.counted refl)

pub new_is_nobodys : (w : World) (n page : ℕ) (note : Note) (name : NameParts) → IsOrderly w → AllowsReply w (New n page) note (Made name)
    → AllByRecursion (λ t. has_name t.own name ≡ false) w.transactions
new_is_nobodys w n page note name orderly may =
    let h = nones (causes w (New n page) note) may.0 in
    let s = the_slot w n page name (free_slot w n page) refl may.1 in
    each_from (λ (t : Transaction). has_name t.own name ≡ false) w.transactions (λ t m. elim (cases_Bool (has_name t.own name)) [
      | inr e ↦ e
      | inl e ↦
          let own : In name t.own = has_name_in t.own name e in
          let wrote : has_page t.pages_written name.page ≡ true = (each_in (IsOwn w.graph w.freed t) t.own name (lawful_one w t orderly m).own own).page in
          elim (cases_eq t.number n) [
            | inl q ↦
                let same : t ≡ transaction w n = the_one w n t (transaction w n) orderly m (open_in w n h.1.0) q (number_of_open w n (is_open w n h.1.0)) in
                let at : is_at page s.0 name ≡ true = subst (λ (k : NameParts). is_at page s.0 k ≡ true) (sym s.2) (and_from (page == page) (s.0 == s.0) (eq-eqb page page refl) (eq-eqb s.0 s.0 refl)) in
                let some = in_any (is_at page s.0) (transaction w n).own name (subst (λ (u : Transaction). In name u.own) same own) at in
                let none = (vacant w n page s.0 s.1).none in
                cc
            | inr ne ↦
                let on : has_page t.pages_written page ≡ true = subst (λ (k : NameParts). has_page t.pages_written k.page ≡ true) s.2 wrote in
                let off = right_false (has_page t.pages_read page) (has_page t.pages_written page) (no_user w n page t h.1.1.1.0 m ne) in
                cc
          ]
    ])
