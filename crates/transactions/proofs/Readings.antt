-- What a get or a number reads, and does.
use Rattle.std.proofs.Common.{◌≡◌, ℕ, ◌<◌, Bool, true, false, List, [], ◌∷◌, ◌++◌, length, Option, Some, None, refl, sym, subst, ap, ◌∙◌, arith, get_or}
use Rattle.std.specs.List.{slice_get}
use Rattle.std.specs.Option.{option_map, option_and_then, unwrap_or}
use Rattle.std.proofs.lemmas.Option.{slice_get-get_or}
use Rattle.object_graph.specs.NameParts.{NameParts}
use Rattle.object_graph.specs.ObjectParts.{ObjectParts}
use Rattle.object_graph.specs.declared.calls.Call.TheVariants.{Get, Number}
use Rattle.object_graph.specs.declared.calls.Refusal.{Refusal}
use Rattle.object_graph.specs.declared.calls.Refusal.TheVariants.{KnowsTooMany}
use Rattle.object_graph.specs.Graphs.{has_name, object_named}
use Rattle.object_graph.specs.declared.names.TheConstants.{OBJECT_FIELDS}
use Rattle.store_model.specs.Worlds.{World, Transaction, nothing, view, transaction}
use Rattle.store_model.specs.Causes.{first_met, first_refusal, when, busy_to_read, knows_too_many_for, field_seen, number_seen}
use Rattle.store_model.specs.Steps.{with_target, with_transaction, reads_page}
use Rattle.page_image.specs.Slots.{fresh_slot}
use Rattle.page_image.specs.Pages.{object_of, object_at}
use Rattle.page_buffer.specs.Frames.{frame_at}
use Rattle.page_locks.specs.Holding.{is_in_way, IsNobody, AddsShared}
use Rattle.transactions.specs.Tables.{OpenParts, is_full_for, HaveSamePages, ChangesEntry, NotesTarget}
use Rattle.transactions.specs.Standing.{TransactionsParts, IsEntry, IsTable, AreFramesOf, IsReady, AreTransactionsOf}
use Rattle.transactions.specs.Checks.{name_causes, field_causes, IsKnownTo}
use Rattle.transactions.proofs.Numbers.{transaction_found}
use Rattle.transactions.proofs.Seen.{object_found, known_unfreed, there_fields}
use Rattle.transactions.proofs.Images.{slot_of_known}
use Rattle.transactions.proofs.Entries.{table_changes, table_stays, same_names, same_with_target}
use Rattle.transactions.proofs.LocksHeld.{locks_share}
use Rattle.transactions.proofs.FramesSeen.{frames_kept}
use Rattle.transactions.proofs.Opened.{IsOpened, open_in, open_member, known_there, known_placed}
use Rattle.transactions.proofs.Refusals.{causes_before, may_read, full_for_by}
use Rattle.transactions.proofs.Writes.{known_image}

-- ---- what is read

-- the transaction knows the name, in a world for which all stands
pub record KnowsIn (s : TransactionsParts) (w : World) (txn : ℕ) (name : NameParts) (e : OpenParts) : Type 0 where
  pub ready : IsReady s w
  pub known : IsKnownTo s txn name e

pub knows_in : (s view : TransactionsParts) (w : World) (txn : ℕ) (name : NameParts) (e : OpenParts) → view ≡ s → IsReady s w → IsKnownTo s txn name e → KnowsIn view w txn name e
knows_in s view w txn name e same ready known = subst (λ v. KnowsIn v w txn name e) (sym same) (record { ready = ready; known = known })

-- the object in the current image is the one that the transaction sees
read_object : (s : TransactionsParts) (w : World) (txn : ℕ) (e : OpenParts) (name : NameParts) (page : ℕ) (o : IsOpened s w txn e) (known : has_name e.known name ≡ true)
    → page ≡ name.page → IsNobody (is_in_way false s.locks.held txn page) → object_at (frame_at s.frames name.page).current name.slot ≡ Some (known_there s w txn e name o known).object
read_object s w txn e name page o known is nobody =
    let there = known_there s w txn e name o known in
    ap (λ image. object_at image name.slot) (known_image s w false txn e name o known (subst (λ p. IsNobody (is_in_way false s.locks.held txn p)) is nobody))
    ∙ (ap (object_of name.page name.slot) (slot_of_known w o.of name fresh_slot there (known_placed s w txn e name o known).1)
    ∙ ap (λ (n : NameParts). Some (record { name = record { page = n.page; slot = n.slot; generation = there.object.name.generation }; number = there.object.number; refs = there.object.refs })) (sym there.named))

seen_object : (s : TransactionsParts) (w : World) (txn : ℕ) (e : OpenParts) (name : NameParts) (o : IsOpened s w txn e) (known : has_name e.known name ≡ true)
    → object_named (view w (transaction w txn)) name ≡ Some (known_there s w txn e name o known).object
seen_object s w txn e name o known =
    ap (λ t. object_named (view w t) name) (transaction_found w txn o.of o.found)
    ∙ object_found w o.of name (known_there s w txn e name o known) (known_unfreed w o.of name o.ready.lawful (open_member s w txn e o) (sym (o.entry.known.each name) ∙ known))

-- it is there
pub is_read : (s : TransactionsParts) (w : World) (txn : ℕ) (e : OpenParts) (name : NameParts) (page : ℕ) → KnowsIn s w txn name e
    → page ≡ name.page → IsNobody (is_in_way false s.locks.held txn page) → object_at (frame_at s.frames name.page).current name.slot ≡ None → ⊥
is_read s w txn e name page knows is nobody none =
    let o = open_in s w txn e knows.ready knows.known.found in
    let some = read_object s w txn e name page o knows.known.known is nobody in cc

same_object : (a b : ObjectParts) (x : Option ObjectParts) → x ≡ Some a → x ≡ Some b → a ≡ b
same_object a b x p q = cc

pub read_number : (s : TransactionsParts) (w : World) (txn : ℕ) (e : OpenParts) (name : NameParts) (page : ℕ) (object : ObjectParts) → KnowsIn s w txn name e
    → page ≡ name.page → IsNobody (is_in_way false s.locks.held txn page) → object_at (frame_at s.frames name.page).current name.slot ≡ Some object
    → object.number ≡ number_seen w txn name
read_number s w txn e name page object knows is nobody found =
    let o = open_in s w txn e knows.ready knows.known.found in
    let there = known_there s w txn e name o knows.known.known in
    ap (λ (x : ObjectParts). x.number) (same_object object there.object (object_at (frame_at s.frames name.page).current name.slot) found (read_object s w txn e name page o knows.known.known is nobody))
    ∙ ap (λ x. unwrap_or (option_map (λ (x : ObjectParts). x.number) x) 0) (sym (seen_object s w txn e name o knows.known.known))

pub read_field : (s : TransactionsParts) (w : World) (txn : ℕ) (e : OpenParts) (name : NameParts) (page field : ℕ) (object : ObjectParts) (d : Option NameParts) → KnowsIn s w txn name e
    → page ≡ name.page → IsNobody (is_in_way false s.locks.held txn page) → object_at (frame_at s.frames name.page).current name.slot ≡ Some object → field < OBJECT_FIELDS
    → get_or object.refs field d ≡ field_seen w txn name field
read_field s w txn e name page field object d knows is nobody found low =
    let o = open_in s w txn e knows.ready knows.known.found in
    let there = known_there s w txn e name o knows.known.known in
    let same = same_object object there.object (object_at (frame_at s.frames name.page).current name.slot) found (read_object s w txn e name page o knows.known.known is nobody) in
    let fields : length there.object.refs ≡ OBJECT_FIELDS = there_fields w o.of name there o.ready.stands.fields in
    let within : field < length there.object.refs = omega arith in
    ap (λ (x : ObjectParts). get_or x.refs field d) same
    ∙ (sym (ap (λ x. unwrap_or x None) (slice_get-get_or there.object.refs field d within))
    ∙ ap (option_and_then (λ (x : ObjectParts). unwrap_or (slice_get x.refs field) None)) (sym (seen_object s w txn e name o knows.known.known)))

-- ---- the causes

pub number_causes : (w : World) (txn : ℕ) (name : NameParts) (page : ℕ) (why : Option Refusal) → page ≡ name.page
    → first_met (name_causes txn name w) ≡ None → first_met (busy_to_read w txn page ∷ []) ≡ why → first_refusal w (Number txn name) nothing ≡ why
number_causes w txn name page why is named reading =
    causes_before (name_causes txn name w) (busy_to_read w txn name.page ∷ []) None named ∙ subst (λ p. first_met (busy_to_read w txn p ∷ []) ≡ why) is reading

-- the cause of a get that comes last, once the target is seen
abbrev pub seen_causes : ℕ → NameParts → ℕ → World → List (Option Refusal)
seen_causes txn name field w = knows_too_many_for w txn (field_seen w txn name field) ∷ []

pub get_causes : (w : World) (txn : ℕ) (name : NameParts) (field page : ℕ) (why : Option Refusal) → page ≡ name.page
    → first_met (name_causes txn name w) ≡ None → first_met (field_causes name field w) ≡ None → first_met (busy_to_read w txn page ∷ seen_causes txn name field w) ≡ why
    → first_refusal w (Get txn name field) nothing ≡ why
get_causes w txn name field page why is named low reading =
    causes_before (name_causes txn name w) (field_causes name field w ++ busy_to_read w txn name.page ∷ seen_causes txn name field w) None named
    ∙ (causes_before (field_causes name field w) (busy_to_read w txn name.page ∷ seen_causes txn name field w) None low
    ∙ subst (λ p. first_met (busy_to_read w txn p ∷ seen_causes txn name field w) ≡ why) is reading)

-- where the target fits, or doesn't
pub is_full_to_get : (s : TransactionsParts) (w : World) (txn : ℕ) (e : OpenParts) (name : NameParts) (field page : ℕ) (target : Option NameParts) (b : Bool) → KnowsIn s w txn name e
    → IsNobody (is_in_way false s.locks.held txn page) → target ≡ field_seen w txn name field → is_full_for e.known target ≡ b
    → first_met (busy_to_read w txn page ∷ seen_causes txn name field w) ≡ when b KnowsTooMany
is_full_to_get s w txn e name field page target b knows nobody seen full =
    may_read s w txn page (seen_causes txn name field w) knows.ready nobody
    ∙ (full_for_by s w txn e (field_seen w txn name field) b [] (open_in s w txn e knows.ready knows.known.found) (subst (λ x. is_full_for e.known x ≡ b) seen full) ∙ alone b)
  where
    alone : (b : Bool) → first_met (when b KnowsTooMany ∷ []) ≡ when b KnowsTooMany
    alone true = refl
    alone false = refl

-- ---- the reading

-- the code's steps
pub record HasRead (s new : TransactionsParts) (txn page : ℕ) : Type 0 where
  pub locked : AddsShared s.locks.held new.locks.held txn page
  pub pages : new.locks.pages ≡ s.locks.pages
  pub frames : new.frames ≡ s.frames

number_here : (s new : TransactionsParts) (w : World) (txn : ℕ) (e : OpenParts) (page : ℕ) → IsOpened s w txn e → new.table ≡ s.table → HasRead s new txn page
    → AreTransactionsOf new (with_transaction w txn (reads_page page))
number_here s new w txn e page o same run = record {
  fields = o.ready.stands.fields;
  table = table_stays w new.table txn o.of (reads_page page) (subst (IsTable w) (sym same) o.ready.stands.table) o.found (λ t. refl) (λ f h. record { known = h.known; written = h.written });
  locks = locks_share w s.locks new.locks txn page (reads_page page) o.of o.ready.stands.locks o.found (λ t. refl) refl refl run.pages run.locked;
  frames = subst (AreFramesOf (with_transaction w txn (reads_page page))) (sym run.frames) (frames_kept w s.frames txn (reads_page page) o.of o.ready.stands.frames o.found (λ t. refl) refl (λ p. refl));
}

-- all stands for the world after a number was read
pub number_stands : (s new : TransactionsParts) (w : World) (txn : ℕ) (e : OpenParts) (name : NameParts) (page : ℕ) → KnowsIn s w txn name e → page ≡ name.page → new.table ≡ s.table → HasRead s new txn page
    → AreTransactionsOf new (with_transaction w txn (reads_page name.page))
number_stands s new w txn e name page knows is same run = subst (λ p. AreTransactionsOf new (with_transaction w txn (reads_page p))) is (number_here s new w txn e page (open_in s w txn e knows.ready knows.known.found) same run)

entry_gets : (e f : OpenParts) (t : Transaction) (target : Option NameParts) (page : ℕ) → IsEntry e t → NotesTarget target e f
    → IsEntry f (reads_page page (record t { known = with_target target t.known }))
entry_gets e f t target page h notes = record {
  known = same_names f.known (with_target target e.known) (with_target target t.known) notes.known (same_with_target target e.known t.known h.known);
  written = subst (λ k. HaveSamePages k t.pages_written) (sym notes.written) h.written;
}

abbrev pub got : ℕ → Option NameParts → Transaction → Transaction
got page target u = reads_page page (record u { known = with_target target u.known })

get_here : (s new : TransactionsParts) (w : World) (txn : ℕ) (e : OpenParts) (page : ℕ) (target : Option NameParts) → IsOpened s w txn e → ChangesEntry (NotesTarget target) txn s.table new.table → HasRead s new txn page
    → AreTransactionsOf new (with_transaction w txn (got page target))
get_here s new w txn e page target o notes run = record {
  fields = o.ready.stands.fields;
  table = table_changes w s.table new.table txn e o.of (NotesTarget target) (got page target) o.ready.stands.table o.is o.found (λ t. refl) notes (λ f h. entry_gets e f o.of target page o.entry h);
  locks = locks_share w s.locks new.locks txn page (got page target) o.of o.ready.stands.locks o.found (λ t. refl) refl refl run.pages run.locked;
  frames = subst (AreFramesOf (with_transaction w txn (got page target))) (sym run.frames) (frames_kept w s.frames txn (got page target) o.of o.ready.stands.frames o.found (λ t. refl) refl (λ p. refl));
}

-- all stands for the world after a reference was got
pub get_stands : (s new : TransactionsParts) (w : World) (txn : ℕ) (e : OpenParts) (name : NameParts) (field page : ℕ) (target : Option NameParts) → KnowsIn s w txn name e → page ≡ name.page
    → target ≡ field_seen w txn name field → ChangesEntry (NotesTarget target) txn s.table new.table → HasRead s new txn page
    → AreTransactionsOf new (with_transaction w txn (got name.page (field_seen w txn name field)))
get_stands s new w txn e name field page target knows is seen notes run =
    subst (λ p. AreTransactionsOf new (with_transaction w txn (got p (field_seen w txn name field)))) is
    (subst (λ x. AreTransactionsOf new (with_transaction w txn (got page x))) seen (get_here s new w txn e page target (open_in s w txn e knows.ready knows.known.found) notes run))
