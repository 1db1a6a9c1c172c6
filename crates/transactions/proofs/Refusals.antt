-- The causes of refusals, as the table and the locks show them.
use Rattle.std.proofs.Common.{◌≡◌, ◌≢◌, ℕ, ◌<◌, ◌≤◌, Bool, true, false, not, ◌&&◌, ◌||◌, ◌==◌, List, [], ◌∷◌, ◌++◌, length, Option, Some, None, refl, sym, subst, ap, ◌∙◌, nat_le}
use Rattle.std.specs.Option.{is_none, option_map, option_or, unwrap_or, MatchOption}
use Rattle.std.proofs.lemmas.Bool.{eqb-true, eq-eqb, ne_eqb, and_parts, or_parts, and_from, lt-ltb}
use Rattle.object_graph.specs.NameParts.{NameParts}
use Rattle.object_graph.specs.declared.calls.Call.{Call}
use Rattle.object_graph.specs.declared.calls.Reply.TheVariants.{Refused}
use Rattle.object_graph.specs.declared.calls.Refusal.{Refusal}
use Rattle.object_graph.specs.declared.calls.Refusal.TheVariants.{NotOpen, Stranger, NoPage, Busy, TooWide, KnowsTooMany, Broken}
use Rattle.object_graph.specs.Graphs.{has_name}
use Rattle.object_graph.specs.declared.limits.TheConstants.{MOST_KNOWN, MOST_WRITTEN}
use Rattle.store_model.specs.Worlds.{World, Transaction, nothing, find_transaction, transaction, fresh_transaction}
use Rattle.store_model.specs.Causes.{first_met, first_refusal, when, holder, has_page, broken, not_open, stranger, strange_target, no_page, busy_to_read, busy_to_write, too_wide, knows_too_many, knows_too_many_for}
use Rattle.store_model.specs.Replies.{AllowsReply, is_free}
use Rattle.page_locks.specs.Holding.{excludes, is_in_way, IsNobody, IsLeast}
use Rattle.transactions.specs.Tables.{OpenParts, is_wide, knows_target, is_full_for}
use Rattle.transactions.specs.Standing.{TransactionsParts, wrote, IsReady}
use Rattle.transactions.specs.Checks.{IsOpenWith, write_causes}
use Rattle.transactions.proofs.Numbers.{transaction_found, found_in_list, found_at, holder_none, holder_some}
use Rattle.transactions.proofs.Opened.{IsOpened, open_in}

pub refused : (w : World) (call : Call) (why : Refusal) → first_refusal w call nothing ≡ Some why → AllowsReply w call nothing (Refused why)
refused w call why e = subst (λ o. MatchOption o (is_free call why ≡ true) (λ first. why ≡ first)) (sym e) refl

-- causes come before the rest: where one of them is met, and where none is
pub causes_before : (causes rest : List (Option Refusal)) (why : Option Refusal) → first_met causes ≡ why → first_met (causes ++ rest) ≡ option_or why (first_met rest)
causes_before [] rest why e = ap (λ o. option_or o (first_met rest)) e
causes_before (None ∷ causes) rest why e = causes_before causes rest why e
causes_before (Some first ∷ causes) rest why e = ap (λ o. option_or o (first_met rest)) e

-- ---- each cause: met, or not

-- of an open transaction the first two causes aren't met
pub is_open : (s : TransactionsParts) (w : World) (txn : ℕ) (e : OpenParts) (rest : List (Option Refusal)) → IsOpened s w txn e
    → first_met (broken w ∷ not_open w txn ∷ rest) ≡ first_met rest
is_open s w txn e rest o =
    ap (λ b. first_met (option_map (λ count. Broken count) b ∷ not_open w txn ∷ rest)) o.ready.sound ∙ ap (λ t. first_met (when (is_none t) NotOpen ∷ rest)) o.found

pub is_known : (s : TransactionsParts) (w : World) (txn : ℕ) (e : OpenParts) (name : NameParts) (rest : List (Option Refusal)) → IsOpened s w txn e → has_name e.known name ≡ true
    → first_met (stranger w txn name ∷ rest) ≡ first_met rest
is_known s w txn e name rest o is = ap (λ c. first_met (c ∷ rest))
    (ap (λ (x : Transaction). when (not (has_name x.known name)) Stranger) (transaction_found w txn o.of o.found)
    ∙ ap (λ b. when (not b) Stranger) (sym (o.entry.known.each name) ∙ is))

pub is_known_target : (s : TransactionsParts) (w : World) (txn : ℕ) (e : OpenParts) (target : Option NameParts) (rest : List (Option Refusal)) → IsOpened s w txn e → knows_target e.known target ≡ true
    → first_met (strange_target w txn target ∷ rest) ≡ first_met rest
is_known_target s w txn e None rest o is = refl
is_known_target s w txn e (Some target) rest o is = is_known s w txn e target rest o is

pub is_page : (w : World) (page : ℕ) (rest : List (Option Refusal)) → page < w.pages → first_met (no_page w page ∷ rest) ≡ first_met rest
is_page w page rest low = ap (λ b. first_met (when (not b) NoPage ∷ rest)) (lt-ltb page w.pages low)

pub wide_by : (s : TransactionsParts) (w : World) (txn : ℕ) (e : OpenParts) (page : ℕ) (b : Bool) (rest : List (Option Refusal)) → IsOpened s w txn e → is_wide e.written page ≡ b
    → first_met (too_wide w txn page ∷ rest) ≡ first_met (when b TooWide ∷ rest)
wide_by s w txn e page b rest o is = ap (λ c. first_met (c ∷ rest))
    (ap (λ (x : Transaction). when (nat_le MOST_WRITTEN (length x.pages_written) && not (has_page x.pages_written page)) TooWide) (transaction_found w txn o.of o.found)
    ∙ (ap (λ n. when (nat_le MOST_WRITTEN n && not (has_page o.of.pages_written page)) TooWide) (sym o.entry.written.count)
    ∙ (ap (λ b. when (nat_le MOST_WRITTEN (length e.written) && not b) TooWide) (sym (o.entry.written.each page))
    ∙ ap (λ b. when b TooWide) is)))

pub full_by : (s : TransactionsParts) (w : World) (txn : ℕ) (e : OpenParts) (b : Bool) (rest : List (Option Refusal)) → IsOpened s w txn e → nat_le MOST_KNOWN (length e.known) ≡ b
    → first_met (knows_too_many w txn ∷ rest) ≡ first_met (when b KnowsTooMany ∷ rest)
full_by s w txn e b rest o is = ap (λ c. first_met (c ∷ rest))
    (ap (λ (x : Transaction). when (nat_le MOST_KNOWN (length x.known)) KnowsTooMany) (transaction_found w txn o.of o.found)
    ∙ (ap (λ n. when (nat_le MOST_KNOWN n) KnowsTooMany) (sym o.entry.known.count) ∙ ap (λ b. when b KnowsTooMany) is))

pub full_for_by : (s : TransactionsParts) (w : World) (txn : ℕ) (e : OpenParts) (target : Option NameParts) (b : Bool) (rest : List (Option Refusal)) → IsOpened s w txn e
    → is_full_for e.known target ≡ b → first_met (knows_too_many_for w txn target ∷ rest) ≡ first_met (when b KnowsTooMany ∷ rest)
full_for_by s w txn e None b rest o is = ap (λ b. first_met (when b KnowsTooMany ∷ rest)) is
full_for_by s w txn e (Some name) b rest o is = ap (λ c. first_met (c ∷ rest))
    (ap (λ (x : Transaction). when (nat_le MOST_KNOWN (length x.known) && not (has_name x.known name)) KnowsTooMany) (transaction_found w txn o.of o.found)
    ∙ (ap (λ n. when (nat_le MOST_KNOWN n && not (has_name o.of.known name)) KnowsTooMany) (sym o.entry.known.count)
    ∙ (ap (λ b. when (nat_le MOST_KNOWN (length e.known) && not b) KnowsTooMany) (sym (o.entry.known.each name))
    ∙ ap (λ b. when b KnowsTooMany) is)))

-- ---- who is in the way

abbrev in_way_of : Bool → ℕ → Transaction → Bool
in_way_of to_write page t = (to_write && has_page t.pages_read page) || has_page t.pages_written page

in_way_same : (s : TransactionsParts) (w : World) (to_write : Bool) (txn page u : ℕ) → IsReady s w
    → is_in_way to_write s.locks.held txn page u ≡ (not (u == txn) && in_way_of to_write page (transaction w u))
in_way_same s w to_write txn page u r =
    ap (λ b. not (u == txn) && ((to_write && b) || excludes s.locks.held u page)) (r.stands.locks.shared u page)
    ∙ ap (λ b. not (u == txn) && ((to_write && has_page (transaction w u).pages_read page) || b)) (r.stands.locks.exclusive u page)

nobody_in_way : (s : TransactionsParts) (w : World) (to_write : Bool) (txn page u : ℕ) → IsReady s w
    → IsNobody (is_in_way to_write s.locks.held txn page) → u ≢ txn → in_way_of to_write page (transaction w u) ≡ false
nobody_in_way s w to_write txn page u r none ne =
    let e : (not (u == txn) && in_way_of to_write page (transaction w u)) ≡ false = sym (in_way_same s w to_write txn page u r) ∙ none u in
    ap (λ b. not b && in_way_of to_write page (transaction w u)) (sym (ne_eqb u txn ne)) ∙ e

-- nobody else wrote the page
pub nobody_wrote : (s : TransactionsParts) (w : World) (to_write : Bool) (txn page u : ℕ) → IsReady s w
    → IsNobody (is_in_way to_write s.locks.held txn page) → u ≢ txn → wrote w u page ≡ false
nobody_wrote s w to_write txn page u r none ne =
    (or_parts (to_write && has_page (transaction w u).pages_read page) (wrote w u page) (nobody_in_way s w to_write txn page u r none ne)).1

holder_none_by : (s : TransactionsParts) (w : World) (to_write : Bool) (txn page : ℕ) → IsReady s w
    → IsNobody (is_in_way to_write s.locks.held txn page) → holder w txn (in_way_of to_write page) ≡ None
holder_none_by s w to_write txn page r none =
    holder_none w txn (in_way_of to_write page) (λ u m ne.
    ap (in_way_of to_write page) (sym (transaction_found w u.number u (found_at w u r.lawful.orderly.distinct m)))
    ∙ nobody_in_way s w to_write txn page u.number r none ne)

no_page_held : (to_write : Bool) → (to_write && false) ≡ false
no_page_held true = refl
no_page_held false = refl

holder_some_by : (s : TransactionsParts) (w : World) (to_write : Bool) (txn page m : ℕ) → IsReady s w
    → IsLeast (is_in_way to_write s.locks.held txn page) m → holder w txn (in_way_of to_write page) ≡ Some m
holder_some_by s w to_write txn page m r least = by (find_transaction w m) refl
  where
    passes : (not (m == txn) ≡ true) × (in_way_of to_write page (transaction w m) ≡ true)
    passes = and_parts (not (m == txn)) (in_way_of to_write page (transaction w m)) (sym (in_way_same s w to_write txn page m r) ∙ least.passes)

    by : (o : Option Transaction) → find_transaction w m ≡ o → holder w txn (in_way_of to_write page) ≡ Some m
    by None e =
        let fresh : transaction w m ≡ fresh_transaction m = ap (λ o. unwrap_or o (fresh_transaction m)) e in
        let z : in_way_of to_write page (transaction w m) ≡ false = ap (in_way_of to_write page) fresh ∙ ap (λ b. b || false) (no_page_held to_write) in
        let y = passes.1 in cc
    by (Some t) e =
        let found = found_in_list (λ (t : Transaction). t.number == m) w.transactions t e in
        let number : t.number ≡ m = eqb-true t.number m found.1 in
        let is : transaction w m ≡ t = transaction_found w m t e in
        holder_some w txn (in_way_of to_write page) t found.0
        (λ f. let off : (m == txn) ≡ true = eq-eqb m txn (sym number ∙ f) in let on = passes.0 in let z : not (m == txn) ≡ false = ap not off in cc)
        (ap (in_way_of to_write page) (sym is) ∙ passes.1)
        (λ u i ne test.
        subst (λ k. k ≤ u.number) (sym number)
        (least.least u.number
        (in_way_same s w to_write txn page u.number r
        ∙ and_from (not (u.number == txn)) (in_way_of to_write page (transaction w u.number)) (ap not (ne_eqb u.number txn ne))
        (ap (in_way_of to_write page) (transaction_found w u.number u (found_at w u r.lawful.orderly.distinct i)) ∙ test))))
        ∙ ap (λ k. Some k) number

-- the cause: met by the least of them, or not
pub may_write : (s : TransactionsParts) (w : World) (txn page : ℕ) (rest : List (Option Refusal)) → IsReady s w → IsNobody (is_in_way true s.locks.held txn page)
    → first_met (busy_to_write w txn page ∷ rest) ≡ first_met rest
may_write s w txn page rest r nobody = ap (λ o. first_met (option_map (λ h. Busy h) o ∷ rest)) (holder_none_by s w true txn page r nobody)

pub is_busy_to_write : (s : TransactionsParts) (w : World) (txn page m : ℕ) (rest : List (Option Refusal)) → IsReady s w → IsLeast (is_in_way true s.locks.held txn page) m
    → first_met (busy_to_write w txn page ∷ rest) ≡ Some (Busy m)
is_busy_to_write s w txn page m rest r least = ap (λ o. first_met (option_map (λ h. Busy h) o ∷ rest)) (holder_some_by s w true txn page m r least)

pub may_read : (s : TransactionsParts) (w : World) (txn page : ℕ) (rest : List (Option Refusal)) → IsReady s w → IsNobody (is_in_way false s.locks.held txn page)
    → first_met (busy_to_read w txn page ∷ rest) ≡ first_met rest
may_read s w txn page rest r nobody = ap (λ o. first_met (option_map (λ h. Busy h) o ∷ rest)) (holder_none_by s w false txn page r nobody)

pub is_busy_to_read : (s : TransactionsParts) (w : World) (txn page m : ℕ) (rest : List (Option Refusal)) → IsReady s w → IsLeast (is_in_way false s.locks.held txn page) m
    → first_met (busy_to_read w txn page ∷ rest) ≡ Some (Busy m)
is_busy_to_read s w txn page m rest r least = ap (λ o. first_met (option_map (λ h. Busy h) o ∷ rest)) (holder_some_by s w false txn page m r least)

-- with nobody in the way, a page is written unless too many are
pub is_wide_to_write : (s : TransactionsParts) (w : World) (txn : ℕ) (e : OpenParts) (page : ℕ) (b : Bool) → IsReady s w → IsOpenWith s txn e → IsNobody (is_in_way true s.locks.held txn page)
    → is_wide e.written page ≡ b → first_met (write_causes txn page w) ≡ when b TooWide
is_wide_to_write s w txn e page b r found nobody wide =
    may_write s w txn page (too_wide w txn page ∷ []) r nobody
    ∙ (wide_by s w txn e page b [] (open_in s w txn e r found) wide ∙ alone b)
  where
    alone : (b : Bool) → first_met (when b TooWide ∷ []) ≡ when b TooWide
    alone true = refl
    alone false = refl
