-- What transactions don't see of a world.
use Rattle.std.proofs.Common.{◌≡◌, ℕ, ◌<◌, Bool, false, ◌==◌, Option, List, [], map, sym, subst, ap, ◌∙◌, IsTrue}
use Rattle.std.specs.Prelude.{reverse, find, unwrap_or}
use Rattle.store_model.specs.Worlds.{World, Transaction, OpenedCut, Doubt, fresh_transaction}
use Rattle.store_model.specs.Causes.{has_page}
use Rattle.transactions.specs.Tables.{entry_of}
use Rattle.transactions.specs.Standing.{TransactionsParts, AreTransactionsOf, AreAlike, image_in, IsSameToThem, ShowsTheSame}

-- the same world but for what they don't see
stands_with : (s : TransactionsParts) (w : World) (commits last_cut : ℕ) (cut : Option OpenedCut) (broken : Option ℕ) (doubt : Doubt) → AreTransactionsOf s w
    → AreTransactionsOf s (record w { commits = commits; last_cut = last_cut; cut = cut; broken = broken; doubt = doubt })
stands_with s w commits last_cut cut broken doubt st = record {
  fields = st.fields;
  table = record { numbers = st.table.numbers; each = λ txn. st.table.each txn };
  locks = record {
    pages = st.locks.pages;
    admitted = st.locks.admitted;
    shared = λ txn page. st.locks.shared txn page;
    exclusive = λ txn page. st.locks.exclusive txn page;
  };
  frames = record {
    count = st.frames.count;
    written = λ txn page wrote_it. st.frames.written txn page wrote_it;
    each = λ page low.
        let f = st.frames.each page low in
        record { before = f.before; current = λ txn it. f.current txn it; dirty = λ txn it. f.dirty txn it; clean = λ nobody. f.clean nobody };
  };
}

pub stands_same : (s : TransactionsParts) (w v : World) → IsSameToThem w v → AreTransactionsOf s w → AreTransactionsOf s v
stands_same s w v same st =
    let to : World = record w { commits = v.commits; last_cut = v.last_cut; cut = v.cut; broken = v.broken; doubt = v.doubt } in
    let is : to ≡ v = λ i. record {
      pages = (sym same.pages) i;
      graph = (sym same.graph) i;
      commits = v.commits;
      freed = (sym same.freed) i;
      last_cut = v.last_cut;
      transactions = (sym same.transactions) i;
      cut = v.cut;
      broken = v.broken;
      doubt = v.doubt;
    } in
    subst (λ (u : World). AreTransactionsOf s u) is (stands_with s w v.commits v.last_cut v.cut v.broken v.doubt st)

-- a transaction among these
abbrev among : List Transaction → ℕ → Transaction
among ts txn = unwrap_or (find (λ t. t.number == txn) ts) (fresh_transaction txn)

nobody_wrote : (ts : List Transaction) (txn page : ℕ) → ts ≡ [] → has_page (among ts txn).pages_written page ≡ false
nobody_wrote ts txn page none = ap (λ (us : List Transaction). has_page (among us txn).pages_written page) none

no_truth : (b : Bool) → b ≡ false → IsTrue b → ⊥
no_truth b is it = absurd cc

pub stands_idle : (s : TransactionsParts) (w v : World) → ShowsTheSame w v → AreTransactionsOf s w → AreTransactionsOf s v
stands_idle s w v same st =
    let both : w.transactions ≡ v.transactions = same.idle ∙ sym same.idle_too in
    record {
      fields = same.fields;
      table = record {
        numbers = st.table.numbers ∙ ap (λ (ts : List Transaction). reverse (map (λ t. t.number) ts)) both;
        each = λ txn. subst (λ (ts : List Transaction). AreAlike (entry_of s.table txn) (find (λ t. t.number == txn) ts)) both (st.table.each txn);
      };
      locks = record {
        pages = st.locks.pages ∙ sym same.pages;
        admitted = st.locks.admitted ∙ ap (λ (ts : List Transaction). reverse (map (λ t. t.number) ts)) both;
        shared = λ txn page. st.locks.shared txn page ∙ ap (λ (ts : List Transaction). has_page (among ts txn).pages_read page) both;
        exclusive = λ txn page. st.locks.exclusive txn page ∙ ap (λ (ts : List Transaction). has_page (among ts txn).pages_written page) both;
      };
      frames = record {
        count = st.frames.count ∙ sym same.pages;
        written = λ txn page it. absurd (no_truth _ (nobody_wrote v.transactions txn page same.idle_too) it);
        each = λ page low.
            let inside : page < w.pages = subst (λ (n : ℕ). page < n) same.pages low in
            let f = st.frames.each page inside in
            let slots = sym (same.each page inside) in
            let image : image_in w w.graph page ≡ image_in v v.graph page = λ i. record { number = page; slots = slots i } in
            record {
              before = f.before ∙ image;
              current = λ txn it. absurd (no_truth _ (nobody_wrote v.transactions txn page same.idle_too) it);
              dirty = λ txn it. absurd (no_truth _ (nobody_wrote v.transactions txn page same.idle_too) it);
              clean = λ nobody. f.clean (λ txn. nobody_wrote w.transactions txn page same.idle);
            };
      };
    }
