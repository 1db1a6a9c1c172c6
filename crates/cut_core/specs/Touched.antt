-- The pages whose frames the last call changed.
use Rattle.std.specs.Prelude.{◌≡◌, ◌==◌, ℕ, Bool, false, not, ◌&&◌, List, [], ◌∷◌, length, nat_lt, if◌then◌else◌}
use Rattle.object_graph.specs.Slots.{below}
use Rattle.object_graph.specs.declared.calls.Call.{Call}
use Rattle.object_graph.specs.declared.calls.Call.TheVariants.{Set, Put, New, Commit, Abort, Sweep, Reopen}
use Rattle.object_graph.specs.declared.calls.Reply.{Reply}
use Rattle.object_graph.specs.declared.calls.Reply.TheVariants.{Freed, Refused}
use Rattle.store_model.specs.Worlds.{World}
use Rattle.store_model.specs.Causes.{has_page}
use Rattle.page_buffer.specs.declared.frame.Frame.{Frame}
use Rattle.transactions.specs.Calls.{ChangesFramesOf}
use Rattle.transactions.specs.Standing.{TransactionsParts, wrote}
use Rattle.transactions.specs.Tables.{Entries, IsAscending, entry_of, pages_in}
use Rattle.cut_core.specs.declared.touched.Change.{Change}
use Rattle.cut_core.specs.declared.touched.Change.TheVariants.{Nothing, One, Written, All}

-- the reply frees some slot
abbrev pub frees_some : Reply → Bool
frees_some (Freed slots) = not (slots == 0)
frees_some reply = false

-- The call, answered so, may have changed the frame of the page: a write and a new object that of their page, the
-- end of a transaction those of the pages that it wrote, a sweep that frees that of its page, a reopening all.
abbrev pub may_touch : World → Call → Reply → ℕ → Bool
may_touch w call (Refused why) page = false
may_touch w (Set txn name field target) reply page = name.page == page
may_touch w (Put txn name value) reply page = name.page == page
may_touch w (New txn at) reply page = at == page
may_touch w (Commit txn) reply page = wrote w txn page
may_touch w (Abort txn) reply page = wrote w txn page
may_touch w (Sweep at) reply page = frees_some reply && (at == page)
may_touch w Reopen reply page = nat_lt page w.pages
may_touch w call reply page = false

-- The pages touched, ascending, are exactly these; they are pages of the store, and the frame of each other page is
-- as it was before the call.
pub record AreTouched (w : World) (call : Call) (reply : Reply) (old new : List Frame) (touched : List ℕ) : Type 0 where
  pub ascending : IsAscending touched
  pub exact : (page : ℕ) → has_page touched page ≡ may_touch w call reply page
  pub frames : ChangesFramesOf touched old new

-- ---- how they are kept

-- as the last change tells, where these pages are kept as written
abbrev pub pages_of_change : Change → List ℕ → List ℕ
pages_of_change Nothing written = []
pages_of_change (One page) written = page ∷ []
pages_of_change Written written = written
pages_of_change (All count) written = below count

-- before a call that ends a transaction: the pages that it wrote
abbrev pub pages_ended : Entries → Call → List ℕ
pages_ended table (Commit txn) = pages_in (entry_of table txn)
pages_ended table (Abort txn) = pages_in (entry_of table txn)
pages_ended table call = []

-- after the reply, where these pages were to be ended, in a store of so many
abbrev pub touched_after : ℕ → List ℕ → Call → Reply → List ℕ
touched_after count ended call (Refused why) = []
touched_after count ended (Set txn name field target) reply = name.page ∷ []
touched_after count ended (Put txn name value) reply = name.page ∷ []
touched_after count ended (New txn page) reply = page ∷ []
touched_after count ended (Commit txn) reply = ended
touched_after count ended (Abort txn) reply = ended
touched_after count ended (Sweep page) reply = if frees_some reply then page ∷ [] else []
touched_after count ended Reopen reply = below count
touched_after count ended call reply = []

-- the call, answered so, changed the frames of the pages touched alone
abbrev pub TouchesWell : TransactionsParts → TransactionsParts → Call → Reply → Type 0
TouchesWell old new call reply = ChangesFramesOf
    (touched_after (length old.frames) (pages_ended old.table call) call reply) old.frames new.frames
