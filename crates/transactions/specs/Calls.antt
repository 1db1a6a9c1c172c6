-- What a call's answer says.
use Rattle.std.specs.Prelude.{◌≡◌, ℕ, ◌<◌, false, List, length, IsTrue}
use Rattle.object_graph.specs.Graphs.{has_name}
use Rattle.object_graph.specs.NameParts.{NameParts}
use Rattle.object_graph.specs.declared.calls.Call.{Call}
use Rattle.object_graph.specs.declared.calls.Reply.{Reply}
use Rattle.store_model.specs.Causes.{has_page}
use Rattle.store_model.specs.Worlds.{World, nothing, IsOutOfReach}
use Rattle.store_model.specs.Replies.{AllowsReply, names_in}
use Rattle.store_model.specs.Steps.{after_reply}
use Rattle.page_buffer.specs.Frames.{frame_at}
use Rattle.page_buffer.specs.declared.frame.Frame.{Frame}
use Rattle.transactions.specs.Standing.{TransactionsParts, IsReady, AreTransactionsOf}

-- the reply is allowed, and the transactions stand for the next world
pub record AnswersIn (new : TransactionsParts) (w : World) (call : Call) (reply : Reply) : Type 0 where
  pub allowed : AllowsReply w call nothing reply
  pub stands : AreTransactionsOf new (after_reply w call nothing reply)

-- so it is for each world for which they are ready
abbrev pub TransactsWell : TransactionsParts → TransactionsParts → Call → Reply → Type 0
TransactsWell old new call reply = (w : World) → IsReady old w → AnswersIn new w call reply

-- these are pages of the store, and the frame of every other page is as it was
pub record ChangesFramesOf (pages : List ℕ) (old new : List Frame) : Type 0 where
  pub count : length new ≡ length old
  pub within : (page : ℕ) → IsTrue (has_page pages page) → page < length old
  pub others : (page : ℕ) → has_page pages page ≡ false → frame_at new page ≡ frame_at old page

-- nothing leads to the names in these slots of a page
abbrev pub AreOutOfReach : World → ℕ → ℕ → Type 0
AreOutOfReach w page slots = (name : NameParts) → IsTrue (has_name (names_in w page slots) name) → IsOutOfReach w name
