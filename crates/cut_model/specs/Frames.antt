-- The copy of a page as it stands, and what calls do to a slot of it.
use Rattle.std.specs.Prelude.{ℕ, false, Option, Some, None, List, find, replicate, slice_set}
use Rattle.object_graph.specs.NameParts.{NameParts}
use Rattle.object_graph.specs.SlotParts.{SlotParts}
use Rattle.store_model.specs.Worlds.{World, Transaction, Write, link, assign, view}
use Rattle.store_model.specs.Causes.{has_page}
use Rattle.store_model.specs.Images.{shown_in, shown}
use Rattle.cut_model.specs.CutPages.{CopyParts}

-- the open transaction that wrote a page
abbrev pub writer_of : List Transaction → ℕ → Option Transaction
writer_of ts page = find (λ t. has_page t.pages_written page) ts

-- the page's frame: a clean one, and one with the writes of a transaction
abbrev pub copy_with : World → ℕ → Option Transaction → CopyParts
copy_with w page None = record { current = shown w page; before = None; moment = w.commits }
copy_with w page (Some t) = record {
  current = shown_in w (view w t) page;
  before = Some
      (shown w page);
  moment = w.commits;
}

abbrev pub copy_now : World → ℕ → CopyParts
copy_now w page = copy_with w page (writer_of w.transactions page)

-- a slot after a write to the object in it
abbrev pub written_slot : Write → SlotParts → SlotParts
written_slot (link name field target) s = record s { refs = slice_set s.refs field target }
written_slot (assign name value) s = record s { number = value }

abbrev pub written_name : Write → NameParts
written_name (link name field target) = name
written_name (assign name value) = name

-- a slot that was freed keeps its generation
abbrev pub freed_slot : ℕ → SlotParts → SlotParts
freed_slot fields s = record s { in_use = false; number = 0; refs = replicate fields None }
