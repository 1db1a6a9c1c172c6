use Rattle.std.proofs.Common.{◌≡◌, ◌+◌, ◌*◌, ◌≤◌, ◌++◌, length, List}
use Rattle.std.specs.Prelude.{vec_capacity}
use Rattle.std.specs.List.{All}
use Rattle.page_image.specs.Pages.{PageParts}
use Rattle.redo_journal.specs.Walk.{with_front}
use Rattle.redo_journal.specs.Places.{IsPlace, places_of}
use Rattle.redo_journal.specs.Record.{images_at}
use Rattle.redo_journal.specs.Replays.{AreLatest, IsLaidOver}
use Rattle.redo_journal.proofs.scan.images_of.Given as goal
use Rattle.redo_journal.specs.declared.sizes.TheConstants.{IMAGE_SIZE, HOMES_START}
use Rattle.object_graph.specs.declared.limits.TheConstants.{MOST_WRITTEN}

abbrev pub invariant-loop-left : goal.invariant-loop-left
invariant-loop-left l = record {
  front : List PageParts;
  value : with_front front (images_at l.pages l.at l.low l.left l.rest) ≡ images_at l.pages l.fn.place 0 l.fn.count l.fn.bytes;
  long : IMAGE_SIZE * l.left ≤ length l.rest;
  few : l.left ≤ MOST_WRITTEN;
  at_is : l.at + IMAGE_SIZE * l.left ≡ l.fn.place + IMAGE_SIZE * l.fn.count;
  laid : IsLaidOver front l.fn.latest.items l.latest.items;
  kept : AreLatest l.pages l.latest.items;
  within : l.at + length l.rest ≤ HOMES_START;
  noted : l.places.items ≡ l.fn.places.items ++ places_of l.fn.place front;
  next : l.at ≡ l.fn.place + IMAGE_SIZE * length front;
  places : All (IsPlace l.pages) l.places.items;
  room : length l.places.items + l.left ≤ vec_capacity l.places;
  reserved : vec_capacity l.places ≡ vec_capacity l.fn.places;
}

abbrev pub decreases-loop-left : goal.decreases-loop-left
decreases-loop-left l = l.left
