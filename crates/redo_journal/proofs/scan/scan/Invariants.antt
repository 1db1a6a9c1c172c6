use Rattle.std.proofs.Common.{◌≡◌, ◌+◌, ◌-◌, ◌*◌, ◌<◌, ◌≤◌, List, [], drop, length}
use Rattle.std.specs.Prelude.{vec_capacity}
use Rattle.std.specs.List.{All}
use Rattle.redo_journal.specs.Area.{first_gate}
use Rattle.redo_journal.specs.Walk.{walk, with_front, bytes_taken}
use Rattle.redo_journal.specs.Places.{IsPlace, places_in}
use Rattle.redo_journal.specs.Record.{RecordParts, commits_in, grammar}
use Rattle.redo_journal.specs.Replays.{AreLatest, IsLaidOver, images_in}
use Rattle.redo_journal.proofs.scan.scan.Given as goal
use Rattle.redo_journal.specs.declared.sizes.TheConstants.{AREA_SIZE, IMAGE_SIZE, MOST_IMAGES}
use Rattle.object_graph.specs.declared.limits.TheConstants.{MOST_COUNTED}

abbrev pub invariant-loop-end : goal.invariant-loop-end
invariant-loop-end l = record {
  front : List RecordParts;
  value : with_front front (walk (grammar l.pages) (l.start + l.end) (l.base + l.commits) 0 (drop l.end l.bytes)) ≡ walk (grammar l.pages) l.start l.base first_gate l.bytes;
  end_is : l.end ≡ first_gate + bytes_taken (grammar l.pages) front;
  commits_are : l.commits ≡ commits_in front;
  within : l.end < AREA_SIZE;
  few : l.commits ≤ l.end;
  unspent : l.base + l.commits ≤ MOST_COUNTED;
  laid : IsLaidOver (images_in front) [] l.images.items;
  kept : AreLatest l.pages l.images.items;
  noted : l.places.items ≡ places_in (l.start + first_gate) front;
  places : All (IsPlace l.pages) l.places.items;
  room : IMAGE_SIZE * length l.places.items ≤ l.end;
  reserved : MOST_IMAGES ≤ vec_capacity l.places;
}

abbrev pub decreases-loop-end : goal.decreases-loop-end
decreases-loop-end l = AREA_SIZE - l.end
