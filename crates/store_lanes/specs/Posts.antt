-- A lane at the desk, as contracts see it.
use Rattle.store_desk.specs.Seats.{AtDesk}
use Rattle.store_lanes.specs.declared.post.Post.{Post}
use Rattle.store_lanes.specs.declared.post.Post.TheVariants.{Seated, InTurn}

-- what its seat knows, whether it keeps a turn or not
abbrev pub seat_of : {D : Type 0} → Post D → AtDesk D
seat_of (Seated seat) = seat
seat_of (InTurn guard left) = guard
