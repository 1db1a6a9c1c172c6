use Rattle.std.proofs.Common.{sym, subst}
use Rattle.turn_lock.specs.Seats.{TakesTurn}
use Rattle.store_lanes.specs.Posts.{seat_of}
use Rattle.store_lanes.specs.declared.post.Post.{Post}
use Rattle.store_lanes.proofs.Making.{keeps_turn}
use Rattle.store_lanes.proofs.post.Post.in_turn.Goals as goal

pub returns-in-InTurn : goal.returns-in-InTurn
returns-in-InTurn g c = subst (λ (p : Post g.row.D.Denot). TakesTurn (seat_of p) c.in-InTurn.guard) (sym c.in-InTurn.is) (keeps_turn c.in-InTurn.guard)
