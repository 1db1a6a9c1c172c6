-- The replies that calls' results are.
use Rattle.std.specs.Prelude.{ℕ, Option, Result, Ok, Err}
use Rattle.object_graph.specs.NameParts.{NameParts}
use Rattle.object_graph.specs.declared.calls.Refusal.{Refusal}
use Rattle.object_graph.specs.declared.calls.Reply.{Reply}
use Rattle.object_graph.specs.declared.calls.Reply.TheVariants.{Done, Ref, Num, Made, Refused}

-- a call that answers nothing
abbrev pub done_reply : Result (Unit {0}) Refusal → Reply
done_reply (Ok x) = Done
done_reply (Err why) = Refused why

-- a call that answers a reference
abbrev pub ref_reply : Result (Option NameParts) Refusal → Reply
ref_reply (Ok target) = Ref target
ref_reply (Err why) = Refused why

-- a call that answers a number
abbrev pub num_reply : Result ℕ Refusal → Reply
num_reply (Ok value) = Num value
num_reply (Err why) = Refused why

-- a call that makes an object
abbrev pub made_reply : Result NameParts Refusal → Reply
made_reply (Ok name) = Made name
made_reply (Err why) = Refused why
