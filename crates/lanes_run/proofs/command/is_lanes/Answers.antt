use Rattle.std.specs.Prelude.{string_bytes, map, codes}
use Rattle.store_run.proofs.Asking.{one_word}
use Rattle.lanes_run.proofs.Words.{tells_word}
use Rattle.lanes_run.proofs.command.is_lanes.Goals as goal

pub returns-in-len1 : goal.returns-in-len1
returns-in-len1 c =
    tells_word (map string_bytes c.args.words.now) (string_bytes c.word-item.result) (codes "lanes") c.eq.result
    (one_word string_bytes c.args.words.now c.word-item.result c.in-len1.len_at_least c.in-len1.len_below c.word-item.is)
    (rw c.as_str.ensures.value at c.eq.ensures)
