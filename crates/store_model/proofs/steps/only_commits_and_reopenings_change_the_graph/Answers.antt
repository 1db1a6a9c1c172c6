use Rattle.store_model.proofs.Changes.{graph-after_reply}
use Rattle.store_model.proofs.steps.only_commits_and_reopenings_change_the_graph.Goals as goal

pub returns : goal.returns
returns c = λ w e h. graph-after_reply w e.entry.call e.note e.entry.reply h
