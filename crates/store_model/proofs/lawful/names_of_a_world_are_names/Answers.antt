use Rattle.store_model.proofs.ProperNames.{fresh_is_proper, opened_is_proper, reply_keeps_proper, history_keeps_proper, freed_is_proper, known_is_proper}
use Rattle.store_model.proofs.lawful.names_of_a_world_are_names.Goals as goal

pub returns-clause-fresh : goal.returns-clause-fresh
returns-clause-fresh c = fresh_is_proper

pub returns-clause-opened : goal.returns-clause-opened
returns-clause-opened c = opened_is_proper

pub returns-clause-kept : goal.returns-clause-kept
returns-clause-kept c = λ w e lawful h may. reply_keeps_proper w e.entry.call e.note e.entry.reply lawful h may.1

pub returns-clause-histories : goal.returns-clause-histories
returns-clause-histories c = history_keeps_proper

pub returns-clause-freed : goal.returns-clause-freed
returns-clause-freed c = freed_is_proper

pub returns-clause-known : goal.returns-clause-known
returns-clause-known c = known_is_proper
