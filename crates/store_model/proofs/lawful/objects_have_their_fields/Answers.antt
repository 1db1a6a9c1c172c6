use Rattle.store_model.proofs.Fields.{fresh_has_fields, history_keeps_fields}
use Rattle.store_model.proofs.OpenedWorlds.{opened_has_fields}
use Rattle.store_model.proofs.lawful.objects_have_their_fields.Goals as goal

pub returns-clause-fresh : goal.returns-clause-fresh
returns-clause-fresh c = fresh_has_fields

pub returns-clause-opened : goal.returns-clause-opened
returns-clause-opened c = opened_has_fields

pub returns-clause-kept : goal.returns-clause-kept
returns-clause-kept c = history_keeps_fields
