use Rattle.store_model.proofs.News.{new_is_uncommitted, new_is_nobodys}
use Rattle.store_model.proofs.lawful.a_new_name_is_new.Goals as goal

pub returns-clause-committed : goal.returns-clause-committed
returns-clause-committed c = new_is_uncommitted

pub returns-clause-own : goal.returns-clause-own
returns-clause-own c = new_is_nobodys
