use Rattle.store_model.proofs.CallTexts.{call_texts_differ}
use Rattle.store_model.proofs.texts.no_two_calls_have_one_text.Goals as goal

pub returns : goal.returns
returns c = call_texts_differ
