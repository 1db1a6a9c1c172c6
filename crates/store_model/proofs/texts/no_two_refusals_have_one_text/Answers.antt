use Rattle.store_model.proofs.RefusalTexts.{refusal_texts_differ}
use Rattle.store_model.proofs.texts.no_two_refusals_have_one_text.Goals as goal

pub returns : goal.returns
returns c = refusal_texts_differ
