use Rattle.store_model.proofs.FreedTexts.{all_reply_texts_differ}
use Rattle.store_model.proofs.texts.no_two_replies_have_one_text.Goals as goal

pub returns : goal.returns
returns c = all_reply_texts_differ
