use Rattle.std.proofs.Common.{refl}
use Rattle.store_model.specs.Images.{shown_of}
use Rattle.store_model.specs.ImageExamples.{small_world, from_there}
use Rattle.store_model.proofs.Tests.{legal_by_test}
use Rattle.store_model.proofs.from_images.a_small_store_opens.Goals as goal

pub returns-clause-opens : goal.returns-clause-opens
returns-clause-opens c = refl

pub returns-clause-shows : goal.returns-clause-shows
unfolding shown_of
returns-clause-shows c = refl

pub returns-clause-legal : goal.returns-clause-legal
returns-clause-legal c = legal_by_test small_world from_there refl
