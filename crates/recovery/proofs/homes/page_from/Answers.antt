use Rattle.std.proofs.Common.{Option, subst}
use Rattle.page_image.specs.Pages.{PageParts}
use Rattle.image_model.specs.Opening.{or_spelled}
use Rattle.recovery.specs.Reading.{Gives}
use Rattle.recovery.proofs.homes.page_from.Goals as goal

pub returns-in-None-clause-read : goal.returns-in-None-clause-read
returns-in-None-clause-read c =
    subst (λ (image : Option PageParts). Gives (or_spelled image c.args.page c.args.home.now) c.page_of.result) c.in-None.ensures.image c.page_of.ensures.read
