-- What contracts see of a core.
use Rattle.std.specs.Prelude.{◌⊎◌, ℕ, List}
use Rattle.store_model.specs.Worlds.{World}
use Rattle.cut_model.specs.Standing.{CutBeside}
use Rattle.image_model.specs.Stands.{StandsForWorld}
use Rattle.page_buffer.specs.declared.frame.Frame.{Frame}

-- the world for which it stands, its disk, what it has of its cut, the frames of its pages, and the pages whose frames
-- the last call changed
pub record Seen (D : Type 0) : Type 0 where
  pub world : World
  pub disk : D
  pub beside : CutBeside
  pub frames : List Frame
  pub touched : List ℕ

-- a crash leaves a store file that stands for the world before a call or for the one after it
abbrev pub StandsForEither : World → World → List ℕ → Type 0
StandsForEither before after file = StandsForWorld file before ⊎ StandsForWorld file after
