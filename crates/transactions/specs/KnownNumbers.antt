-- Names kept by their numbers.
use Rattle.std.specs.Prelude.{◌≡◌, ℕ}
use Rattle.object_graph.specs.Names.{number_of}
use Rattle.page_image.specs.Fields.{numbered_name}

-- the number is that of a name
abbrev pub IsOfName : ℕ → Type 0
IsOfName number = number_of (numbered_name number) ≡ number
