-- What a cut keeps of each page, and the graph of a closed cut.
use Rattle.std.specs.Prelude.{ℕ, Option, Some, None, List, [], ◌∷◌, ◌++◌, length, slice_index_or, unwrap_or, option_map, if◌then◌else◌, nat_lt}
use Rattle.std.specs.List.{flat_map}
use Rattle.object_graph.specs.NameParts.{NameParts}
use Rattle.object_graph.specs.SlotParts.{SlotParts}
use Rattle.object_graph.specs.ObjectParts.{ObjectParts}
use Rattle.object_graph.specs.Graphs.{IsReachedFrom}
use Rattle.object_graph.specs.Slots.{below}
use Rattle.store_model.specs.Images.{objects_of}

-- a copy of a page: its current image, its before-image where it was dirty, and the number of commits as it was taken
pub record CopyParts : Type 0 where
  pub current : List SlotParts
  pub before : Option (List SlotParts)
  pub moment : ℕ

-- the image of a page after a commit, and that commit's number
pub record AfterImage : Type 0 where
  pub image : List SlotParts
  pub moment : ℕ

-- what a cut has of a page
pub record CutPage : Type 0 where
  pub copy : Option CopyParts
  pub after : Option AfterImage
  pub born : ℕ

-- a page of which the cut has nothing yet
abbrev pub bare_page : CutPage
bare_page = record { copy = None; after = None; born = 0 }

-- the committed image of a copy
abbrev pub committed_image : CopyParts → List SlotParts
committed_image c = unwrap_or c.before c.current

-- the settled image: after, else before, else current
abbrev pub settled_with : Option AfterImage → Option CopyParts → Option (List SlotParts)
settled_with None copy = option_map committed_image copy
settled_with (Some changed) copy = Some changed.image

abbrev pub settled_image : CutPage → Option (List SlotParts)
settled_image p = settled_with p.after p.copy

-- the images
abbrev pub images_of_before : Option (List SlotParts) → List (List SlotParts)
images_of_before None = []
images_of_before (Some image) = image ∷ []

abbrev pub images_of_copy : Option CopyParts → List (List SlotParts)
images_of_copy None = []
images_of_copy (Some c) = c.current ∷ images_of_before c.before

abbrev pub images_of_after : Option AfterImage → List (List SlotParts)
images_of_after None = []
images_of_after (Some a) = a.image ∷ []

abbrev pub images_of : CutPage → List (List SlotParts)
images_of p = images_of_after p.after ++ images_of_copy p.copy

-- an after-image is kept beside a copy that was taken before it
abbrev pub kept_beside : ℕ → Option AfterImage → Option AfterImage
kept_beside moment None = None
kept_beside moment (Some a) = if nat_lt moment a.moment then Some a else None

-- a copy is added
abbrev pub with_copy : CopyParts → CutPage → CutPage
with_copy c p = record p { copy = Some c; after = kept_beside c.moment p.after }

-- the objects in all images of a page, and of all pages: the graph of a cut
abbrev pub objects_on : ℕ → CutPage → List ObjectParts
objects_on page p = flat_map (objects_of page) (images_of p)

abbrev pub cut_graph : List CutPage → List ObjectParts
cut_graph pages = flat_map (λ page. objects_on page (slice_index_or pages page bare_page)) (below (length pages))

-- the marks: what is reached in the graph of the cut
abbrev pub IsMarked : List NameParts → List CutPage → NameParts → Type 0
IsMarked starts pages name = IsReachedFrom (cut_graph pages) starts name

-- the slots in which objects were made are born
abbrev pub with_born : ℕ → CutPage → CutPage
with_born born p = record p { born = born }

-- a page after a commit that wrote it, with the slots in which it made objects
abbrev pub with_commit : List SlotParts → ℕ → ℕ → CutPage → CutPage
with_commit image moment born p = record p { after = Some (record { image = image; moment = moment }); born = born }
