pub mod Contents
pub mod UsedNames
pub mod Marking
pub mod Rooted
pub mod ReadPages
pub mod ImagesAhead
pub mod OpenedStores
pub mod Extending
