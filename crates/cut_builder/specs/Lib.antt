pub mod CutParts
pub mod Kept
pub mod Cells
pub mod Young
