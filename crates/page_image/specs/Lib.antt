pub mod Slots
pub mod Spelling
pub mod Pages
pub mod Fields
pub mod Images
