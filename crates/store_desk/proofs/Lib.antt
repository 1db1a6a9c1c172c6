pub mod Crossing
pub mod Happens
pub mod Kept
pub mod Turns
