pub mod Draws
pub mod Rounds
pub mod Summaries
pub mod Between
pub mod Making
