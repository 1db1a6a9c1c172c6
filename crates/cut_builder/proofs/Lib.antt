mod Keeps
mod Placing
pub mod Young
