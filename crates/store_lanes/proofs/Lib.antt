pub mod Crossing
pub mod Going
pub mod Last
pub mod Making
pub mod Owned
pub mod Served
