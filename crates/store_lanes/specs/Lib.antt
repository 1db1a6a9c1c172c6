pub mod LaneScripts
pub mod Lanes
pub mod Owned
pub mod Posts
pub mod Served
