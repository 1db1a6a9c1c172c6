pub mod Edges
pub mod Marks
pub mod Seats
pub mod Walks
pub mod Unscanned
pub mod Jobs
