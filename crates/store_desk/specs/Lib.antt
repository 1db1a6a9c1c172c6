pub mod Appended
pub mod Chronicles
pub mod Events
pub mod Happenings
pub mod Seats
pub mod States
