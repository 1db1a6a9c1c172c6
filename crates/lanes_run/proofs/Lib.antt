pub mod Chronicles
pub mod Completes
pub mod Ends
pub mod Counted
pub mod Opened
pub mod Taken
pub mod Words
