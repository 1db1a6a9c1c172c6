pub mod Acts
pub mod Calls
pub mod Collecting
pub mod Faults
pub mod Kept
pub mod Promises
