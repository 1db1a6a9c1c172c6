pub mod KnownNumbers
pub mod Tables
pub mod Standing
pub mod Checks
pub mod Calls
