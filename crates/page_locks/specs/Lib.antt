pub mod Sets
pub mod Holding
pub mod Words
pub mod Places
