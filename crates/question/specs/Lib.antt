pub mod Refused
pub mod Wording
