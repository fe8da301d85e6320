pub mod Laws
pub mod Refusals
pub mod Tallies
pub mod Wording
