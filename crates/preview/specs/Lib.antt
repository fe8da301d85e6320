pub mod Verdicts
pub mod Walk
pub mod Laws
