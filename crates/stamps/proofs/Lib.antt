mod Consequences
pub mod Inserting
pub mod Obsolete
mod Parting
mod Rotating
pub mod Smallest
