pub mod Kinds
pub mod Laws
pub mod Told
pub mod Lawful
pub mod Shown
