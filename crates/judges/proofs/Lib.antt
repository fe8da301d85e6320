mod Consequences
pub mod Prepared
