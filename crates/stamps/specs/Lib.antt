pub mod Intervals
pub mod Kept
pub mod Laws
pub mod Rising
pub mod Rows
