pub mod Examples
pub mod Judges
pub mod Orders
pub mod Transcripts
pub mod Worked
pub mod WrongStores
