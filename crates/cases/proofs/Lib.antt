pub mod Entries
pub mod Examples
pub mod Orders
pub mod Places
pub mod RightOrder
pub mod Thorough
pub mod Worked
pub mod WrongStores
