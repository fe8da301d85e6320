pub mod Brought
pub mod Choices
pub mod Conservation
pub mod Histories
pub mod Law
pub mod OneOrder
pub mod Patience
pub mod Space
