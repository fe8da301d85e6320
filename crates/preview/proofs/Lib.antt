mod Reading
mod Space
mod Walking
mod Wording
