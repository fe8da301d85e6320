mod KindsApart
mod Numbering
mod Tallying
