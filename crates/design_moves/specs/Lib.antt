pub mod Outlines
pub mod WrittenDesigns
