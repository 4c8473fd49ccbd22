pub mod Bitmaps
pub mod PairSets
pub mod Rows
pub mod DifferentRows
