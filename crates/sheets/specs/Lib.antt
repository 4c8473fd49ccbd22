pub mod Bitmaps
