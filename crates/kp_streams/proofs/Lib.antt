pub mod ReadLines
