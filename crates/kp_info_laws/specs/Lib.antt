pub mod InfoLaws
