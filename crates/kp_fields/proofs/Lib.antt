pub mod EmptyText
pub mod Tests
