pub mod Newest
pub mod PendingKeys
mod Answered
mod WorkedPending
