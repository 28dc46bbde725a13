pub mod ComeLemmas
pub mod FeedLemmas
pub mod FirstFeed
pub mod GatherLemmas
pub mod HandedOut
pub mod LineLemmas
pub mod PassLemmas
pub mod Told
