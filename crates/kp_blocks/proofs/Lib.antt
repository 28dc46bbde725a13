mod BlockValues
pub mod ChangedBlocks
pub mod JoinedChains
mod PutBack
mod PutBehind
mod ServiceRun
mod WorkedChains
