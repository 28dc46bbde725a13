mod ClashTest
pub mod DirtyLists
mod EitherWay
mod Families
mod KeptBlocks
mod KeptPorts
pub mod KnownPorts
mod LocalEdits
mod MorePlaces
mod NextPlaces
mod OldBlocks
pub mod OneList
mod OwnKeys
mod OwnTables
mod OwnValues
mod PendingPorts
mod Present
mod Refreshed
pub mod RuleCounts
mod SameKeys
mod ServicePorts
mod SharedPlaces
mod SharedRules
mod SyncFixed
mod SyncLaw
mod SyncPlaces
mod SyncTables
mod Totals
mod WriterEdits
pub mod WrittenRules
