pub mod ByLists
mod ClashAfter
