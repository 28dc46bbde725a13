pub mod KeyLists
pub mod LocalChanges
pub mod LocalLookUps
pub mod NoClashes
pub mod OtherPorts
