pub mod ChainBytes
pub mod ChainOrder
pub mod ObjectEquality
pub mod RuleEquality
pub mod TableFamilies
