pub mod Settled
pub mod SettleLaws
