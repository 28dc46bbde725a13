pub mod AcceptLaws
pub mod UntouchedHealth
pub mod Worked
