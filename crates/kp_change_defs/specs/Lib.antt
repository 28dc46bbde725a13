pub mod ChangeText
pub mod DoorChanges
pub mod DoorText
pub mod DoorValues
pub mod ValueText
