pub mod FewTouched
pub mod KnownObjects
pub mod TouchLaws
pub mod WorkedTouches
