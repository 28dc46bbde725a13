pub mod EventText
pub mod FamilyParts
pub mod PodText
pub mod ServiceText
pub mod SliceText
