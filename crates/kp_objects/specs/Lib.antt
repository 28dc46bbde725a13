pub mod PodParts
pub mod SeenIds
pub mod ServiceParts
pub mod SliceMetadata
pub mod SliceParts
