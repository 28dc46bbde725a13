pub mod ChanceLaws
pub mod DrawLaws
pub mod EndpointLaws
pub mod SourceLaws
pub mod UnseenLaws
