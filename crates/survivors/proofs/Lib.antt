pub mod AtHand
pub mod PlaceLaws
pub mod RestLaws
pub mod SourceLaws
pub mod SourcesIn
pub mod CameLaws
pub mod StrayLaws
