pub mod Apply
pub mod Stream
pub mod Feed
