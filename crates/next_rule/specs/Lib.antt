pub mod AssertSearches
pub mod Best
pub mod FewPlaces
pub mod NextLaws
pub mod SplitSearches
