pub mod Files
pub mod Flat
pub mod Outcomes
pub mod Views
pub mod Bundles
pub mod BundleViews
