pub mod ColumnLemmas
pub mod ContractionLemmas
mod Examples
pub mod FilledLemmas
pub mod FurtherLemmas
pub mod LineLemmas
pub mod Numbers
pub mod OrderLemmas
pub mod PanelLemmas
pub mod PartLemmas
pub mod PositionLemmas
pub mod Products
pub mod SourceLemmas
pub mod Steps
pub mod Sums
pub mod WalkLemmas
