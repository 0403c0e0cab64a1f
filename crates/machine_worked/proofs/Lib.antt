pub mod RunsAre
pub mod NeedsAre
