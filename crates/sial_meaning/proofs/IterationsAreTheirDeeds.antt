-- An iteration of a pardo is its list of deeds, applied in order.
pub mod Deeds
pub mod Statement
pub mod Fold
pub mod EachDeed
pub mod Pardos
pub mod Logs
