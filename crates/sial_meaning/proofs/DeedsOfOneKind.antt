-- Deeds of one kind come to their sum, their greatest or their one value, in whatever order.
pub mod Writes
pub mod Sums
pub mod Order
