pub mod Store
pub mod Memory
pub mod Lent
pub mod LendsBlock
