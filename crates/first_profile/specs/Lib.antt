pub mod FirstTree
pub mod Looking
pub mod Ready
pub mod Running
pub mod Fits
pub mod Ran
pub mod FirstLaws
