pub mod NumberLemmas
pub mod SettingLemmas
pub mod GrantedLemmas
pub mod PlainLemmas
pub mod OrderLemmas
