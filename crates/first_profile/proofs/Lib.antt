mod BlocksSeen
mod ClassLemmas
mod FitsLemmas
mod FormLaws
mod GivenLemmas
mod Meant
mod NumbersFrom
mod NumbersLemmas
mod Places
mod Printed
mod ProfileLemmas
mod RanLemmas
pub mod ReadyLemmas
mod SegmentLemmas
mod Sequential
mod SoundLemmas
mod StartLaws
mod StartLemmas
mod StatementsLemmas
pub mod ThroughLemmas
mod Worked
mod WroteLemmas
