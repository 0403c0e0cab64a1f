mod ArithmeticLemmas
mod PieceLemmas
mod CalledLemmas
mod SumLemmas
mod CuttingLemmas
mod ReadLemmas
mod WordLemmas
pub mod StepsAreFew
