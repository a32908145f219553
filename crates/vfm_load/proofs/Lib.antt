pub mod PageLemmas
pub mod PairLemmas
pub mod BlockLemmas
pub mod DeviceLemmas
pub mod LackLemmas
pub mod StoreLemmas
pub mod LoadLemmas
