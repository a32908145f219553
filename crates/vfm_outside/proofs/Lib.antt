pub mod EndsLemmas
pub mod MemoryLemmas
pub mod RingLemmas
pub mod RowLemmas
pub mod ToldLemmas
