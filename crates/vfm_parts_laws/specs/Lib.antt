pub mod StagedParts
pub mod LooksIn
pub mod EntriesLeft
