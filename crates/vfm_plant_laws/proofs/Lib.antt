pub mod LogRuns
pub mod KeptRuns
