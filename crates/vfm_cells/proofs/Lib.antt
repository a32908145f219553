pub mod Numbers
pub mod Local
pub mod Whole
pub mod Fitting
pub mod WholeRuns
