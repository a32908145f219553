pub mod Cells
pub mod CellFits
pub mod Touched
pub mod CellSteps
pub mod WholeRun
