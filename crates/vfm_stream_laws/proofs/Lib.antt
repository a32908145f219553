-- The lemmas of this crate.
pub mod LastRecords
pub mod LoadedJoint
pub mod Growth
pub mod FitRecords
pub mod FitPending
pub mod FitClosed
pub mod JointVerdict
pub mod HowMuch
pub mod SoundChannels
