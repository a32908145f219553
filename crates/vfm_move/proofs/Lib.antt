-- The lemmas of this crate.
pub mod Cases
pub mod GivenUp
pub mod Brought
pub mod HeardOnce
pub mod Failing
pub mod Unanswered
pub mod Confirmed
pub mod Undisturbed
pub mod AnswerHeard
pub mod NotRefused
pub mod Answered
pub mod Gone
pub mod GoSaid
pub mod Ended
pub mod Carrying
