pub mod Bus
pub mod EngineState
