pub mod Run
pub mod Signal
pub mod Value
pub mod Components
pub mod Engine
