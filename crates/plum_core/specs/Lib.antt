pub mod History
pub mod Station
pub mod Transcript
pub mod Machine
pub mod Facts
pub mod Following
pub mod Laws
-- handed on to the crates above: the key rule, a station's value, predictions
pub use Rattle.plum_seq.specs.Keys
pub use Rattle.plum_engine.specs.Engine
pub use Rattle.plum_geo.specs.Prediction
