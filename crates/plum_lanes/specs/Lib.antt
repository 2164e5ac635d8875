pub mod Rule
pub mod Opening
pub mod Lanes
pub mod Gathering
pub mod Rounds
pub mod Passing
pub mod Laws
