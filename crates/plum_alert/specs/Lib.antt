pub mod Readings
pub mod Alerts
pub mod Desk
pub mod Laws
