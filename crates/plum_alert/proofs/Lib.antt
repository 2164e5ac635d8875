pub mod Lists
pub mod Greatest
pub mod Alerts
pub mod Steps
pub mod OneList
