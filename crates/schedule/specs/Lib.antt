pub mod Settings
pub mod Schedule
pub mod Code
pub mod PeerSchedule
