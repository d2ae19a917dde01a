pub mod Schedule
pub mod Kind
pub mod Rounds
pub mod Call
pub mod Trail
pub mod Demand
