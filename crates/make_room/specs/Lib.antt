pub mod Settling
pub mod Heights
pub mod Sweeps
pub mod Sides
pub mod Targets
pub mod Shifts
pub mod Rooms
