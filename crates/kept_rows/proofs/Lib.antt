pub mod LightLaws
pub mod HeldLaws
pub mod StandLaws
pub mod TurnLaws
pub mod EventLaws
pub mod LeaveLaws
