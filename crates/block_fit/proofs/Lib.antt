pub mod ShiftLaws
pub mod RunLaws
pub mod JoinLaws
pub mod PartLaws
pub mod CentreLaws
pub mod LeastLaws
