pub mod MoveSteps
pub mod HullLaws
