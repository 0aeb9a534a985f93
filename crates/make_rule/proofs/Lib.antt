pub mod MakeSteps
pub mod RefitSteps
pub mod WalkSteps
