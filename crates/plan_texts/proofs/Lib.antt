pub mod FieldSteps
pub mod MoveReads
pub mod PlanReads
pub mod LineAgain
pub mod ServiceReads
pub mod ServiceBack
pub mod CountReads
