pub mod AwaitedLaws
pub mod MeetLaws
pub mod RowLaws
pub mod MoverSteps
pub mod TurnSteps
pub mod GivenLaws
pub mod SortSteps
pub mod PlanSteps
