pub mod MomentLaws
pub mod RecordSteps
pub mod GateReads
pub mod PieceReads
pub mod HeadReads
pub mod ClosingSteps
