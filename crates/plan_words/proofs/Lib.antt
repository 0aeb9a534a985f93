pub mod AskLemmas
pub mod WalkStates
pub mod WalkRuns
pub mod TaskLaws
pub mod PlainLaws
pub mod UnknownLaws
pub mod AnswerLemmas
