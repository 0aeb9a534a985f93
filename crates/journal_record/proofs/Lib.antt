pub mod FieldSteps
pub mod JudgedParts
pub mod JudgedFields
pub mod JudgedFibres
pub mod JudgedLegs
pub mod JudgedEvents
pub mod ReadLaws
