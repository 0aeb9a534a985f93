mod RowEventLaws
mod LeaveBothLaws
