pub mod LeastLaws
pub mod PairLaws
pub mod PlaceLaws
pub mod StateLaws
