pub mod DistanceLaws
pub mod WayLaws
pub mod RoundLaws
pub mod LeastLaws
pub mod FrontLaws
pub mod DeviateLaws
pub mod PoolLaws
pub mod NextLaws
