mod FollowSteps
mod ToldSteps
