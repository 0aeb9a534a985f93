mod KeepSteps
mod CrashLaws
mod OpenSteps
