mod VerbLaws
mod VerbSteps
mod LineLaws
mod ReadSteps
mod AskLaws
mod ReplyLaws
mod SettingSteps
mod TextLaws
