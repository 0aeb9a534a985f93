pub mod Lines
pub mod Told
pub mod Replied
pub mod Asking
pub mod Seen
pub mod Setting
pub mod SettingLaws
