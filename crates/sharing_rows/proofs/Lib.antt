pub mod BackupLaws
