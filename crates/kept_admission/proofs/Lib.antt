mod ThereLaws
mod FirstLaws
mod LeastBackupLaws
