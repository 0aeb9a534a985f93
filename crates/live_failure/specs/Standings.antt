-- How a service stands.
use Rattle.std.specs.Prelude.{Bool, true, false}
use Rattle.live_failure.specs.declared.dark.Standing.{Standing}
use Rattle.live_failure.specs.declared.dark.Standing.TheVariants.{Carried, Dark, OnBackup}

-- whether it is dark where its backup is crossed, or not
abbrev pub is_dark_by : Standing → Bool → Bool
is_dark_by Carried crossed = false
is_dark_by Dark crossed = true
is_dark_by OnBackup crossed = crossed
