-- The code with which the program ends, and the line that is written beside the replies.
use Rattle.std.specs.Prelude.{ℕ, List, [], Option, Some, None}
use Rattle.std.specs.Option.{option_map_or, unwrap_or}
use Rattle.eon_model.specs.Modes as modes
use Rattle.eon_model.specs.Later.{later_line}
use Rattle.journal_replay.specs.Replayed.{why_told as journal_why_told}
use Rattle.net_file.specs.Told.{why_told}
use Rattle.net_widening.specs.Told.{wide_told}
use Rattle.plan_serve.specs.declared.status.Status.{Status}
use Rattle.plan_serve.specs.declared.status.Status.TheVariants.{Done, Words, NetRefused, NetLong, NextRefused, NextLong, NotWider, ReadFault, DiskFault, JournalRefused, JournalOther, NotEmpty, JournalFull, Memory, WriteFault, InputLong, Later}

-- the status of the planner that it is; none for a mode that is not built yet
abbrev pub status_told : Status → Option modes.Status
status_told Done = Some modes.Status.Done
status_told Words = Some modes.Status.Words
status_told (NetRefused line why) = Some (modes.Status.NetRefused line (why_told why))
status_told NetLong = Some modes.Status.NetLong
status_told (NextRefused line why) = Some (modes.Status.NextRefused line (why_told why))
status_told NextLong = Some modes.Status.NextLong
status_told (NotWider what) = Some (modes.Status.NotWider (wide_told what))
status_told ReadFault = Some modes.Status.ReadFault
status_told DiskFault = Some modes.Status.DiskFault
status_told (JournalRefused at why) = Some (modes.Status.JournalRefused at (journal_why_told why))
status_told (JournalOther kept own) = Some (modes.Status.JournalOther kept own)
status_told (NotEmpty len) = Some (modes.Status.NotEmpty len)
status_told (JournalFull needed left) = Some (modes.Status.JournalFull needed left)
status_told Memory = Some modes.Status.Memory
status_told WriteFault = Some modes.Status.WriteFault
status_told InputLong = Some modes.Status.InputLong
status_told Later = None

-- its code, and 9 for a mode that is not built yet
abbrev pub code_of : Status → ℕ
code_of status = option_map_or modes.status_code (status_told status) 9

-- the one line that a refusal writes, if it writes one
abbrev pub line_of : Status → Option (List ℕ)
line_of status = option_map_or modes.status_line (status_told status) (Some later_line)

-- its bytes, none where it writes no line
abbrev pub own_line : Status → List ℕ
own_line status = unwrap_or (line_of status) []
