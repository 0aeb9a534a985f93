-- What the fields of a move's line are read as.
use Rattle.std.specs.Prelude.{ℕ, ◌==◌, ℤ, Bool, not, List, codes, bytes_eq, drop, Option, Some, None, is_some, if◌then◌else◌}
use Rattle.std.specs.Option.{option_map}
use Rattle.eon_model.specs.Names.{Name}
use Rattle.eon_model.specs.NetworkFault.{Fields}
use Rattle.eon_base.specs.Names.{name_of}
use Rattle.net_file.specs.Readings.{first_read, is_nil}
use Rattle.plan_texts.specs.Fields.{◌>>=◌, guarded, number_within, centre_of, is_first}
use Rattle.plan_texts.specs.declared.moves.Rest.{Rest}
use Rattle.plan_texts.specs.declared.moves.Rest.TheVariants as rest
use Rattle.plan_texts.specs.declared.moves.Move.{Move}

-- what the word begins, with the fields behind it
abbrev pub rest_by : Fields → List ℕ → Option Rest
rest_by behind word =
    if bytes_eq word (codes "floor") then Some rest.Floor
    else if bytes_eq word (codes "on") then option_map rest.On (first_read name_of behind)
    else if bytes_eq word (codes "over") then option_map rest.Over (first_read name_of behind)
    else None

-- what the channel rests on
unfoldable pub rest_at : Fields → Option Rest
rest_at fields = first_read (rest_by (drop 1 fields)) fields

-- the fields behind it
abbrev pub behind_rest : Rest → Fields → Fields
behind_rest rest.Floor fields = drop 1 fields
behind_rest (rest.On name) fields = drop 1 (drop 1 fields)
behind_rest (rest.Over name) fields = drop 1 (drop 1 fields)

-- the name, with nothing behind it
abbrev pub last_name : Fields → Name → Option (Option Name)
last_name fields name = if is_nil (drop 1 fields) then Some (Some name) else None

-- `after` and a name, and no more
abbrev pub after_by : Fields → Option (Option Name)
after_by fields = guarded (is_first (codes "after") fields) (first_read name_of (drop 1 fields) >>= last_name (drop 1 fields))

-- nothing, or the move that is waited for
unfoldable pub after_at : Fields → Option (Option Name)
after_at fields = if is_nil fields then Some None else after_by fields

-- a move is waited for just where the batch is above 1
abbrev pub waits_rightly : ℕ → Option Name → Bool
waits_rightly batch after = if batch == 1 then not (is_some after) else is_some after

-- the move of these words
abbrev pub move_of : ℕ → Name → ℤ → ℤ → Rest → Option Name → Option Move
move_of batch name from to rest after =
    guarded (waits_rightly batch after)
    (Some (record { batch = batch; name = name; from = from; to = to; rest = rest; after = after }))

-- what follows the rest
abbrev pub by_after : ℕ → Name → ℤ → ℤ → Fields → Rest → Option Move
by_after batch name from to fields rest = after_at (behind_rest rest fields) >>= move_of batch name from to rest

-- what follows the centres
abbrev pub by_rest : ℕ → Name → ℤ → Fields → ℤ → Option Move
by_rest batch name from fields to = rest_at (drop 1 fields) >>= by_after batch name from to (drop 1 fields)

-- what follows the first of them
abbrev pub by_to : ℕ → Name → Fields → ℤ → Option Move
by_to batch name fields from = first_read centre_of (drop 1 fields) >>= by_rest batch name from (drop 1 fields)

-- what follows the name
abbrev pub by_from : ℕ → Fields → Name → Option Move
by_from batch fields name = first_read centre_of (drop 1 fields) >>= by_to batch name (drop 1 fields)

-- what follows the batch
abbrev pub by_name : Fields → ℕ → Option Move
by_name fields batch = first_read name_of (drop 1 fields) >>= by_from batch (drop 1 fields)

-- the move
unfoldable pub move_at : Fields → Option Move
move_at fields = guarded (is_first (codes "move") fields)
    (first_read (number_within 1 4096) (drop 1 fields) >>= by_name (drop 1 fields))
