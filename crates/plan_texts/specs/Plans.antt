-- What the first line of a plan is read as.
use Rattle.std.specs.Prelude.{ℕ, ◌==◌, nat_le, Bool, codes, drop, Option, Some, None, if◌then◌else◌}
use Rattle.eon_model.specs.NetworkFault.{Fields}
use Rattle.eon_model.specs.PlanReadings.{PlanHead}
use Rattle.net_file.specs.Readings.{first_read, is_nil}
use Rattle.plan_texts.specs.Fields.{◌>>=◌, guarded, number_within, is_first}
use Rattle.plan_texts.specs.declared.plan.Head.{Head}

-- no batch and no move, or a batch for each move at most
abbrev pub has_few_batches : ℕ → ℕ → Bool
has_few_batches batches moves = if batches == 0 then moves == 0 else nat_le batches moves

-- the first line of these numbers, with nothing behind them
abbrev pub head_of : ℕ → Fields → ℕ → Option Head
head_of batches fields moves = guarded (is_nil (drop 1 fields))
    (guarded (has_few_batches batches moves) (Some (record { batches = batches; moves = moves })))

-- what follows the number of batches
abbrev pub by_moves : Fields → ℕ → Option Head
by_moves fields batches =
    first_read (number_within 0 4096) (drop 1 fields) >>= head_of batches (drop 1 fields)

-- the first line
unfoldable pub head_at : Fields → Option Head
head_at fields = guarded (is_first (codes "plan") fields)
    (first_read (number_within 0 4096) (drop 1 fields) >>= by_moves (drop 1 fields))

-- as the planner's definitions have it
abbrev pub model_head : Head → PlanHead
model_head h = record { batches = h.batches; moves = h.moves }

-- ---- the first line of a list

-- the number, with nothing behind it
abbrev pub count_of : Fields → ℕ → Option ℕ
count_of fields count = if is_nil (drop 1 fields) then Some count else None

-- the first line
unfoldable pub count_at : Fields → Option ℕ
count_at fields = guarded (is_first (codes "list") fields)
    (first_read (number_within 0 4096) (drop 1 fields) >>= count_of (drop 1 fields))
