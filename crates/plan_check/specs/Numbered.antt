-- What a change can tell of a service of a list's line.
use Rattle.std.specs.Prelude.{ℕ, ℤ, nat_le, nat_lt, Bool, ◌&&◌, List, length, Option}
use Rattle.std.specs.Bool.{then_some}
use Rattle.std.specs.List.{list_all}
use Rattle.eon_model.specs.Events.{PathText, LegText, EnterText}
use Rattle.eon_model.specs.EventText.{is_path_text, is_leg_text, is_enter_text}

-- one to 63 fibres, each below 128
abbrev pub has_few_fibres : List ℕ → Bool
has_few_fibres fibres = nat_le 1 (length fibres) && nat_le (length fibres) 63 && list_all (λ i. nat_lt i 128) fibres

-- the path of these fibres on this slot
abbrev pub path_on : List ℕ → ℤ → ℕ → PathText
path_on fibres n m = record { fibres = fibres; slot = record { n = n; m = m } }

-- the path, where a change can tell it
abbrev pub path_if_told : PathText → Option PathText
path_if_told p = then_some (is_path_text p) p

-- the leg so
abbrev pub leg_if_told : LegText → Option LegText
leg_if_told l = then_some (is_leg_text l) l

-- the service so
abbrev pub service_if_told : EnterText → Option EnterText
service_if_told s = then_some (is_enter_text s) s
