-- What contracts see of the files and the output that are held in memory.
use Rattle.std.specs.Prelude.{◌≡◌, ℕ, ◌==◌, nat_lt, nat_le, Bool, true, false, ◌&&◌, List, [], ◌∷◌, length, slice_index_or, if◌then◌else◌, Option, Some, None, refl}
use Rattle.std.specs.List.{list_any}
use Rattle.std.specs.FinMap as map_of
use Rattle.std.specs.Coded.{Coded, code_by, coded×, coded_ℕ, coded_list}
use Rattle.eon_outside.specs.Faults.{counted, Standing}
use Rattle.eon_outside.specs.Reading.{NamedFiles}

-- The calls of an object: the numbers of those that are to fail, counted from 1, how many were made, and how many failed.
pub record CallPlan : Type 0 where
  pub fails : List ℕ
  pub calls : ℕ
  pub faults : ℕ

-- whether the next call is one that is to fail
abbrev pub is_due : CallPlan → Bool
is_due plan = list_any (λ n. n == counted plan.calls) plan.fails

-- whether no call is to fail
abbrev pub is_calm : List ℕ → Bool
is_calm [] = true
is_calm (n ∷ fails) = false

-- after one more call, that failed or did not
abbrev pub after_call : CallPlan → Bool → CallPlan
after_call plan is_fault = record plan {
  calls = counted plan.calls;
  faults = if is_fault then counted plan.faults else plan.faults;
}

-- no call was made yet
abbrev pub plan_of : List ℕ → CallPlan
plan_of fails = record { fails = fails; calls = 0; faults = 0 }

-- Files of which one may be open. A read gives at most `most` bytes.
pub record HeldFiles : Type 0 where
  pub files : NamedFiles
  pub left : List ℕ
  pub opened : List (List ℕ)
  pub most : ℕ
  pub plan : CallPlan

-- Bytes given, with room for `room` bytes in all. A write takes at most `most` bytes.
pub record HeldOutput : Type 0 where
  pub given : List ℕ
  pub room : ℕ
  pub most : ℕ
  pub plan : CallPlan

-- whether a piece that is not empty finds no room
abbrev pub is_full_for : HeldOutput → List ℕ → Bool
is_full_for output piece = nat_lt 0 (length piece) && nat_le output.room (length output.given)

-- The room of which it is sure: all of it where no call is to fail and none failed before it was full.
abbrev pub sure_room : HeldOutput → Option ℕ
sure_room output = if is_calm output.plan.fails
    then if output.plan.faults == 0 then Some output.room else if nat_le output.room (length output.given) then Some output.room else None
    else None

-- no call fails before all room is taken, where none is to fail
abbrev pub IsFilledFirst : HeldOutput → Type 0
IsFilledFirst output = sure_room output ≡ (if is_calm output.plan.fails then Some output.room else None)

abbrev pub standing_of : HeldOutput → Standing
standing_of output = record { faults = output.plan.faults; room = sure_room output; through = [] }

-- the bytes of the entry at this place
abbrev pub bytes_at : List (List ℕ × List ℕ) → ℕ → List ℕ
bytes_at entries i = (slice_index_or entries i ([], [])).1

abbrev pub plan_code : Coded CallPlan
plan_code = code_by (List ℕ × (ℕ × ℕ)) (coded× (coded_list coded_ℕ) (coded× coded_ℕ coded_ℕ))
    (λ p. (p.fails, (p.calls, p.faults))) (λ p. record { fails = p.0; calls = p.1.0; faults = p.1.1 }) (λ _. refl)

abbrev pub files_code : Coded HeldFiles
files_code = code_by ((NamedFiles × List ℕ) × (List (List ℕ) × (ℕ × CallPlan)))
    (coded× (coded× (map_of.code (coded_list coded_ℕ) (coded_list coded_ℕ)) (coded_list coded_ℕ))
    (coded× (coded_list (coded_list coded_ℕ)) (coded× coded_ℕ plan_code)))
    (λ s. ((s.files, s.left), (s.opened, (s.most, s.plan))))
    (λ p. record { files = p.0.0; left = p.0.1; opened = p.1.0; most = p.1.1.0; plan = p.1.1.1 }) (λ _. refl)
