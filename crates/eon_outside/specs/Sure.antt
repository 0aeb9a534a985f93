-- Sinks that are sure of their room: where there was a fault, as much was given.
use Rattle.std.specs.Prelude.{◌≡◌, ℕ, ◌<◌, ◌≤◌, ◌==◌, Bool, true, false, List, [], ◌∷◌, ◌++◌, length, take, bytes_eq, Option, None, Some, IfSome, nat_le, if◌then◌else◌}
use Rattle.std.proofs.Common.{arith, eqb-true, leb-true, refl}
use Rattle.std.proofs.lemmas.List.{length-append}
use Rattle.eon_outside.specs.Faults.{Standing, IsSure}
use Rattle.eon_outside.specs.Held.{standing_over, given_since}
use Rattle.eon_outside.specs.Memory.{HeldOutput, is_calm, standing_of}

sure_with : (room : Option ℕ) (faults : ℕ) (start given : Option (List ℕ)) (held : List ℕ)
    → IfSome room (λ room. 0 < faults → IfSome given (λ bytes. room ≤ length bytes))
    → IfSome room (λ room. 0 < faults → IfSome (given_since start given held) (λ bytes. room ≤ length bytes))
sure_with None faults start given held h = tt
sure_with (Some room) faults None given held h = λ f. tt
sure_with (Some room) faults (Some start) None held h = λ f. tt
sure_with (Some room) faults (Some start) (Some bytes) held h =
    λ f. one (bytes_eq (take (length start) bytes) start) (h f)
  where
    one : (b : Bool) → room ≤ length bytes
        → IfSome (if b then Some (bytes ++ held) else None) (λ bytes. room ≤ length bytes)
    one true l = omega (arith, l, length-append bytes held)
    one false l = tt

-- what is held makes a sink no less sure
pub sure_over : (reference place : ℕ) (below : Standing) (start given : Option (List ℕ)) (held : List ℕ)
    → IsSure below given → IsSure (standing_over reference place below) (given_since start given held)
sure_over reference place below start given held h = sure_with below.room below.faults start given held h

abbrev Sure : ℕ → List ℕ → Option ℕ → Type 0
Sure faults given room = IfSome room (λ room. 0 < faults → room ≤ length given)

full : (room faults : ℕ) (given : List ℕ) (b : Bool) → nat_le room (length given) ≡ b
    → Sure faults given (if b then Some room else None)
full room faults given true h = λ f. leb-true room (length given) h
full room faults given false h = tt

none_yet : (room faults : ℕ) (given : List ℕ) (b : Bool) → (faults == 0) ≡ b
    → Sure faults given (if b then Some room else if nat_le room (length given) then Some room else None)
none_yet room faults given true h = λ f. let none : faults ≡ 0 = eqb-true faults 0 h in absurd (let never : 0 < faults → ⊥ = λ g. omega arith in never f)
none_yet room faults given false h = full room faults given (nat_le room (length given)) refl

calm : (room faults : ℕ) (given fails : List ℕ)
    → Sure faults given (if is_calm fails then if faults == 0 then Some room else if nat_le room (length given) then Some room else None else None)
calm room faults given [] = none_yet room faults given (faults == 0) refl
calm room faults given (n ∷ fails) = tt

-- an output in memory has no fault before its room is full, if it is sure of it
pub sure_of : (output : HeldOutput) → IsSure (standing_of output) (Some output.given)
sure_of output = calm output.room output.plan.faults output.given output.plan.fails
