-- Fields as they stand at the front of some bytes.
use Rattle.std.proofs.Common.{◌≡◌, refl, sym, ◌∙◌, ap, ℕ, suc, ◌+◌, ◌≤◌, true, false, cond, not, List, [], ◌∷◌, length, take, drop, None, arith}
use Rattle.std.specs.Prelude.{nat_lt, position, slice_index, Ok, Err, if◌then◌else◌}
use Rattle.std.proofs.lemmas.Bool.{ltb-true, false_from_ne_true}
use Rattle.std.specs.Prelude.{is_none}
use Rattle.std.specs.List.{list_all}
use Rattle.std.proofs.lemmas.List.Sums.{AllPass-from_list_all}
use Rattle.eon_base.proofs.NameLemmas.{none_fails}
use Rattle.leg_state.specs.Parts.{AreFibreNumbers}
use Rattle.eon_model.specs.Names.{Name, is_name}
use Rattle.eon_model.specs.EventFault.{NameField, EventFault, FieldAt}
use Rattle.journal_record.specs.Reading.{Read, field_at, name_in}

-- a name behind its length
pub name_is : (at count : ℕ) (others : List ℕ) → count ≤ length others → is_name (take count others) ≡ true →
    field_at NameField name_in at (count ∷ others)
    ≡ Ok (take count others, (at + (1 + count), drop (1 + count) (count ∷ others)))
unfolding field_at
name_is at count others l h =
    (λ i. cond (enough i) (Err EventFault.Short) (tried (one i)))
    ∙ (λ i. cond (h i) (Ok (take count others, (at + (1 + count), drop (1 + count) (count ∷ others)))) (Err (FieldAt at)))
  where
    one : 1 + count ≡ suc count
    one = omega arith

    enough : nat_lt (length (count ∷ others)) (1 + count) ≡ false
    enough = false_from_ne_true _ (λ t. let e = ltb-true (length (count ∷ others)) (1 + count) t in omega arith)

    tried : ℕ → Read Name
    tried k =
        if is_name (drop 1 (take k (count ∷ others)))
        then Ok (drop 1 (take k (count ∷ others)), (at + (1 + count), drop (1 + count) (count ∷ others)))
        else Err (FieldAt at)

-- two bytes, and four
pub two_of : (bytes : List ℕ) → length bytes ≡ 2 → slice_index bytes 0 ∷ slice_index bytes 1 ∷ [] ≡ bytes
two_of [] e = absurd (omega arith)
two_of (a ∷ []) e = absurd (omega arith)
two_of (a ∷ b ∷ []) e = refl
two_of (a ∷ b ∷ c ∷ rest) e = absurd (omega arith)

pub four_of : (bytes : List ℕ) → length bytes ≡ 4 →
    slice_index bytes 0 ∷ slice_index bytes 1 ∷ slice_index bytes 2 ∷ slice_index bytes 3 ∷ [] ≡ bytes
four_of [] e = absurd (omega arith)
four_of (a ∷ []) e = absurd (omega arith)
four_of (a ∷ b ∷ []) e = absurd (omega arith)
four_of (a ∷ b ∷ c ∷ []) e = absurd (omega arith)
four_of (a ∷ b ∷ c ∷ d ∷ []) e = refl
four_of (a ∷ b ∷ c ∷ d ∷ f ∷ rest) e = absurd (omega arith)

-- numbers of fibres, where none is out of range
pub are_numbers : (fibres : List ℕ) → length fibres ≤ 63 → position (λ b. not (nat_lt b 128)) fibres ≡ None →
    AreFibreNumbers fibres
are_numbers fibres few e =
    let known : list_all (λ b. nat_lt b 128) fibres ≡ true =
    sym (none_fails (λ b. nat_lt b 128) fibres) ∙ ap is_none e in
    record { few = few; below = λ k d h. ltb-true _ 128 (AllPass-from_list_all (λ b. nat_lt b 128) fibres known k d h) }
