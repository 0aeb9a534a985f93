-- The parts of a command line: names, numbers, classes and lists of fibres.
use Rattle.std.specs.Prelude.{ℕ, ◌+◌, ◌-◌, ◌*◌, nat_lt, ◌==◌, ℤ, pos, neg_ℤ, ◌&&◌, ◌||◌, List, [], ◌∷◌, length, take, codes, Option, Some, None, Ok, Err, if◌then◌else◌}
use Rattle.std.specs.List.{list_all, slice_split}
use Rattle.eon_model.specs.declared.Class.{Class}
use Rattle.eon_model.specs.declared.Class.TheVariants.{Bare, Shared, Dual}
use Rattle.eon_model.specs.Names.{Name, is_name, is_name_byte}
use Rattle.eon_model.specs.Numerals.{is_within, is_digit}
use Rattle.command_text.specs.Reading.{Read, ◌>>=◌, after, Scan, munch}

-- the state after one more byte, where some text goes on with it
abbrev pub one_more : {S : Type 0} → Scan S → S → ℕ → Option S
one_more scan s b = if scan.may s b then Some (scan.next s b) else None

-- a name, by the number of its bytes
abbrev pub name_scan : Scan ℕ
name_scan = record {
  may = λ k b. nat_lt k 32 && is_name_byte b;
  next = λ k b. k + 1;
  whole = λ k. nat_lt 0 k;
}

unfoldable pub name_at : List ℕ → Read Name
name_at bytes = do
  found ← munch name_scan 0 bytes
  Ok (take found.0 bytes, found.1)

-- a number from 1 to the greatest, by its value so far
abbrev pub positive_scan : ℕ → Scan ℕ
positive_scan most = record {
  may = λ n b. is_digit b && is_within 1 most (10 * n + (b - 48));
  next = λ n b. 10 * n + (b - 48);
  whole = λ n. nat_lt 0 n;
}

unfoldable pub positive_at : ℕ → List ℕ → Read ℕ
positive_at most bytes = munch (positive_scan most) 0 bytes

-- a centre, from -4096 to 4095
unfoldable pub centre_at : List ℕ → Read ℤ
centre_at [] = Err 0
centre_at (b ∷ bytes) =
    if b == 45 then (positive_at 4096 bytes >>= λ found. Ok (neg_ℤ (pos found.0), found.1))
    else (if b == 48 then Ok (pos 0, bytes)
    else (positive_at 4095 (b ∷ bytes) >>= λ found. Ok (pos found.0, found.1)))

unfoldable pub class_at : List ℕ → Read Class
class_at [] = Err 0
class_at (b ∷ bytes) =
    if b == 115 then (after (codes "shared") (b ∷ bytes) >>= λ rest. Ok (Shared, rest))
    else (if b == 100 then (after (codes "dual") (b ∷ bytes) >>= λ rest. Ok (Dual, rest))
    else (after (codes "bare") (b ∷ bytes) >>= λ rest. Ok (Bare, rest)))

-- names with commas, by the number of bytes of the last one
abbrev pub fibre_scan : Scan ℕ
fibre_scan = record {
  may = λ k b. (nat_lt k 32 && is_name_byte b) || (nat_lt 0 k && (b == 44));
  next = λ k b. if b == 44 then 0 else k + 1;
  whole = λ k. nat_lt 0 k;
}

-- the pieces between commas
abbrev pub comma_pieces : List ℕ → List Name
comma_pieces bytes = slice_split (λ b. b == 44) bytes

unfoldable pub fibres_at : List ℕ → Read (List Name)
fibres_at bytes = do
  found ← munch fibre_scan 0 bytes
  Ok (comma_pieces (take (length bytes - length found.1) bytes), found.1)

-- the names that the bytes list with commas between them
abbrev pub fibre_names_of : List ℕ → Option (List Name)
fibre_names_of bytes = if list_all is_name (comma_pieces bytes) then Some (comma_pieces bytes) else None
