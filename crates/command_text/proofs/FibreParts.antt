-- Lists of fibres as parts of a line.
use Rattle.std.proofs.Common.{◌≡◌, refl, sym, ◌∙◌, ap, subst, ℕ, zero, suc, ◌+◌, ◌-◌, ◌<◌, ◌≤◌, Bool, true, false, cond, ◌&&◌, List, [], ◌∷◌, ◌++◌, length, length-append, take, inl, inr, arith}
use Rattle.std.specs.Prelude.{nat_le, nat_lt, nat_eq, ◌==◌}
use Rattle.std.specs.List.{list_all, onto_first}
use Rattle.std.proofs.lemmas.List.{take_at}
use Rattle.std.proofs.lemmas.List.Splits.{join_with_byte-slice_split}
use Rattle.std.proofs.lemmas.Bool.{and_parts, and_from, and_right, or_from, or_cases, or_left, or_right, lt-ltb, ltb-true, le-leb, eqb-true, both_ways, false≢true}
use Rattle.eon_model.specs.Names.{Name, is_name_byte, is_name}
use Rattle.eon_model.specs.Spelling.{fibre_list}
use Rattle.eon_model.proofs.OrderLaws.{AllOf}
use Rattle.eon_model.proofs.SplitLaws.{lacks, split_by, split-join}
use Rattle.eon_model.proofs.SpellingLaws.{name-lacks}
use Rattle.command_text.specs.Parts.{name_scan, fibre_scan, comma_pieces, fibres_at}
use Rattle.command_text.proofs.PartLaws.{Open, IsPart, part-by}
use Rattle.command_text.proofs.WordLaws.{Valued, value-part}
use Rattle.command_text.proofs.ScanLaws.{Reads, Scanned, Reads-append, scan-part}
use Rattle.command_text.proofs.NameParts.{OneText, name-parts, parts-name, read-name}

fibre_no_space : (k : ℕ) → fibre_scan.may k 32 ≡ false
fibre_no_space k = or_from _ _ (and_right (nat_lt k 32) (is_name_byte 32) refl)
    (and_right (nat_lt 0 k) (32 == 44) refl)

fibre_live : (k : ℕ) → (u : ℕ) × (t : List ℕ) × Scanned fibre_scan k u t
fibre_live zero = (1, 97 ∷ [], ((refl, refl), refl))
fibre_live (suc k) = (suc k, [], (refl, lt-ltb 0 (suc k) (omega arith)))

-- the first piece goes on from k bytes, and the others are names
pub record Pieces (k : ℕ) (pieces : List Name) : Type 0 where
  pub first : List ℕ
  pub others : List Name
  pub is : pieces ≡ first ∷ others
  pub some : 1 ≤ k + length first
  pub few : k + length first ≤ 32
  pub bytes : list_all is_name_byte first ≡ true
  pub names : list_all is_name others ≡ true

comma_piece : (k : ℕ) (pieces : List Name) → 1 ≤ k → k ≤ 32 → Pieces 0 pieces → Pieces k ([] ∷ pieces)
comma_piece k pieces some few p =
    let s = p.some in
    let f = p.few in
    record {
      first = [];
      others = pieces;
      is = refl;
      some = omega arith;
      few = omega arith;
      bytes = refl;
      names = ap (list_all is_name) p.is ∙ and_from _ _
          (parts-name p.first (omega arith) (omega arith) p.bytes) p.names;
    }

byte_piece : (k b : ℕ) (pieces : List Name) → is_name_byte b ≡ true → Pieces (k + 1) pieces →
    Pieces k (onto_first b pieces)
byte_piece k b pieces h p =
    let s = p.some in
    let f = p.few in
    record {
      first = b ∷ p.first;
      others = p.others;
      is = ap (onto_first b) p.is;
      some = omega arith;
      few = omega arith;
      bytes = and_from _ _ h p.bytes;
      names = p.names;
    }

not_comma : (b : ℕ) → nat_eq b 44 ≡ true → is_name_byte b ≡ true → ⊥
not_comma b e h = false≢true (subst (λ (v : ℕ). is_name_byte v ≡ true) (eqb-true b 44 e) h)

pub fibres-read : (k : ℕ) (t : List ℕ) (u : ℕ) → k ≤ 32 → Reads fibre_scan k t u → 0 < u → Pieces k (comma_pieces t)
fibres-read k [] u l h some = record { first = []; others = []; is = refl; some = omega arith; few = omega arith; bytes = refl; names = refl }
fibres-read k (b ∷ t) u l h some =
    elim (nat_eq b 44) as (λ c. nat_eq b 44 ≡ c → Reads fibre_scan (cond c 0 (k + 1)) t u → Pieces k
    (cond c ([] ∷ comma_pieces t) (onto_first b (comma_pieces t)))) [
      | true ↦ λ e r. elim (or_cases (nat_lt k 32 && is_name_byte b) (nat_lt 0 k && nat_eq b 44) h.0) [
        | inl w ↦ absurd (not_comma b e (and_parts (nat_lt k 32) (is_name_byte b) w).1)
        | inr w ↦ let s = ltb-true 0 k (and_parts (nat_lt 0 k) (nat_eq b 44) w).0 in
            comma_piece k (comma_pieces t) (omega arith) l (fibres-read 0 t u (omega arith) r some)
      ]
      | false ↦ λ e r. elim (or_cases (nat_lt k 32 && is_name_byte b) (nat_lt 0 k && nat_eq b 44) h.0) [
        | inl w ↦ let p = and_parts (nat_lt k 32) (is_name_byte b) w in let s = ltb-true k 32 p.0 in
            byte_piece k b (comma_pieces t) p.1 (fibres-read (k + 1) t u (omega arith) r some)
        | inr w ↦ absurd (both_ways (nat_eq b 44) e (and_parts (nat_lt 0 k) (nat_eq b 44) w).1)
      ]
    ] refl h.1

-- the same step is made within a name
name_steps : (k : ℕ) (t : List ℕ) (u : ℕ) → Reads name_scan k t u → Reads fibre_scan k t u
name_steps k [] u h = h
name_steps k (b ∷ t) u h =
    let parts = and_parts (nat_lt k 32) (is_name_byte b) h.0 in (
      or_left _ _ h.0,
      elim (nat_eq b 44) as (λ c. nat_eq b 44 ≡ c → Reads fibre_scan (cond c 0 (k + 1)) t u) [
        | true ↦ λ e. absurd (not_comma b e parts.1)
        | false ↦ λ e. name_steps (k + 1) t u h.1
      ] refl,
    )

read_fibres : (name : Name) (names : List Name) → list_all is_name (name ∷ names) ≡ true →
    (u : ℕ) × Reads fibre_scan 0 (fibre_list (name ∷ names)) u × (0 < u)
read_fibres name [] h =
    let n = name-parts name (and_parts (is_name name) true h).0 in
    let some = n.some in
    let few = n.few in
    (0 + length name, name_steps 0 name (0 + length name) (read-name 0 name n.bytes (omega arith)), omega arith)
read_fibres name (next ∷ names) h =
    let parts = and_parts (is_name name) (list_all is_name (next ∷ names)) h in
    let n = name-parts name parts.0 in
    let some = n.some in
    let few = n.few in
    let k = 0 + length name in
    let rest = read_fibres next names parts.1 in
    let front = name_steps 0 name k (read-name 0 name n.bytes (omega arith)) in
    let comma : fibre_scan.may k 44 ≡ true = or_right _ _ (and_from _ _ (lt-ltb 0 k (omega arith)) refl) in
    (rest.0, Reads-append fibre_scan 0 k rest.0 name (44 ∷ fibre_list (next ∷ names)) front (comma, rest.1), rest.2)

pub pieces-split : (bytes : List ℕ) → split_by 44 bytes ≡ comma_pieces bytes
pieces-split [] = refl
pieces-split (b ∷ bytes) = λ i. cond (nat_eq b 44) ([] ∷ pieces-split bytes i) (onto_first b (pieces-split bytes i))

names_lack : (names : List Name) → list_all is_name names ≡ true → AllOf (λ v. lacks 44 v ≡ true) names
names_lack [] h = tt
names_lack (name ∷ names) h = let p = and_parts (is_name name) (list_all is_name names) h in
    (name-lacks 44 name refl p.0, names_lack names p.1)

-- the names that are listed are found between the commas
pub pieces-list : (name : Name) (names : List Name) → list_all is_name (name ∷ names) ≡ true →
    comma_pieces (fibre_list (name ∷ names)) ≡ name ∷ names
pieces-list name names h = sym (pieces-split (fibre_list (name ∷ names))) ∙ split-join 44 name names
    (names_lack (name ∷ names) h)

abbrev pub is_fibre_names : List Name → Bool
is_fibre_names names = nat_le 1 (length names) && list_all is_name names

fibres_found : (k : ℕ) (t rest : List ℕ) → Scanned fibre_scan 0 k t →
    comma_pieces (take (length (t ++ rest) - length rest) (t ++ rest)) ≡ comma_pieces t
fibres_found k t rest h = let e = length-append t rest in
    ap comma_pieces (take_at t rest (length (t ++ rest) - length rest) (omega arith))

fibres_to : (names : List Name) (t : List ℕ) → Valued (Scanned fibre_scan 0) (λ k v. comma_pieces v) names t →
    OneText is_fibre_names fibre_list names t
fibres_to names t h =
    let p = fibres-read 0 t h.a (omega arith) h.is_text.0 (ltb-true 0 h.a h.is_text.1) in
    let some = p.some in
    let few = p.few in
    let whole : is_fibre_names (comma_pieces t) ≡ true =
    ap is_fibre_names p.is ∙ and_from _ _ (le-leb 1 (length (p.first ∷ p.others)) (omega arith))
    (and_from _ _ (parts-name p.first (omega arith) (omega arith) p.bytes) p.names) in
    (ap is_fibre_names h.is ∙ whole, sym (join_with_byte-slice_split 44 t) ∙ ap fibre_list (sym h.is))

fibres_from : (names : List Name) (t : List ℕ) → OneText is_fibre_names fibre_list names t →
    Valued (Scanned fibre_scan 0) (λ k v. comma_pieces v) names t
fibres_from [] t h = absurd (false≢true h.0)
fibres_from (name ∷ names) t h =
    let all = (and_parts (nat_le 1 (length (name ∷ names))) (list_all is_name (name ∷ names)) h.0).1 in
    let r = read_fibres name names all in
    record {
      a = r.0;
      is_text = (subst (λ (v : List ℕ). Reads fibre_scan 0 v r.0) (sym h.1) r.1, lt-ltb 0 r.0 r.2);
      is = sym (pieces-list name names all) ∙ ap comma_pieces (sym h.1);
    }

pub fibres-part : IsPart Open (OneText is_fibre_names fibre_list) fibres_at
unfolding fibres_at
fibres-part = part-by (value-part (λ bytes found. comma_pieces (take (length bytes - length found.1) bytes))
    (λ k v. comma_pieces v) fibres_found
    (scan-part fibre_scan 0 fibre_no_space fibre_live)) fibres_to fibres_from
