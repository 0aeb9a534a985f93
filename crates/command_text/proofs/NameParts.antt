-- Names as parts of a line.
use Rattle.std.proofs.Common.{◌≡◌, refl, sym, subst, ℕ, zero, suc, ◌+◌, ◌≤◌, Bool, true, false, ◌&&◌, List, [], ◌∷◌, ◌++◌, length, take, arith}
use Rattle.std.specs.Prelude.{nat_le, nat_lt}
use Rattle.std.specs.List.{list_all}
use Rattle.std.proofs.lemmas.List.{take_at}
use Rattle.std.proofs.lemmas.Bool.{and_parts, and_from, and_right, lt-ltb, ltb-true, le-leb, leb-true}
use Rattle.eon_model.specs.Names.{is_name_byte, is_name}
use Rattle.command_text.specs.Parts.{name_scan, name_at}
use Rattle.command_text.proofs.PartLaws.{Open, IsPart, part-by}
use Rattle.command_text.proofs.WordLaws.{Valued, value-part}
use Rattle.command_text.proofs.ScanLaws.{Reads, Scanned, scan-part}

-- the one text of a value that passes
abbrev pub OneText : {A : Type 0} → (A → Bool) → (A → List ℕ) → A → List ℕ → Type 0
OneText test text a t = (test a ≡ true) × (t ≡ text a)

-- ---- a name

no_space : (k : ℕ) → name_scan.may k 32 ≡ false
no_space k = and_right (nat_lt k 32) (is_name_byte 32) refl

name_live : (k : ℕ) → (u : ℕ) × (t : List ℕ) × Scanned name_scan k u t
name_live zero = (1, 97 ∷ [], ((refl, refl), refl))
name_live (suc k) = (suc k, [], (refl, lt-ltb 0 (suc k) (omega arith)))

pub record NameRead (k : ℕ) (t : List ℕ) (u : ℕ) : Type 0 where
  pub count : u ≡ k + length t
  pub bytes : list_all is_name_byte t ≡ true
  pub few : u ≤ 32

pub name-read : (k : ℕ) (t : List ℕ) (u : ℕ) → k ≤ 32 → Reads name_scan k t u → NameRead k t u
name-read k [] u l h = record { count = omega arith; bytes = refl; few = omega arith }
name-read k (b ∷ t) u l h =
    let parts = and_parts (nat_lt k 32) (is_name_byte b) h.0 in
    let less = ltb-true k 32 parts.0 in
    let r = name-read (k + 1) t u (omega arith) h.1 in
    let count = r.count in
    record { count = omega arith; bytes = and_from _ _ parts.1 r.bytes; few = r.few }

pub read-name : (k : ℕ) (t : List ℕ) → list_all is_name_byte t ≡ true → k + length t ≤ 32 →
    Reads name_scan k t (k + length t)
read-name k [] h l = omega arith
read-name k (b ∷ t) h l =
    let parts = and_parts (is_name_byte b) (list_all is_name_byte t) h in
    let e : k + 1 + length t ≡ k + length (b ∷ t) = omega arith in (
      and_from _ _ (lt-ltb k 32 (omega arith)) parts.0,
      subst (λ (v : ℕ). Reads name_scan (k + 1) t v) e
          (read-name (k + 1) t parts.1 (omega arith)),
    )

pub record NameParts (t : List ℕ) : Type 0 where
  pub some : 1 ≤ length t
  pub few : length t ≤ 32
  pub bytes : list_all is_name_byte t ≡ true

pub name-parts : (t : List ℕ) → is_name t ≡ true → NameParts t
name-parts t h =
    let a = and_parts (nat_le 1 (length t) && nat_le (length t) 32) (list_all is_name_byte t) h in
    let b = and_parts (nat_le 1 (length t)) (nat_le (length t) 32) a.0 in
    record { some = leb-true _ _ b.0; few = leb-true _ _ b.1; bytes = a.1 }

pub parts-name : (t : List ℕ) → 1 ≤ length t → length t ≤ 32 → list_all is_name_byte t ≡ true → is_name t ≡ true
parts-name t a b c = and_from _ _ (and_from _ _ (le-leb _ _ a) (le-leb _ _ b)) c

name_found : (k : ℕ) (t rest : List ℕ) → Scanned name_scan 0 k t → take k (t ++ rest) ≡ t
name_found k t rest h = let r = name-read 0 t k (omega arith) h.0 in take_at t rest k (let c = r.count in omega arith)

name_to : (name t : List ℕ) → Valued (Scanned name_scan 0) (λ k v. v) name t → OneText is_name (λ v. v) name t
name_to name t h =
    let r = name-read 0 t h.a (omega arith) h.is_text.0 in
    let count = r.count in
    let few = r.few in
    let some = ltb-true 0 h.a h.is_text.1 in
    (subst (λ (v : List ℕ). is_name v ≡ true) (sym h.is) (parts-name t (omega arith) (omega arith) r.bytes), sym h.is)

name_from : (name t : List ℕ) → OneText is_name (λ v. v) name t → Valued (Scanned name_scan 0) (λ k v. v) name t
name_from name t h =
    let n = name-parts name h.0 in
    let some = n.some in
    let few = n.few in
    let r = read-name 0 name n.bytes (omega arith) in
    let e : 0 + length name ≡ length name = omega arith in
    record {
      a = length name;
      is_text = (
        subst (λ (v : List ℕ). Reads name_scan 0 v (length name)) (sym h.1)
            (subst (λ (u : ℕ). Reads name_scan 0 name u) e r),
        lt-ltb 0 (length name) (omega arith),
      );
      is = sym h.1;
    }

pub name-part : IsPart Open (OneText is_name (λ v. v)) name_at
unfolding name_at
name-part = part-by (value-part (λ bytes found. take found.0 bytes) (λ k v. v) name_found
    (scan-part name_scan 0 no_space name_live)) name_to name_from
