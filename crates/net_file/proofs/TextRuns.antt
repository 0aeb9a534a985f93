-- A reader that takes line after line: what it ends with, and texts without a fault.
use Rattle.std.proofs.Common.{◌≡◌, refl, sym, ◌∙◌, ap, subst, ℕ, ◌+◌, Bool, true, false, cond, ◌⊎◌, inl, inr, List, [], ◌∷◌, drop, length, nat_lt, Some, None, Result, Ok, Err, arith}
use Rattle.std.specs.Bool.{then_some}
use Rattle.std.specs.Option.{option_map}
use Rattle.std.proofs.lemmas.Bool.{ltb-false}
use Rattle.eon_model.specs.Legal.{Setup}
use Rattle.eon_model.specs.Spelling.{fields_of}
use Rattle.eon_model.specs.NetworkText.{IsNetworkTextOf}
use Rattle.eon_model.specs.NetworkFault as model
use Rattle.eon_model.specs.NetworkFault.{field_at, word_spelled, whole_lines, network_fault}
use Rattle.net_file.specs.declared.fault.Why.{Why}
use Rattle.net_file.specs.declared.fault.Why.TheVariants as why
use Rattle.net_file.specs.Told.{why_told}
use Rattle.eon_model.specs.NetworkTextLaws.{FaultlessTextsAreOfASetup, NetworkFaultTellsTexts}
use Rattle.net_file.specs.Readings.{is_nil}
use Rattle.net_file.specs.Steps.{Sheet, setup_told, has_end, word_step, line_step}
use Rattle.net_file.specs.Drafts.{lines_of, Sound}
use Rattle.net_file.proofs.CauseParts.{not_short, cause-long}
use Rattle.net_file.proofs.LineLaws.{line-law}
use Rattle.net_file.proofs.StepParts.{Takes}
use Rattle.net_file.proofs.ReadLaws.{IsAt, at-start, at-next, at-fault, at_last, at-end}
use Rattle.eon_model.proofs.TextWhole.{texts-have-no-fault}

-- all whole lines were taken
pub record Reached (bytes : List ℕ) (rest : List ℕ) : Type 0 where
  pub sheet : Sheet
  pub number : ℕ
  pub at : IsAt bytes sheet number ([], rest)

-- a line was refused, for more than that the text ends too early
pub record Stopped (bytes : List ℕ) : Type 0 where
  pub number : ℕ
  pub why : model.Why
  pub long : not_short why ≡ true
  pub is : network_fault bytes ≡ Some (number, why)

rest_long : (w : Why) → (let r : Result Sheet Why = Err why.Rest in r) ≡ Err w → not_short (why_told w) ≡ true
rest_long w e = let same : why.Rest ≡ w = cc in ap (λ (v : Why). not_short (why_told v)) (sym same)

refused_long : (s : Sheet) (l : List ℕ) (w : Why) → Sound s → (b : Bool) → has_end s.last ≡ b →
    line_step s (fields_of l) ≡ Err w → not_short (why_told w) ≡ true
unfolding line_step
refused_long s l w sound true e is =
    let fields = fields_of l in
    let more = word_step s (word_spelled (field_at fields 0)) (drop 1 fields) in
    rest_long w (sym (λ i. cond (e i) (Err why.Rest) more) ∙ is)
refused_long s l w sound false e is =
    cause-long (lines_of s) (fields_of l) (why_told w)
    (subst (λ (r : Result Sheet Why). Takes s (fields_of l) r) is (line-law s (fields_of l) sound e))

stepped : (bytes : List ℕ) (s : Sheet) (number : ℕ) (l : List ℕ) (lines : List (List ℕ)) (rest : List ℕ) →
    IsAt bytes s number (l ∷ lines, rest) → (r : Result Sheet Why) → line_step s (fields_of l) ≡ r →
    ((t : Sheet) → IsAt bytes t (number + 1) (lines, rest) → Reached bytes rest ⊎ Stopped bytes) →
    Reached bytes rest ⊎ Stopped bytes
stepped bytes s number l lines rest at (Ok t) e more = more t (at-next bytes s t number (l ∷ lines, rest) l at refl e)
stepped bytes s number l lines rest at (Err w) e more = inr (record {
  number = number;
  why = why_told w;
  long = refused_long s l w at.sound (has_end s.last) refl e;
  is = at-fault bytes s number (l ∷ lines, rest) l w at refl e;
})

walked : (bytes : List ℕ) (lines : List (List ℕ)) (rest : List ℕ) (s : Sheet) (number : ℕ) →
    IsAt bytes s number (lines, rest) → Reached bytes rest ⊎ Stopped bytes
walked bytes [] rest s number at = inl (record { sheet = s; number = number; at = at })
walked bytes (l ∷ lines) rest s number at =
    stepped bytes s number l lines rest at (line_step s (fields_of l)) refl
    (λ t next. walked bytes lines rest t (number + 1) next)

pub reads : (bytes : List ℕ) → Reached bytes (whole_lines bytes).1 ⊎ Stopped bytes
reads bytes = walked bytes (whole_lines bytes).0 (whole_lines bytes).1 _ 1 (at-start bytes)

-- ---- where the whole lines are taken

pub last-fault : (bytes rest : List ℕ) (r : Reached bytes rest) → network_fault bytes
    ≡ option_map (λ why. (r.number, why)) (cond (has_end r.sheet.last) (then_some (nat_lt 0 (length rest)) model.Rest)
    (Some model.Short))
last-fault bytes rest r = at_last bytes r.sheet r.number ([], rest) r.at refl

-- ---- a text without a fault

record Ended (b : Bool) (rest : List ℕ) : Type 0 where
  ended : b ≡ true
  nothing : rest ≡ []

abbrev pub at_line : ℕ → model.Why → ℕ × model.Why
at_line number why = (number, why)

ended_by : (b : Bool) (rest : List ℕ) (number : ℕ) →
    option_map (at_line number) (cond b (then_some (nat_lt 0 (length rest)) model.Rest) (Some model.Short)) ≡ None →
    Ended b rest
ended_by true [] number e = record { ended = refl; nothing = refl }
ended_by true (x ∷ rest) number e = absurd (by_some (nat_lt 0 (length (x ∷ rest))) refl e)
  where
    by_some : (t : Bool) → nat_lt 0 (length (x ∷ rest)) ≡ t →
        option_map (at_line number) (then_some t model.Rest) ≡ None → ⊥
    by_some true k f = cc
    by_some false k f = let l = ltb-false 0 (length (x ∷ rest)) k in absurd (omega arith)
ended_by false rest number e = absurd cc

pub faultless-texts-are-of-a-setup : FaultlessTextsAreOfASetup
faultless-texts-are-of-a-setup bytes e = by_reading (reads bytes)
  where
    by_reading : Reached bytes (whole_lines bytes).1 ⊎ Stopped bytes → (s : Setup) × IsNetworkTextOf bytes s
    by_reading (inl r) =
        let rest = (whole_lines bytes).1 in
        let f = ended_by (has_end r.sheet.last) rest r.number (sym (last-fault bytes rest r) ∙ e) in
        (setup_told r.sheet.setup, (at-end bytes r.sheet r.number [] rest r.at refl f.ended (ap is_nil f.nothing)).1)
    by_reading (inr r) = let bad = sym e ∙ r.is in absurd cc

pub network-fault-tells-texts : NetworkFaultTellsTexts
network-fault-tells-texts bytes =
    (faultless-texts-are-of-a-setup bytes, λ t. texts-have-no-fault bytes t.0 t.1)
