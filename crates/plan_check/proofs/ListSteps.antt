-- A list, line by line: what is left is read after the services so far.
use Rattle.std.proofs.Common.{◌≡◌, refl, sym, ◌∙◌, ap, subst, ℕ, suc, ◌+◌, ◌-◌, ◌<◌, Bool, true, false, cond, ◌||◌, List, [], ◌∷◌, drop, Option, Some, None, arith}
use Rattle.std.specs.Prelude.{is_some, bytes_eq, ◌&&◌}
use Rattle.std.proofs.lemmas.Bool.{and_parts}
use Rattle.eon_model.specs.Services.{State}
use Rattle.eon_model.specs.Legal.{Setup}
use Rattle.eon_model.specs.Spelling.{fields_of}
use Rattle.eon_model.specs.PlanTexts.{ServiceLine, service_text, is_service_line, service_read, service_told}
use Rattle.eon_model.specs.PlanReadings.{ListReading, ListOf, ListFault, Form, Busy, NotLegal, entered, with_entered, with_service_line, services_from, count_told, services_counted, list_lines}
use Rattle.eon_model.specs.PlanReadings as model
use Rattle.eon_model.proofs.WholeLines.{told_by}
use Rattle.net_file.specs.Readings.{first_read}
use Rattle.plan_check.specs.declared.list.ListWhy.{ListWhy}
use Rattle.plan_check.specs.declared.list.ListRefusal.{ListRefusal}
use Rattle.plan_check.specs.declared.list.ListRefusal.TheVariants as refusal
use Rattle.plan_check.specs.Lists.{IsFaultOf, why_told}

-- ---- the service of a line is in range

pub line-in-range : (lines : List (List ℕ)) (s : ServiceLine) → first_read service_told lines ≡ Some s →
    is_service_line s ≡ true
line-in-range [] s h = absurd (cc)
line-in-range (l ∷ lines) s h =
    let t = told_by (service_read (fields_of l)) (λ v. is_service_line v && bytes_eq l (service_text v)) s h in
    (and_parts (is_service_line s) (bytes_eq l (service_text s)) t.1).0

-- ---- what follows a line

entered_goes : (number : ℕ) (o : Option State) (more : State → ListReading) (next : State) →
    with_entered number o ListOf ≡ ListOf next → with_entered number o more ≡ more next
entered_goes number None more next h = absurd (cc)
entered_goes number (Some state) more next h = let same : state ≡ next = cc in ap more same

entered_stops : (number : ℕ) (o : Option State) (more : State → ListReading) (line : ℕ) (why : model.ListWhy) →
    with_entered number o ListOf ≡ ListFault line why → with_entered number o more ≡ ListFault line why
entered_stops number None more line why h = h
entered_stops number (Some state) more line why h = absurd (cc)

module _ (setup : Setup) (number : ℕ) (state : State) (more : State → ListReading) where
  pub line-goes : (told : Option ServiceLine) (next : State) →
      with_service_line setup number state told ListOf ≡ ListOf next →
      with_service_line setup number state told more ≡ more next
  line-goes None next h = absurd (cc)
  line-goes (Some s) next h = by (is_some s.to || is_some s.next) refl h
    where
      by : (b : Bool) → (is_some s.to || is_some s.next) ≡ b →
          cond b (ListFault number Busy) (with_entered number (entered setup state s) ListOf) ≡ ListOf next →
          with_service_line setup number state (Some s) more ≡ more next
      by true e g = absurd (cc)
      by false e g = ap (λ b. cond b (ListFault number Busy) (with_entered number (entered setup state s) more)) e
          ∙ entered_goes number (entered setup state s) more next g

  pub line-stops : (told : Option ServiceLine) (line : ℕ) (why : model.ListWhy) →
      with_service_line setup number state told ListOf ≡ ListFault line why →
      with_service_line setup number state told more ≡ ListFault line why
  line-stops None line why h = h
  line-stops (Some s) line why h = by (is_some s.to || is_some s.next) refl h
    where
      by : (b : Bool) → (is_some s.to || is_some s.next) ≡ b →
          cond b (ListFault number Busy) (with_entered number (entered setup state s) ListOf) ≡ ListFault line why →
          with_service_line setup number state (Some s) more ≡ ListFault line why
      by true e g = ap (λ b. cond b (ListFault number Busy) (with_entered number (entered setup state s) more)) e ∙ g
      by false e g = ap (λ b. cond b (ListFault number Busy) (with_entered number (entered setup state s) more)) e
          ∙ entered_stops number (entered setup state s) more line why g

-- ---- faults that are told

-- a fault that is told is one of the reading
pub told-fault : (reading : ListReading) (e : ListRefusal) (line : ℕ) (why : ListWhy) → e ≡ refusal.Wrong line why →
    reading ≡ ListFault line (why_told why) → IsFaultOf reading e
told-fault reading e line why is h = subst (λ (v : ListRefusal). IsFaultOf reading v) (sym is) h

-- ---- the services, line by line

pub services-step : (setup : Setup) (number left : ℕ) (state : State) (lines : List (List ℕ)) (rest : List ℕ) →
    services_from setup number (suc left) state lines rest
    ≡ with_service_line setup number state (first_read service_told lines)
    (λ next. services_from setup (number + 1) left next (drop 1 lines) rest)
services-step setup number left state [] rest = refl
services-step setup number left state (l ∷ lines) rest = refl

module _ (setup : Setup) (all : ListReading) (i count : ℕ) (state : State) (lines : List (List ℕ)) (rest : List ℕ)
    (so_far : all ≡ services_from setup (i + 2) (count - i) state lines rest) where
  module _ (below : i < count) where
    abbrev left : ℕ
    left = count - 1 - i

    abbrev told : Option ServiceLine
    told = first_read service_told lines

    abbrev more : State → ListReading
    more = λ next. services_from setup (i + 2 + 1) left next (drop 1 lines) rest

    this_line : all ≡ with_service_line setup (i + 2) state told more
    this_line =
        let one : count - i ≡ suc left = omega arith in
        so_far ∙ ap (λ n. services_from setup (i + 2) n state lines rest) one
        ∙ services-step setup (i + 2) left state lines rest

    pub goes-on : (next : State) → with_service_line setup (i + 2) state told ListOf ≡ ListOf next →
        all ≡ services_from setup (i + 1 + 2) (count - (i + 1)) next (drop 1 lines) rest
    goes-on next h =
        let number : i + 2 + 1 ≡ i + 1 + 2 = omega arith in
        let fewer : left ≡ count - (i + 1) = omega arith in
        this_line ∙ line-goes setup (i + 2) state more told next h
        ∙ (λ k. services_from setup (number k) (fewer k) next (drop 1 lines) rest)

    pub stops-at : (e : ListRefusal) → IsFaultOf (with_service_line setup (i + 2) state told ListOf) e → IsFaultOf all e
    stops-at refusal.Memory h = tt
    stops-at (refusal.Wrong line why) h = this_line ∙ line-stops setup (i + 2) state more told line (why_told why) h
