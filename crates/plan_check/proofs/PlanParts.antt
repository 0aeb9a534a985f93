-- A plan that is read: its moves are in range, and there are few of them.
use Rattle.std.proofs.Common.{◌≡◌, refl, sym, ◌∙◌, ap, ℕ, zero, suc, ◌+◌, ◌≤◌, Bool, true, false, cond, ◌&&◌, List, [], ◌∷◌, ◌++◌, length, Option, Some, None, arith}
use Rattle.std.specs.Prelude.{codes, bytes_eq, nat_le, ◌==◌}
use Rattle.std.specs.List.{list_all}
use Rattle.std.specs.Fmt.{decimal}
use Rattle.std.proofs.lemmas.Bool.{and_parts, and_from, eqb-true, leb-true}
use Rattle.std.proofs.lemmas.List.{length-append}
use Rattle.std.proofs.lemmas.List.Folds.{list_all-append}
use Rattle.eon_model.specs.Plan.{Move, Plan}
use Rattle.eon_model.specs.Spelling.{spaced, fields_of}
use Rattle.eon_model.specs.NetworkFault.{whole_lines, field_at}
use Rattle.eon_model.specs.Numerals.{number_value}
use Rattle.eon_model.specs.ReplyText.{move_line}
use Rattle.eon_model.specs.PlanTexts.{is_move_line, move_read, move_told}
use Rattle.eon_model.specs.PlanReadings.{PlanReading, PlanOf, PlanFault, is_next_batch, with_move, moves_from, PlanHead, is_plan_head, head_told, moves_counted, plan_lines, plan_reading}
use Rattle.eon_model.proofs.WholeLines.{told_by, then_told}

move_in_range : (l : List ℕ) (m : Move) → move_told l ≡ Some m → is_move_line m ≡ true
move_in_range l m h =
    let t = told_by (move_read (fields_of l)) (λ v. is_move_line v && bytes_eq (l ++ 10 ∷ []) (move_line v)) m h in
    (and_parts (is_move_line m) (bytes_eq (l ++ 10 ∷ []) (move_line m)) t.1).0

-- the moves are in range, and so many
record AreInRange (count : ℕ) (moves : List Move) : Type 0 where
  lines : list_all is_move_line moves ≡ true
  many : length moves ≡ count

one_more : (left : ℕ) (moves : List Move) (l : List ℕ) (plan : Plan) (test : Move → Bool) (number : ℕ)
    (told : Option Move) (more : Move → PlanReading) → move_told l ≡ told → list_all is_move_line moves ≡ true →
    with_move number test told more ≡ PlanOf plan →
    ((m : Move) → more m ≡ PlanOf plan → list_all is_move_line (moves ++ m ∷ []) ≡ true →
    AreInRange (length (moves ++ m ∷ []) + left) plan.moves) → AreInRange (length moves + suc left) plan.moves
one_more left moves l plan test number None more e all h k = absurd (cc)
one_more left moves l plan test number (Some m) more e all h k = by (test m) h
  where
    by : (b : Bool) → cond b (more m) (PlanFault number) ≡ PlanOf plan → AreInRange (length moves + suc left) plan.moves
    by false g = absurd (cc)
    by true g =
        let next = k m g (list_all-append is_move_line moves (m ∷ []) ∙ and_from _ _ all (and_from _ _ (move_in_range l m e) refl)) in
        let long = length-append moves (m ∷ []) in
        let many = next.many in
        record { lines = next.lines; many = omega arith }

moves_in_range : (number batches last left : ℕ) (moves : List Move) (lines : List (List ℕ)) (rest : List ℕ) (plan : Plan) →
    list_all is_move_line moves ≡ true → moves_from number batches last left moves lines rest ≡ PlanOf plan →
    AreInRange (length moves + left) plan.moves
moves_in_range number batches last zero moves [] [] plan all h =
    let same : record { batches = batches; moves = moves } ≡ plan = cc in
    let is : moves ≡ plan.moves = ap (λ (p : Plan). p.moves) same in
    let long = ap length is in
    record { lines = ap (list_all is_move_line) (sym is) ∙ all; many = omega arith }
moves_in_range number batches last zero moves [] (b ∷ rest) plan all h = absurd (cc)
moves_in_range number batches last (suc left) moves [] rest plan all h = absurd (cc)
moves_in_range number batches last zero moves (l ∷ lines) rest plan all h = absurd (cc)
moves_in_range number batches last (suc left) moves (l ∷ lines) rest plan all h =
    one_more left moves l plan (is_next_batch batches last left) number (move_told l)
    (λ m. moves_from (number + 1) batches m.batch left (moves ++ m ∷ []) lines rest) refl all h
    (λ m k next. moves_in_range (number + 1) batches m.batch left (moves ++ m ∷ []) lines rest plan next k)

few_told : (l : List ℕ) (h : PlanHead) → head_told l ≡ Some h → h.moves ≤ 4096
few_told l h e =
    let fields = fields_of l in
    let v : PlanHead = record { batches = number_value (field_at fields 1); moves = number_value (field_at fields 2) } in
    let t = then_told (is_plan_head v && bytes_eq l (spaced (codes "plan" ∷ decimal v.batches ∷ decimal v.moves ∷ []))) v h e in
    let ok = (and_parts (is_plan_head v) (bytes_eq l (spaced (codes "plan" ∷ decimal v.batches ∷ decimal v.moves ∷ []))) t.0).0 in
    by (h.batches == 0) (ap is_plan_head (sym t.1) ∙ ok)
  where
    by : (b : Bool) → cond b (h.moves == 0) (nat_le h.batches h.moves && nat_le h.moves 4096) ≡ true → h.moves ≤ 4096
    by true k = let none = eqb-true h.moves 0 k in omega arith
    by false k = leb-true h.moves 4096 (and_parts (nat_le h.batches h.moves) (nat_le h.moves 4096) k).1

pub record IsInRange (plan : Plan) : Type 0 where
  pub lines : list_all is_move_line plan.moves ≡ true
  pub few : length plan.moves ≤ 4096

counted : (l : List ℕ) (lines : List (List ℕ)) (rest : List ℕ) (plan : Plan) (h : Option PlanHead) → head_told l ≡ h →
    moves_counted h lines rest ≡ PlanOf plan → IsInRange plan
counted l lines rest plan None e k = absurd (cc)
counted l lines rest plan (Some h) e k =
    let r = moves_in_range 2 h.batches 0 h.moves [] lines rest plan refl k in
    let few = few_told l h e in
    let many : length plan.moves ≡ 0 + h.moves = r.many in
    record { lines = r.lines; few = omega arith }

by_lines : (lines : List (List ℕ)) (rest : List ℕ) (plan : Plan) → plan_lines lines rest ≡ PlanOf plan → IsInRange plan
by_lines [] rest plan h = absurd (cc)
by_lines (l ∷ lines) rest plan h = counted l lines rest plan (head_told l) refl h

pub plan-in-range : (bytes : List ℕ) (plan : Plan) → plan_reading bytes ≡ PlanOf plan → IsInRange plan
plan-in-range bytes plan h = by_lines (whole_lines bytes).0 (whole_lines bytes).1 plan h
