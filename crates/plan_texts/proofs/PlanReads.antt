-- The first line of a plan, and its moves line by line.
use Rattle.std.proofs.Common.{◌≡◌, refl, sym, ◌∙◌, ap, ℕ, zero, suc, ◌+◌, ◌-◌, ◌≤◌, ◌<◌, ◌^◌, Bool, true, false, cond, ◌&&◌, List, [], ◌∷◌, ◌++◌, drop, Option, Some, None, arith}
use Rattle.std.specs.Prelude.{codes, bytes_eq, ◌==◌, nat_le}
use Rattle.std.specs.Bool.{then_some}
use Rattle.std.specs.Option.{option_map}
use Rattle.std.specs.Fmt.{decimal}
use Rattle.std.proofs.lemmas.Bool.{and_parts, and_from, leb-true, le-leb, eqb-true}
use Rattle.std.proofs.lemmas.Slice.Eq.{bytes_eq-Decides}
use Rattle.eon_model.specs.Numerals.{is_within, number_value}
use Rattle.eon_model.specs.NetworkFault.{Fields, field_at}
use Rattle.eon_model.specs.Spelling.{spaced, fields_of}
use Rattle.eon_model.specs.Plan.{Move}
use Rattle.eon_model.specs.PlanTexts.{move_told}
use Rattle.eon_model.specs.PlanReadings.{PlanReading, PlanOf, PlanFault, PlanHead, is_plan_head, head_told, is_next_batch, with_move, moves_from, moves_counted, plan_lines}
use Rattle.eon_model.proofs.OrderLaws.{AllOf}
use Rattle.eon_model.proofs.SplitLaws.{lacks}
use Rattle.eon_model.proofs.SpellingLaws.{decimal-lacks, number_value-decimal}
use Rattle.eon_model.proofs.WholeLines.{then_told}
use Rattle.eon_model.proofs.MovesAgain.{word-lacks, fields-again, space}
use Rattle.net_file.specs.Readings.{first_read, is_nil, has_nothing}
use Rattle.net_file.proofs.SplitText.{spaced-fields}
use Rattle.plan_texts.specs.Fields.{◌>>=◌, guarded, kept, number_within, is_first}
use Rattle.plan_texts.specs.Plans.{has_few_batches, head_of, by_moves, head_at, model_head}
use Rattle.plan_texts.specs.declared.plan.Head.{Head}
use Rattle.plan_texts.proofs.FieldSteps.{taken, passed, mapped, same_reading, number-spelled, number-read, word-front, nothing-left}

-- ---- the first line

abbrev head_words : ℕ → ℕ → List (List ℕ)
head_words batches moves = codes "plan" ∷ decimal batches ∷ decimal moves ∷ []

few_head : (batches moves : ℕ) (none : Bool) → (batches == 0) ≡ none → nat_le moves 4096 ≡ true →
    cond none (moves == 0) (nat_le batches moves) ≡ true →
    cond none (moves == 0) (nat_le batches moves && nat_le moves 4096) ≡ true
few_head batches moves true e h k = k
few_head batches moves false e h k = and_from _ _ k h

record HeadParts (fields : Fields) (h : Head) : Type 0 where
  front : fields ≡ head_words h.batches h.moves
  ok : is_plan_head (model_head h) ≡ true
  few : h.moves ≤ 4096

head_parts : (fields : Fields) (h : Head) → head_at fields ≡ Some h → HeadParts fields h
unfolding head_at
head_parts fields h k =
    let f1 = drop 1 fields in
    let f2 = drop 1 f1 in
    let g = passed (is_first (codes "plan") fields) (first_read (number_within 0 4096) f1 >>= by_moves f1) h k in
    let b = taken (number_within 0 4096) f1 (by_moves f1) h g.1 in
    let m = taken (number_within 0 4096) f2 (head_of b.value f2) h b.more in
    let it : Head = record { batches = b.value; moves = m.value } in
    let e = passed (is_nil (drop 1 f2)) (guarded (has_few_batches b.value m.value) (Some it)) h m.more in
    let f = passed (has_few_batches b.value m.value) (Some it) h e.1 in
    let same : it ≡ h = (let s : Some it ≡ Some h = f.1 in cc) in
    let batches = number-spelled 0 4096 b.value b.field (omega arith) b.is in
    let moves = number-spelled 0 4096 m.value m.field (omega arith) m.is in
    let most = (and_parts (nat_le 0 m.value) (nat_le m.value 4096) moves.1).1 in
    let second : f2 ≡ decimal m.value ∷ [] = m.front ∙ (λ i. moves.0 i ∷ nothing-left (drop 1 f2) e.0 i) in
    let words : fields ≡ head_words b.value m.value =
    word-front (codes "plan") fields g.0 ∙ ap (λ (fs : Fields). codes "plan" ∷ fs) (b.front ∙ (λ i. batches.0 i ∷ second i)) in
    record {
      front = words ∙ ap (λ (v : Head). head_words v.batches v.moves) same;
      ok = ap (λ (v : Head). is_plan_head (model_head v)) (sym same)
          ∙ few_head b.value m.value (b.value == 0) refl most f.0;
      few = (let l = leb-true m.value 4096 most in let s = ap (λ (v : Head). v.moves) same in omega arith);
    }

record HeadGiven (batches moves : ℕ) : Type 0 where
  batches_in : batches ≤ 4096
  moves_in : moves ≤ 4096
  fewer : has_few_batches batches moves ≡ true

head_given : (batches moves : ℕ) (none : Bool) → (batches == 0) ≡ none →
    cond none (moves == 0) (nat_le batches moves && nat_le moves 4096) ≡ true →
    (batches ≤ 4096) × (moves ≤ 4096) × (cond none (moves == 0) (nat_le batches moves) ≡ true)
head_given batches moves true e h =
    let b = eqb-true batches 0 e in
    let m = eqb-true moves 0 h in
    ((omega arith), (omega arith), h)
head_given batches moves false e h =
    let p = and_parts (nat_le batches moves) (nat_le moves 4096) h in
    let b = leb-true batches moves p.0 in
    let m = leb-true moves 4096 p.1 in
    ((omega arith), m, p.0)

within-most : (n : ℕ) → n ≤ 4096 → is_within 0 4096 n ≡ true
within-most n h = and_from _ _ (le-leb 0 n (omega arith)) (le-leb n 4096 h)

head_back : (batches moves : ℕ) → is_plan_head (record { batches = batches; moves = moves }) ≡ true →
    head_at (head_words batches moves) ≡ Some (record { batches = batches; moves = moves })
unfolding head_at
head_back batches moves h =
    let g = head_given batches moves (batches == 0) refl h in
    let f2 = decimal moves ∷ [] in
    let f1 = decimal batches ∷ f2 in
    ap (λ (o : Option ℕ). o >>= by_moves f1) (number-read 0 4096 batches (omega arith) (within-most batches g.0))
    ∙ ap (λ (o : Option ℕ). o >>= head_of batches f2) (number-read 0 4096 moves (omega arith) (within-most moves g.1))
    ∙ ap (λ b. guarded b (Some (record { batches = batches; moves = moves }))) g.2

head_lacks : (batches moves : ℕ) → batches < 2 ^ 64 → moves < 2 ^ 64 → AllOf (λ v. lacks 32 v ≡ true) (head_words batches moves)
head_lacks batches moves h k =
    (word-lacks 32 space (codes "plan") refl, (decimal-lacks 32 batches h refl, (decimal-lacks 32 moves k refl, tt)))

head_again : (batches moves : ℕ) → batches < 2 ^ 64 → moves < 2 ^ 64 →
    is_plan_head (record { batches = batches; moves = moves }) ≡ true →
    head_told (spaced (head_words batches moves)) ≡ Some (record { batches = batches; moves = moves })
head_again batches moves h k ok =
    let text = spaced (head_words batches moves) in
    let at = λ (v : PlanHead). then_some (is_plan_head v && bytes_eq text (spaced (head_words v.batches v.moves))) v in
    ap (λ (fields : Fields). at (record { batches = number_value (field_at fields 1); moves = number_value (field_at fields 2) }))
    (fields-again (codes "plan") (decimal batches ∷ decimal moves ∷ []) (head_lacks batches moves h k))
    ∙ (λ i. at (record { batches = number_value-decimal batches h i; moves = number_value-decimal moves k i }))
    ∙ ap (λ b. then_some b (record { batches = batches; moves = moves }))
    (and_from _ _ ok ((bytes_eq-Decides text text).1 refl))

head_line : (line : List ℕ) (h : PlanHead) → head_told line ≡ Some h →
    (line ≡ spaced (head_words h.batches h.moves)) × (is_plan_head h ≡ true)
head_line line h e =
    let v : PlanHead = record { batches = number_value (field_at (fields_of line) 1); moves = number_value (field_at (fields_of line) 2) } in
    let t = then_told (is_plan_head v && bytes_eq line (spaced (head_words v.batches v.moves))) v h e in
    let p = and_parts (is_plan_head v) (bytes_eq line (spaced (head_words v.batches v.moves))) t.0 in (
      (bytes_eq-Decides line (spaced (head_words v.batches v.moves))).0 p.1
          ∙ ap (λ (w : PlanHead). spaced (head_words w.batches w.moves)) t.1,
      ap is_plan_head (sym t.1) ∙ p.0,
    )

pub head-few : (fields : Fields) (h : Head) → head_at fields ≡ Some h → h.moves ≤ 4096
head-few fields h k = (head_parts fields h k).few

pub head-read : (line : List ℕ) → option_map model_head (head_at (fields_of line)) ≡ head_told line
head-read line = same_reading (option_map model_head (head_at (fields_of line))) (head_told line)
    (λ h k.
    let v = mapped model_head (head_at (fields_of line)) h k in
    let p = head_parts (fields_of line) v.0 v.1 in
    let given = head_given v.0.batches v.0.moves (v.0.batches == 0) refl p.ok in
    ap head_told (sym (spaced-fields line) ∙ ap spaced p.front)
    ∙ head_again v.0.batches v.0.moves (let l = given.0 in omega arith) (let l = given.1 in omega arith) p.ok
    ∙ ap Some v.2)
    (λ h k.
    let l = head_line line h k in
    let given = head_given h.batches h.moves (h.batches == 0) refl l.1 in
    ap (λ (bytes : List ℕ). option_map model_head (head_at (fields_of bytes))) l.0
    ∙ ap (λ (fs : Fields). option_map model_head (head_at fs)) (fields-again (codes "plan") (decimal h.batches ∷ decimal h.moves ∷ [])
    (head_lacks h.batches h.moves (let m = given.0 in omega arith) (let m = given.1 in omega arith)))
    ∙ ap (option_map model_head) (head_back h.batches h.moves l.1))

-- ---- the moves

abbrev pub next_of : ℕ → ℕ → ℕ → List ℕ → Option Move
next_of batches last left line = kept (is_next_batch batches last left) (move_told line)

with_next : (number : ℕ) (test : Move → Bool) (o : Option Move) (more : Move → PlanReading) (m : Move) →
    kept test o ≡ Some m → with_move number test o more ≡ more m
with_next number test None more m h = absurd (cc)
with_next number test (Some v) more m h = by (test v) refl h
  where
    by : (b : Bool) → test v ≡ b → then_some b v ≡ Some m → with_move number test (Some v) more ≡ more m
    by true e k = (λ i. cond (e i) (more v) (PlanFault number)) ∙ (let same : v ≡ m = cc in ap more same)
    by false e k = absurd (cc)

with_none : (number : ℕ) (test : Move → Bool) (o : Option Move) (more : Move → PlanReading) →
    kept test o ≡ None → with_move number test o more ≡ PlanFault number
with_none number test None more h = refl
with_none number test (Some v) more h = by (test v) refl h
  where
    by : (b : Bool) → test v ≡ b → then_some b v ≡ None → with_move number test (Some v) more ≡ PlanFault number
    by true e k = absurd (cc)
    by false e k = λ i. cond (e i) (more v) (PlanFault number)

pub move-goes : (number batches last left : ℕ) (moves : List Move) (lines : List (List ℕ)) (rest : List ℕ) (m : Move) →
    first_read (next_of batches last left) lines ≡ Some m →
    moves_from number batches last (suc left) moves lines rest
    ≡ moves_from (number + 1) batches m.batch left (moves ++ m ∷ []) (drop 1 lines) rest
move-goes number batches last left moves [] rest m h = absurd (cc)
move-goes number batches last left moves (l ∷ lines) rest m h =
    with_next number (is_next_batch batches last left) (move_told l)
    (λ v. moves_from (number + 1) batches v.batch left (moves ++ v ∷ []) lines rest) m h

pub move-stops : (number batches last left : ℕ) (moves : List Move) (lines : List (List ℕ)) (rest : List ℕ) →
    first_read (next_of batches last left) lines ≡ None →
    moves_from number batches last (suc left) moves lines rest ≡ PlanFault number
move-stops number batches last left moves [] rest h = refl
move-stops number batches last left moves (l ∷ lines) rest h =
    with_none number (is_next_batch batches last left) (move_told l)
    (λ v. moves_from (number + 1) batches v.batch left (moves ++ v ∷ []) lines rest) h

pub moves-done : (number batches last : ℕ) (moves : List Move) (lines : List (List ℕ)) (rest : List ℕ) →
    has_nothing (lines, rest) ≡ true →
    moves_from number batches last zero moves lines rest ≡ PlanOf (record { batches = batches; moves = moves })
moves-done number batches last moves [] [] h = refl
moves-done number batches last moves [] (b ∷ rest) h = absurd (cc)
moves-done number batches last moves (l ∷ lines) rest h = absurd (cc)

pub moves-left : (number batches last : ℕ) (moves : List Move) (lines : List (List ℕ)) (rest : List ℕ) →
    has_nothing (lines, rest) ≡ false → moves_from number batches last zero moves lines rest ≡ PlanFault number
moves-left number batches last moves [] [] h = absurd (cc)
moves-left number batches last moves [] (b ∷ rest) h = refl
moves-left number batches last moves (l ∷ lines) rest h = refl

-- ---- the whole text, line by line

pub plan-begins : (lines : List (List ℕ)) (rest : List ℕ) (h : PlanHead) → first_read head_told lines ≡ Some h →
    plan_lines lines rest ≡ moves_from 2 h.batches 0 h.moves [] (drop 1 lines) rest
plan-begins [] rest h e = absurd (cc)
plan-begins (l ∷ lines) rest h e = ap (λ o. moves_counted o lines rest) e

pub plan-none : (lines : List (List ℕ)) (rest : List ℕ) → first_read head_told lines ≡ None →
    plan_lines lines rest ≡ PlanFault 1
plan-none [] rest e = refl
plan-none (l ∷ lines) rest e = ap (λ o. moves_counted o lines rest) e

pub goes-on : (all : PlanReading) (i batches last count : ℕ) (moves : List Move) (lines : List (List ℕ)) (rest : List ℕ)
    (m : Move) → i < count → first_read (next_of batches last (count - 1 - i)) lines ≡ Some m →
    all ≡ moves_from (i + 2) batches last (count - i) moves lines rest →
    all ≡ moves_from (i + 1 + 2) batches m.batch (count - (i + 1)) (moves ++ m ∷ []) (drop 1 lines) rest
goes-on all i batches last count moves lines rest m below e h =
    let more : count - i ≡ suc (count - 1 - i) = omega arith in
    let next : i + 2 + 1 ≡ i + 1 + 2 = omega arith in
    let fewer : count - 1 - i ≡ count - (i + 1) = omega arith in
    h ∙ ap (λ n. moves_from (i + 2) batches last n moves lines rest) more
    ∙ move-goes (i + 2) batches last (count - 1 - i) moves lines rest m e
    ∙ (λ k. moves_from (next k) batches m.batch (fewer k) (moves ++ m ∷ []) (drop 1 lines) rest)

pub stops-at : (all : PlanReading) (i batches last count : ℕ) (moves : List Move) (lines : List (List ℕ)) (rest : List ℕ) →
    i < count → first_read (next_of batches last (count - 1 - i)) lines ≡ None →
    all ≡ moves_from (i + 2) batches last (count - i) moves lines rest → all ≡ PlanFault (i + 2)
stops-at all i batches last count moves lines rest below e h =
    let more : count - i ≡ suc (count - 1 - i) = omega arith in
    h ∙ ap (λ n. moves_from (i + 2) batches last n moves lines rest) more
    ∙ move-stops (i + 2) batches last (count - 1 - i) moves lines rest e

pub whole-plan : (all : PlanReading) (i batches last count : ℕ) (moves : List Move) (lines : List (List ℕ)) (rest : List ℕ) →
    count ≤ i → has_nothing (lines, rest) ≡ true →
    all ≡ moves_from (i + 2) batches last (count - i) moves lines rest → all ≡ PlanOf (record { batches = batches; moves = moves })
whole-plan all i batches last count moves lines rest end e h =
    let none : count - i ≡ 0 = omega arith in
    h ∙ ap (λ n. moves_from (i + 2) batches last n moves lines rest) none ∙ moves-done (i + 2) batches last moves lines rest e

pub more-lines : (all : PlanReading) (i batches last count : ℕ) (moves : List Move) (lines : List (List ℕ)) (rest : List ℕ) →
    count ≡ i → has_nothing (lines, rest) ≡ false →
    all ≡ moves_from (i + 2) batches last (count - i) moves lines rest → all ≡ PlanFault (count + 2)
more-lines all i batches last count moves lines rest end e h =
    let none : count - i ≡ 0 = omega arith in
    h ∙ ap (λ n. moves_from (i + 2) batches last n moves lines rest) none ∙ moves-left (i + 2) batches last moves lines rest e
    ∙ ap (λ n. PlanFault (n + 2)) (sym end)
