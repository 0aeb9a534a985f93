-- The fields of a move's line are read as the move.
use Rattle.std.proofs.Common.{◌≡◌, refl, sym, ◌∙◌, ap, ℕ, ℤ, Bool, true, false, cond, ◌&&◌, List, [], ◌∷◌, ◌++◌, drop, Option, Some, None, arith}
use Rattle.std.specs.Prelude.{codes, bytes_eq, nat_le}
use Rattle.std.specs.Option.{option_map, option_to_list}
use Rattle.std.specs.List.{list_all}
use Rattle.std.specs.Fmt.{decimal, signed_decimal}
use Rattle.std.proofs.lemmas.Bool.{and_parts, and_from, leb-true}
use Rattle.std.proofs.lemmas.List.{append_cancel_right}
use Rattle.std.proofs.lemmas.Slice.Eq.{bytes_eq-Decides}
use Rattle.eon_model.specs.Names.{Name, is_name}
use Rattle.eon_model.specs.Numerals.{is_within}
use Rattle.eon_model.specs.CommandText.{is_centre}
use Rattle.eon_model.specs.NetworkFault.{Fields}
use Rattle.eon_model.specs.Plan as model
use Rattle.eon_model.specs.ReplyText.{rest_words, after_words, move_line}
use Rattle.eon_model.specs.Spelling.{spaced, fields_of}
use Rattle.eon_model.specs.PlanTexts as texts
use Rattle.eon_model.specs.PlanTexts.{rest_names, is_move_line, move_read}
use Rattle.eon_model.proofs.WholeLines.{told_by}
use Rattle.eon_model.proofs.MovesAgain.{move_words, move-again, word-lacks, fields-again, space}
use Rattle.eon_model.proofs.OrderLaws.{AllOf}
use Rattle.eon_model.proofs.ListLaws.{AllOf-append}
use Rattle.eon_model.proofs.SplitLaws.{lacks}
use Rattle.eon_model.proofs.SpellingLaws.{decimal-lacks, signed-lacks, centre-IsSmall, name-lacks}
use Rattle.eon_base.specs.Names.{name_of}
use Rattle.net_file.specs.Readings.{first_read, is_nil}
use Rattle.net_file.proofs.SplitText.{spaced-fields}
use Rattle.plan_texts.specs.Fields.{◌>>=◌, guarded, number_within, centre_of, is_first}
use Rattle.plan_texts.specs.Told.{rest_told, move_told}
use Rattle.plan_texts.specs.Moves.{rest_at, behind_rest, last_name, after_by, after_at, waits_rightly, move_of, by_after, by_rest, by_to, by_from, by_name, move_at}
use Rattle.plan_texts.specs.declared.moves.Rest.{Rest}
use Rattle.plan_texts.specs.declared.moves.Rest.TheVariants as rest
use Rattle.plan_texts.specs.declared.moves.Move.{Move}
use Rattle.plan_texts.proofs.FieldSteps.{taken, went_on, passed, mapped, same_reading, number-spelled, number-read, centre-spelled, centre-read, name-spelled, name-read, word-front, nothing-left}

-- ---- what was read

some_is : {X : Type 0} (x y : X) → Some x ≡ Some y → x ≡ y
some_is x y h = cc

record RestParts (fields : Fields) (r : Rest) : Type 0 where
  named : list_all is_name (rest_names (rest_told r)) ≡ true
  front : fields ≡ rest_words (rest_told r) ++ behind_rest r fields

-- a name behind the word
record Named (word : List ℕ) (fields : Fields) (name : Name) : Type 0 where
  ok : is_name name ≡ true
  is : fields ≡ word ∷ name ∷ drop 1 (drop 1 fields)

named_by : {A : Type 0} (make : Name → A) (word w : List ℕ) (fields : Fields) (r : A) → fields ≡ w ∷ drop 1 fields →
    bytes_eq w word ≡ true → option_map make (first_read name_of (drop 1 fields)) ≡ Some r →
    (name : Name) × (Named word fields name) × (make name ≡ r)
named_by make word w fields r front e h =
    let m = mapped make (first_read name_of (drop 1 fields)) r h in
    let t = taken name_of (drop 1 fields) (λ (x : Name). Some x) m.0 (ap (λ (o : Option Name). o >>= λ x. Some x) m.1) in
    let s = name-spelled t.value t.field t.is in
    let same : t.value ≡ m.0 = some_is t.value m.0 t.more in
    let name = s.0 ∙ same in (
      m.0,
      record {
        ok = ap is_name (sym same) ∙ s.1;
        is = front ∙ (λ i. (bytes_eq-Decides w word).0 e i ∷ (t.front ∙ ap (λ n. n ∷ drop 1 (drop 1 fields)) name) i);
      },
      m.2,
    )

rest_cases : (fields : Fields) (w : List ℕ) (r : Rest) → fields ≡ w ∷ drop 1 fields → (floor on over : Bool) →
    bytes_eq w (codes "floor") ≡ floor → bytes_eq w (codes "on") ≡ on → bytes_eq w (codes "over") ≡ over →
    cond floor (Some rest.Floor) (cond on (option_map rest.On (first_read name_of (drop 1 fields)))
    (cond over (option_map rest.Over (first_read name_of (drop 1 fields))) None)) ≡ Some r → RestParts fields r
rest_cases fields w rest.Floor front true on over a b c h = record {
  named = refl;
  front = front ∙ ap (λ v. v ∷ drop 1 fields) ((bytes_eq-Decides w (codes "floor")).0 a);
}
rest_cases fields w (rest.On name) front true on over a b c h = absurd (cc)
rest_cases fields w (rest.Over name) front true on over a b c h = absurd (cc)
rest_cases fields w r front false true over a b c h =
    let n = named_by rest.On (codes "on") w fields r front b h in
    on_parts n.0 r n.1 n.2
  where
    on_parts : (name : Name) (r : Rest) → Named (codes "on") fields name → rest.On name ≡ r → RestParts fields r
    on_parts name rest.Floor n e = absurd (cc)
    on_parts name (rest.On other) n e =
        let same : name ≡ other = cc in record {
          named = and_from _ _ (ap is_name (sym same) ∙ n.ok) refl;
          front = n.is ∙ ap (λ v. codes "on" ∷ v ∷ drop 1 (drop 1 fields)) same;
        }
    on_parts name (rest.Over other) n e = absurd (cc)
rest_cases fields w r front false false true a b c h =
    let n = named_by rest.Over (codes "over") w fields r front c h in
    over_parts n.0 r n.1 n.2
  where
    over_parts : (name : Name) (r : Rest) → Named (codes "over") fields name → rest.Over name ≡ r → RestParts fields r
    over_parts name rest.Floor n e = absurd (cc)
    over_parts name (rest.On other) n e = absurd (cc)
    over_parts name (rest.Over other) n e =
        let same : name ≡ other = cc in record {
          named = and_from _ _ (ap is_name (sym same) ∙ n.ok) refl;
          front = n.is ∙ ap (λ v. codes "over" ∷ v ∷ drop 1 (drop 1 fields)) same;
        }
rest_cases fields w r front false false false a b c h = absurd (cc)

rest_parts : (fields : Fields) (r : Rest) → rest_at fields ≡ Some r → RestParts fields r
unfolding rest_at
rest_parts [] r h = absurd (cc)
rest_parts (w ∷ behind) r h = rest_cases (w ∷ behind) w r refl (bytes_eq w (codes "floor")) (bytes_eq w (codes "on"))
    (bytes_eq w (codes "over")) refl refl refl h

record AfterParts (fields : Fields) (after : Option Name) : Type 0 where
  named : list_all is_name (option_to_list after) ≡ true
  front : fields ≡ after_words after

ended_by : (b : Bool) (name : Name) (after : Option Name) → cond b (Some (Some name)) None ≡ Some after →
    (b ≡ true) × (Some name ≡ after)
ended_by true name after h = (refl, (cc))
ended_by false name after h = absurd (cc)

after_some : (fields : Fields) (after : Option Name) → after_by fields ≡ Some after → AfterParts fields after
after_some fields after h =
    let g = passed (is_first (codes "after") fields) _ after h in
    let t = taken name_of (drop 1 fields) (last_name (drop 1 fields)) after g.1 in
    let s = name-spelled t.value t.field t.is in
    let e = ended_by (is_nil (drop 1 (drop 1 fields))) t.value after t.more in
    by t.value after s.1 e.1 (word-front (codes "after") fields g.0
    ∙ ap (λ (fs : Fields). codes "after" ∷ fs) (t.front ∙ (λ i. s.0 i ∷ nothing-left (drop 1 (drop 1 fields)) e.0 i)))
  where
    by : (name : Name) (after : Option Name) → is_name name ≡ true → Some name ≡ after →
        fields ≡ codes "after" ∷ name ∷ [] → AfterParts fields after
    by name None ok e f = absurd (cc)
    by name (Some other) ok e f =
        let same : name ≡ other = cc in record {
          named = and_from _ _ (ap is_name (sym same) ∙ ok) refl;
          front = f ∙ ap (λ v. codes "after" ∷ v ∷ []) same;
        }

after_cases : (fields : Fields) (after : Option Name) (none : Bool) → is_nil fields ≡ none →
    cond none (Some None) (after_by fields) ≡ Some after → AfterParts fields after
after_cases fields None true e h = record { named = refl; front = nothing-left fields e }
after_cases fields (Some name) true e h = absurd (cc)
after_cases fields after false e h = after_some fields after h

after_parts : (fields : Fields) (after : Option Name) → after_at fields ≡ Some after → AfterParts fields after
unfolding after_at
after_parts fields after h = after_cases fields after (is_nil fields) refl h

-- the fields are the words of the move, which is in range
record MoveParts (fields : Fields) (m : Move) : Type 0 where
  front : fields ≡ move_words (move_told m)
  ok : is_move_line (move_told m) ≡ true

record Ranges (m : Move) : Type 0 where
  batch : is_within 1 4096 m.batch ≡ true
  name : is_name m.name ≡ true
  from : is_centre m.from ≡ true
  to : is_centre m.to ≡ true
  rest : list_all is_name (rest_names (rest_told m.rest)) ≡ true
  after : list_all is_name (option_to_list m.after) ≡ true
  waits : waits_rightly m.batch m.after ≡ true

in_range : (m : Move) → Ranges m → is_move_line (move_told m) ≡ true
in_range m r = and_from _ _ (and_from _ _ (and_from _ _ (and_from _ _ (and_from _ _ (and_from _ _
    r.batch r.name) r.from) r.to) r.rest) r.after) r.waits

made : (batch : ℕ) (name : Name) (from to : ℤ) (r : Rest) (after : Option Name) (m : Move) →
    move_of batch name from to r after ≡ Some m → (waits_rightly batch after ≡ true)
    × (record { batch = batch; name = name; from = from; to = to; rest = r; after = after } ≡ m)
made batch name from to r after m h =
    let v : Move = record { batch = batch; name = name; from = from; to = to; rest = r; after = after } in
    let g = passed (waits_rightly batch after) (Some v) m h in
    (g.0, (let e : Some v ≡ Some m = g.1 in cc))

move_parts : (fields : Fields) (m : Move) → move_at fields ≡ Some m → MoveParts fields m
unfolding move_at
move_parts fields m h =
    let f1 = drop 1 fields in
    let f2 = drop 1 f1 in
    let f3 = drop 1 f2 in
    let f4 = drop 1 f3 in
    let f5 = drop 1 f4 in
    let g = passed (is_first (codes "move") fields) (first_read (number_within 1 4096) f1 >>= by_name f1) m h in
    let b = taken (number_within 1 4096) f1 (by_name f1) m g.1 in
    let n = taken name_of f2 (by_from b.value f2) m b.more in
    let p = taken centre_of f3 (by_to b.value n.value f3) m n.more in
    let q = taken centre_of f4 (by_rest b.value n.value p.value f4) m p.more in
    let r = went_on (rest_at f5) (by_after b.value n.value p.value q.value f5) m q.more in
    let a = went_on (after_at (behind_rest r.0 f5)) (move_of b.value n.value p.value q.value r.0) m r.2 in
    let v = made b.value n.value p.value q.value r.0 a.0 m a.2 in
    let batch = number-spelled 1 4096 b.value b.field (omega arith) b.is in
    let name = name-spelled n.value n.field n.is in
    let from = centre-spelled p.value p.field p.is in
    let to = centre-spelled q.value q.field q.is in
    let tail = rest_parts f5 r.0 r.1 in
    let after = after_parts (behind_rest r.0 f5) a.0 a.1 in
    let it : Move = record { batch = b.value; name = n.value; from = p.value; to = q.value; rest = r.0; after = a.0 } in
    let ranges : Ranges it = record {
      batch = batch.1;
      name = name.1;
      from = from.1;
      to = to.1;
      rest = tail.named;
      after = after.named;
      waits = v.0;
    } in
    let last : f5 ≡ rest_words (rest_told r.0) ++ after_words a.0 =
    tail.front ∙ ap (λ (fs : Fields). rest_words (rest_told r.0) ++ fs) after.front in
    let fifth : f4 ≡ signed_decimal q.value ∷ rest_words (rest_told r.0) ++ after_words a.0 =
    q.front ∙ (λ i. to.0 i ∷ last i) in
    let fourth : f3 ≡ signed_decimal p.value ∷ signed_decimal q.value ∷ rest_words (rest_told r.0) ++ after_words a.0 =
    p.front ∙ (λ i. from.0 i ∷ fifth i) in
    let third : f2 ≡ n.value ∷ signed_decimal p.value ∷ signed_decimal q.value ∷ rest_words (rest_told r.0) ++ after_words a.0 =
    n.front ∙ (λ i. name.0 i ∷ fourth i) in
    let words : fields ≡ move_words (move_told it) =
    word-front (codes "move") fields g.0 ∙ ap (λ (fs : Fields). codes "move" ∷ fs) (b.front ∙ (λ i. batch.0 i ∷ third i)) in
    record {
      front = words ∙ ap (λ (w : Move). move_words (move_told w)) v.1;
      ok = ap (λ (w : Move). is_move_line (move_told w)) (sym v.1) ∙ in_range it ranges;
    }

-- ---- what is read

abbrev rest_coded : model.Rest → Rest
rest_coded model.Floor = rest.Floor
rest_coded (model.On name) = rest.On name
rest_coded (model.Over name) = rest.Over name

rest_same : (r : model.Rest) → rest_told (rest_coded r) ≡ r
rest_same model.Floor = refl
rest_same (model.On name) = refl
rest_same (model.Over name) = refl

rest_back : (r : model.Rest) (behind : Fields) → list_all is_name (rest_names r) ≡ true →
    rest_at (rest_words r ++ behind) ≡ Some (rest_coded r)
unfolding rest_at
rest_back model.Floor behind h = refl
rest_back (model.On name) behind h = ap (option_map rest.On) (name-read name (and_parts (is_name name) true h).0)
rest_back (model.Over name) behind h = ap (option_map rest.Over) (name-read name (and_parts (is_name name) true h).0)

behind_back : (r : model.Rest) (behind : Fields) → behind_rest (rest_coded r) (rest_words r ++ behind) ≡ behind
behind_back model.Floor behind = refl
behind_back (model.On name) behind = refl
behind_back (model.Over name) behind = refl

after_back : (after : Option Name) → list_all is_name (option_to_list after) ≡ true → after_at (after_words after) ≡ Some after
unfolding after_at
after_back None h = refl
after_back (Some name) h =
    ap (λ (o : Option Name). o >>= last_name (name ∷ [])) (name-read name (and_parts (is_name name) true h).0)

abbrev coded : model.Move → Move
coded m = record { batch = m.batch; name = m.name; from = m.from; to = m.to; rest = rest_coded m.rest; after = m.after }

record Given (m : model.Move) : Type 0 where
  batch : is_within 1 4096 m.batch ≡ true
  name : is_name m.name ≡ true
  from : is_centre m.from ≡ true
  to : is_centre m.to ≡ true
  rest : list_all is_name (rest_names m.rest) ≡ true
  after : list_all is_name (option_to_list m.after) ≡ true
  waits : waits_rightly m.batch m.after ≡ true

given : (m : model.Move) → is_move_line m ≡ true → Given m
given m h =
    let a = and_parts (is_within 1 4096 m.batch && is_name m.name && is_centre m.from && is_centre m.to
    && list_all is_name (rest_names m.rest) && list_all is_name (option_to_list m.after)) (waits_rightly m.batch m.after) h in
    let b = and_parts (is_within 1 4096 m.batch && is_name m.name && is_centre m.from && is_centre m.to
    && list_all is_name (rest_names m.rest)) (list_all is_name (option_to_list m.after)) a.0 in
    let c = and_parts (is_within 1 4096 m.batch && is_name m.name && is_centre m.from && is_centre m.to)
    (list_all is_name (rest_names m.rest)) b.0 in
    let d = and_parts (is_within 1 4096 m.batch && is_name m.name && is_centre m.from) (is_centre m.to) c.0 in
    let e = and_parts (is_within 1 4096 m.batch && is_name m.name) (is_centre m.from) d.0 in
    let f = and_parts (is_within 1 4096 m.batch) (is_name m.name) e.0 in
    record { batch = f.0; name = f.1; from = e.1; to = d.1; rest = c.1; after = b.1; waits = a.1 }

move_back : (m : model.Move) → is_move_line m ≡ true → move_at (move_words m) ≡ Some (coded m)
unfolding move_at
move_back m h =
    let g = given m h in
    let f5 = rest_words m.rest ++ after_words m.after in
    let f4 = signed_decimal m.to ∷ f5 in
    let f3 = signed_decimal m.from ∷ f4 in
    let f2 = m.name ∷ f3 in
    let f1 = decimal m.batch ∷ f2 in
    ap (λ (o : Option ℕ). o >>= by_name f1) (number-read 1 4096 m.batch (omega arith) g.batch)
    ∙ ap (λ (o : Option Name). o >>= by_from m.batch f2) (name-read m.name g.name)
    ∙ ap (λ (o : Option ℤ). o >>= by_to m.batch m.name f3) (centre-read m.from g.from)
    ∙ ap (λ (o : Option ℤ). o >>= by_rest m.batch m.name m.from f4) (centre-read m.to g.to)
    ∙ ap (λ (o : Option Rest). o >>= by_after m.batch m.name m.from m.to f5) (rest_back m.rest (after_words m.after) g.rest)
    ∙ ap (λ (fs : Fields). after_at fs >>= move_of m.batch m.name m.from m.to (rest_coded m.rest)) (behind_back m.rest (after_words m.after))
    ∙ ap (λ (o : Option (Option Name)). o >>= move_of m.batch m.name m.from m.to (rest_coded m.rest)) (after_back m.after g.after)
    ∙ ap (λ b. guarded b (Some (coded m))) g.waits

coded_told : (m : model.Move) → move_told (coded m) ≡ m
coded_told m = ap (λ (r : model.Rest). record m { rest = r }) (rest_same m.rest)

-- ---- words without spaces

rest_lacks : (r : model.Rest) → list_all is_name (rest_names r) ≡ true → AllOf (λ v. lacks 32 v ≡ true) (rest_words r)
rest_lacks model.Floor h = (word-lacks 32 space (codes "floor") refl, tt)
rest_lacks (model.On name) h =
    (word-lacks 32 space (codes "on") refl, (name-lacks 32 name refl (and_parts (is_name name) true h).0, tt))
rest_lacks (model.Over name) h =
    (word-lacks 32 space (codes "over") refl, (name-lacks 32 name refl (and_parts (is_name name) true h).0, tt))

after_lacks : (a : Option Name) → list_all is_name (option_to_list a) ≡ true → AllOf (λ v. lacks 32 v ≡ true) (after_words a)
after_lacks None h = tt
after_lacks (Some name) h =
    (word-lacks 32 space (codes "after") refl, (name-lacks 32 name refl (and_parts (is_name name) true h).0, tt))

words_lack : (m : model.Move) → is_move_line m ≡ true → AllOf (λ v. lacks 32 v ≡ true) (move_words m)
words_lack m h =
    let g = given m h in
    let most = leb-true m.batch 4096 (and_parts (nat_le 1 m.batch) (nat_le m.batch 4096) g.batch).1 in (
      word-lacks 32 space (codes "move") refl,
      (
        decimal-lacks 32 m.batch (omega arith) refl,
        (
          name-lacks 32 m.name refl g.name,
          (
            signed-lacks 32 m.from (centre-IsSmall m.from g.from) refl refl,
            (
              signed-lacks 32 m.to (centre-IsSmall m.to g.to) refl refl,
              AllOf-append (λ v. lacks 32 v ≡ true) (rest_words m.rest) (after_words m.after) (rest_lacks m.rest g.rest)
                  (after_lacks m.after g.after),
            ),
          ),
        ),
      ),
    )

-- ---- both

line_of : (line : List ℕ) (m : model.Move) → texts.move_told line ≡ Some m →
    (line ≡ spaced (move_words m)) × (is_move_line m ≡ true)
line_of line m h =
    let t = told_by (move_read (fields_of line)) (λ v. is_move_line v && bytes_eq (line ++ 10 ∷ []) (move_line v)) m h in
    let p = and_parts (is_move_line m) (bytes_eq (line ++ 10 ∷ []) (move_line m)) t.1 in
    (append_cancel_right line (spaced (move_words m)) (10 ∷ []) ((bytes_eq-Decides (line ++ 10 ∷ []) (move_line m)).0 p.1), p.0)

pub move-read : (line : List ℕ) → option_map move_told (move_at (fields_of line)) ≡ texts.move_told line
move-read line = same_reading (option_map move_told (move_at (fields_of line))) (texts.move_told line)
    (λ m h.
    let v = mapped move_told (move_at (fields_of line)) m h in
    let p = move_parts (fields_of line) v.0 v.1 in
    let words : fields_of line ≡ move_words m = p.front ∙ ap move_words v.2 in
    ap texts.move_told (sym (spaced-fields line) ∙ ap spaced words)
    ∙ move-again m (ap is_move_line (sym v.2) ∙ p.ok))
    (λ m h.
    let l = line_of line m h in
    let words : fields_of line ≡ move_words m = ap fields_of l.0
    ∙ fields-again (codes "move") (decimal m.batch ∷ m.name ∷ signed_decimal m.from ∷ signed_decimal m.to
    ∷ rest_words m.rest ++ after_words m.after) (words_lack m l.1) in
    ap (λ (fs : Fields). option_map move_told (move_at fs)) words ∙ ap (option_map move_told) (move_back m l.1)
    ∙ ap Some (coded_told m))
