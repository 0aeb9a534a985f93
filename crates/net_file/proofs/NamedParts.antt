-- Lines of formats, nodes, fibres and groups.
use Rattle.std.proofs.Common.{◌≡◌, refl, ◌∙◌, ap, ℕ, Bool, true, false, cond, ◌&&◌, List, [], ◌∷◌, Option, Some, None, is_some, arith}
use Rattle.std.specs.Prelude.{option_and_then}
use Rattle.std.specs.Bool.{then_some}
use Rattle.std.specs.Fmt.{decimal}
use Rattle.std.proofs.lemmas.Bool.{and_parts}
use Rattle.eon_model.specs.Names.{Name, is_name}
use Rattle.eon_model.specs.Numerals.{is_within, is_number, number_value}
use Rattle.eon_model.specs.NetworkFault.{Word, Field, Fields, AName, ANumber, Node, fields_after, has_form, has_ranges}
use Rattle.eon_model.specs.NetworkFault as model
use Rattle.net_file.specs.declared.line_words.FormatWords.{FormatWords}
use Rattle.net_file.specs.LineWords.{capped, format_words, node_words}
use Rattle.net_file.specs.Steps.{has_format_ranges, is_any}
use Rattle.net_file.proofs.FrontParts.{form_of, ranges_of, and_more, through, ReadsAs}
use Rattle.net_file.proofs.NumberParts.{cap, capped_range, capped_spelled}
use Rattle.eon_model.proofs.TextNumbers.{some_is}

-- ---- nodes

abbrev pub node_rest : Name → Fields
node_rest name = name ∷ []

pub node_reads : (earlier : List Fields) (word : List ℕ) (rest : Fields) → ReadsAs earlier Node word rest (node_words rest) is_any node_rest
unfolding node_words
node_reads earlier word [] = record {
  form = form_of Node (AName ∷ []) word [] refl;
  ranges = λ a e. cc;
  spelled = λ a e t. cc;
}
node_reads earlier word (x ∷ []) = record {
  form = form_of Node (AName ∷ []) word (x ∷ []) refl
      ∙ and_more (is_name x) x (λ (name : Name). then_some true name) true refl;
  ranges = λ a e. ranges_of earlier Node (AName ∷ []) word (x ∷ []) refl;
  spelled = λ a e t. let p = through (is_name x) x (λ (name : Name). then_some true name) a e in
      ap (λ (b : List ℕ). b ∷ []) (some_is x a p.1);
}
node_reads earlier word (x ∷ y ∷ rest) = record {
  form = form_of Node (AName ∷ []) word (x ∷ y ∷ rest) refl
      ∙ and_more (is_name x) x (λ (name : Name). then_some false name) false refl;
  ranges = λ a e. let p = through (is_name x) x (λ (name : Name). then_some false name) a e in cc;
  spelled = λ a e t. let p = through (is_name x) x (λ (name : Name). then_some false name) a e in cc;
}

-- ---- formats

abbrev pub format_rest : FormatWords → Fields
format_rest f = f.name ∷ decimal f.reach ∷ decimal f.per ∷ []

abbrev format_kinds : List Field
format_kinds = AName ∷ ANumber 1 100000 ∷ ANumber 1 10000 ∷ []

abbrev no_format_words : Option FormatWords
no_format_words = None

abbrev made_format : Bool → Name → ℕ → ℕ → Option FormatWords
made_format done name reach per = then_some done (record { name = name; reach = reach; per = per })

-- the reader of a format on three fields and what follows
abbrev on_three : Bool → List ℕ → List ℕ → List ℕ → Option FormatWords
on_three done x y z =
    option_and_then (λ (name : Name). option_and_then (λ (reach : ℕ). option_and_then (λ (per : ℕ).
    made_format done name reach per) (capped z)) (capped y)) (cond (is_name x) (Some x) None)

three_form : (done : Bool) (x y z : List ℕ) →
    (is_name x && (is_number y && (is_number z && done))) ≡ is_some (on_three done x y z)
three_form done x y z =
    let vy = cap (number_value y) in
    let vz = cap (number_value z) in
    and_more (is_name x) x (λ (name : Name). option_and_then (λ (reach : ℕ). option_and_then (λ (per : ℕ).
    made_format done name reach per) (capped z)) (capped y)) (is_number y && (is_number z && done))
    (and_more (is_number y) vy (λ (reach : ℕ). option_and_then (λ (per : ℕ). made_format done x reach per) (capped z))
    (is_number z && done)
    (and_more (is_number z) vz (λ (per : ℕ). made_format done x vy per) done (made done x vy vz)))
  where
    made : (done : Bool) (name : Name) (r p : ℕ) → done ≡ is_some (made_format done name r p)
    made true name r p = refl
    made false name r p = refl

record ThreeRead (done : Bool) (x y z : List ℕ) (f : FormatWords) : Type 0 where
  all : done ≡ true
  y_is : is_number y ≡ true
  z_is : is_number z ≡ true
  name : x ≡ f.name
  reach : cap (number_value y) ≡ f.reach
  per : cap (number_value z) ≡ f.per

three_made : (done : Bool) (x y z : List ℕ) (f : FormatWords) → is_number y ≡ true → is_number z ≡ true →
    made_format done x (cap (number_value y)) (cap (number_value z)) ≡ Some f → ThreeRead done x y z f
three_made true x y z f hy hz e =
    let is = some_is (record { name = x; reach = cap (number_value y); per = cap (number_value z) }) f e in
    record {
      all = refl;
      y_is = hy;
      z_is = hz;
      name = ap (λ (f : FormatWords). f.name) is;
      reach = ap (λ (f : FormatWords). f.reach) is;
      per = ap (λ (f : FormatWords). f.per) is;
    }
three_made false x y z f hy hz e = cc

three_read : (done : Bool) (x y z : List ℕ) (f : FormatWords) → on_three done x y z ≡ Some f → ThreeRead done x y z f
three_read done x y z f e =
    let vy = cap (number_value y) in
    let vz = cap (number_value z) in
    let p = through (is_name x) x (λ (name : Name). option_and_then (λ (reach : ℕ). option_and_then (λ (per : ℕ).
    made_format done name reach per) (capped z)) (capped y)) f e in
    let q = through (is_number y) vy (λ (reach : ℕ). option_and_then (λ (per : ℕ). made_format done x reach per) (capped z)) f p.1 in
    let r = through (is_number z) vz (λ (per : ℕ). made_format done x vy per) f q.1 in
    three_made done x y z f q.0 r.0 r.1

-- fewer than three fields
short_format : (b : Bool) (x : List ℕ) (f : FormatWords) →
    option_and_then (λ (name : Name). no_format_words) (cond b (Some x) None) ≡ Some f → ⊥
short_format true x f e = cc
short_format false x f e = cc

no_format : (b : Bool) (x : List ℕ) → (b && false) ≡ is_some (option_and_then (λ (name : Name). no_format_words) (cond b (Some x) None))
no_format true x = refl
no_format false x = refl

format_ranges : (f : FormatWords) (y z : List ℕ) → cap (number_value y) ≡ f.reach → cap (number_value z) ≡ f.per →
    ((is_within 1 100000 (number_value y) && (is_within 1 10000 (number_value z) && true)) && true) ≡ has_format_ranges f
format_ranges f y z ey ez =
    plain (is_within 1 100000 (number_value y)) (is_within 1 10000 (number_value z))
    ∙ (λ i. (capped_range 1 100000 (number_value y) (omega arith) ∙ ap (is_within 1 100000) ey) i
    && (capped_range 1 10000 (number_value z) (omega arith) ∙ ap (is_within 1 10000) ez) i)
  where
    plain : (a b : Bool) → ((a && (b && true)) && true) ≡ (a && b)
    plain true true = refl
    plain true false = refl
    plain false b = refl

pub format_reads : (earlier : List Fields) (word : List ℕ) (rest : Fields) →
    ReadsAs earlier model.Format word rest (format_words rest) has_format_ranges format_rest
unfolding format_words
format_reads earlier word [] = record {
  form = form_of model.Format format_kinds word [] refl;
  ranges = λ a e. cc;
  spelled = λ a e t. cc;
}
format_reads earlier word (x ∷ []) = record {
  form = form_of model.Format format_kinds word (x ∷ []) refl ∙ no_format (is_name x) x;
  ranges = λ a e. absurd (short_format (is_name x) x a e);
  spelled = λ a e t. absurd (short_format (is_name x) x a e);
}
format_reads earlier word (x ∷ y ∷ []) = record {
  form = form_of model.Format format_kinds word (x ∷ y ∷ []) refl
      ∙ and_more (is_name x) x (λ (name : Name). option_and_then (λ (reach : ℕ). no_format_words) (capped y)) (is_number y && false)
      (and_more (is_number y) (cap (number_value y)) (λ (reach : ℕ). no_format_words) false refl);
  ranges = λ a e.
      let p = through (is_name x) x (λ (name : Name). option_and_then (λ (reach : ℕ). no_format_words) (capped y)) a e in
      let q = through (is_number y) (cap (number_value y)) (λ (reach : ℕ). no_format_words) a p.1 in cc;
  spelled = λ a e t.
      let p = through (is_name x) x (λ (name : Name). option_and_then (λ (reach : ℕ). no_format_words) (capped y)) a e in
      let q = through (is_number y) (cap (number_value y)) (λ (reach : ℕ). no_format_words) a p.1 in cc;
}
format_reads earlier word (x ∷ y ∷ z ∷ []) = record {
  form = form_of model.Format format_kinds word (x ∷ y ∷ z ∷ []) refl ∙ three_form true x y z;
  ranges = λ a e. let r = three_read true x y z a e in
      ranges_of earlier model.Format format_kinds word (x ∷ y ∷ z ∷ []) refl ∙ format_ranges a y z r.reach r.per;
  spelled = λ a e t.
      let r = three_read true x y z a e in
      let p = and_parts (is_within 1 100000 a.reach) (is_within 1 10000 a.per) t in
      let reach = capped_spelled 1 100000 y (omega arith) r.y_is (ap (is_within 1 100000) r.reach ∙ p.0)
      ∙ ap decimal r.reach in
      let per = capped_spelled 1 10000 z (omega arith) r.z_is (ap (is_within 1 10000) r.per ∙ p.1) ∙ ap decimal r.per in
      λ i. r.name i ∷ reach i ∷ per i ∷ [];
}
format_reads earlier word (x ∷ y ∷ z ∷ u ∷ rest) = record {
  form = form_of model.Format format_kinds word (x ∷ y ∷ z ∷ u ∷ rest) refl ∙ three_form false x y z;
  ranges = λ a e. let r = three_read false x y z a e in let k = r.all in cc;
  spelled = λ a e t. let r = three_read false x y z a e in let k = r.all in cc;
}
