-- The lines of a fibre and of a group.
use Rattle.std.proofs.Common.{◌≡◌, refl, sym, ◌∙◌, ap, ℕ, zero, suc, ◌-◌, Bool, true, false, cond, ◌&&◌, List, [], ◌∷◌, length, zip, replicate, Option, Some, None, is_some, arith}
use Rattle.std.specs.Prelude.{option_and_then}
use Rattle.std.specs.Bool.{then_some}
use Rattle.std.specs.List.{list_all}
use Rattle.std.specs.Fmt.{decimal}
use Rattle.eon_model.specs.Names.{Name, is_name}
use Rattle.eon_model.specs.Numerals.{is_within, is_number, number_value}
use Rattle.eon_model.specs.NetworkFault.{Word, Field, Fields, AName, ANumber, fields_after, is_in_range, has_form, has_ranges}
use Rattle.eon_model.specs.NetworkFault as model
use Rattle.net_file.specs.declared.line_words.FibreWords.{FibreWords}
use Rattle.net_file.specs.LineWords.{capped, fibre_words}
use Rattle.net_file.specs.Steps.{has_fibre_range, is_any, group_words}
use Rattle.net_file.proofs.FrontParts.{matches, form_of, ranges_of, and_more, through, ReadsAs}
use Rattle.net_file.proofs.NumberParts.{cap, capped_range, capped_spelled}
use Rattle.eon_model.proofs.TextNumbers.{some_is}

-- ---- fibres

abbrev pub fibre_rest : FibreWords → Fields
fibre_rest f = f.name ∷ f.a ∷ f.b ∷ decimal f.km ∷ []

abbrev fibre_kinds : List Field
fibre_kinds = AName ∷ AName ∷ AName ∷ ANumber 1 100000 ∷ []

abbrev no_fibre_words : Option FibreWords
no_fibre_words = None

abbrev made_fibre : Bool → Name → Name → Name → ℕ → Option FibreWords
made_fibre done name a b km = then_some done (record { name = name; a = a; b = b; km = km })

-- what is read of a name, and goes on
abbrev named : List ℕ → (Name → Option FibreWords) → Option FibreWords
named x go = option_and_then go (cond (is_name x) (Some x) None)

abbrev on_four : Bool → List ℕ → List ℕ → List ℕ → List ℕ → Option FibreWords
on_four done x y z u =
    named x (λ name. named y (λ a. named z (λ b. option_and_then (λ km. made_fibre done name a b km) (capped u))))

four_form : (done : Bool) (x y z u : List ℕ) →
    (is_name x && (is_name y && (is_name z && (is_number u && done)))) ≡ is_some (on_four done x y z u)
four_form done x y z u =
    let v = cap (number_value u) in
    and_more (is_name x) x
    (λ (name : Name). named y (λ a. named z (λ b. option_and_then (λ km. made_fibre done name a b km) (capped u))))
    (is_name y && (is_name z && (is_number u && done)))
    (and_more (is_name y) y (λ (a : Name). named z (λ b. option_and_then (λ km. made_fibre done x a b km) (capped u)))
    (is_name z && (is_number u && done))
    (and_more (is_name z) z (λ (b : Name). option_and_then (λ km. made_fibre done x y b km) (capped u))
    (is_number u && done)
    (and_more (is_number u) v (λ (km : ℕ). made_fibre done x y z km) done (made done v))))
  where
    made : (done : Bool) (v : ℕ) → done ≡ is_some (made_fibre done x y z v)
    made true v = refl
    made false v = refl

record FourRead (done : Bool) (x y z u : List ℕ) (f : FibreWords) : Type 0 where
  all : done ≡ true
  u_is : is_number u ≡ true
  name : x ≡ f.name
  a : y ≡ f.a
  b : z ≡ f.b
  km : cap (number_value u) ≡ f.km

four_made : (done : Bool) (x y z u : List ℕ) (f : FibreWords) → is_number u ≡ true →
    made_fibre done x y z (cap (number_value u)) ≡ Some f → FourRead done x y z u f
four_made true x y z u f hu e =
    let is = some_is (record { name = x; a = y; b = z; km = cap (number_value u) }) f e in
    record {
      all = refl;
      u_is = hu;
      name = ap (λ (f : FibreWords). f.name) is;
      a = ap (λ (f : FibreWords). f.a) is;
      b = ap (λ (f : FibreWords). f.b) is;
      km = ap (λ (f : FibreWords). f.km) is;
    }
four_made false x y z u f hu e = cc

four_read : (done : Bool) (x y z u : List ℕ) (f : FibreWords) → on_four done x y z u ≡ Some f →
    FourRead done x y z u f
four_read done x y z u f e =
    let v = cap (number_value u) in
    let p = through (is_name x) x
    (λ (name : Name). named y (λ a. named z (λ b. option_and_then (λ km. made_fibre done name a b km) (capped u)))) f e in
    let q = through (is_name y) y
    (λ (a : Name). named z (λ b. option_and_then (λ km. made_fibre done x a b km) (capped u))) f p.1 in
    let r = through (is_name z) z (λ (b : Name). option_and_then (λ km. made_fibre done x y b km) (capped u)) f q.1 in
    let s = through (is_number u) v (λ (km : ℕ). made_fibre done x y z km) f r.1 in
    four_made done x y z u f s.0 s.1

-- fewer than four fields are read as none
none_one : (x : List ℕ) → (is_name x && false) ≡ is_some (named x (λ name. no_fibre_words))
none_one x = and_more (is_name x) x (λ (name : Name). no_fibre_words) false refl

none_two : (x y : List ℕ) →
    (is_name x && (is_name y && false)) ≡ is_some (named x (λ name. named y (λ a. no_fibre_words)))
none_two x y = and_more (is_name x) x (λ (name : Name). named y (λ a. no_fibre_words)) (is_name y && false) (none_one y)

none_three : (x y z : List ℕ) → (is_name x && (is_name y && (is_name z && false)))
    ≡ is_some (named x (λ name. named y (λ a. named z (λ b. no_fibre_words))))
none_three x y z =
    and_more (is_name x) x (λ (name : Name). named y (λ a. named z (λ b. no_fibre_words)))
    (is_name y && (is_name z && false)) (none_two y z)

unread : (o : Option FibreWords) (f : FibreWords) → false ≡ is_some o → o ≡ Some f → ⊥
unread None f e k = cc
unread (Some g) f e k = cc

false_last : (a b c : Bool) → (a && (b && (c && false))) ≡ false
false_last true true true = refl
false_last true true false = refl
false_last true false c = refl
false_last false b c = refl

short_fibre : (earlier : List Fields) (word : List ℕ) (rest : Fields) → matches fibre_kinds rest ≡ is_some (fibre_words rest) →
    matches fibre_kinds rest ≡ false →
    ReadsAs earlier model.Fibre word rest (fibre_words rest) has_fibre_range fibre_rest
short_fibre earlier word rest form none = record {
  form = form_of model.Fibre fibre_kinds word rest refl ∙ form;
  ranges = λ a e. absurd (unread (fibre_words rest) a (sym none ∙ form) e);
  spelled = λ a e t. absurd (unread (fibre_words rest) a (sym none ∙ form) e);
}

pub fibre_reads : (earlier : List Fields) (word : List ℕ) (rest : Fields) →
    ReadsAs earlier model.Fibre word rest (fibre_words rest) has_fibre_range fibre_rest
unfolding fibre_words
fibre_reads earlier word [] = short_fibre earlier word [] refl refl
fibre_reads earlier word (x ∷ []) = short_fibre earlier word (x ∷ []) (none_one x) (false_last (is_name x) true true)
fibre_reads earlier word (x ∷ y ∷ []) = short_fibre earlier word (x ∷ y ∷ []) (none_two x y) (false_last (is_name x) (is_name y) true)
fibre_reads earlier word (x ∷ y ∷ z ∷ []) =
    short_fibre earlier word (x ∷ y ∷ z ∷ []) (none_three x y z) (false_last (is_name x) (is_name y) (is_name z))
fibre_reads earlier word (x ∷ y ∷ z ∷ u ∷ []) = record {
  form = form_of model.Fibre fibre_kinds word (x ∷ y ∷ z ∷ u ∷ []) refl ∙ four_form true x y z u;
  ranges = λ f e. let r = four_read true x y z u f e in
      ranges_of earlier model.Fibre fibre_kinds word (x ∷ y ∷ z ∷ u ∷ []) refl
      ∙ plain (is_within 1 100000 (number_value u)) ∙ capped_range 1 100000 (number_value u) (omega arith)
      ∙ ap (is_within 1 100000) r.km;
  spelled = λ f e t.
      let r = four_read true x y z u f e in
      let km = capped_spelled 1 100000 u (omega arith) r.u_is (ap (is_within 1 100000) r.km ∙ t) ∙ ap decimal r.km in
      λ i. r.name i ∷ r.a i ∷ r.b i ∷ km i ∷ [];
}
  where
    plain : (b : Bool) → ((b && true) && true) ≡ b
    plain true = refl
    plain false = refl
fibre_reads earlier word (x ∷ y ∷ z ∷ u ∷ v ∷ rest) = record {
  form = form_of model.Fibre fibre_kinds word (x ∷ y ∷ z ∷ u ∷ v ∷ rest) refl ∙ four_form false x y z u;
  ranges = λ f e. let r = four_read false x y z u f e in let k = r.all in cc;
  spelled = λ f e t. let r = four_read false x y z u f e in let k = r.all in cc;
}

-- ---- groups

abbrev pub group_rest : Name × List Name → Fields
group_rest g = g.0 ∷ g.1

all_names : (rest : Fields) → matches (replicate (length rest) AName) rest ≡ list_all is_name rest
all_names [] = refl
all_names (x ∷ rest) = ap (λ b. is_name x && b) (all_names rest)

free_names : (n : ℕ) (rest : Fields) → list_all is_in_range (zip (replicate n AName) rest) ≡ true
free_names zero rest = refl
free_names (suc n) [] = refl
free_names (suc n) (x ∷ rest) = free_names n rest

abbrev group_kinds : ℕ → List Field
group_kinds n = AName ∷ AName ∷ replicate n AName

group_after : (n : ℕ) → fields_after model.Group (suc (suc n)) ≡ group_kinds n
group_after n = let e : suc (suc n) - 2 ≡ n = omega arith in ap (λ k. AName ∷ AName ∷ replicate k AName) e

abbrev no_group : Option (Name × List Name)
no_group = None

is_read : (b : Bool) (g : Name × List Name) → b ≡ is_some (cond b (Some g) no_group)
is_read true g = refl
is_read false g = refl

read_is : (b : Bool) (g h : Name × List Name) → cond b (Some g) None ≡ Some h → g ≡ h
read_is true g h e = some_is g h e
read_is false g h e = cc

and_false : (b : Bool) → (b && false) ≡ false
and_false true = refl
and_false false = refl

pub group_reads : (earlier : List Fields) (word : List ℕ) (rest : Fields) →
    ReadsAs earlier model.Group word rest (group_words rest) is_any group_rest
group_reads earlier word [] = record {
  form = form_of model.Group (group_kinds 0) word [] refl;
  ranges = λ a e. cc;
  spelled = λ a e t. cc;
}
group_reads earlier word (x ∷ []) = record {
  form = form_of model.Group (group_kinds 0) word (x ∷ []) refl ∙ and_false (is_name x);
  ranges = λ a e. cc;
  spelled = λ a e t. cc;
}
group_reads earlier word (x ∷ y ∷ rest) = record {
  form = form_of model.Group (group_kinds (length rest)) word (x ∷ y ∷ rest) (group_after (length rest))
      ∙ ap (λ b. is_name x && (is_name y && b)) (all_names rest)
      ∙ is_read (is_name x && list_all is_name (y ∷ rest)) (x, y ∷ rest);
  ranges = λ a e.
      ranges_of earlier model.Group (group_kinds (length rest)) word (x ∷ y ∷ rest) (group_after (length rest))
      ∙ ap (λ b. b && true) (free_names (length rest) rest);
  spelled = λ a e t.
      let is = read_is (is_name x && list_all is_name (y ∷ rest)) (x, y ∷ rest) a e in
      ap (λ (g : Name × List Name). g.0 ∷ g.1) is;
}
