-- The causes of a line in two parts: those of its form and ranges, and those that depend on the lines before.
use Rattle.std.proofs.Common.{◌≡◌, refl, sym, ◌∙◌, ap, ℕ, Bool, true, false, cond, ◌&&◌, not, List, [], ◌∷◌, find, Option, Some, None, Result, Ok, Err}
use Rattle.std.specs.Prelude.{codes, bytes_eq}
use Rattle.std.specs.Option.{option_map}
use Rattle.std.specs.List.{list_all}
use Rattle.std.proofs.lemmas.Bool.{and_parts}
use Rattle.std.proofs.lemmas.Slice.Eq.{bytes_eq-Decides}
use Rattle.eon_model.specs.NetworkFault.{Fields, Word, Net, Band, Guard, K, Services, Journal, Node, End, NoWord, words, word_spelled, field_at, last_word, may_stand_after, has_its_parts, has_form, has_ranges, is_many, is_out_of_order, is_twice, has_unknown, ends_where_it_starts, is_in_a_ninth, first_why, cause_of, cause_with}
use Rattle.eon_model.specs.NetworkFault as model
use Rattle.eon_model.proofs.OrderLaws.{AllOf}
use Rattle.net_file.specs.declared.fault.Why.{Why}
use Rattle.net_file.specs.Told.{why_told}

-- ---- the two parts

-- what the form and the ranges say, and else the rest
abbrev pub front : List Fields → Word → Fields → Option model.Why → Option model.Why
front earlier w fields rest =
    cond (not (has_form w fields)) (Some model.Form) (cond (not (has_ranges earlier w fields)) (Some model.Range) rest)

-- what the lines before say
abbrev pub behind : List Fields → Word → Fields → Option model.Why
behind earlier w fields =
    cond (is_many earlier w fields) (Some model.Many)
    (cond (is_out_of_order earlier w fields) (Some model.Order)
    (cond (is_twice earlier w fields) (Some model.Twice)
    (cond (has_unknown earlier w fields) (Some model.Unknown)
    (cond (ends_where_it_starts w fields) (Some model.SelfEnd)
    (cond (is_in_a_ninth earlier w fields) (Some model.Groups) None)))))

first : (b : Bool) (w : model.Why) (rest : List (Bool × model.Why)) →
    first_why ((b, w) ∷ rest) ≡ cond b (Some w) (first_why rest)
first true w rest = refl
first false w rest = refl

nine : (a b c d e f g h i : Bool) →
    first_why ((a, NoWord) ∷ (b, model.Form) ∷ (c, model.Range) ∷ (d, model.Many) ∷ (e, model.Order) ∷ (f, model.Twice)
    ∷ (g, model.Unknown) ∷ (h, model.SelfEnd) ∷ (i, model.Groups) ∷ [])
    ≡ cond a (Some NoWord) (cond b (Some model.Form) (cond c (Some model.Range) (cond d (Some model.Many)
    (cond e (Some model.Order) (cond f (Some model.Twice) (cond g (Some model.Unknown) (cond h (Some model.SelfEnd)
    (cond i (Some model.Groups) None))))))))
nine true b c d e f g h i = refl
nine false true c d e f g h i = refl
nine false false true d e f g h i = refl
nine false false false true e f g h i = refl
nine false false false false true f g h i = refl
nine false false false false false true g h i = refl
nine false false false false false false true h i = refl
nine false false false false false false false true i = refl
nine false false false false false false false false true = refl
nine false false false false false false false false false = refl

-- a line whose word may stand
pub cause-parts : (earlier : List Fields) (w : Word) (fields : Fields) →
    word_spelled (field_at fields 0) ≡ Some w → (may_stand_after (last_word earlier) w && has_its_parts earlier w) ≡ true →
    cause_of earlier fields ≡ front earlier w fields (behind earlier w fields)
cause-parts earlier w fields e m =
    ap (λ o. cause_with earlier o fields) e
    ∙ nine (not (may_stand_after (last_word earlier) w && has_its_parts earlier w)) (not (has_form w fields)) (not (has_ranges earlier w fields))
    (is_many earlier w fields) (is_out_of_order earlier w fields) (is_twice earlier w fields)
    (has_unknown earlier w fields) (ends_where_it_starts w fields) (is_in_a_ninth earlier w fields)
    ∙ (λ i. cond (not (m i)) (Some NoWord) (front earlier w fields (behind earlier w fields)))

-- a line whose word may not stand
pub cause-no_place : (earlier : List Fields) (w : Word) (fields : Fields) →
    word_spelled (field_at fields 0) ≡ Some w → (may_stand_after (last_word earlier) w && has_its_parts earlier w) ≡ false →
    cause_of earlier fields ≡ Some NoWord
cause-no_place earlier w fields e m =
    ap (λ o. cause_with earlier o fields) e
    ∙ nine (not (may_stand_after (last_word earlier) w && has_its_parts earlier w)) (not (has_form w fields)) (not (has_ranges earlier w fields))
    (is_many earlier w fields) (is_out_of_order earlier w fields) (is_twice earlier w fields)
    (has_unknown earlier w fields) (ends_where_it_starts w fields) (is_in_a_ninth earlier w fields)
    ∙ (λ i. cond (not (m i)) (Some NoWord) (front earlier w fields (behind earlier w fields)))

-- a line that begins with no word
pub cause-no_word : (earlier : List Fields) (fields : Fields) → word_spelled (field_at fields 0) ≡ None →
    cause_of earlier fields ≡ Some NoWord
cause-no_word earlier fields e = ap (λ o. cause_with earlier o fields) e

-- ---- answers as causes

-- the cause that was found, and else the rest
abbrev pub told : {A : Type 0} → Result A Why → Option model.Why → Option model.Why
told (Err w) rest = Some (why_told w)
told (Ok x) rest = rest

-- ---- the spelling of a word

abbrev pub spelling : Word → List ℕ
spelling Net = codes "net"
spelling Band = codes "band"
spelling Guard = codes "guard"
spelling K = codes "k"
spelling Services = codes "services"
spelling Journal = codes "journal"
spelling model.Format = codes "format"
spelling Node = codes "node"
spelling model.Fibre = codes "fibre"
spelling model.Group = codes "group"
spelling End = codes "end"

word_by_test : (t : Word × List ℕ) (others : Option (Word × List ℕ)) (bytes : List ℕ) (w : Word) (b : Bool) →
    bytes_eq t.1 bytes ≡ b → t.1 ≡ spelling t.0 →
    option_map (λ (t : Word × List ℕ). t.0) (cond b (Some t) others) ≡ Some w →
    (option_map (λ (t : Word × List ℕ). t.0) others ≡ Some w → bytes ≡ spelling w) → bytes ≡ spelling w
word_by_test t others bytes w true e is h more =
    let same : t.0 ≡ w = cc in sym ((bytes_eq-Decides t.1 bytes).0 e) ∙ is ∙ ap spelling same
word_by_test t others bytes w false e is h more = more h

found_spelled : (table : List (Word × List ℕ)) (bytes : List ℕ) (w : Word) →
    AllOf (λ t. t.1 ≡ spelling t.0) table →
    option_map (λ (t : Word × List ℕ). t.0) (find (λ t. bytes_eq t.1 bytes) table) ≡ Some w → bytes ≡ spelling w
found_spelled [] bytes w all h = cc
found_spelled (t ∷ table) bytes w all h =
    word_by_test t (find (λ t. bytes_eq t.1 bytes) table) bytes w (bytes_eq t.1 bytes) refl all.0 h
    (found_spelled table bytes w all.1)

-- what is read as a word is its spelling
pub word-spelling : (bytes : List ℕ) (w : Word) → word_spelled bytes ≡ Some w → bytes ≡ spelling w
word-spelling bytes w h =
    found_spelled words bytes w (refl, (refl, (refl, (refl, (refl, (refl, (refl, (refl, (refl, (refl, (refl, tt))))))))))) h

-- ---- no line is only too short

abbrev pub not_short : model.Why → Bool
not_short model.Short = false
not_short _ = true

first_long : (causes : List (Bool × model.Why)) → list_all (λ (c : Bool × model.Why). not_short c.1) causes ≡ true →
    (w : model.Why) → first_why causes ≡ Some w → not_short w ≡ true
first_long [] h w e = cc
first_long (c ∷ causes) h w e =
    let p = and_parts (not_short c.1) (list_all (λ (x : Bool × model.Why). not_short x.1) causes) h in
    by_first c.0 e p.0 (first_long causes p.1 w)
  where
    by_first : (t : Bool) → option_map (λ (x : Bool × model.Why). x.1) (cond t (Some c) (find (λ x. x.0) causes)) ≡ Some w →
        not_short c.1 ≡ true → (first_why causes ≡ Some w → not_short w ≡ true) → not_short w ≡ true
    by_first true f here more = let is : c.1 ≡ w = cc in ap not_short (sym is) ∙ here
    by_first false f here more = more f

cause_long : (earlier : List Fields) (o : Option Word) (fields : Fields) (w : model.Why) →
    cause_with earlier o fields ≡ Some w → not_short w ≡ true
cause_long earlier None fields w e = let is : NoWord ≡ w = cc in ap not_short (sym is)
cause_long earlier (Some v) fields w e =
    first_long ((not (may_stand_after (last_word earlier) v && has_its_parts earlier v), NoWord)
    ∷ (not (has_form v fields), model.Form) ∷ (not (has_ranges earlier v fields), model.Range)
    ∷ (is_many earlier v fields, model.Many) ∷ (is_out_of_order earlier v fields, model.Order)
    ∷ (is_twice earlier v fields, model.Twice) ∷ (has_unknown earlier v fields, model.Unknown)
    ∷ (ends_where_it_starts v fields, model.SelfEnd) ∷ (is_in_a_ninth earlier v fields, model.Groups) ∷ []) refl w e

-- the cause of a whole line is another
pub cause-long : (earlier : List Fields) (fields : Fields) (w : model.Why) → cause_of earlier fields ≡ Some w →
    not_short w ≡ true
cause-long earlier fields w e = cause_long earlier (word_spelled (field_at fields 0)) fields w e
