-- Words behind spaces: single fields, what a service is asked with, and paths.
use Rattle.std.proofs.Common.{◌≡◌, refl, sym, ◌∙◌, ap, subst, ℕ, Bool, true, ◌&&◌, not, List, [], ◌∷◌, ◌++◌, Option, Some, None, append_assoc}
use Rattle.std.specs.Option.{option_to_list}
use Rattle.std.specs.List.{flat_map}
use Rattle.std.specs.Fmt.{decimal, signed_decimal}
use Rattle.std.proofs.lemmas.Bool.{and_parts, and_from, false≢true}
use Rattle.std.proofs.lemmas.List.{append-nil}
use Rattle.eon_model.specs.declared.Class.{Class}
use Rattle.eon_model.specs.declared.Class.TheVariants.{Bare, Shared, Dual}
use Rattle.eon_model.specs.Names.{Name, is_name}
use Rattle.eon_model.specs.Legal.{is_protected}
use Rattle.eon_model.specs.Commands.{Demand, PathWords}
use Rattle.eon_model.specs.Listings.{class_word}
use Rattle.eon_model.specs.Spelling.{spaced, fibre_list}
use Rattle.eon_model.specs.CommandText.{demand_words, path_words, is_rate, is_centre, is_demand, is_path, has_its_backup}
use Rattle.command_text.specs.Reading.{Read}
use Rattle.command_text.specs.Lines.{field_at, demand_at, path_at, some_path_at, back_at}
use Rattle.command_text.specs.Words.{behind}
use Rattle.command_text.proofs.PartLaws.{Open, Open-append, IsPart, part-by, done-part, Then, then-part}
use Rattle.command_text.proofs.WordLaws.{after-part}
use Rattle.command_text.proofs.NameParts.{OneText, name-part}
use Rattle.command_text.proofs.FibreParts.{is_fibre_names, fibres-part}
use Rattle.command_text.proofs.NumberParts.{rate-part}
use Rattle.command_text.proofs.CentreParts.{centre-part}
use Rattle.command_text.proofs.ClassParts.{any_class, class-part}

pub behind-Open : (ws : List (List ℕ)) → Open (behind ws)
behind-Open [] = tt
behind-Open (w ∷ ws) = refl

pub behind-append : (vs ws : List (List ℕ)) → behind (vs ++ ws) ≡ behind vs ++ behind ws
behind-append [] ws = refl
behind-append (v ∷ vs) ws = ap (λ x. 32 ∷ v ++ x) (behind-append vs ws) ∙ sym
    (append_assoc (32 ∷ v) (behind vs) (behind ws))

pub spaced-behind : (w : List ℕ) (ws : List (List ℕ)) → spaced (w ∷ ws) ≡ w ++ behind ws
spaced-behind w [] = sym (append-nil w)
spaced-behind w (v ∷ ws) = ap (λ x. w ++ (32 ∷ x)) (spaced-behind v ws)

-- ---- one field

abbrev pub Field : {A : Type 0} → (A → Bool) → (A → List ℕ) → A → List ℕ → Type 0
Field test text a t = (test a ≡ true) × (t ≡ 32 ∷ text a)

pub field-part : {A : Type 0} {test : A → Bool} {text : A → List ℕ} {read : List ℕ → Read A} →
    IsPart Open (OneText test text) read → IsPart Open (Field test text) (field_at read)
field-part {test = test} {text = text} part = part-by (after-part (32 ∷ []) part)
    (λ a t h. (h.back_is.0, h.is ∙ ap (λ v. 32 ∷ v) h.back_is.1))
    (λ a t h. record { back = text a; back_is = (h.0, refl); is = h.1 })

abbrev pub Done : {A : Type 0} → A → A → List ℕ → Type 0
Done a b t = (b ≡ a) × (t ≡ [])

pub Done-Open : {A : Type 0} {a b : A} (t : List ℕ) → Done a b t → Open t
Done-Open t h = subst Open (sym h.1) tt

pub Field-Open : {A : Type 0} (test : A → Bool) (text : A → List ℕ) (a : A) (t : List ℕ) →
    Field test text a t → Open t
Field-Open test text a t h = subst Open (sym h.1) refl

abbrev pub Opens : {A : Type 0} → (A → List ℕ → Type 0) → Type 0
Opens {A = A} IsText = (a : A) (t : List ℕ) → IsText a t → Open t

pub Then-Open : {A B : Type 0} {IsFirst : A → List ℕ → Type 0} {IsSecond : A → B → List ℕ → Type 0} →
    Opens IsFirst → ((a : A) → Opens (IsSecond a)) → Opens (Then IsFirst IsSecond)
Then-Open first second b t h = subst Open (sym h.is)
    (Open-append h.front h.back (first h.first h.front h.first_is) (second h.first b h.back h.back_is))

-- a field and what is behind it
pub with_field : {A B : Type 0} {test : A → Bool} {text : A → List ℕ} {IsSecond : A → B → List ℕ →
    Type 0} (a : A) (b : B) (rest : List ℕ) →
    test a ≡ true → IsSecond a b rest → Then (Field test text) IsSecond b (32 ∷ text a ++ rest)
with_field {text = text} a b rest h s = record {
  first = a;
  front = 32 ∷ text a;
  back = rest;
  first_is =
      (h, refl);
  back_is = s;
  is = refl;
}

pub field_is : {A B : Type 0} {test : A → Bool} {text : A → List ℕ} {IsSecond : A → B → List ℕ →
    Type 0} {b : B} {t : List ℕ} (h : Then (Field test text) IsSecond b t)
    (rest : List ℕ) → h.back ≡ rest → t ≡ 32 ∷ text h.first ++ rest
field_is h rest e = h.is ∙ (λ i. h.first_is.1 i ++ e i)

-- ---- what a service is asked with

abbrev NameField : Name → List ℕ → Type 0
NameField = Field is_name (λ v. v)

abbrev DemandFields : Demand → List ℕ → Type 0
DemandFields = Then NameField (λ name. Then NameField
    (λ src. Then NameField (λ dst. Then (Field is_rate decimal) (λ rate.
    Then (Field any_class class_word) (λ class. Done
    (record { name = name; src = src; dst = dst; rate = rate; class = class }))))))

abbrev pub DemandText : Demand → List ℕ → Type 0
DemandText d t = (is_demand d ≡ true) × (t ≡ behind (demand_words d))

demand_to : (d : Demand) (t : List ℕ) → DemandFields d t → DemandText d t
demand_to d t name =
    let src = name.back_is in
    let dst = src.back_is in
    let rate = dst.back_is in
    let class = rate.back_is in
    let done = class.back_is in (
      ap is_demand done.0 ∙ and_from _ _ (and_from _ _
          (and_from _ _ name.first_is.0 src.first_is.0) dst.first_is.0) rate.first_is.0,
      field_is name _ (field_is src _ (field_is dst _ (field_is rate _ (field_is class [] done.1)))) ∙ ap
          (λ v. behind (demand_words v)) (sym done.0),
    )

demand_from : (d : Demand) (t : List ℕ) → DemandText d t → DemandFields d t
demand_from d t h =
    let a = and_parts (is_name d.name && is_name d.src && is_name d.dst) (is_rate d.rate) h.0 in
    let b = and_parts (is_name d.name && is_name d.src) (is_name d.dst) a.0 in
    let c = and_parts (is_name d.name) (is_name d.src) b.0 in
    subst (DemandFields d) (sym h.1)
    (with_field d.name d _ c.0 (with_field d.src d _ c.1
    (with_field d.dst d _ b.1 (with_field d.rate d _ a.1 (with_field d.class d [] refl (refl, refl))))))

demand_fields : IsPart Open DemandFields demand_at
unfolding demand_at
demand_fields =
    then-part (field-part name-part) (λ name. then-part (field-part name-part)
    (λ src. then-part (field-part name-part) (λ dst.
    then-part (field-part rate-part) (λ rate. then-part (field-part class-part)
    (λ class. done-part Open (record { name = name; src = src; dst = dst; rate = rate; class = class }))
    (λ class d t h. Done-Open t h) (λ rest h. h))
    (λ rate. class_open (λ class d t h. Done-Open t h)) (λ rest h. h))
    (λ dst. rate_open (λ rate. class_open (λ class d t h. Done-Open t h))) (λ rest h. h))
    (λ src. name_open (λ dst. rate_open (λ rate. class_open (λ class d t h. Done-Open t h)))) (λ rest h. h))
    (λ name. name_open (λ src. name_open (λ dst. rate_open
    (λ rate. class_open (λ class d t h. Done-Open t h))))) (λ rest h. h)
  where
    name_open : {S : Name → Demand → List ℕ → Type 0} → ((a : Name) → Opens (S a)) → Opens (Then NameField S)
    name_open second = Then-Open (Field-Open is_name (λ v. v)) second

    rate_open : {S : ℕ → Demand → List ℕ → Type 0} → ((a : ℕ) → Opens (S a)) → Opens (Then (Field is_rate decimal) S)
    rate_open second = Then-Open (Field-Open is_rate decimal) second

    class_open : {S : Class → Demand → List ℕ → Type 0} → ((a : Class) → Opens (S a)) →
        Opens (Then (Field any_class class_word) S)
    class_open second = Then-Open (Field-Open any_class class_word) second

pub demand-part : IsPart Open DemandText demand_at
demand-part = part-by demand_fields demand_to demand_from

-- ---- a path

abbrev PathFields : PathWords → List ℕ → Type 0
PathFields = Then (Field is_fibre_names fibre_list)
    (λ fibres. Then (Field is_centre signed_decimal) (λ n. Done (record { fibres = fibres; n = n })))

abbrev pub PathText : PathWords → List ℕ → Type 0
PathText p t = (is_path p ≡ true) × (t ≡ behind (path_words p))

path_to : (p : PathWords) (t : List ℕ) → PathFields p t → PathText p t
path_to p t fibres =
    let n = fibres.back_is in
    let done = n.back_is in (
      ap is_path done.0 ∙ and_from _ _ fibres.first_is.0 n.first_is.0,
      field_is fibres _ (field_is n [] done.1)
          ∙ ap (λ v. behind (path_words v)) (sym done.0),
    )

path_from : (p : PathWords) (t : List ℕ) → PathText p t → PathFields p t
path_from p t h =
    let a = and_parts (is_fibre_names p.fibres) (is_centre p.n) h.0 in
    subst (PathFields p) (sym h.1) (with_field p.fibres p _ a.0 (with_field p.n p [] a.1 (refl, refl)))

path_fields : IsPart Open PathFields path_at
unfolding path_at
path_fields =
    then-part (field-part fibres-part) (λ fibres. then-part (field-part centre-part)
    (λ n. done-part Open (record { fibres = fibres; n = n }))
    (λ n p t h. Done-Open t h) (λ rest h. h))
    (λ fibres. Then-Open (Field-Open is_centre signed_decimal) (λ n p t h. Done-Open t h)) (λ rest h. h)

pub path-part : IsPart Open PathText path_at
path-part = part-by path_fields path_to path_from

-- ---- a backup, exactly for a protected class

abbrev pub backs : Class → Option PathWords → Bool
backs c None = not (is_protected c)
backs c (Some back) = is_protected c && is_path back

abbrev pub BackText : Class → Option PathWords → List ℕ → Type 0
BackText c back t = (backs c back ≡ true) × (t ≡ behind (flat_map path_words (option_to_list back)))

-- the backup of a protected class
abbrev SomePath : Option PathWords → List ℕ → Type 0
SomePath = Then PathText (λ p. Done (Some p))

protected_to : (c : Class) → is_protected c ≡ true → (back : Option PathWords) (t : List ℕ) → SomePath back t →
    BackText c back t
protected_to c safe back t h = (
  ap (backs c) h.back_is.0 ∙ ap (λ b. b && is_path h.first) safe ∙ h.first_is.0,
  h.is ∙ (λ i. h.first_is.1 i ++ h.back_is.1 i) ∙ append-nil (behind (path_words h.first)) ∙ ap
      (λ v. behind (flat_map path_words (option_to_list v))) (sym h.back_is.0),
)

protected_from : (c : Class) → is_protected c ≡ true → (back : Option PathWords) (t : List ℕ) → BackText c back t →
    SomePath back t
protected_from c safe None t h = absurd (false≢true (sym (ap not safe) ∙ h.0))
protected_from c safe (Some p) t h = record {
  first = p;
  front = t;
  back = [];
  first_is = (sym (ap (λ b. b && is_path p) safe) ∙ h.0, h.1);
  back_is =
      (refl, refl);
  is = sym (append-nil t);
}

some_path_part : IsPart Open SomePath some_path_at
some_path_part = then-part path-part (λ p. done-part Open (Some p)) (λ p back t h. Done-Open t h) (λ rest h. h)

bare_to : (back : Option PathWords) (t : List ℕ) → Done None back t → BackText Bare back t
bare_to back t h = (ap (backs Bare) h.0, h.1 ∙ ap (λ v. behind (flat_map path_words (option_to_list v))) (sym h.0))

bare_from : (back : Option PathWords) (t : List ℕ) → BackText Bare back t → Done None back t
bare_from None t h = (refl, h.1)
bare_from (Some p) t h = absurd (false≢true h.0)

pub back-part : (c : Class) → IsPart Open (BackText c) (back_at c)
unfolding back_at
back-part Bare = part-by (done-part Open None) bare_to bare_from
back-part Shared = part-by some_path_part (protected_to Shared refl) (protected_from Shared refl)
back-part Dual = part-by some_path_part (protected_to Dual refl) (protected_from Dual refl)

pub has-backs : (d : Demand) (back : Option PathWords) → has_its_backup d back ≡ backs d.class back
has-backs d None = refl
has-backs d (Some back) = refl
