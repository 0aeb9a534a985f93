-- The line of a service in range is read as it.
use Rattle.std.proofs.Common.{◌≡◌, refl, ◌∙◌, ap, ℕ, ◌<◌, ◌^◌, ℤ, true, cond, ◌&&◌, List, [], ◌∷◌, ◌++◌, length, Option, Some, None, arith, nat_eq}
use Rattle.std.specs.Prelude.{codes, bytes_eq, nat_le}
use Rattle.std.specs.Bool.{then_some}
use Rattle.std.specs.Option.{option_and_then, option_to_list}
use Rattle.std.specs.List.{list_all}
use Rattle.std.specs.Fmt.{decimal, signed_decimal}
use Rattle.std.proofs.lemmas.Bool.{and_parts, and_from, leb-true}
use Rattle.std.proofs.lemmas.Slice.Eq.{bytes_eq-Decides}
use Rattle.eon_model.specs.declared.Class.{Class}
use Rattle.eon_model.specs.declared.Class.TheVariants.{Bare, Shared, Dual}
use Rattle.eon_model.specs.Names.{Name, is_name}
use Rattle.eon_model.specs.Numerals.{is_within}
use Rattle.eon_model.specs.CommandText.{is_rate, is_centre}
use Rattle.eon_model.specs.Listings.{class_word}
use Rattle.eon_model.specs.Spelling.{fibre_list}
use Rattle.eon_model.specs.ReplyText.{target_words}
use Rattle.eon_model.specs.PlanTexts.{PathLine, LegLine, ServiceLine, path_line_words, back_line_words, leg_line_words, next_line_words, service_text, is_path_line, is_leg_line, is_service_line, names_listed, path_read, class_read, back_read, target_read, next_read, service_read, service_told}
use Rattle.eon_model.proofs.OrderLaws.{AllOf}
use Rattle.eon_model.proofs.ListLaws.{AllOf-append}
use Rattle.eon_model.proofs.SplitLaws.{lacks, split_by, onto_first, split-join, lacks-join}
use Rattle.eon_model.proofs.SpellingLaws.{decimal-lacks, number_value-decimal, signed-lacks, signed_value-signed_decimal, centre-IsSmall, name-lacks}
use Rattle.eon_model.proofs.WholeLines.{before_is}
use Rattle.eon_model.proofs.MovesAgain.{space, word-lacks, fields-again}
use Rattle.eon_model.proofs.CommandTextLaws.{names_lack}

-- ---- paths

names_split : (bytes : List ℕ) → names_listed bytes ≡ split_by 44 bytes
names_split [] = refl
names_split (b ∷ bytes) =
    (λ i. cond (nat_eq b 44) ([] ∷ names_listed bytes) (before_is b (names_listed bytes) i))
    ∙ (λ i. cond (nat_eq b 44) ([] ∷ names_split bytes i) (onto_first b (names_split bytes i)))

names_again : (names : List Name) → nat_le 1 (length names) ≡ true → list_all is_name names ≡ true →
    names_listed (fibre_list names) ≡ names
names_again [] h k = let l = leb-true 1 0 h in absurd (omega arith)
names_again (name ∷ names) h k = names_split (fibre_list (name ∷ names)) ∙ split-join 44 name names (names_lack 44 (name ∷ names) refl k)

pub record PathParts (p : PathLine) : Type 0 where
  pub some : nat_le 1 (length p.fibres) ≡ true
  pub names : list_all is_name p.fibres ≡ true
  pub centre : is_centre p.n ≡ true
  pub width : is_within 1 512 p.m ≡ true
  pub small : p.m < 2 ^ 64

pub path-parts : (p : PathLine) → is_path_line p ≡ true → PathParts p
path-parts p h =
    let a = and_parts (nat_le 1 (length p.fibres) && list_all is_name p.fibres && is_centre p.n) (is_within 1 512 p.m) h in
    let b = and_parts (nat_le 1 (length p.fibres) && list_all is_name p.fibres) (is_centre p.n) a.0 in
    let c = and_parts (nat_le 1 (length p.fibres)) (list_all is_name p.fibres) b.0 in
    let most = leb-true p.m 512 (and_parts (nat_le 1 p.m) (nat_le p.m 512) a.1).1 in
    record { some = c.0; names = c.1; centre = b.1; width = a.1; small = omega arith }

path_again : (p : PathLine) → is_path_line p ≡ true → path_read (fibre_list p.fibres) (signed_decimal p.n) (decimal p.m) ≡ p
path_again p h =
    let q = path-parts p h in
    let names = names_again p.fibres q.some q.names in
    let n = signed_value-signed_decimal p.n (centre-IsSmall p.n q.centre) in
    let m = number_value-decimal p.m q.small in
    λ i. record { fibres = names i; n = n i; m = m i }

path_lacks : (p : PathLine) → is_path_line p ≡ true → AllOf (λ v. lacks 32 v ≡ true) (path_line_words p)
path_lacks p h =
    let q = path-parts p h in (
      lacks-join 32 44 p.fibres refl (names_lack 32 p.fibres refl q.names),
      (
        signed-lacks 32 p.n (centre-IsSmall p.n q.centre) refl refl,
        (decimal-lacks 32 p.m q.small refl, tt),
      ),
    )

back_lacks : (back : Option PathLine) → list_all is_path_line (option_to_list back) ≡ true →
    AllOf (λ v. lacks 32 v ≡ true) (back_line_words back)
back_lacks None h = tt
back_lacks (Some p) h = (word-lacks 32 space (codes "b") refl, path_lacks p (and_parts (is_path_line p) true h).0)

pub record LegParts (l : LegLine) : Type 0 where
  pub work_in : is_path_line l.work ≡ true
  pub back_in : list_all is_path_line (option_to_list l.back) ≡ true

pub leg-parts : (l : LegLine) → is_leg_line l ≡ true → LegParts l
leg-parts l h =
    let p = and_parts (is_path_line l.work) (list_all is_path_line (option_to_list l.back)) h in
    record { work_in = p.0; back_in = p.1 }

leg_lacks : (l : LegLine) → is_leg_line l ≡ true → AllOf (λ v. lacks 32 v ≡ true) (leg_line_words l)
leg_lacks l h =
    let p = leg-parts l h in (
      word-lacks 32 space (codes "w") refl,
      AllOf-append (λ v. lacks 32 v ≡ true) (path_line_words l.work) (back_line_words l.back) (path_lacks l.work p.work_in)
          (back_lacks l.back p.back_in),
    )

target_lacks : (to : Option ℤ) → list_all is_centre (option_to_list to) ≡ true → AllOf (λ v. lacks 32 v ≡ true) (target_words to)
target_lacks None h = tt
target_lacks (Some n) h = (
  word-lacks 32 space (codes "to") refl,
  (signed-lacks 32 n (centre-IsSmall n (and_parts (is_centre n) true h).0) refl refl, tt),
)

next_lacks : (next : Option LegLine) → list_all is_leg_line (option_to_list next) ≡ true →
    AllOf (λ v. lacks 32 v ≡ true) (next_line_words next)
next_lacks None h = tt
next_lacks (Some l) h = (word-lacks 32 space (codes "and") refl, leg_lacks l (and_parts (is_leg_line l) true h).0)

class_lacks : (class : Class) → lacks 32 (class_word class) ≡ true
class_lacks Bare = word-lacks 32 space (codes "bare") refl
class_lacks Shared = word-lacks 32 space (codes "shared") refl
class_lacks Dual = word-lacks 32 space (codes "dual") refl

class_again : (class : Class) → class_read (class_word class) ≡ class
class_again Bare = refl
class_again Shared = refl
class_again Dual = refl

-- ---- what stands behind the working path

back_again : (back : Option PathLine) (to : Option ℤ) (next : Option LegLine) →
    list_all is_path_line (option_to_list back) ≡ true →
    back_read ((back_line_words back ++ target_words to) ++ next_line_words next) ≡ (back, target_words to ++ next_line_words next)
back_again None None None h = refl
back_again None None (Some l) h = refl
back_again None (Some n) None h = refl
back_again None (Some n) (Some l) h = refl
back_again (Some p) to next h =
    λ i. (Some (path_again p (and_parts (is_path_line p) true h).0 i), target_words to ++ next_line_words next)

target_again : (to : Option ℤ) (next : Option LegLine) → list_all is_centre (option_to_list to) ≡ true →
    target_read (target_words to ++ next_line_words next) ≡ (to, next_line_words next)
target_again None None h = refl
target_again None (Some l) h = refl
target_again (Some n) next h =
    λ i. (Some (signed_value-signed_decimal n (centre-IsSmall n (and_parts (is_centre n) true h).0) i), next_line_words next)

last_back : (back : Option PathLine) → list_all is_path_line (option_to_list back) ≡ true →
    (back_read (back_line_words back)).0 ≡ back
last_back None h = refl
last_back (Some p) h = ap Some (path_again p (and_parts (is_path_line p) true h).0)

next_again : (next : Option LegLine) → list_all is_leg_line (option_to_list next) ≡ true → next_read (next_line_words next) ≡ next
next_again None h = refl
next_again (Some l) h =
    let p = leg-parts l (and_parts (is_leg_line l) true h).0 in
    λ i. Some (record { work = path_again l.work p.work_in i; back = last_back l.back p.back_in i })

-- ---- the whole line

abbrev pub service_words : ServiceLine → List (List ℕ)
service_words s = codes "service" ∷ s.name ∷ s.src ∷ s.dst ∷ decimal s.rate ∷ class_word s.class
    ∷ leg_line_words s.leg ++ target_words s.to ++ next_line_words s.next

pub record LineParts (s : ServiceLine) : Type 0 where
  pub name_in : is_name s.name ≡ true
  pub src_in : is_name s.src ≡ true
  pub dst_in : is_name s.dst ≡ true
  pub rate_in : is_rate s.rate ≡ true
  pub rate_small : s.rate < 2 ^ 64
  pub leg_in : is_leg_line s.leg ≡ true
  pub to_in : list_all is_centre (option_to_list s.to) ≡ true
  pub next_in : list_all is_leg_line (option_to_list s.next) ≡ true

pub line-parts : (s : ServiceLine) → is_service_line s ≡ true → LineParts s
line-parts s h =
    let a = and_parts (is_name s.name && is_name s.src && is_name s.dst && is_rate s.rate && is_leg_line s.leg
    && list_all is_centre (option_to_list s.to)) (list_all is_leg_line (option_to_list s.next)) h in
    let b = and_parts (is_name s.name && is_name s.src && is_name s.dst && is_rate s.rate && is_leg_line s.leg)
    (list_all is_centre (option_to_list s.to)) a.0 in
    let c = and_parts (is_name s.name && is_name s.src && is_name s.dst && is_rate s.rate) (is_leg_line s.leg) b.0 in
    let d = and_parts (is_name s.name && is_name s.src && is_name s.dst) (is_rate s.rate) c.0 in
    let e = and_parts (is_name s.name && is_name s.src) (is_name s.dst) d.0 in
    let f = and_parts (is_name s.name) (is_name s.src) e.0 in
    let most = leb-true s.rate 60000 (and_parts (nat_le 1 s.rate) (nat_le s.rate 60000) d.1).1 in
    record {
      name_in = f.0;
      src_in = f.1;
      dst_in = e.1;
      rate_in = d.1;
      rate_small = omega arith;
      leg_in = c.1;
      to_in = b.1;
      next_in = a.1;
    }

pub words-lack : (s : ServiceLine) → is_service_line s ≡ true → AllOf (λ v. lacks 32 v ≡ true) (service_words s)
words-lack s h =
    let p = line-parts s h in
    let no = λ (v : List ℕ). lacks 32 v ≡ true in (
      word-lacks 32 space (codes "service") refl,
      (
        name-lacks 32 s.name refl p.name_in,
        (
          name-lacks 32 s.src refl p.src_in,
          (
            name-lacks 32 s.dst refl p.dst_in,
            (
              decimal-lacks 32 s.rate p.rate_small refl,
              (
                class_lacks s.class,
                AllOf-append no (leg_line_words s.leg ++ target_words s.to) (next_line_words s.next)
                    (AllOf-append no (leg_line_words s.leg) (target_words s.to) (leg_lacks s.leg p.leg_in) (target_lacks s.to p.to_in))
                    (next_lacks s.next p.next_in),
              ),
            ),
          ),
        ),
      ),
    )

abbrev with_target : ServiceLine → Option PathLine → Option ℤ × List (List ℕ) → Option ServiceLine
with_target s back t = Some (record {
  name = s.name;
  src = s.src;
  dst = s.dst;
  rate = s.rate;
  class = s.class;
  leg = record { work = s.leg.work; back = back };
  to = t.0;
  next = next_read t.1;
})

abbrev with_back : ServiceLine → Option PathLine × List (List ℕ) → Option ServiceLine
with_back s b = with_target s b.0 (target_read b.1)

abbrev read_with : ServiceLine → ℕ → Class → PathLine → List (List ℕ) → Option ServiceLine
read_with s rate class work rest = with_back (record s { rate = rate; class = class; leg = record { work = work; back = None } }) (back_read rest)

words_again : (s : ServiceLine) → is_service_line s ≡ true → service_read (service_words s) ≡ Some s
words_again s h =
    let p = line-parts s h in
    let l = leg-parts s.leg p.leg_in in
    let rest = (back_line_words s.leg.back ++ target_words s.to) ++ next_line_words s.next in
    (λ i. read_with s (number_value-decimal s.rate p.rate_small i) (class_again s.class i) (path_again s.leg.work l.work_in i) rest)
    ∙ ap (with_back s) (back_again s.leg.back s.to s.next l.back_in)
    ∙ ap (with_target s s.leg.back) (target_again s.to s.next p.to_in)
    ∙ ap (λ (o : Option LegLine). Some (record s { next = o })) (next_again s.next p.next_in)

pub service-again : (s : ServiceLine) → is_service_line s ≡ true → service_told (service_text s) ≡ Some s
service-again s h =
    let test = λ (v : ServiceLine). is_service_line v && bytes_eq (service_text s) (service_text v) in
    ap (λ fields. option_and_then (λ v. then_some (test v) v) (service_read fields))
    (fields-again (codes "service") (s.name ∷ s.src ∷ s.dst ∷ decimal s.rate ∷ class_word s.class
    ∷ leg_line_words s.leg ++ target_words s.to ++ next_line_words s.next) (words-lack s h))
    ∙ ap (option_and_then (λ v. then_some (test v) v)) (words_again s h)
    ∙ ap (λ b. then_some b s) (and_from (is_service_line s) _ h ((bytes_eq-Decides (service_text s) (service_text s)).1 refl))
