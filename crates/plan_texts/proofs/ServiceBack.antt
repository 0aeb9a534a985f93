-- The line of a service in range is read as the service, and no other line is.
use Rattle.std.proofs.Common.{◌≡◌, refl, sym, ◌∙◌, ap, ℕ, ℤ, true, false, cond, ◌&&◌, List, [], ◌∷◌, ◌++◌, append_assoc, append-nil, drop, length, Option, Some, None, arith}
use Rattle.std.specs.Prelude.{codes, bytes_eq, nat_le}
use Rattle.std.specs.Option.{option_map, option_to_list}
use Rattle.std.specs.List.{list_all}
use Rattle.std.specs.Fmt.{decimal, signed_decimal}
use Rattle.std.proofs.lemmas.Bool.{and_parts, leb-true}
use Rattle.std.proofs.lemmas.Slice.Eq.{bytes_eq-Decides}
use Rattle.eon_model.specs.declared.Class.{Class}
use Rattle.eon_model.specs.declared.Class.TheVariants.{Bare, Shared, Dual}
use Rattle.eon_model.specs.Names.{Name, is_name}
use Rattle.eon_model.specs.CommandText.{is_centre}
use Rattle.eon_model.specs.Listings.{class_word}
use Rattle.eon_model.specs.NetworkFault.{Fields}
use Rattle.eon_model.specs.Spelling.{spaced, fibre_list, fields_of}
use Rattle.eon_model.specs.ReplyText.{target_words}
use Rattle.eon_model.specs.PlanTexts as texts
use Rattle.eon_model.specs.PlanTexts.{back_line_words, leg_line_words, next_line_words, service_text, is_path_line, is_leg_line, is_service_line, service_read}
use Rattle.eon_model.proofs.WholeLines.{told_by}
use Rattle.eon_model.proofs.MovesAgain.{fields-again}
use Rattle.command_text.specs.Parts.{fibre_names_of}
use Rattle.command_text.proofs.FibreParts.{pieces-list}
use Rattle.net_file.specs.Readings.{first_read, is_nil}
use Rattle.net_file.proofs.SplitText.{spaced-fields}
use Rattle.plan_texts.specs.Fields.{◌>>=◌, centre_of, is_first}
use Rattle.plan_texts.specs.ServiceTold.{path_told, leg_told, service_told}
use Rattle.plan_texts.specs.Services.{class_of, demand_of, by_class, by_rate, by_dst, by_src, demand_at, path_of, by_width, by_centre, path_at, back_at, behind_back, leg_of, by_back, leg_at, behind_leg, target_at, behind_target, last_leg, next_at, service_of, by_next, by_target, by_leg, service_at}
use Rattle.plan_texts.specs.declared.service.PathLine.{PathLine}
use Rattle.plan_texts.specs.declared.service.LegLine.{LegLine}
use Rattle.plan_texts.specs.declared.service.Demand.{Demand}
use Rattle.plan_texts.specs.declared.service.ServiceLine.{ServiceLine}
use Rattle.plan_texts.proofs.FieldSteps.{mapped, same_reading, number-read, centre-read, name-read}
use Rattle.plan_texts.proofs.LineAgain.{service_words, path-parts, leg-parts, line-parts, words-lack, service-again}
use Rattle.plan_texts.proofs.ServiceReads.{service-taken}

-- ---- in the code's words

abbrev path_coded : texts.PathLine → PathLine
path_coded p = record { fibres = p.fibres; n = p.n; m = p.m }

abbrev leg_coded : texts.LegLine → LegLine
leg_coded l = record { work = path_coded l.work; back = option_map path_coded l.back }

abbrev demand_coded : texts.ServiceLine → Demand
demand_coded s = record { name = s.name; src = s.src; dst = s.dst; rate = s.rate; class = s.class }

abbrev service_coded : texts.ServiceLine → ServiceLine
service_coded s =
    record { demand = demand_coded s; leg = leg_coded s.leg; to = s.to; next = option_map leg_coded s.next }

back_same : (back : Option texts.PathLine) → option_map path_told (option_map path_coded back) ≡ back
back_same None = refl
back_same (Some p) = refl

leg_same : (l : texts.LegLine) → leg_told (leg_coded l) ≡ l
leg_same l = λ i. record { work = l.work; back = back_same l.back i }

next_same : (next : Option texts.LegLine) → option_map leg_told (option_map leg_coded next) ≡ next
next_same None = refl
next_same (Some l) = ap Some (leg_same l)

service_same : (s : texts.ServiceLine) → service_told (service_coded s) ≡ s
service_same s = λ i. record s { leg = leg_same s.leg i; next = next_same s.next i }

-- ---- single fields

fibres_back : (names : List Name) → nat_le 1 (length names) ≡ true → list_all is_name names ≡ true →
    fibre_names_of (fibre_list names) ≡ Some names
fibres_back [] h k = let l = leb-true 1 0 h in absurd (omega arith)
fibres_back (name ∷ names) h k =
    let e = pieces-list name names k in
    (λ i. cond (list_all is_name (e i)) (Some (e i)) None) ∙ ap (λ b. cond b (Some (name ∷ names)) None) k

class_back : (class : Class) → class_of (class_word class) ≡ Some class
class_back Bare = refl
class_back Shared = refl
class_back Dual = refl

-- ---- paths and legs

path_back : (p : texts.PathLine) (rest : Fields) → is_path_line p ≡ true →
    path_at (fibre_list p.fibres ∷ signed_decimal p.n ∷ decimal p.m ∷ rest) ≡ Some (path_coded p)
unfolding path_at
path_back p rest h =
    let q = path-parts p h in
    let f2 = decimal p.m ∷ rest in
    let f1 = signed_decimal p.n ∷ f2 in
    ap (λ (o : Option (List Name)). o >>= by_centre (fibre_list p.fibres ∷ f1)) (fibres_back p.fibres q.some q.names)
    ∙ ap (λ (o : Option ℤ). o >>= by_width p.fibres f1) (centre-read p.n q.centre)
    ∙ ap (λ (o : Option ℕ). o >>= path_of p.fibres p.n) (number-read 1 512 p.m (omega arith) q.width)

back_back : (back : Option texts.PathLine) (rest : Fields) → list_all is_path_line (option_to_list back) ≡ true →
    is_first (codes "b") rest ≡ false → back_at (back_line_words back ++ rest) ≡ Some (option_map path_coded back)
unfolding back_at
back_back None rest h e = ap (λ b. cond b (option_map Some (path_at (drop 1 rest))) (Some None)) e
back_back (Some p) rest h e = ap (option_map Some) (path_back p rest (and_parts (is_path_line p) true h).0)

past_back : (back : Option texts.PathLine) (rest : Fields) →
    behind_back (option_map path_coded back) (back_line_words back ++ rest) ≡ rest
past_back None rest = refl
past_back (Some p) rest = refl

leg_back : (l : texts.LegLine) (rest : Fields) → is_leg_line l ≡ true → is_first (codes "b") rest ≡ false →
    leg_at (leg_line_words l ++ rest) ≡ Some (leg_coded l)
unfolding leg_at
leg_back l rest h e =
    let p = leg-parts l h in
    let behind = back_line_words l.back ++ rest in
    ap (λ (o : Option PathLine). o >>= by_back behind) (path_back l.work behind p.work_in)
    ∙ ap (λ (o : Option (Option PathLine)). o >>= leg_of (path_coded l.work)) (back_back l.back rest p.back_in e)

past_leg : (l : texts.LegLine) (rest : Fields) → behind_leg (leg_coded l) (leg_line_words l ++ rest) ≡ rest
past_leg l rest = past_back l.back rest

-- ---- what moves

target_back : (to : Option ℤ) (rest : Fields) → list_all is_centre (option_to_list to) ≡ true →
    is_first (codes "to") rest ≡ false → target_at (target_words to ++ rest) ≡ Some to
unfolding target_at
target_back None rest h e = ap (λ b. cond b (option_map Some (first_read centre_of (drop 1 rest))) (Some None)) e
target_back (Some n) rest h e = ap (option_map Some) (centre-read n (and_parts (is_centre n) true h).0)

past_target : (to : Option ℤ) (rest : Fields) → behind_target to (target_words to ++ rest) ≡ rest
past_target None rest = refl
past_target (Some n) rest = refl

next_back : (next : Option texts.LegLine) → list_all is_leg_line (option_to_list next) ≡ true →
    next_at (next_line_words next) ≡ Some (option_map leg_coded next)
unfolding next_at
next_back None h = refl
next_back (Some l) h =
    let words = leg_line_words l in
    let whole : words ≡ words ++ [] = sym (append-nil words) in
    ap (λ (o : Option LegLine). o >>= last_leg words)
    (ap leg_at whole ∙ leg_back l [] (and_parts (is_leg_line l) true h).0 refl)
    ∙ ap (λ (fs : Fields). cond (is_nil fs) (Some (Some (leg_coded l))) None)
    (ap (behind_leg (leg_coded l)) whole ∙ past_leg l [])

no_backup : (to : Option ℤ) (next : Option texts.LegLine) → is_first (codes "b") (target_words to ++ next_line_words next) ≡ false
no_backup None None = refl
no_backup None (Some l) = refl
no_backup (Some n) next = refl

no_target : (next : Option texts.LegLine) → is_first (codes "to") (next_line_words next) ≡ false
no_target None = refl
no_target (Some l) = refl

-- ---- the service

demand_back : (s : texts.ServiceLine) (rest : Fields) → is_service_line s ≡ true →
    demand_at (codes "service" ∷ s.name ∷ s.src ∷ s.dst ∷ decimal s.rate ∷ class_word s.class ∷ rest) ≡ Some (demand_coded s)
unfolding demand_at
demand_back s rest h =
    let p = line-parts s h in
    let f5 = class_word s.class ∷ rest in
    let f4 = decimal s.rate ∷ f5 in
    let f3 = s.dst ∷ f4 in
    let f2 = s.src ∷ f3 in
    let f1 = s.name ∷ f2 in
    ap (λ (o : Option Name). o >>= by_src f1) (name-read s.name p.name_in)
    ∙ ap (λ (o : Option Name). o >>= by_dst s.name f2) (name-read s.src p.src_in)
    ∙ ap (λ (o : Option Name). o >>= by_rate s.name s.src f3) (name-read s.dst p.dst_in)
    ∙ ap (λ (o : Option ℕ). o >>= by_class s.name s.src s.dst f4) (number-read 1 60000 s.rate (omega arith) p.rate_in)
    ∙ ap (λ (o : Option Class). o >>= demand_of s.name s.src s.dst s.rate) (class_back s.class)

service_back : (s : texts.ServiceLine) → is_service_line s ≡ true → service_at (service_words s) ≡ Some (service_coded s)
unfolding service_at
service_back s h =
    let p = line-parts s h in
    let d = demand_coded s in
    let l = leg_coded s.leg in
    let f8 = next_line_words s.next in
    let f7 = target_words s.to ++ f8 in
    let f6 = leg_line_words s.leg ++ f7 in
    let regrouped : (leg_line_words s.leg ++ target_words s.to) ++ f8 ≡ f6 =
    append_assoc (leg_line_words s.leg) (target_words s.to) f8 in
    ap (λ (o : Option Demand). o >>= by_leg (service_words s))
    (demand_back s ((leg_line_words s.leg ++ target_words s.to) ++ f8) h)
    ∙ ap (λ (fs : Fields). leg_at fs >>= by_target d fs) regrouped
    ∙ ap (λ (o : Option LegLine). o >>= by_target d f6) (leg_back s.leg f7 p.leg_in (no_backup s.to s.next))
    ∙ ap (λ (fs : Fields). target_at fs >>= by_next d l fs) (past_leg s.leg f7)
    ∙ ap (λ (o : Option (Option ℤ)). o >>= by_next d l f7) (target_back s.to f8 p.to_in (no_target s.next))
    ∙ ap (λ (fs : Fields). next_at fs >>= service_of d l s.to) (past_target s.to f8)
    ∙ ap (λ (o : Option (Option LegLine)). o >>= service_of d l s.to) (next_back s.next p.next_in)

-- ---- both

line_of : (line : List ℕ) (s : texts.ServiceLine) → texts.service_told line ≡ Some s →
    (line ≡ service_text s) × (is_service_line s ≡ true)
line_of line s h =
    let t = told_by (service_read (fields_of line)) (λ v. is_service_line v && bytes_eq line (service_text v)) s h in
    let p = and_parts (is_service_line s) (bytes_eq line (service_text s)) t.1 in
    ((bytes_eq-Decides line (service_text s)).0 p.1, p.0)

pub service-read : (line : List ℕ) → option_map service_told (service_at (fields_of line)) ≡ texts.service_told line
service-read line = same_reading (option_map service_told (service_at (fields_of line))) (texts.service_told line)
    (λ s h.
    let v = mapped service_told (service_at (fields_of line)) s h in
    let t = service-taken (fields_of line) v.0 v.1 in
    ap texts.service_told (sym (spaced-fields line) ∙ ap spaced (t.front ∙ ap service_words v.2))
    ∙ service-again s (ap is_service_line (sym v.2) ∙ t.ok))
    (λ s h.
    let l = line_of line s h in
    let words : fields_of line ≡ service_words s = ap fields_of l.0
    ∙ fields-again (codes "service") (s.name ∷ s.src ∷ s.dst ∷ decimal s.rate ∷ class_word s.class
    ∷ leg_line_words s.leg ++ target_words s.to ++ next_line_words s.next) (words-lack s l.1) in
    ap (λ (fs : Fields). option_map service_told (service_at fs)) words ∙ ap (option_map service_told) (service_back s l.1)
    ∙ ap Some (service_same s))
