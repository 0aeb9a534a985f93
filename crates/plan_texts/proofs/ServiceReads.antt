-- The fields of a service's line are read as the service: what was read.
use Rattle.std.proofs.Common.{◌≡◌, refl, sym, ◌∙◌, ap, ℕ, ℤ, Bool, true, false, cond, List, [], ◌∷◌, ◌++◌, append_assoc, append-nil, drop, length, nat_eq, Option, Some, None, arith}
use Rattle.std.specs.Prelude.{codes, bytes_eq, nat_le}
use Rattle.std.specs.Option.{option_map, option_to_list}
use Rattle.std.specs.List.{list_all}
use Rattle.std.specs.Fmt.{decimal, signed_decimal}
use Rattle.std.proofs.lemmas.Bool.{and_from, le-leb}
use Rattle.std.proofs.lemmas.List.Splits.{join_with_byte-slice_split}
use Rattle.std.proofs.lemmas.Slice.Eq.{bytes_eq-Decides}
use Rattle.eon_model.specs.declared.Class.{Class}
use Rattle.eon_model.specs.declared.Class.TheVariants.{Bare, Shared, Dual}
use Rattle.eon_model.specs.Names.{Name, is_name}
use Rattle.eon_model.specs.CommandText.{is_centre, is_rate}
use Rattle.eon_model.specs.Listings.{class_word}
use Rattle.eon_model.specs.NetworkFault.{Fields}
use Rattle.eon_model.specs.Spelling.{fibre_list}
use Rattle.eon_model.specs.ReplyText.{target_words}
use Rattle.eon_model.specs.PlanTexts.{back_line_words, leg_line_words, next_line_words, is_path_line, is_leg_line, is_service_line}
use Rattle.eon_model.proofs.SplitLaws.{split_by, onto_first}
use Rattle.eon_base.specs.Names.{name_of}
use Rattle.command_text.specs.Parts.{comma_pieces, fibre_names_of}
use Rattle.command_text.proofs.FibreParts.{pieces-split}
use Rattle.net_file.specs.Readings.{first_read, is_nil}
use Rattle.plan_texts.specs.Fields.{◌>>=◌, guarded, number_within, centre_of, is_first}
use Rattle.plan_texts.specs.ServiceTold.{path_told, leg_told, service_told}
use Rattle.plan_texts.specs.Services.{class_of, demand_of, by_class, by_rate, by_dst, by_src, demand_at, behind_demand, path_of, by_width, by_centre, path_at, behind_path, back_at, behind_back, leg_of, by_back, leg_at, behind_leg, target_at, behind_target, last_leg, next_at, service_of, by_next, by_target, by_leg, service_at}
use Rattle.plan_texts.specs.declared.service.PathLine.{PathLine}
use Rattle.plan_texts.specs.declared.service.LegLine.{LegLine}
use Rattle.plan_texts.specs.declared.service.Demand.{Demand}
use Rattle.plan_texts.specs.declared.service.ServiceLine.{ServiceLine}
use Rattle.plan_texts.proofs.FieldSteps.{taken, went_on, passed, mapped, number-spelled, centre-spelled, name-spelled, word-front, nothing-left}
use Rattle.plan_texts.proofs.LineAgain.{service_words}

made : {A : Type 0} (x y : A) → Some x ≡ Some y → x ≡ y
made x y h = cc

-- ---- single fields

class_cases : (f : List ℕ) (class : Class) (bare shared dual : Bool) → bytes_eq f (codes "bare") ≡ bare →
    bytes_eq f (codes "shared") ≡ shared → bytes_eq f (codes "dual") ≡ dual →
    cond bare (Some Bare) (cond shared (Some Shared) (cond dual (Some Dual) None)) ≡ Some class → f ≡ class_word class
class_cases f class true shared dual a b c h =
    (bytes_eq-Decides f (codes "bare")).0 a ∙ ap class_word (made Bare class h)
class_cases f class false true dual a b c h =
    (bytes_eq-Decides f (codes "shared")).0 b ∙ ap class_word (made Shared class h)
class_cases f class false false true a b c h =
    (bytes_eq-Decides f (codes "dual")).0 c ∙ ap class_word (made Dual class h)
class_cases f class false false false a b c h = absurd (cc)

class-spelled : (class : Class) (f : List ℕ) → class_of f ≡ Some class → f ≡ class_word class
class-spelled class f h = class_cases f class (bytes_eq f (codes "bare")) (bytes_eq f (codes "shared"))
    (bytes_eq f (codes "dual")) refl refl refl h

record Listed (names : List Name) (f : List ℕ) : Type 0 where
  is : f ≡ fibre_list names
  named : list_all is_name names ≡ true
  some : nat_le 1 (length names) ≡ true

onto_some : (b : ℕ) (pieces : List Name) → nat_le 1 (length (onto_first b pieces)) ≡ true
onto_some b [] = le-leb 1 1 (omega arith)
onto_some b (p ∷ pieces) = le-leb 1 (length (p ∷ pieces)) (omega arith)

split_some : (bytes : List ℕ) → nat_le 1 (length (split_by 44 bytes)) ≡ true
split_some [] = le-leb 1 1 (omega arith)
split_some (b ∷ bytes) = by (nat_eq b 44)
  where
    by : (t : Bool) → nat_le 1 (length (cond t ([] ∷ split_by 44 bytes) (onto_first b (split_by 44 bytes)))) ≡ true
    by true = le-leb 1 (length ([] ∷ split_by 44 bytes)) (omega arith)
    by false = onto_some b (split_by 44 bytes)

pieces_some : (bytes : List ℕ) → nat_le 1 (length (comma_pieces bytes)) ≡ true
pieces_some bytes = ap (λ (ps : List Name). nat_le 1 (length ps)) (sym (pieces-split bytes)) ∙ split_some bytes

fibres-spelled : (names : List Name) (f : List ℕ) → fibre_names_of f ≡ Some names → Listed names f
fibres-spelled names f h = by (list_all is_name (comma_pieces f)) refl h
  where
    by : (b : Bool) → list_all is_name (comma_pieces f) ≡ b → cond b (Some (comma_pieces f)) None ≡ Some names → Listed names f
    by true e k =
        let same : comma_pieces f ≡ names = made (comma_pieces f) names k in record {
          is = sym (join_with_byte-slice_split 44 f) ∙ ap fibre_list same;
          named = ap (list_all is_name) (sym same) ∙ e;
          some = ap (λ (ps : List Name). nat_le 1 (length ps)) (sym same) ∙ pieces_some f;
        }
    by false e k = absurd (cc)

-- ---- paths and legs

record PathTaken (fields : Fields) (p : PathLine) : Type 0 where
  front : fields ≡ fibre_list p.fibres ∷ signed_decimal p.n ∷ decimal p.m ∷ behind_path fields
  ok : is_path_line (path_told p) ≡ true

path_taken : (fields : Fields) (p : PathLine) → path_at fields ≡ Some p → PathTaken fields p
unfolding path_at
path_taken fields p h =
    let f1 = drop 1 fields in
    let f2 = drop 1 f1 in
    let a = taken fibre_names_of fields (by_centre fields) p h in
    let b = taken centre_of f1 (by_width a.value f1) p a.more in
    let c = taken (number_within 1 512) f2 (path_of a.value b.value) p b.more in
    let it : PathLine = record { fibres = a.value; n = b.value; m = c.value } in
    let same : it ≡ p = made it p c.more in
    let names = fibres-spelled a.value a.field a.is in
    let n = centre-spelled b.value b.field b.is in
    let m = number-spelled 1 512 c.value c.field (omega arith) c.is in
    let front : fields ≡ fibre_list a.value ∷ signed_decimal b.value ∷ decimal c.value ∷ drop 1 f2 =
    a.front ∙ (λ i. names.is i ∷ (b.front ∙ (λ j. n.0 j ∷ (c.front ∙ ap (λ v. v ∷ drop 1 f2) m.0) j)) i) in
    record {
      front = front ∙ ap (λ (v : PathLine). fibre_list v.fibres ∷ signed_decimal v.n ∷ decimal v.m ∷ drop 1 f2) same;
      ok = ap (λ (v : PathLine). is_path_line (path_told v)) (sym same)
          ∙ and_from _ _ (and_from _ _ (and_from _ _ names.some names.named) n.1) m.1;
    }

record BackTaken (fields : Fields) (back : Option PathLine) : Type 0 where
  front : fields ≡ back_line_words (option_map path_told back) ++ behind_back back fields
  ok : list_all is_path_line (option_to_list (option_map path_told back)) ≡ true

back_cases : (fields : Fields) (back : Option PathLine) (there : Bool) → is_first (codes "b") fields ≡ there →
    cond there (option_map Some (path_at (drop 1 fields))) (Some None) ≡ Some back → BackTaken fields back
back_cases fields None false e h = record { front = refl; ok = refl }
back_cases fields (Some p) false e h = absurd (cc)
back_cases fields None true e h = let m = mapped Some (path_at (drop 1 fields)) None h in let no = m.2 in absurd (cc)
back_cases fields (Some p) true e h =
    let m = mapped Some (path_at (drop 1 fields)) (Some p) h in
    let t = path_taken (drop 1 fields) p (m.1 ∙ m.2) in
    record {
      front = word-front (codes "b") fields e ∙ ap (λ (fs : Fields). codes "b" ∷ fs) t.front;
      ok = and_from _ _ t.ok refl;
    }

back_taken : (fields : Fields) (back : Option PathLine) → back_at fields ≡ Some back → BackTaken fields back
unfolding back_at
back_taken fields back h = back_cases fields back (is_first (codes "b") fields) refl h

record LegTaken (fields : Fields) (l : LegLine) : Type 0 where
  front : fields ≡ leg_line_words (leg_told l) ++ behind_leg l fields
  ok : is_leg_line (leg_told l) ≡ true

leg_taken : (fields : Fields) (l : LegLine) → leg_at fields ≡ Some l → LegTaken fields l
unfolding leg_at
leg_taken fields l h =
    let f1 = drop 1 fields in
    let g = passed (is_first (codes "w") fields) (path_at f1 >>= by_back (behind_path f1)) l h in
    let a = went_on (path_at f1) (by_back (behind_path f1)) l g.1 in
    let b = went_on (back_at (behind_path f1)) (leg_of a.0) l a.2 in
    let it : LegLine = record { work = a.0; back = b.0 } in
    let same : it ≡ l = made it l b.2 in
    let work = path_taken f1 a.0 a.1 in
    let back = back_taken (behind_path f1) b.0 b.1 in
    let front : fields ≡ leg_line_words (leg_told it) ++ behind_leg it fields =
    word-front (codes "w") fields g.0 ∙ ap (λ (fs : Fields). codes "w" ∷ fs) (work.front
    ∙ ap (λ (fs : Fields). fibre_list a.0.fibres ∷ signed_decimal a.0.n ∷ decimal a.0.m ∷ fs) back.front) in
    record {
      front = front ∙ ap (λ (v : LegLine). leg_line_words (leg_told v) ++ behind_leg v fields) same;
      ok = ap (λ (v : LegLine). is_leg_line (leg_told v)) (sym same) ∙ and_from _ _ work.ok back.ok;
    }

-- ---- what moves

record TargetTaken (fields : Fields) (to : Option ℤ) : Type 0 where
  front : fields ≡ target_words to ++ behind_target to fields
  ok : list_all is_centre (option_to_list to) ≡ true

target_cases : (fields : Fields) (to : Option ℤ) (there : Bool) → is_first (codes "to") fields ≡ there →
    cond there (option_map Some (first_read centre_of (drop 1 fields))) (Some None) ≡ Some to → TargetTaken fields to
target_cases fields None false e h = record { front = refl; ok = refl }
target_cases fields (Some n) false e h = absurd (cc)
target_cases fields None true e h =
    let m = mapped Some (first_read centre_of (drop 1 fields)) None h in let no = m.2 in absurd (cc)
target_cases fields (Some n) true e h =
    let m = mapped Some (first_read centre_of (drop 1 fields)) (Some n) h in
    let t = taken centre_of (drop 1 fields) (λ (x : ℤ). Some x) n (ap (λ (o : Option ℤ). o >>= λ x. Some x) (m.1 ∙ m.2)) in
    let s = centre-spelled t.value t.field t.is in
    let same : t.value ≡ n = made t.value n t.more in
    record {
      front = word-front (codes "to") fields e ∙ ap (λ (fs : Fields). codes "to" ∷ fs) (t.front
          ∙ ap (λ v. v ∷ drop 1 (drop 1 fields)) (s.0 ∙ ap signed_decimal same));
      ok = and_from _ _ (ap is_centre (sym same) ∙ s.1) refl;
    }

target_taken : (fields : Fields) (to : Option ℤ) → target_at fields ≡ Some to → TargetTaken fields to
unfolding target_at
target_taken fields to h = target_cases fields to (is_first (codes "to") fields) refl h

record NextTaken (fields : Fields) (next : Option LegLine) : Type 0 where
  front : fields ≡ next_line_words (option_map leg_told next)
  ok : list_all is_leg_line (option_to_list (option_map leg_told next)) ≡ true

last_by : (b : Bool) (l : LegLine) (next : Option LegLine) → cond b (Some (Some l)) None ≡ Some next →
    (b ≡ true) × (Some l ≡ next)
last_by true l next h = (refl, made (Some l) next h)
last_by false l next h = absurd (cc)

next_some : (fields : Fields) (l : LegLine) (next : Option LegLine) → is_first (codes "and") fields ≡ true →
    leg_at (drop 1 fields) ≡ Some l → is_nil (behind_leg l (drop 1 fields)) ≡ true → Some l ≡ next → NextTaken fields next
next_some fields l None e h b same = absurd (cc)
next_some fields l (Some other) e h b same =
    let t = leg_taken (drop 1 fields) l h in
    let is : l ≡ other = made l other same in
    let words : fields ≡ codes "and" ∷ leg_line_words (leg_told l) ++ [] =
    word-front (codes "and") fields e ∙ ap (λ (fs : Fields). codes "and" ∷ fs) (t.front
    ∙ ap (λ (fs : Fields). leg_line_words (leg_told l) ++ fs) (nothing-left (behind_leg l (drop 1 fields)) b)) in
    record {
      front = words ∙ ap (λ (fs : Fields). codes "and" ∷ fs) (append-nil (leg_line_words (leg_told l)))
          ∙ ap (λ (v : LegLine). codes "and" ∷ leg_line_words (leg_told v)) is;
      ok = and_from _ _ (ap (λ (v : LegLine). is_leg_line (leg_told v)) (sym is) ∙ t.ok) refl;
    }

next_cases : (fields : Fields) (next : Option LegLine) (none : Bool) → is_nil fields ≡ none →
    cond none (Some None) (guarded (is_first (codes "and") fields) (leg_at (drop 1 fields) >>= last_leg (drop 1 fields))) ≡ Some next →
    NextTaken fields next
next_cases fields None true e h = record { front = nothing-left fields e; ok = refl }
next_cases fields (Some l) true e h = absurd (cc)
next_cases fields next false e h =
    let g = passed (is_first (codes "and") fields) (leg_at (drop 1 fields) >>= last_leg (drop 1 fields)) next h in
    let a = went_on (leg_at (drop 1 fields)) (last_leg (drop 1 fields)) next g.1 in
    let l = last_by (is_nil (behind_leg a.0 (drop 1 fields))) a.0 next a.2 in
    next_some fields a.0 next g.0 a.1 l.0 l.1

next_taken : (fields : Fields) (next : Option LegLine) → next_at fields ≡ Some next → NextTaken fields next
unfolding next_at
next_taken fields next h = next_cases fields next (is_nil fields) refl h

-- ---- the service

record DemandTaken (fields : Fields) (d : Demand) : Type 0 where
  front : fields ≡ codes "service" ∷ d.name ∷ d.src ∷ d.dst ∷ decimal d.rate ∷ class_word d.class ∷ behind_demand fields
  name_in : is_name d.name ≡ true
  src_in : is_name d.src ≡ true
  dst_in : is_name d.dst ≡ true
  rate_in : is_rate d.rate ≡ true

demand_taken : (fields : Fields) (d : Demand) → demand_at fields ≡ Some d → DemandTaken fields d
unfolding demand_at
demand_taken fields d h =
    let f1 = drop 1 fields in
    let f2 = drop 1 f1 in
    let f3 = drop 1 f2 in
    let f4 = drop 1 f3 in
    let f5 = drop 1 f4 in
    let g = passed (is_first (codes "service") fields) (first_read name_of f1 >>= by_src f1) d h in
    let n = taken name_of f1 (by_src f1) d g.1 in
    let s = taken name_of f2 (by_dst n.value f2) d n.more in
    let t = taken name_of f3 (by_rate n.value s.value f3) d s.more in
    let r = taken (number_within 1 60000) f4 (by_class n.value s.value t.value f4) d t.more in
    let c = taken class_of f5 (demand_of n.value s.value t.value r.value) d r.more in
    let it : Demand = record { name = n.value; src = s.value; dst = t.value; rate = r.value; class = c.value } in
    let same : it ≡ d = made it d c.more in
    let name = name-spelled n.value n.field n.is in
    let src = name-spelled s.value s.field s.is in
    let dst = name-spelled t.value t.field t.is in
    let rate = number-spelled 1 60000 r.value r.field (omega arith) r.is in
    let class = class-spelled c.value c.field c.is in
    let fifth : f5 ≡ class_word c.value ∷ drop 1 f5 = c.front ∙ ap (λ v. v ∷ drop 1 f5) class in
    let fourth : f4 ≡ decimal r.value ∷ class_word c.value ∷ drop 1 f5 = r.front ∙ (λ i. rate.0 i ∷ fifth i) in
    let third : f3 ≡ t.value ∷ decimal r.value ∷ class_word c.value ∷ drop 1 f5 = t.front ∙ (λ i. dst.0 i ∷ fourth i) in
    let second : f2 ≡ s.value ∷ t.value ∷ decimal r.value ∷ class_word c.value ∷ drop 1 f5 = s.front ∙ (λ i. src.0 i ∷ third i) in
    let front : fields ≡ codes "service" ∷ n.value ∷ s.value ∷ t.value ∷ decimal r.value ∷ class_word c.value ∷ drop 1 f5 =
    word-front (codes "service") fields g.0 ∙ ap (λ (fs : Fields). codes "service" ∷ fs) (n.front ∙ (λ i. name.0 i ∷ second i)) in
    record {
      front = front ∙ ap (λ (v : Demand). codes "service" ∷ v.name ∷ v.src ∷ v.dst ∷ decimal v.rate ∷ class_word v.class ∷ drop 1 f5) same;
      name_in = ap (λ (v : Demand). is_name v.name) (sym same) ∙ name.1;
      src_in = ap (λ (v : Demand). is_name v.src) (sym same) ∙ src.1;
      dst_in = ap (λ (v : Demand). is_name v.dst) (sym same) ∙ dst.1;
      rate_in = ap (λ (v : Demand). is_rate v.rate) (sym same) ∙ rate.1;
    }

pub record ServiceTaken (fields : Fields) (s : ServiceLine) : Type 0 where
  pub front : fields ≡ service_words (service_told s)
  pub ok : is_service_line (service_told s) ≡ true

pub service-taken : (fields : Fields) (s : ServiceLine) → service_at fields ≡ Some s → ServiceTaken fields s
unfolding service_at
service-taken fields s h =
    let f6 = behind_demand fields in
    let d = went_on (demand_at fields) (by_leg fields) s h in
    let l = went_on (leg_at f6) (by_target d.0 f6) s d.2 in
    let f7 = behind_leg l.0 f6 in
    let t = went_on (target_at f7) (by_next d.0 l.0 f7) s l.2 in
    let f8 = behind_target t.0 f7 in
    let n = went_on (next_at f8) (service_of d.0 l.0 t.0) s t.2 in
    let it : ServiceLine = record { demand = d.0; leg = l.0; to = t.0; next = n.0 } in
    let same : it ≡ s = made it s n.2 in
    let demand = demand_taken fields d.0 d.1 in
    let leg = leg_taken f6 l.0 l.1 in
    let target = target_taken f7 t.0 t.1 in
    let next = next_taken f8 n.0 n.1 in
    let words = leg_line_words (leg_told l.0) in
    let behind : f6 ≡ (words ++ target_words t.0) ++ next_line_words (option_map leg_told n.0) =
    leg.front ∙ ap (λ (fs : Fields). words ++ fs) (target.front ∙ ap (λ (fs : Fields). target_words t.0 ++ fs) next.front)
    ∙ sym (append_assoc words (target_words t.0) (next_line_words (option_map leg_told n.0))) in
    let front : fields ≡ service_words (service_told it) =
    demand.front ∙ ap (λ (fs : Fields). codes "service" ∷ d.0.name ∷ d.0.src ∷ d.0.dst ∷ decimal d.0.rate ∷ class_word d.0.class ∷ fs) behind in
    record {
      front = front ∙ ap (λ (v : ServiceLine). service_words (service_told v)) same;
      ok = ap (λ (v : ServiceLine). is_service_line (service_told v)) (sym same)
          ∙ and_from _ _ (and_from _ _ (and_from _ _ (and_from _ _ (and_from _ _ (and_from _ _ demand.name_in demand.src_in)
          demand.dst_in) demand.rate_in) leg.ok) target.ok) next.ok;
    }
