-- What follows the first word of each command is read.
use Rattle.std.proofs.Common.{◌≡◌, refl, sym, ◌∙◌, ap, subst, ℕ, true, ◌&&◌, List, [], ◌∷◌, ◌++◌, Option, Some, None, Ok, inl, inr, append_assoc}
use Rattle.std.specs.Prelude.{codes}
use Rattle.std.specs.Option.{option_to_list}
use Rattle.std.specs.List.{flat_map}
use Rattle.std.specs.Fmt.{signed_decimal}
use Rattle.std.proofs.lemmas.Bool.{and_parts}
use Rattle.std.proofs.lemmas.List.{append-nil}
use Rattle.eon_model.specs.Names.{Name, is_name}
use Rattle.eon_model.specs.Commands.{Demand, PathWords, Command}
use Rattle.eon_model.specs.CommandText.{demand_words, path_words, is_centre, is_demand, is_path, has_its_backup, is_command}
use Rattle.command_text.specs.declared.verb.Verb.{Verb}
use Rattle.command_text.specs.declared.verb.Verb.TheVariants as verb
use Rattle.command_text.specs.Reading.{Read, ◌>>=◌, after}
use Rattle.command_text.specs.Parts.{name_at}
use Rattle.command_text.specs.Lines.{field_at, named_at, place_at, admit_at, push_at, avoid_at, make_at, routes_at, rest_at}
use Rattle.command_text.specs.Words.{behind, verb_of, rest_words}
use Rattle.command_text.proofs.PartLaws.{Open, IsNil, Open-nil, IsPart, part-by, narrow, done-part, Then, then-part}
use Rattle.command_text.proofs.WordLaws.{after-part}
use Rattle.command_text.proofs.ChoiceLaws.{OrNothing, or_nothing_read, or-nothing-part, part-read}
use Rattle.command_text.proofs.NameParts.{name-part}
use Rattle.command_text.proofs.CentreParts.{centre-part}
use Rattle.command_text.proofs.FieldLaws.{behind-Open, behind-append, field-part, Field-Open, Done, Done-Open, Opens, Then-Open, with_field, DemandText, demand-part, PathText, path-part, BackText, back-part, has-backs}
use Rattle.command_text.proofs.CommandFields.{RestText, AvoidText, PlaceFields, NamedFields, PushFields, MakeFields, RoutesFields, Fields, fields_to}

-- ---- that text is read so

place_from : (d : Demand) (work : PathWords) (back : Option PathWords) → is_demand d ≡ true →
    is_path work ≡ true → has_its_backup d back ≡ true →
    PlaceFields (Command.Place d work back) (behind
    (demand_words d ++ path_words work ++ flat_map path_words (option_to_list back)))
place_from d work back hd hw hb =
    let last = flat_map path_words (option_to_list back) in
    let end : Then (BackText d.class) (λ b. Done (Command.Place d work b)) (Command.Place d work back) (behind last) =
    record {
      first = back;
      front = behind last;
      back = [];
      first_is =
          (sym (has-backs d back) ∙ hb, refl);
      back_is = (refl, refl);
      is = sym (append-nil (behind last));
    } in
    record {
      first = d;
      front = behind (demand_words d);
      back = behind (path_words work) ++ behind last;
      first_is = (hd, refl);
      back_is = record {
        first = work;
        front = behind (path_words work);
        back = behind last;
        first_is =
            (hw, refl);
        back_is = end;
        is = refl;
      };
      is = behind-append (demand_words d ++ path_words work) last ∙ ap (λ v. v ++ behind last)
          (behind-append (demand_words d) (path_words work))
          ∙ append_assoc (behind (demand_words d)) (behind (path_words work)) (behind last);
    }

pub fields_from : (c : Command) → is_command c ≡ true → Fields (verb_of c) c (behind (rest_words c))
fields_from (Command.Place d work back) h =
    let a = and_parts (is_demand d && is_path work) (has_its_backup d back) h in
    let b = and_parts (is_demand d) (is_path work) a.0 in
    place_from d work back b.0 b.1 a.1
fields_from (Command.Admit d) h = record {
  first = d;
  front = behind (demand_words d);
  back = [];
  first_is = (h, refl);
  back_is = (refl, refl);
  is = sym (append-nil (behind (demand_words d)));
}
fields_from (Command.Push name n) h = let p = and_parts (is_name name) (is_centre n) h in
    with_field name (Command.Push name n) _ p.0 (with_field n (Command.Push name n) [] p.1 (refl, refl))
fields_from (Command.Make name None) h = with_field name (Command.Make name None) []
    (and_parts (is_name name) true h).0 (inl (refl, refl))
fields_from (Command.Make name (Some fibre)) h =
    let p = and_parts (is_name name) (is_name fibre && true) h in
    let back : AvoidText name (Command.Make name (Some fibre)) (codes " avoid" ++ (32 ∷ fibre ++ [])) = record {
      back = 32 ∷ fibre ++ [];
      back_is = with_field fibre (Command.Make name (Some fibre)) [] (and_parts (is_name fibre) true p.1).0
          (refl, refl);
      is = refl;
    } in
    with_field name (Command.Make name (Some fibre)) _ p.0 (inr back)
fields_from (Command.Routes s t) h = let p = and_parts (is_name s) (is_name t) h in
    with_field s (Command.Routes s t) _ p.0 (with_field t (Command.Routes s t) [] p.1 (refl, refl))
fields_from (Command.Release name) h = with_field name (Command.Release name) [] h (refl, refl)
fields_from (Command.Finish name) h = with_field name (Command.Finish name) [] h (refl, refl)
fields_from (Command.Back name) h = with_field name (Command.Back name) [] h (refl, refl)
fields_from (Command.Refit name) h = with_field name (Command.Refit name) [] h (refl, refl)
fields_from (Command.Drill name) h = with_field name (Command.Drill name) [] h (refl, refl)
fields_from (Command.Show name) h = with_field name (Command.Show name) [] h (refl, refl)
fields_from (Command.Map name) h = with_field name (Command.Map name) [] h (refl, refl)
fields_from Command.Compact h = (refl, refl)
fields_from Command.List h = (refl, refl)
fields_from Command.Stats h = (refl, refl)
fields_from Command.Report h = (refl, refl)
fields_from Command.Quit h = (refl, refl)

rest_from : (v : Verb) (c : Command) (t : List ℕ) → RestText v c t → Fields v c t
rest_from v c t h = subst (λ (u : List ℕ). Fields v c u) (sym h.is)
    (subst (λ (w : Verb). Fields w c (behind (rest_words c))) h.verb_is (fields_from c h.in_range))

-- ---- reading

demand_open : Opens DemandText
demand_open d t h = subst Open (sym h.1) refl

path_open : Opens PathText
path_open p t h = subst Open (sym h.1) refl

place_fields : IsPart Open PlaceFields place_at
unfolding place_at
place_fields =
    then-part demand-part (λ d. then-part path-part
    (λ work. then-part (back-part d.class) (λ back. done-part Open (Command.Place d work back))
    (λ back c t h. Done-Open t h) (λ rest h. h))
    (λ work. Then-Open (back_open d) (λ back c t h. Done-Open t h)) (λ rest h. h))
    (λ d. Then-Open path_open (λ work. Then-Open (back_open d) (λ back c t h. Done-Open t h))) (λ rest h. h)
  where
    back_open : (d : Demand) → Opens (BackText d.class)
    back_open d back t h = subst Open (sym h.1) (behind-Open (flat_map path_words (option_to_list back)))

admit_fields : IsPart Open (Then DemandText (λ d. Done (Command.Admit d))) admit_at
unfolding admit_at
admit_fields = then-part demand-part (λ d. done-part Open (Command.Admit d)) (λ d c t h. Done-Open t h) (λ rest h. h)

push_fields : IsPart Open PushFields push_at
unfolding push_at
push_fields = then-part (field-part name-part) (λ name. then-part (field-part centre-part)
    (λ n. done-part Open (Command.Push name n))
    (λ n c t h. Done-Open t h) (λ rest h. h))
    (λ name. Then-Open (Field-Open is_centre signed_decimal) (λ n c t h. Done-Open t h)) (λ rest h. h)

routes_fields : IsPart Open RoutesFields routes_at
unfolding routes_at
routes_fields = then-part (field-part name-part) (λ s. then-part (field-part name-part)
    (λ t. done-part Open (Command.Routes s t))
    (λ n c t h. Done-Open t h) (λ rest h. h))
    (λ s. Then-Open (Field-Open is_name (λ v. v)) (λ n c t h. Done-Open t h)) (λ rest h. h)

named_fields : (command : Name → Command) → IsPart Open (NamedFields command) (named_at command)
named_fields command = then-part (field-part name-part) (λ name. done-part Open (command name))
    (λ n c t h. Done-Open t h) (λ rest h. h)

avoided : Name → List ℕ → Read Command
avoided name bytes = after (codes " avoid") bytes >>= λ rest.
    (field_at name_at rest >>= λ fibre. Ok (Command.Make name (Some fibre.0), fibre.1))

avoid_text : (name : Name) → IsPart Open (AvoidText name) (avoided name)
unfolding avoided
avoid_text name = after-part (codes " avoid") (then-part (field-part name-part)
    (λ fibre. done-part Open (Command.Make name (Some fibre))) (λ n c t h. Done-Open t h) (λ rest h. h))

avoid_same : (name : Name) (bytes : List ℕ) →
    or_nothing_read (Command.Make name None) (avoided name) bytes ≡ avoid_at name bytes
unfolding avoided avoid_at
avoid_same name [] = refl
avoid_same name (b ∷ bytes) = refl

avoid_fields : (name : Name) → IsPart IsNil (OrNothing (Command.Make name None) (AvoidText name)) (avoid_at name)
avoid_fields name = part-read (or_nothing_read (Command.Make name None) (avoided name)) (avoid_at name)
    (avoid_same name)
    (or-nothing-part (Command.Make name None) (narrow (avoid_text name)) (λ c h. let bad = h.is in absurd cc))

make_fields : IsPart IsNil MakeFields make_at
unfolding make_at
make_fields = then-part (field-part name-part) avoid_fields avoid_open Open-nil
  where
    avoid_open : (name : Name) → Opens (OrNothing (Command.Make name None) (AvoidText name))
    avoid_open name c t (inl h) = Done-Open t h
    avoid_open name c t (inr h) = subst Open (sym h.is) refl

rest_fields : (v : Verb) → IsPart IsNil (Fields v) (rest_at v)
unfolding rest_at
rest_fields verb.Place = narrow place_fields
rest_fields verb.Admit = narrow admit_fields
rest_fields verb.Push = narrow push_fields
rest_fields verb.Make = make_fields
rest_fields verb.Routes = narrow routes_fields
rest_fields verb.Release = narrow (named_fields Command.Release)
rest_fields verb.Finish = narrow (named_fields Command.Finish)
rest_fields verb.Back = narrow (named_fields Command.Back)
rest_fields verb.Refit = narrow (named_fields Command.Refit)
rest_fields verb.Drill = narrow (named_fields Command.Drill)
rest_fields verb.Show = narrow (named_fields Command.Show)
rest_fields verb.Map = narrow (named_fields Command.Map)
rest_fields verb.Compact = done-part IsNil Command.Compact
rest_fields verb.List = done-part IsNil Command.List
rest_fields verb.Stats = done-part IsNil Command.Stats
rest_fields verb.Report = done-part IsNil Command.Report
rest_fields verb.Quit = done-part IsNil Command.Quit

pub rest-part : (v : Verb) → IsPart IsNil (RestText v) (rest_at v)
rest-part v = part-by (rest_fields v) (fields_to v) (rest_from v)
