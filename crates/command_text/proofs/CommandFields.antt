-- What follows the first word of each command, and the command that it makes.
use Rattle.std.proofs.Common.{◌≡◌, refl, sym, ◌∙◌, ap, subst, ℕ, true, List, [], ◌∷◌, ◌++◌, Some, None, inl, inr, append_assoc}
use Rattle.std.specs.Prelude.{codes}
use Rattle.std.specs.Option.{option_to_list}
use Rattle.std.specs.List.{flat_map}
use Rattle.std.specs.Fmt.{signed_decimal}
use Rattle.std.proofs.lemmas.Bool.{and_from}
use Rattle.std.proofs.lemmas.List.{append-nil}
use Rattle.eon_model.specs.Names.{Name, is_name}
use Rattle.eon_model.specs.Commands.{Command}
use Rattle.eon_model.specs.CommandText.{demand_words, path_words, command_words, is_centre, is_command}
use Rattle.command_text.specs.declared.verb.Verb.{Verb}
use Rattle.command_text.specs.declared.verb.Verb.TheVariants as verb
use Rattle.command_text.specs.Lines.{verb_word}
use Rattle.command_text.specs.Words.{behind, verb_of, rest_words}
use Rattle.command_text.proofs.PartLaws.{Open, Then}
use Rattle.command_text.proofs.WordLaws.{After}
use Rattle.command_text.proofs.ChoiceLaws.{OrNothing}
use Rattle.command_text.proofs.FieldLaws.{behind-Open, behind-append, Field, Done, Opens, field_is, DemandText, PathText, BackText, has-backs}

pub words_are : (c : Command) → command_words c ≡ verb_word (verb_of c) ∷ rest_words c
words_are (Command.Place d work back) = refl
words_are (Command.Admit d) = refl
words_are (Command.Release name) = refl
words_are (Command.Push name n) = refl
words_are (Command.Make name avoid) = refl
words_are (Command.Finish name) = refl
words_are (Command.Back name) = refl
words_are (Command.Refit name) = refl
words_are Command.Compact = refl
words_are (Command.Drill name) = refl
words_are (Command.Routes s t) = refl
words_are (Command.Show name) = refl
words_are Command.List = refl
words_are (Command.Map name) = refl
words_are Command.Stats = refl
words_are Command.Report = refl
words_are Command.Quit = refl

-- the one text of what follows the verb
pub record RestText (v : Verb) (c : Command) (t : List ℕ) : Type 0 where
  pub verb_is : verb_of c ≡ v
  pub in_range : is_command c ≡ true
  pub is : t ≡ behind (rest_words c)

pub RestText-Open : (v : Verb) → Opens (RestText v)
RestText-Open v c t h = subst Open (sym h.is) (behind-Open (rest_words c))

-- as it is read, field by field
abbrev pub NameField : Name → List ℕ → Type 0
NameField = Field is_name (λ v. v)

abbrev pub AvoidText : Name → Command → List ℕ → Type 0
AvoidText name = After (codes " avoid") (Then NameField (λ fibre. Done (Command.Make name (Some fibre))))

abbrev pub PlaceFields : Command → List ℕ → Type 0
PlaceFields = Then DemandText (λ d. Then PathText (λ work. Then (BackText d.class)
    (λ back. Done (Command.Place d work back))))

abbrev pub NamedFields : (Name → Command) → Command → List ℕ → Type 0
NamedFields command = Then NameField (λ name. Done (command name))

abbrev pub PushFields : Command → List ℕ → Type 0
PushFields = Then NameField (λ name. Then (Field is_centre signed_decimal) (λ n. Done (Command.Push name n)))

abbrev pub MakeFields : Command → List ℕ → Type 0
MakeFields = Then NameField (λ name. OrNothing (Command.Make name None) (AvoidText name))

abbrev pub RoutesFields : Command → List ℕ → Type 0
RoutesFields = Then NameField (λ s. Then NameField (λ t. Done (Command.Routes s t)))

abbrev pub Fields : Verb → Command → List ℕ → Type 0
Fields verb.Place = PlaceFields
Fields verb.Admit = Then DemandText (λ d. Done (Command.Admit d))
Fields verb.Push = PushFields
Fields verb.Make = MakeFields
Fields verb.Routes = RoutesFields
Fields verb.Release = NamedFields Command.Release
Fields verb.Finish = NamedFields Command.Finish
Fields verb.Back = NamedFields Command.Back
Fields verb.Refit = NamedFields Command.Refit
Fields verb.Drill = NamedFields Command.Drill
Fields verb.Show = NamedFields Command.Show
Fields verb.Map = NamedFields Command.Map
Fields verb.Compact = Done Command.Compact
Fields verb.List = Done Command.List
Fields verb.Stats = Done Command.Stats
Fields verb.Report = Done Command.Report
Fields verb.Quit = Done Command.Quit

-- ---- what is read so is that text

rest_by : (c d : Command) (t : List ℕ) → c ≡ d → is_command d ≡ true → t ≡ behind (rest_words d) →
    RestText (verb_of d) c t
rest_by c d t e h is = subst (λ (k : Command). RestText (verb_of d) k t) (sym e)
    (record { verb_is = refl; in_range = h; is = is })

place_to : (c : Command) (t : List ℕ) → PlaceFields c t → RestText verb.Place c t
place_to c t d =
    let work = d.back_is in
    let back = work.back_is in
    let done = back.back_is in
    let words = path_words work.first in
    let last = flat_map path_words (option_to_list back.first) in
    let parts : t ≡ behind (demand_words d.first) ++ (behind words ++ behind last) =
    d.is ∙ (λ i. d.first_is.1 i ++ (work.is ∙ (λ j. work.first_is.1 j ++
    (back.is ∙ (λ k. back.first_is.1 k ++ done.1 k) ∙ append-nil (behind last)) j)) i) in
    let joined : behind (demand_words d.first ++ words ++ last) ≡ behind (demand_words d.first) ++
    (behind words ++ behind last) =
    behind-append (demand_words d.first ++ words) last ∙ ap (λ v. v ++ behind last)
    (behind-append (demand_words d.first) words)
    ∙ append_assoc (behind (demand_words d.first)) (behind words) (behind last) in
    rest_by c (Command.Place d.first work.first back.first) t done.0
    (and_from _ _ (and_from _ _ d.first_is.0 work.first_is.0) (has-backs d.first back.first ∙ back.first_is.0))
    (parts ∙ sym joined)

admit_to : (c : Command) (t : List ℕ) → Then DemandText (λ d. Done (Command.Admit d)) c t → RestText verb.Admit c t
admit_to c t d = rest_by c (Command.Admit d.first) t d.back_is.0 d.first_is.0
    (d.is ∙ (λ i. d.first_is.1 i ++ d.back_is.1 i) ∙ append-nil (behind (demand_words d.first)))

push_to : (c : Command) (t : List ℕ) → PushFields c t → RestText verb.Push c t
push_to c t name = let n = name.back_is in
    rest_by c (Command.Push name.first n.first) t n.back_is.0 (and_from _ _ name.first_is.0 n.first_is.0)
    (field_is name _ (field_is n [] n.back_is.1))

make_to : (c : Command) (t : List ℕ) → MakeFields c t → RestText verb.Make c t
make_to c t name = elim name.back_is [
  | inl h ↦ rest_by c (Command.Make name.first None) t h.0 (and_from _ _ name.first_is.0 refl) (field_is name [] h.1)
  | inr h ↦
      let fibre = h.back_is in
      rest_by c (Command.Make name.first (Some fibre.first)) t fibre.back_is.0
      (and_from _ _ name.first_is.0 (and_from _ _ fibre.first_is.0 refl))
      (field_is name _ (h.is ∙ ap (λ v. codes " avoid" ++ v) (field_is fibre [] fibre.back_is.1)))
]

routes_to : (c : Command) (t : List ℕ) → RoutesFields c t → RestText verb.Routes c t
routes_to c t a = let b = a.back_is in
    rest_by c (Command.Routes a.first b.first) t b.back_is.0 (and_from _ _ a.first_is.0 b.first_is.0)
    (field_is a _ (field_is b [] b.back_is.1))

pub fields_to : (v : Verb) (c : Command) (t : List ℕ) → Fields v c t → RestText v c t
fields_to verb.Place c t h = place_to c t h
fields_to verb.Admit c t h = admit_to c t h
fields_to verb.Push c t h = push_to c t h
fields_to verb.Make c t h = make_to c t h
fields_to verb.Routes c t h = routes_to c t h
fields_to verb.Release c t h = rest_by c (Command.Release h.first) t h.back_is.0 h.first_is.0
    (field_is h [] h.back_is.1)
fields_to verb.Finish c t h = rest_by c (Command.Finish h.first) t h.back_is.0 h.first_is.0
    (field_is h [] h.back_is.1)
fields_to verb.Back c t h = rest_by c (Command.Back h.first) t h.back_is.0 h.first_is.0 (field_is h [] h.back_is.1)
fields_to verb.Refit c t h = rest_by c (Command.Refit h.first) t h.back_is.0 h.first_is.0 (field_is h [] h.back_is.1)
fields_to verb.Drill c t h = rest_by c (Command.Drill h.first) t h.back_is.0 h.first_is.0 (field_is h [] h.back_is.1)
fields_to verb.Show c t h = rest_by c (Command.Show h.first) t h.back_is.0 h.first_is.0 (field_is h [] h.back_is.1)
fields_to verb.Map c t h = rest_by c (Command.Map h.first) t h.back_is.0 h.first_is.0 (field_is h [] h.back_is.1)
fields_to verb.Compact c t h = rest_by c Command.Compact t h.0 refl h.1
fields_to verb.List c t h = rest_by c Command.List t h.0 refl h.1
fields_to verb.Stats c t h = rest_by c Command.Stats t h.0 refl h.1
fields_to verb.Report c t h = rest_by c Command.Report t h.0 refl h.1
fields_to verb.Quit c t h = rest_by c Command.Quit t h.0 refl h.1
