-- What a map's entries, each under its service's name, mean for the list of services.
use Rattle.std.proofs.Common.{◌≡◌, refl, sym, ◌∙◌, ap, subst, nat_eq, Bool, true, false, cond, not, List, [], ◌∷◌, ◌++◌, Option, Some, None, IsTrue, IsSome, true≢false}
use Rattle.std.specs.List.{AllByRecursion, IsDistinct, list_all}
use Rattle.std.specs.Option.{option_map_or}
use Rattle.std.specs.Map.{keys_of, values_of, lookup, remove_entry, set_value}
use Rattle.std.specs.Cmp.Lexicographic.{pointwise, texts_ties}
use Rattle.std.proofs.lemmas.Bool.{and_from}
use Rattle.std.proofs.lemmas.Map.Keys.{IsDistinct-head, IsDistinct-tail}
use Rattle.eon_model.specs.Names.{Name, same_name, differ}
use Rattle.eon_model.specs.Services.{Leg, Service, State, service_of}
use Rattle.eon_model.specs.Changes.{change_service, without_service, finished, finished_by, undone, undone_by}
use Rattle.eon_model.proofs.NameLaws.{names_equal}
use Rattle.leg_state.specs.Listed.{service_names, IsNamed}
use Rattle.leg_state.specs.Asks.{has_service}

abbrev Entry : Type 0
Entry = Name × Service

-- the test by which a map looks for a key
abbrev pub is_key : Name → Name → Bool
is_key = pointwise nat_eq

-- a key passes where the name of its service does
pub key_test : (name : Name) (e : Entry) → e.0 ≡ e.1.name → is_key name e.0 ≡ same_name e.1.name name
key_test name e h = ap (is_key name) h ∙ texts_ties name e.1.name ∙ names_equal.symm name e.1.name

pub find-lookup : (name : Name) (es : List Entry) → IsNamed es →
    lookup (is_key name) es ≡ service_of (values_of es) name
find-lookup name [] h = refl
find-lookup name (e ∷ es) h =
    λ i. cond (key_test name e h.0 i) (Some e.1) (find-lookup name es h.1 i)

-- ---- no two keys alike

-- none of these keys is this one
abbrev pub Apart : Name → List Name → Type 0
Apart k keys = AllByRecursion (λ y. is_key k y ≡ false) keys

pub names-differ : (es : List Entry) → IsNamed es → IsDistinct is_key (keys_of es) →
    differ (service_names (values_of es)) ≡ true
names-differ [] h d = refl
names-differ (e ∷ es) h d =
    and_from _ _ (row e.0 e.1.name es h.0 h.1 (IsDistinct-head is_key e.0 (keys_of es) d))
    (names-differ es h.1 (IsDistinct-tail is_key e.0 (keys_of es) d))
  where
    row : (k name : Name) (es : List Entry) → k ≡ name → IsNamed es → Apart k (keys_of es) →
        list_all (λ b. not (same_name name b)) (service_names (values_of es)) ≡ true
    row k name [] e h a = refl
    row k name (x ∷ xs) e h a =
        and_from _ _
        (ap not (sym (texts_ties name x.1.name) ∙ (λ i. is_key (sym e i) (sym h.0 i)) ∙ a.0))
        (row k name xs e h.1 a.1)

-- where a key passes, no other key does
others : (name k : Name) (keys : List Name) → is_key name k ≡ true → Apart k keys → Apart name keys
others name k [] e a = tt
others name k (y ∷ ys) e a = (
  texts_ties name y ∙ names_equal.congr name k y (sym (texts_ties name k) ∙ e) ∙ sym (texts_ties k y) ∙ a.0,
  others name k ys e a.1,
)

-- the services after the one that is found
after : (name : Name) (e : Entry) (es : List Entry) → IsDistinct is_key (keys_of (e ∷ es)) →
    is_key name e.0 ≡ true → Apart name (keys_of es)
after name e es d h = others name e.0 (keys_of es) h (IsDistinct-head is_key e.0 (keys_of es) d)

-- ---- removal

without-apart : (name : Name) (es : List Entry) → IsNamed es → Apart name (keys_of es) →
    without_service name (values_of es) ≡ values_of es
without-apart name [] h a = refl
without-apart name (e ∷ es) h a =
    λ i. cond (not ((sym (key_test name e h.0) ∙ a.0) i)) (e.1 ∷ without-apart name es h.1 a.1 i)
    (without-apart name es h.1 a.1 i)

pub without-removed : (name : Name) (es : List Entry) → IsNamed es → IsDistinct is_key (keys_of es) →
    values_of (remove_entry (is_key name) es) ≡ without_service name (values_of es)
without-removed name [] h d = refl
without-removed name (e ∷ es) h d =
    by (is_key name e.0) refl (without-removed name es h.1 (IsDistinct-tail is_key e.0 (keys_of es) d))
  where
    by : (b : Bool) → is_key name e.0 ≡ b →
        values_of (remove_entry (is_key name) es) ≡ without_service name (values_of es) →
        values_of (cond b es (e ∷ remove_entry (is_key name) es)) ≡ without_service name (values_of (e ∷ es))
    by true t rest =
        sym ((λ i. cond (not ((sym (key_test name e h.0) ∙ t) i)) (e.1 ∷ without_service name (values_of es))
        (without_service name (values_of es)))
        ∙ without-apart name es h.1 (after name e es d t))
    by false t rest =
        (λ i. e.1 ∷ rest i)
        ∙ (λ i. cond (not ((sym t ∙ key_test name e h.0) i)) (e.1 ∷ without_service name (values_of es))
        (without_service name (values_of es)))

pub IsNamed-removed : (name : Name) (es : List Entry) → IsNamed es → IsNamed (remove_entry (is_key name) es)
IsNamed-removed name [] h = tt
IsNamed-removed name (e ∷ es) h =
    elim (is_key name e.0) as (λ b. IsNamed (cond b es (e ∷ remove_entry (is_key name) es)))
    [ true ↦ h.1 | false ↦ (h.0, IsNamed-removed name es h.1) ]

-- ---- one service changed

change-apart : (name : Name) (f : Service → Service) (es : List Entry) → IsNamed es → Apart name (keys_of es) →
    change_service name f (values_of es) ≡ values_of es
change-apart name f [] h a = refl
change-apart name f (e ∷ es) h a =
    λ i. cond ((sym (key_test name e h.0) ∙ a.0) i) (f e.1) e.1 ∷ change-apart name f es h.1 a.1 i

pub changed-set_value : (name : Name) (f : Service → Service) (s : Service) (es : List Entry) → IsNamed es →
    IsDistinct is_key (keys_of es) → lookup (is_key name) es ≡ Some s →
    values_of (set_value (is_key name) es (f s)) ≡ change_service name f (values_of es)
changed-set_value name f s [] h d l = refl
changed-set_value name f s (e ∷ es) h d l =
    by (is_key name e.0) refl l
    (λ k. changed-set_value name f s es h.1 (IsDistinct-tail is_key e.0 (keys_of es) d) k)
  where
    by : (b : Bool) → is_key name e.0 ≡ b → cond b (Some e.1) (lookup (is_key name) es) ≡ Some s →
        (lookup (is_key name) es ≡ Some s →
        values_of (set_value (is_key name) es (f s)) ≡ change_service name f (values_of es)) →
        values_of (cond b ((e.0, f s) ∷ es) (e ∷ set_value (is_key name) es (f s)))
        ≡ change_service name f (values_of (e ∷ es))
    by true t k rest =
        let same : e.1 ≡ s = cc in
        (λ i. f (sym same i) ∷ sym (change-apart name f es h.1 (after name e es d t)) i)
        ∙ (λ i. cond ((sym t ∙ key_test name e h.0) i) (f e.1) e.1 ∷ change_service name f (values_of es))
    by false t k rest =
        (λ i. e.1 ∷ rest k i)
        ∙ (λ i. cond ((sym t ∙ key_test name e h.0) i) (f e.1) e.1 ∷ change_service name f (values_of es))

pub IsNamed-set_value : (name : Name) (s w : Service) (es : List Entry) → IsNamed es →
    lookup (is_key name) es ≡ Some s → w.name ≡ s.name → IsNamed (set_value (is_key name) es w)
IsNamed-set_value name s w [] h l n = tt
IsNamed-set_value name s w (e ∷ es) h l n =
    by (is_key name e.0) l (λ k. IsNamed-set_value name s w es h.1 k n)
  where
    by : (b : Bool) → cond b (Some e.1) (lookup (is_key name) es) ≡ Some s →
        (lookup (is_key name) es ≡ Some s → IsNamed (set_value (is_key name) es w)) →
        IsNamed (cond b ((e.0, w) ∷ es) (e ∷ set_value (is_key name) es w))
    by true k rest = let same : e.1 ≡ s = cc in (h.0 ∙ ap (λ (x : Service). x.name) same ∙ sym n, h.1)
    by false k rest = (h.0, rest k)

-- ---- one service more

pub IsNamed-pushed : (es : List Entry) (k : Name) (s : Service) → IsNamed es → k ≡ s.name →
    IsNamed (es ++ (k, s) ∷ [])
IsNamed-pushed [] k s h n = (n, tt)
IsNamed-pushed (e ∷ es) k s h n = (h.0, IsNamed-pushed es k s h.1 n)

pub values-pushed : (es : List Entry) (k : Name) (s : Service) → values_of (es ++ (k, s) ∷ []) ≡ values_of es ++ s ∷ []
values-pushed [] k s = refl
values-pushed (e ∷ es) k s = λ i. e.1 ∷ values-pushed es k s i

-- ---- the list that is seen

-- what a look-up gives is the service of that name
pub service_found : (name : Name) (es : List Entry) (state : State) (r : Option Service) → IsNamed es →
    values_of es ≡ state → r ≡ lookup (is_key name) es → service_of state name ≡ r
service_found name es state r h v e = sym (e ∙ find-lookup name es h ∙ ap (λ (l : State). service_of l name) v)

pub no_service : (test : Service → Bool) (state : State) (name : Name) → IsTrue (has_service test state name) →
    service_of state name ≡ None → ⊥
no_service test state name h e =
    true≢false (sym h ∙ ap (λ (o : Option Service). option_map_or test o false) e)

pub service_passes : (test : Service → Bool) (state : State) (name : Name) (s : Service) →
    IsTrue (has_service test state name) → service_of state name ≡ Some s → IsTrue (test s)
service_passes test state name s h e =
    sym (ap (λ (o : Option Service). option_map_or test o false) e) ∙ h

pub list_changed : (name : Name) (f : Service → Service) (s w : Service) (es new : List Entry) (state : State) →
    IsNamed es → IsDistinct is_key (keys_of es) → values_of es ≡ state → Some s ≡ lookup (is_key name) es →
    w ≡ f s → new ≡ set_value (is_key name) es w → values_of new ≡ change_service name f state
list_changed name f s w es new state h d v l is e =
    ap values_of (e ∙ ap (set_value (is_key name) es) is) ∙ changed-set_value name f s es h d (sym l)
    ∙ ap (change_service name f) v

pub named_changed : (name : Name) (s w : Service) (es new : List Entry) → IsNamed es →
    Some s ≡ lookup (is_key name) es → w.name ≡ s.name → new ≡ set_value (is_key name) es w → IsNamed new
named_changed name s w es new h l n e = subst IsNamed (sym e) (IsNamed-set_value name s w es h (sym l) n)

-- a new name is no key
pub no_entry : (k name : Name) (es : List Entry) (state : State) → IsNamed es → values_of es ≡ state → k ≡ name →
    service_of state name ≡ None → lookup (is_key k) es ≡ None
no_entry k name es state h v n fresh =
    find-lookup k es h ∙ (λ i. service_of (v i) (n i)) ∙ fresh

pub list_entered : (es new : List Entry) (k : Name) (s : Service) (state : State) → values_of es ≡ state →
    new ≡ es ++ (k, s) ∷ [] → values_of new ≡ state ++ s ∷ []
list_entered es new k s state v e =
    ap values_of e ∙ values-pushed es k s ∙ ap (λ (l : State). l ++ s ∷ []) v

pub named_entered : (es new : List Entry) (k : Name) (s : Service) → IsNamed es → k ≡ s.name →
    new ≡ es ++ (k, s) ∷ [] → IsNamed new
named_entered es new k s h n e = subst IsNamed (sym e) (IsNamed-pushed es k s h n)

pub list_left : (name : Name) (es new : List Entry) (state : State) → IsNamed es →
    IsDistinct is_key (keys_of es) → values_of es ≡ state → new ≡ remove_entry (is_key name) es →
    values_of new ≡ without_service name state
list_left name es new state h d v e =
    ap values_of e ∙ without-removed name es h d ∙ ap (without_service name) v

pub named_left : (name : Name) (es new : List Entry) → IsNamed es → new ≡ remove_entry (is_key name) es →
    IsNamed new
named_left name es new h e = subst IsNamed (sym e) (IsNamed-removed name es h)

pub no_some : (o : Option Service) → o ≡ None → IsSome o → ⊥
no_some None e h = absurd (true≢false (sym h))
no_some (Some s) e h = cc

-- ---- names stay

pub finished-name : (s : Service) → (finished s).name ≡ s.name
finished-name s = by s.next
  where
    by : (o : Option Leg) → (finished_by s o).name ≡ s.name
    by None = refl
    by (Some l) = refl

pub undone-name : (s : Service) → (undone s).name ≡ s.name
undone-name s = by s.next
  where
    by : (o : Option Leg) → (undone_by s o).name ≡ s.name
    by None = refl
    by (Some l) = refl
