-- The answer to `place`, cause by cause.
use Rattle.std.proofs.Common.{◌≡◌, refl, sym, ◌∙◌, ap, subst, ℕ, ℤ, ◌+◌, ◌<◌, arith, Bool, true, false, cond, not, List, [], ◌∷◌, length, Option, Some, None, inl, inr, nat_eq}
use Rattle.std.specs.Prelude.{IfSome, IfOk, Result, Ok, Err, is_some, nat_le}
use Rattle.std.specs.Option.{option_map, option_or, option_to_list}
use Rattle.std.specs.List.{flat_map}
use Rattle.std.proofs.lemmas.Bool.{or_cases, eqb-true, false≢true}
use Rattle.eon_model.specs.declared.Class.{Class}
use Rattle.eon_model.specs.declared.Part.{Part}
use Rattle.eon_model.specs.declared.Part.TheVariants.{Work, Backup}
use Rattle.eon_model.specs.Lists.{has_number}
use Rattle.eon_model.specs.Names.{Name}
use Rattle.eon_model.specs.Sets.{has_member}
use Rattle.eon_model.specs.Network.{Network, Group, AreFibres, groups_with, risks_of_fibre}
use Rattle.eon_model.specs.Services.{Leg, Service, State, service_of, owned}
use Rattle.eon_model.specs.Legal.{Setup}
use Rattle.eon_model.specs.NetworkText.{is_setup}
use Rattle.eon_model.specs.Commands.{Demand, PathWords}
use Rattle.eon_model.specs.Replies.{Reply}
use Rattle.eon_model.specs.Events as changes
use Rattle.eon_model.specs.Step.{◌when◌, is_node, is_fibre, unknown_in, Outcome, Say, Change, or_else, AskedPath, asked, asked_leg, fault_in, first_clash, clash, walks_between, new_service, enters, node_numbered, fibres_numbered, names_written, place_on, place}
use Rattle.eon_model.proofs.OrderLaws.{AllOf}
use Rattle.eon_model.proofs.ListLaws.{AllOf-append}
use Rattle.eon_model.proofs.RouteLaws.{walks-IsListed}
use Rattle.eon_model.proofs.SetLists.{has-set_of}
use Rattle.eon_model.proofs.SetupLaws.{setup-EndsAreNodes}
use Rattle.plan_core.specs.declared.demand.AskedPaths.{AskedPaths}
use Rattle.reply_text.specs.declared.reply.Reply as code
use Rattle.reply_text.specs.Replied.{reply_told}
use Rattle.std.specs.Result.{result_err}
use Rattle.plan_core.specs.Placing.{refusal, fibres_written, paths_asked, path_fault, reach_fault, risk_fault, band_fault, fault_of, placed_on}

-- ---- a first cause

pub first-cause : (cause : Option Reply) (r : Reply) (rest : Outcome) → cause ≡ Some r → Say r ≡ or_else cause rest
unfolding or_else
first-cause cause r rest e = sym (ap (λ c. or_else c rest) e)

pub past-cause : (cause : Option Reply) (rest : Outcome) → cause ≡ None → rest ≡ or_else cause rest
unfolding or_else
past-cause cause rest e = sym (ap (λ c. or_else c rest) e)

pub or_else-or : (a b : Option Reply) (rest : Outcome) → or_else (option_or a b) rest ≡ or_else a (or_else b rest)
unfolding or_else
or_else-or None b rest = refl
or_else-or (Some r) b rest = refl

pub or-none : (a b : Option Reply) → option_or a b ≡ None → (a ≡ None) × (b ≡ None)
or-none None b h = (refl, h)
or-none (Some r) b h = cc

pass-by : (reply : Part → Reply) (b : Bool) (w : AskedPath) (rest : Option AskedPath) →
    option_map (λ (p : AskedPath). reply p.part) (cond (not b) (Some w) rest) ≡ None →
    (b ≡ true) × (option_map (λ (p : AskedPath). reply p.part) rest ≡ None)
pass-by reply true w rest h = (refl, h)
pass-by reply false w rest h = cc

-- where no path has the fault, both pass the test
pub all-pass : (reply : Part → Reply) (test : AskedPath → Bool) (w : AskedPath) (b : Option AskedPath) →
    fault_in reply (λ p. not (test p)) (w ∷ option_to_list b) ≡ None →
    (test w ≡ true) × IfSome b (λ p. test p ≡ true)
all-pass reply test w None h = ((pass-by reply (test w) w None h).0, tt)
all-pass reply test w (Some b) h =
    let first = pass-by reply (test w) w _ h in (first.0, (pass-by reply (test b) b None first.1).0)

-- ---- where the paths are routes

module _ (setup : Setup) (state : State) (d : Demand) (p : AskedPaths) where
  pub placed-fault : (r : Reply) → fault_of setup d p ≡ Some r → Say r ≡ placed_on setup state d p
  placed-fault r h = first-cause (fault_of setup d p) r _ h

  of_clash : (leg : Leg) (owner : Name) (class : Class) → leg ≡ asked_leg setup d p.work p.back → owner ≡ d.name →
      class ≡ d.class → first_clash state (owned owner class leg)
      ≡ first_clash state (owned d.name d.class (asked_leg setup d p.work p.back))
  of_clash leg owner class is own of_class = λ i. first_clash state (owned (own i) (of_class i) (is i))

  pub placed-clash : (leg : Leg) (owner name : Name) (class : Class) → fault_of setup d p ≡ None →
      leg ≡ asked_leg setup d p.work p.back → owner ≡ d.name → class ≡ d.class →
      Some name ≡ first_clash state (owned owner class leg) → Say (Reply.Clash name) ≡ placed_on setup state d p
  placed-clash leg owner name class none is own of_class found =
      first-cause (clash state d.name d.class (asked_leg setup d p.work p.back)) (Reply.Clash name)
      (Change (enters setup.network d (asked_leg setup d p.work p.back)) (Reply.Placed d.name))
      (ap (option_map Reply.Clash) (sym (found ∙ of_clash leg owner class is own of_class)))
      ∙ past-cause (fault_of setup d p) _ none

  pub placed-enters : (leg : Leg) (owner : Name) (class : Class) (s : Service) → fault_of setup d p ≡ None →
      leg ≡ asked_leg setup d p.work p.back → owner ≡ d.name → class ≡ d.class →
      None ≡ first_clash state (owned owner class leg) → s ≡ new_service setup.network d leg →
      Change (changes.Event.Enter (changes.enter_text_of s)) (Reply.Placed d.name) ≡ placed_on setup state d p
  placed-enters leg owner class s none is own of_class quiet made =
      ap (λ (x : Service). Change (changes.Event.Enter (changes.enter_text_of x)) (Reply.Placed d.name))
      (made ∙ ap (λ l. new_service setup.network d l) is)
      ∙ past-cause (clash state d.name d.class (asked_leg setup d p.work p.back))
      (Change (enters setup.network d (asked_leg setup d p.work p.back)) (Reply.Placed d.name))
      (ap (option_map Reply.Clash) (sym (quiet ∙ of_clash leg owner class is own of_class)))
      ∙ past-cause (fault_of setup d p) _ none

-- ---- all of it

module _ (setup : Setup) (state : State) (d : Demand) (w : PathWords) (b : Option PathWords) where
  written : names_written w b ≡ fibres_written w.fibres b
  written = elim b as (λ x. names_written w x ≡ fibres_written w.fibres x) [ None ↦ refl | Some x ↦ refl ]

  paths-by : or_else (path_fault setup.network d (paths_asked setup.network w b))
      (placed_on setup state d (paths_asked setup.network w b))
      ≡ place_on setup state d (asked setup.network Work w) (option_map (asked setup.network Backup) b)
  paths-by =
      let p = paths_asked setup.network w b in
      let leg = asked_leg setup d p.work p.back in
      let last = or_else (clash state d.name d.class leg) (Change (enters setup.network d leg) (Reply.Placed d.name)) in
      ap (or_else (path_fault setup.network d p))
      (or_else-or (reach_fault setup d p) (option_or (risk_fault setup.network p) (band_fault setup d p)) last
      ∙ ap (or_else (reach_fault setup d p)) (or_else-or (risk_fault setup.network p) (band_fault setup d p) last))

  -- the answer is the refusal, or else the fault of a path that is no route, or else what the paths come to
  pub place-by : or_else (refusal setup state d (fibres_written w.fibres b))
      (or_else (path_fault setup.network d (paths_asked setup.network w b))
      (placed_on setup state d (paths_asked setup.network w b))) ≡ place setup state d w b
  place-by =
      let net = setup.network in
      let node = unknown_in (is_node net) (d.src ∷ d.dst ∷ []) in
      let fibre = unknown_in (is_fibre net) (fibres_written w.fibres b) in
      let taken = Reply.Taken d.name when is_some (service_of state d.name) in
      let full = Reply.FullServices when nat_le setup.services (length state) in
      let p = paths_asked net w b in
      let rest = or_else (path_fault net d p) (placed_on setup state d p) in
      or_else-or node (option_or fibre (option_or taken full)) rest
      ∙ ap (or_else node) (or_else-or fibre (option_or taken full) rest ∙ ap (or_else fibre) (or_else-or taken full rest))
      ∙ (λ i. or_else node (or_else (unknown_in (is_fibre net) (sym written i)) (or_else taken (or_else full (paths-by i)))))

  pub place-refused : (r : Reply) → refusal setup state d (fibres_written w.fibres b) ≡ Some r →
      Say r ≡ place setup state d w b
  place-refused r h = first-cause (refusal setup state d (fibres_written w.fibres b)) r _ h ∙ place-by

  pub place-stuck : (r : Reply) → refusal setup state d (fibres_written w.fibres b) ≡ None →
      path_fault setup.network d (paths_asked setup.network w b) ≡ Some r → Say r ≡ place setup state d w b
  place-stuck r none h =
      first-cause (path_fault setup.network d (paths_asked setup.network w b)) r _ h
      ∙ past-cause (refusal setup state d (fibres_written w.fibres b)) _ none ∙ place-by

  pub place-placed : (o : Outcome) (p : AskedPaths) → refusal setup state d (fibres_written w.fibres b) ≡ None →
      path_fault setup.network d (paths_asked setup.network w b) ≡ None → p ≡ paths_asked setup.network w b →
      o ≡ placed_on setup state d p → o ≡ place setup state d w b
  place-placed o p none walk is h =
      h ∙ ap (λ q. placed_on setup state d q) is
      ∙ past-cause (path_fault setup.network d (paths_asked setup.network w b)) _ walk
      ∙ past-cause (refusal setup state d (fibres_written w.fibres b)) _ none ∙ place-by

-- ---- the groups of a route are known

below-by : (n : ℕ) (keep : Bool) (x : ℕ) (xs : List ℕ) → x < n → AllOf (λ k. k < n) xs →
    AllOf (λ k. k < n) (cond keep (x ∷ xs) xs)
below-by n true x xs l a = (l, a)
below-by n false x xs l a = a

groups-below : (n most fibre : ℕ) (gs : List Group) → n + length gs ≡ most →
    AllOf (λ k. k < most) (groups_with n fibre gs)
groups-below n most fibre [] e = tt
groups-below n most fibre (g ∷ gs) e =
    below-by most (has_number g.fibres fibre) n (groups_with (n + 1) fibre gs) (omega arith)
    (groups-below (n + 1) most fibre gs (omega arith))

risks-below : (net : Network) (r : List ℕ) → AreFibres net.fibres r →
    AllOf (λ k. k < length net.fibres + length net.groups) (flat_map (risks_of_fibre net) r)
risks-below net [] a = tt
risks-below net (i ∷ is) a =
    let first = a.0 in
    AllOf-append (λ k. k < length net.fibres + length net.groups) (risks_of_fibre net i)
    (flat_map (risks_of_fibre net) is)
    (omega arith, groups-below (length net.fibres) (length net.fibres + length net.groups) i net.groups refl)
    (risks-below net is a.1)

number-below : (n : ℕ) (xs : List ℕ) (k : ℕ) → AllOf (λ x. x < n) xs → has_number xs k ≡ true → k < n
number-below n [] k a h = absurd (false≢true h)
number-below n (x ∷ xs) k a h = elim (or_cases (nat_eq x k) (has_number xs k) h) [
  | inl e ↦ subst (λ (j : ℕ). j < n) (eqb-true x k e) a.0
  | inr more ↦ number-below n xs k a.1 more
]

pub risk-known : (setup : Setup) (d : Demand) (w : PathWords) (b : Option PathWords) (p : AskedPaths) →
    is_setup setup ≡ true → path_fault setup.network d (paths_asked setup.network w b) ≡ None →
    p ≡ paths_asked setup.network w b → (i : ℕ) → has_member p.work.route.risk i ≡ true →
    i < length setup.network.fibres + length setup.network.groups
risk-known setup d w b p ok walk is i h =
    let net = setup.network in
    let r = fibres_numbered net w.fibres in
    let along = (all-pass Reply.Path (walks_between net d) (asked net Work w) (option_map (asked net Backup) b) walk).0 in
    let listed = walks-IsListed net (node_numbered net d.src) (node_numbered net d.dst) r (setup-EndsAreNodes setup ok) along in
    number-below (length net.fibres + length net.groups) (flat_map (risks_of_fibre net) r) i
    (risks-below net r listed.fibres)
    (sym (has-set_of (flat_map (risks_of_fibre net) r) i)
    ∙ sym (ap (λ (q : AskedPaths). has_member q.work.route.risk i) is) ∙ h)

-- ---- the paths that were asked for

-- they are routes, and these
pub record AreRoutes (net : Network) (d : Demand) (w : PathWords) (b : Option PathWords) (p : AskedPaths) : Type 0 where
  pub walk : path_fault net d (paths_asked net w b) ≡ None
  pub is : p ≡ paths_asked net w b

module _ (net seen : Network) (d : Demand) (fibres : List Name) (n given : ℤ) (b : Option PathWords)
    (r : Result AskedPaths code.Reply) (net-is : seen ≡ net) (n-is : given ≡ n)
    (fault : option_map reply_told (result_err r)
    ≡ path_fault seen d (paths_asked seen (record { fibres = fibres; n = given }) b)) where
  fault-is : option_map reply_told (result_err r)
      ≡ path_fault net d (paths_asked net (record { fibres = fibres; n = n }) b)
  fault-is = fault ∙ (λ i. path_fault (net-is i) d (paths_asked (net-is i) (record { fibres = fibres; n = n-is i }) b))

  pub are-routes : (p : AskedPaths) →
      IfOk r (λ q. q ≡ paths_asked seen (record { fibres = fibres; n = given }) b) → r ≡ Ok p →
      AreRoutes net d (record { fibres = fibres; n = n }) b p
  are-routes p ok e = record {
    walk = sym fault-is ∙ ap (λ (x : Result AskedPaths code.Reply). option_map reply_told (result_err x)) e;
    is = subst (λ (x : Result AskedPaths code.Reply).
        IfOk x (λ q. q ≡ paths_asked seen (record { fibres = fibres; n = given }) b)) e ok
        ∙ (λ i. paths_asked (net-is i) (record { fibres = fibres; n = n-is i }) b);
  }

  pub no-routes : (reply : code.Reply) → r ≡ Err reply →
      path_fault net d (paths_asked net (record { fibres = fibres; n = n }) b) ≡ Some (reply_told reply)
  no-routes reply e = sym fault-is ∙ ap (λ (x : Result AskedPaths code.Reply). option_map reply_told (result_err x)) e
