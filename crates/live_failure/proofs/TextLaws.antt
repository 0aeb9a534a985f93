-- What is printed of each service, and how many lines it is.
use Rattle.std.proofs.Common.{◌≡◌, refl, sym, ◌∙◌, ap, ℕ, ◌+◌, ◌≤◌, arith, true, false, cond, ◌&&◌, ◌||◌, List, [], ◌∷◌, ◌++◌, ◌<◌, length, length-append, filter, map, take, drop, get_or, Option, Some, None}
use Rattle.std.specs.Prelude.{slice_get, IsTrue}
use Rattle.std.specs.Option.{option_to_list}
use Rattle.std.specs.List.{flat_map}
use Rattle.std.proofs.lemmas.Grind.{flat_map-append}
use Rattle.std.proofs.lemmas.List.{append-nil, map-append, take_more}
use Rattle.eon_model.specs.declared.Class.{Class}
use Rattle.eon_model.specs.Names.{Name}
use Rattle.eon_model.specs.Legal.{Setup, is_shared, is_dual, Legal}
use Rattle.eon_model.specs.NetworkText.{is_setup}
use Rattle.eon_model.proofs.LegalLaws.{Legal-parts}
use Rattle.eon_model.proofs.SetupFacts.{setup-facts}
use Rattle.eon_model.specs.LiveFailure.{fate_with, fates_of, is_down, still_up, as_lights, lit_by_service, lit_now}
use Rattle.eon_model.specs.LiveReplies.{fate_line, light_line, weak_line}
use Rattle.eon_model.specs.Network.{Network}
use Rattle.eon_model.specs.Route.{hits}
use Rattle.eon_model.specs.Services.{Path, Service, State}
use Rattle.line_writer.specs.Sent.{Sent, Takes}
use Rattle.line_writer.proofs.TakesLaws.{takes-both, takes-same}
use Rattle.live_failure.specs.declared.reply.Weak.{Weak}
use Rattle.live_failure.specs.Parts.{fate_by, fates_by}
use Rattle.live_failure.specs.Lit.{lit_path, lit_back}
use Rattle.live_failure.specs.Replied.{weak_told}
use Rattle.live_failure.proofs.WalkLaws.{drop-at, flat-flat}

pub fate-is : (s : Service) (back : Option Path) → fate_by s.name s.class back ≡ fate_with s back
fate-is s None = refl
fate-is s (Some b) = refl

-- the fates, service by service
pub fates-each : (g : ℕ) (state : State) → fates_of g state ≡ flat_map (fates_by g) state
fates-each g [] = refl
fates-each g (s ∷ state) =
    elim (hits g s.leg.work.route) as (λ b. map (λ s. fate_with s s.leg.back)
    (cond b (s ∷ filter (λ s. hits g s.leg.work.route) state) (filter (λ s. hits g s.leg.work.route) state))
    ≡ cond b (fate_with s s.leg.back ∷ []) [] ++ flat_map (fates_by g) state) [
      | true ↦ ap (λ v. fate_with s s.leg.back ∷ v) (fates-each g state)
      | false ↦ fates-each g state
    ]

pub fate-lines : (net : Network) (g : ℕ) (state : State) →
    flat_map (λ s. flat_map (fate_line net) (fates_by g s)) state ≡ flat_map (fate_line net) (fates_of g state)
fate-lines net g state = sym (ap (flat_map (fate_line net)) (fates-each g state) ∙ flat-flat (fates_by g) (fate_line net) state)

pub light-lines : (net : Network) (failed : List ℕ) (state : State) →
    flat_map (λ s. flat_map (light_line net) (lit_by_service failed s)) state ≡ flat_map (light_line net) (lit_now failed state)
light-lines net failed state = sym (flat-flat (lit_by_service failed) (light_line net) state)

-- ---- how many

-- the number of those of the services so far, and of the rest
pub count-step : {Y : Type 0} (f : Service → List Y) (xs : State) (i n all : ℕ) (s : Service) → slice_get xs i ≡ Some s →
    n + length (flat_map f (drop i xs)) ≡ all → (n + length (f s)) + length (flat_map f (drop (i + 1) xs)) ≡ all
count-step f xs i n all s e inv =
    let cut = ap (λ v. length (flat_map f v)) (drop-at xs i s e) in
    let parts = length-append (f s) (flat_map f (drop (i + 1) xs)) in
    omega arith

pub count-end : {Y : Type 0} (f : Service → List Y) (xs : State) (i n all : ℕ) → drop i xs ≡ [] →
    n + length (flat_map f (drop i xs)) ≡ all → n ≡ all
count-end f xs i n all e inv = let none = ap (λ v. length (flat_map f v)) e in omega arith

-- the line of one weak service more
pub next_weak : (net : Network) (ws : List Weak) (i : ℕ) (x : Weak) (a b c : Sent) → i < length ws → x ≡ get_or ws i x →
    Takes a b (flat_map (weak_line net) (map weak_told (take i ws))) → Takes b c (weak_line net (weak_told x)) →
    Takes a c (flat_map (weak_line net) (map weak_told (take (i + 1) ws)))
next_weak net ws i x a b c l e p q =
    takes-same a c _ _
    (sym (ap (λ v. flat_map (weak_line net) (map weak_told v)) (take_more ws i x l)
    ∙ ap (λ v. flat_map (weak_line net) (map weak_told (take i ws ++ v ∷ []))) (sym e)
    ∙ ap (flat_map (weak_line net)) (map-append weak_told (take i ws) (x ∷ []))
    ∙ flat_map-append (weak_line net) (map weak_told (take i ws)) (weak_told x ∷ [])
    ∙ ap (λ v. flat_map (weak_line net) (map weak_told (take i ws)) ++ v) (append-nil (weak_line net (weak_told x)))))
    (takes-both a b c _ _ p q)

-- what a service has lit, its backup among it
pub both_lit : (net : Network) (failed : List ℕ) (name : Name) (class : Class) (work : Path) (back : Option Path) (a b c : Sent) →
    Takes a b (flat_map (light_line net) (lit_path failed name false work)) →
    Takes b c (flat_map (light_line net) (lit_back failed name back)) →
    true ≡ (is_dual class || is_shared class && is_down failed work.route) →
    Takes a c (flat_map (light_line net) (lit_path failed name false work
    ++ as_lights name true (cond (is_dual class || is_shared class && is_down failed work.route) (still_up failed (option_to_list back)) [])))
both_lit net failed name class work back a b c p q h =
    takes-same a c _ _
    (sym (flat_map-append (light_line net) (lit_path failed name false work) (lit_back failed name back))
    ∙ (λ i. flat_map (light_line net) (lit_path failed name false work
    ++ as_lights name true (cond (h i) (still_up failed (option_to_list back)) []))))
    (takes-both a b c _ _ p q)

-- and without it
pub work_alone : (net : Network) (failed : List ℕ) (name : Name) (class : Class) (work : Path) (back : Option Path) (a b : Sent) →
    Takes a b (flat_map (light_line net) (lit_path failed name false work)) →
    false ≡ (is_dual class || is_shared class && is_down failed work.route) →
    Takes a b (flat_map (light_line net) (lit_path failed name false work
    ++ as_lights name true (cond (is_dual class || is_shared class && is_down failed work.route) (still_up failed (option_to_list back)) [])))
work_alone net failed name class work back a b p h =
    takes-same a b _ _
    (ap (flat_map (light_line net)) (sym (append-nil (lit_path failed name false work)))
    ∙ (λ i. flat_map (light_line net) (lit_path failed name false work
    ++ as_lights name true (cond (h i) (still_up failed (option_to_list back)) [])))) p

pub few-services : (setup : Setup) (state : State) → IsTrue (is_setup setup) → Legal setup state → length state ≤ 4096
few-services setup state ok legal =
    let few = (Legal-parts setup state legal).few in
    let most = (setup-facts setup ok).few_services in
    omega arith
