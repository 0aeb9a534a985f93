-- What a command says can be told: of the state, or of the one that follows the change.
use Rattle.std.proofs.Common.{◌≡◌, refl, sym, ◌∙◌, ap, subst, ℕ, ℤ, Bool, true, false, cond, not, [], ◌∷◌, ◌++◌, map, Option, Some, None}
use Rattle.std.specs.Prelude.{is_some}
use Rattle.std.specs.Option.{option_map, option_or, option_and_then}
use Rattle.std.proofs.lemmas.List.Folds.{find-append}
use Rattle.eon_model.specs.declared.Class.{Class}
use Rattle.eon_model.specs.declared.Part.TheVariants.{Work, Backup}
use Rattle.eon_model.specs.Names.{Name, same_name, least_name}
use Rattle.eon_model.specs.Sets.{common_members}
use Rattle.eon_model.specs.Network.{Network, fibre_of, risk_number_of, risk_name}
use Rattle.eon_model.specs.Route.{Route}
use Rattle.eon_model.specs.Services.{Path, Leg, Service, State, is_moving, service_of}
use Rattle.eon_model.specs.Legal.{Setup, Legal, is_dual}
use Rattle.eon_model.specs.Changes.{change_service, with_next}
use Rattle.eon_model.specs.NetworkText.{is_setup}
use Rattle.eon_model.specs.Commands.{Demand, PathWords, Command}
use Rattle.eon_model.specs.Replies.{Reply}
use Rattle.eon_model.specs.Events as events
use Rattle.eon_model.specs.Listings.{map_text, hits_of}
use Rattle.eon_model.specs.Step.{Outcome, Say, Change, or_else, ◌when◌, or_blocked, AskedPath, asked, is_node, unknown_in, enters, for_service, for_number, node_numbered, place, admit, push, make, refit, refit_backup, routes, outcome_of}
use Rattle.eon_model.proofs.NameLaws.{names_equal}
use Rattle.eon_model.proofs.ChangeLaws.{otherwise-Change, tried}
use Rattle.reply_text.specs.Tellable.{can_tell}
use Rattle.plan_core.specs.declared.decision.Decision.{Decision}
use Rattle.plan_core.specs.declared.decision.Decision.TheVariants as decision
use Rattle.plan_core.specs.Compact.{is_compact}
use Rattle.plan_core.specs.Told.{outcome_told, CanBeTold}
use Rattle.plan_core.proofs.ShownLaws.{shown-over}
use Rattle.plan_core.proofs.DrillSteps.{hits-told}

-- ---- causes

-- what a cause says can be told of each state
abbrev Plain : Setup → State → Option Reply → Type 0
Plain setup state cause = (r : Reply) → cause ≡ Some r → can_tell setup state r ≡ true

plain-map : (setup : Setup) (state : State) {X : Type 0} (f : X → Reply) (o : Option X) →
    ((x : X) → can_tell setup state (f x) ≡ true) → Plain setup state (option_map f o)
plain-map setup state f None h r e = cc
plain-map setup state f (Some x) h r e =
    let same : f x ≡ r = cc in subst (λ (q : Reply). can_tell setup state q ≡ true) same (h x)

plain-when : (setup : Setup) (state : State) (q : Reply) (b : Bool) → can_tell setup state q ≡ true →
    Plain setup state (q when b)
plain-when setup state q true h r e = let same : q ≡ r = cc in subst (λ (x : Reply). can_tell setup state x ≡ true) same h
plain-when setup state q false h r e = cc

plain-risk : (setup : Setup) (state : State) (net : Network) (work : Route) (back : Option AskedPath) →
    Plain setup state (option_and_then (λ b. option_map Reply.Risk
    (least_name (map (risk_name net) (common_members work.risk b.route.risk)))) back)
plain-risk setup state net work None r e = cc
plain-risk setup state net work (Some b) r e =
    plain-map setup state Reply.Risk (least_name (map (risk_name net) (common_members work.risk b.route.risk)))
    (λ x. refl) r e

plain-else : (setup : Setup) (state : State) (cause : Option Reply) (rest : Outcome) (r : Reply) →
    Plain setup state cause → (rest ≡ Say r → can_tell setup state r ≡ true) → or_else cause rest ≡ Say r →
    can_tell setup state r ≡ true
unfolding or_else
plain-else setup state None rest r h more e = more e
plain-else setup state (Some q) rest r h more e = let same : q ≡ r = cc in h r (ap Some same)

not-said : (e : events.Event) (q r : Reply) → Change e q ≡ Say r → ⊥
not-said e q r h = cc

plain-say : (setup : Setup) (state : State) (q r : Reply) → can_tell setup state q ≡ true → Say q ≡ Say r →
    can_tell setup state r ≡ true
plain-say setup state q r h e = let same : q ≡ r = cc in subst (λ (x : Reply). can_tell setup state x ≡ true) same h

-- ---- replies alone

place-said : (setup : Setup) (state : State) (d : Demand) (w : PathWords) (b : Option PathWords) (r : Reply) →
    place setup state d w b ≡ Say r → can_tell setup state r ≡ true
place-said setup state d w b r =
    plain-else setup state _ _ r (plain-map setup state Reply.Unknown _ (λ x. refl))
    (plain-else setup state _ _ r (plain-map setup state Reply.Unknown _ (λ x. refl))
    (plain-else setup state _ _ r (plain-when setup state (Reply.Taken d.name) _ refl)
    (plain-else setup state _ _ r (plain-when setup state Reply.FullServices _ refl)
    (plain-else setup state _ _ r (plain-map setup state (λ (p : AskedPath). Reply.Path p.part) _ (λ x. refl))
    (plain-else setup state _ _ r (plain-map setup state (λ (p : AskedPath). Reply.Reach p.part) _ (λ x. refl))
    (plain-else setup state _ _ r (plain-risk setup state setup.network (asked setup.network Work w).route
    (option_map (asked setup.network Backup) b))
    (plain-else setup state _ _ r (plain-map setup state (λ (p : AskedPath). Reply.Band p.part) _ (λ x. refl))
    (plain-else setup state _ _ r (plain-map setup state Reply.Clash _ (λ x. refl))
    (λ h. absurd (not-said _ _ r h))))))))))

tried-said : (setup : Setup) (state : State) (pairs : ℕ) (found : Option Leg) (go : Leg → events.Event) (q r : Reply) →
    or_blocked pairs found (λ l. Change (go l) q) ≡ Say r → can_tell setup state r ≡ true
tried-said setup state pairs None go q r h = plain-say setup state (Reply.Blocked pairs) r refl h
tried-said setup state pairs (Some l) go q r h = absurd (not-said (go l) q r h)

admit-said : (setup : Setup) (state : State) (d : Demand) (r : Reply) → admit setup state d ≡ Say r →
    can_tell setup state r ≡ true
admit-said setup state d r =
    plain-else setup state _ _ r (plain-map setup state Reply.Unknown _ (λ x. refl))
    (plain-else setup state _ _ r (plain-when setup state (Reply.Taken d.name) _ refl)
    (plain-else setup state _ _ r (plain-when setup state Reply.FullServices _ refl)
    (plain-else setup state _ _ r (plain-when setup state Reply.NoRoute _ refl)
    (tried-said setup state _ _ (λ l. enters setup.network d l) (Reply.Admitted d.name) r))))

release-said : (setup : Setup) (state : State) (found : Option Service) (name : Name) (r : Reply) →
    for_service found name (λ s. Change (events.Event.Leave name) (Reply.Released name)) ≡ Say r →
    can_tell setup state r ≡ true
release-said setup state None name r h = plain-say setup state (Reply.Unknown name) r refl h
release-said setup state (Some s) name r h = absurd (not-said (events.Event.Leave name) (Reply.Released name) r h)

show-said : (setup : Setup) (state : State) (found : Option Service) (name : Name) (r : Reply) →
    service_of state name ≡ found → for_service found name (λ s. Say (Reply.Show name)) ≡ Say r →
    can_tell setup state r ≡ true
show-said setup state None name r e h = plain-say setup state (Reply.Unknown name) r refl h
show-said setup state (Some s) name r e h = plain-say setup state (Reply.Show name) r (ap is_some e) h

-- of the service of a name, whatever is said of a service
service-said : (setup : Setup) (state : State) (found : Option Service) (name : Name) (go : Service → Outcome) (r : Reply) →
    ((s : Service) → go s ≡ Say r → can_tell setup state r ≡ true) → for_service found name go ≡ Say r →
    can_tell setup state r ≡ true
service-said setup state None name go r more h = plain-say setup state (Reply.Unknown name) r refl h
service-said setup state (Some s) name go r more h = more s h

push-said : (setup : Setup) (state : State) (name : Name) (n : ℤ) (r : Reply) → push setup state name n ≡ Say r →
    can_tell setup state r ≡ true
push-said setup state name n r =
    service-said setup state (service_of state name) name _ r (λ s.
    plain-else setup state _ _ r (plain-when setup state (Reply.Busy name) _ refl)
    (plain-else setup state _ _ r (plain-when setup state (Reply.Same name) _ refl)
    (plain-else setup state _ _ r (plain-when setup state (Reply.Band Work) _ refl)
    (plain-else setup state _ _ r (plain-map setup state Reply.Clash _ (λ x. refl))
    (λ h. absurd (not-said _ _ r h))))))

ended-said : (setup : Setup) (state : State) (name : Name) (e : events.Event) (q r : Reply) →
    for_service (service_of state name) name (λ s. or_else (Reply.Idle name when not (is_moving s)) (Change e q)) ≡ Say r →
    can_tell setup state r ≡ true
ended-said setup state name e q r =
    service-said setup state (service_of state name) name _ r (λ s.
    plain-else setup state _ _ r (plain-when setup state (Reply.Idle name) _ refl) (λ h. absurd (not-said e q r h)))

make-said : (setup : Setup) (state : State) (name : Name) (avoid : Option Name) (r : Reply) →
    make setup state name avoid ≡ Say r → can_tell setup state r ≡ true
make-said setup state name avoid r =
    service-said setup state (service_of state name) name _ r (λ s.
    plain-else setup state _ _ r (plain-map setup state Reply.Unknown _ (λ x. refl))
    (plain-else setup state _ _ r (plain-when setup state (Reply.Busy name) _ refl)
    (plain-else setup state _ _ r (plain-when setup state Reply.NoRoute _ refl)
    (tried-said setup state _ _ (λ l. events.Event.Make name s.class (events.leg_text_of l)) (Reply.Made name) r))))

moved-said : (setup : Setup) (state : State) (name : Name) (class : Class) (back : Option Path) (r : Reply) →
    refit_backup setup state name class back ≡ Say r → can_tell setup state r ≡ true
moved-said setup state name class None r h = plain-say setup state (Reply.Bare name) r refl h
moved-said setup state name class (Some b) r h =
    plain-else setup state _ _ r (plain-when setup state (Reply.Dual name) (is_dual class) refl)
    (plain-else setup state _ _ r (plain-when setup state (Reply.Refitted name _ _) _ refl)
    (λ k. absurd (not-said _ _ r k))) h

refit-said : (setup : Setup) (state : State) (name : Name) (r : Reply) → refit setup state name ≡ Say r →
    can_tell setup state r ≡ true
refit-said setup state name r =
    service-said setup state (service_of state name) name _ r (λ s.
    plain-else setup state _ _ r (plain-when setup state (Reply.Busy name) _ refl)
    (moved-said setup state name s.class s.leg.back r))

map-said : (setup : Setup) (state : State) (number : Option ℕ) (name : Name) (r : Reply) →
    for_number number name (λ i. Say (Reply.Map (map_text setup state i))) ≡ Say r → can_tell setup state r ≡ true
map-said setup state None name r h = plain-say setup state (Reply.Unknown name) r refl h
map-said setup state (Some i) name r h = plain-say setup state (Reply.Map (map_text setup state i)) r refl h

routes-said : (setup : Setup) (state : State) (s t : Name) (r : Reply) → is_setup setup ≡ true →
    routes setup s t ≡ Say r → can_tell setup state r ≡ true
routes-said setup state s t r ok =
    plain-else setup state (unknown_in (is_node setup.network) (s ∷ t ∷ [])) _ r
    (plain-map setup state Reply.Unknown _ (λ x. refl))
    (plain-say setup state _ r (shown-over setup (node_numbered setup.network s) (node_numbered setup.network t) _ ok refl))

drill-said : (setup : Setup) (state : State) (number : Option ℕ) (g : Name) (r : Reply) → is_setup setup ≡ true →
    Legal setup state → for_number number g (λ i. Say (Reply.Drill g (hits_of i state))) ≡ Say r →
    can_tell setup state r ≡ true
drill-said setup state None g r ok legal h = plain-say setup state (Reply.Unknown g) r refl h
drill-said setup state (Some i) g r ok legal h =
    plain-say setup state (Reply.Drill g (hits_of i state)) r (hits-told setup state i ok legal) h

outcome-said : (setup : Setup) (state : State) (c : Command) (r : Reply) → is_setup setup ≡ true → Legal setup state →
    is_compact c ≡ false → outcome_of setup state c ≡ Say r → can_tell setup state r ≡ true
outcome-said setup state (Command.Place d w b) r ok legal other h = place-said setup state d w b r h
outcome-said setup state (Command.Admit d) r ok legal other h = admit-said setup state d r h
outcome-said setup state (Command.Release name) r ok legal other h =
    release-said setup state (service_of state name) name r h
outcome-said setup state (Command.Push name n) r ok legal other h = push-said setup state name n r h
outcome-said setup state (Command.Make name avoid) r ok legal other h = make-said setup state name avoid r h
outcome-said setup state (Command.Finish name) r ok legal other h =
    ended-said setup state name (events.Event.Finish name) (Reply.Finished name) r h
outcome-said setup state (Command.Back name) r ok legal other h =
    ended-said setup state name (events.Event.Back name) (Reply.Backed name) r h
outcome-said setup state (Command.Refit name) r ok legal other h = refit-said setup state name r h
outcome-said setup state Command.Compact r ok legal other h = cc
outcome-said setup state (Command.Drill g) r ok legal other h =
    drill-said setup state (risk_number_of setup.network g) g r ok legal h
outcome-said setup state (Command.Routes s t) r ok legal other h = routes-said setup state s t r ok h
outcome-said setup state (Command.Show name) r ok legal other h = show-said setup state (service_of state name) name r refl h
outcome-said setup state Command.List r ok legal other h = plain-say setup state Reply.List r refl h
outcome-said setup state (Command.Map name) r ok legal other h =
    map-said setup state (fibre_of setup.network name) name r h
outcome-said setup state Command.Stats r ok legal other h = plain-say setup state _ r refl h
outcome-said setup state Command.Report r ok legal other h = plain-say setup state _ r refl h
outcome-said setup state Command.Quit r ok legal other h = plain-say setup state Reply.Bye r refl h

-- ---- replies of changes

found-last : (state : State) (s : Service) (name : Name) → s.name ≡ name →
    is_some (service_of (state ++ s ∷ []) name) ≡ true
found-last state s name same =
    ap is_some (find-append (λ x. same_name x.name name) state (s ∷ []))
    ∙ last (service_of state name) (same_name s.name name)
    (ap (λ (n : Name). same_name n name) same ∙ names_equal.refl name)
  where
    last : (found : Option Service) (b : Bool) → b ≡ true → is_some (option_or found (cond b (Some s) None)) ≡ true
    last None true h = refl
    last None false h = cc
    last (Some x) b h = refl

-- the service is there once it entered
entered-tells : (setup : Setup) (state : State) (text : events.EnterText) (q r : Reply) (e : events.Event) →
    ((now : State) → is_some (service_of now text.name) ≡ true → can_tell setup now q ≡ true) →
    Change (events.Event.Enter text) q ≡ Change e r → can_tell setup (events.apply setup.network state e) r ≡ true
entered-tells setup state text q r e tells h =
    let event-is : events.Event.Enter text ≡ e = cc in
    let reply-is : q ≡ r = cc in
    subst (λ (x : events.Event). can_tell setup (events.apply setup.network state x) r ≡ true) event-is
    (subst (λ (x : Reply). can_tell setup (state ++ events.service_told setup.network text ∷ []) x ≡ true) reply-is
    (tells (state ++ events.service_told setup.network text ∷ [])
    (found-last state (events.service_told setup.network text) text.name refl)))

place-changed : (setup : Setup) (state : State) (d : Demand) (w : PathWords) (b : Option PathWords)
    (e : events.Event) (r : Reply) → place setup state d w b ≡ Change e r →
    can_tell setup (events.apply setup.network state e) r ≡ true
place-changed setup state d w b e r h =
    let p1 = otherwise-Change _ _ e r h in
    let p2 = otherwise-Change _ _ e r p1.1 in
    let p3 = otherwise-Change _ _ e r p2.1 in
    let p4 = otherwise-Change _ _ e r p3.1 in
    let p5 = otherwise-Change _ _ e r p4.1 in
    let p6 = otherwise-Change _ _ e r p5.1 in
    let p7 = otherwise-Change _ _ e r p6.1 in
    let p8 = otherwise-Change _ _ e r p7.1 in
    let p9 = otherwise-Change _ _ e r p8.1 in
    entered-tells setup state _ (Reply.Placed d.name) r e (λ now there. there) p9.1

admit-changed : (setup : Setup) (state : State) (d : Demand) (e : events.Event) (r : Reply) →
    admit setup state d ≡ Change e r → can_tell setup (events.apply setup.network state e) r ≡ true
admit-changed setup state d e r h =
    let p1 = otherwise-Change _ _ e r h in
    let p2 = otherwise-Change _ _ e r p1.1 in
    let p3 = otherwise-Change _ _ e r p2.1 in
    let p4 = otherwise-Change _ _ e r p3.1 in
    let t = tried _ _ (λ l. Change (enters setup.network d l) (Reply.Admitted d.name)) e r p4.1 in
    entered-tells setup state _ (Reply.Admitted d.name) r e (λ now there. there) t.2

release-changed : (setup : Setup) (now : State) (found : Option Service) (name : Name) (e : events.Event) (r : Reply) →
    for_service found name (λ s. Change (events.Event.Leave name) (Reply.Released name)) ≡ Change e r →
    can_tell setup now r ≡ true
release-changed setup now None name e r h = cc
release-changed setup now (Some s) name e r h =
    let same : Reply.Released name ≡ r = cc in subst (λ (x : Reply). can_tell setup now x ≡ true) same refl

-- what can be told of each state can be told of the one after the change
plain-change : (setup : Setup) (now : State) (d e : events.Event) (q r : Reply) → can_tell setup now q ≡ true →
    Change d q ≡ Change e r → can_tell setup now r ≡ true
plain-change setup now d e q r tells h =
    let same : q ≡ r = cc in subst (λ (x : Reply). can_tell setup now x ≡ true) same tells

service-changed : (setup : Setup) (now : State) (found : Option Service) (name : Name) (go : Service → Outcome)
    (e : events.Event) (r : Reply) → ((s : Service) → found ≡ Some s → go s ≡ Change e r → can_tell setup now r ≡ true) →
    for_service found name go ≡ Change e r → can_tell setup now r ≡ true
service-changed setup now None name go e r more h = cc
service-changed setup now (Some s) name go e r more h = more s refl h

push-changed : (setup : Setup) (state now : State) (name : Name) (n : ℤ) (e : events.Event) (r : Reply) →
    push setup state name n ≡ Change e r → can_tell setup now r ≡ true
push-changed setup state now name n e r =
    service-changed setup now (service_of state name) name _ e r (λ s is h.
    let p1 = otherwise-Change _ _ e r h in
    let p2 = otherwise-Change _ _ e r p1.1 in
    let p3 = otherwise-Change _ _ e r p2.1 in
    let p4 = otherwise-Change _ _ e r p3.1 in
    plain-change setup now (events.Event.Push name n) e _ r refl p4.1)

ended-changed : (setup : Setup) (now : State) (found : Option Service) (name : Name) (d e : events.Event) (q r : Reply) →
    can_tell setup now q ≡ true →
    for_service found name (λ s. or_else (Reply.Idle name when not (is_moving s)) (Change d q)) ≡ Change e r →
    can_tell setup now r ≡ true
ended-changed setup now found name d e q r tells =
    service-changed setup now found name _ e r (λ s is h.
    plain-change setup now d e q r tells (otherwise-Change _ _ e r h).1)

-- the service has its second leg beside the old one
next-there : (state : State) (name : Name) (l : Leg) (s : Service) → service_of state name ≡ Some s →
    is_some (option_and_then (λ (v : Service). v.next) (service_of (change_service name (with_next l) state) name)) ≡ true
next-there [] name l s h = cc
next-there (x ∷ state) name l s h = by (same_name x.name name) refl (next-there state name l s) h
  where
    by : (b : Bool) → same_name x.name name ≡ b →
        (service_of state name ≡ Some s → is_some (option_and_then (λ (v : Service). v.next)
        (service_of (change_service name (with_next l) state) name)) ≡ true) →
        cond b (Some x) (service_of state name) ≡ Some s →
        is_some (option_and_then (λ (v : Service). v.next)
        (cond (same_name (cond b (with_next l x) x).name name) (Some (cond b (with_next l x) x))
        (service_of (change_service name (with_next l) state) name))) ≡ true
    by true e more k = ap (λ c. is_some (option_and_then (λ (v : Service). v.next)
        (cond c (Some (with_next l x)) (service_of (change_service name (with_next l) state) name)))) e
    by false e more k = ap (λ c. is_some (option_and_then (λ (v : Service). v.next)
        (cond c (Some x) (service_of (change_service name (with_next l) state) name)))) e
        ∙ more k

made-tells : (setup : Setup) (state : State) (name : Name) (class : Class) (text : events.LegText) (s : Service)
    (e : events.Event) (r : Reply) → service_of state name ≡ Some s →
    Change (events.Event.Make name class text) (Reply.Made name) ≡ Change e r →
    can_tell setup (events.apply setup.network state e) r ≡ true
made-tells setup state name class text s e r found h =
    let event-is : events.Event.Make name class text ≡ e = cc in
    let reply-is : Reply.Made name ≡ r = cc in
    subst (λ (x : events.Event). can_tell setup (events.apply setup.network state x) r ≡ true) event-is
    (subst (λ (x : Reply). can_tell setup (change_service name (with_next (events.leg_told setup.network text)) state) x ≡ true)
    reply-is (next-there state name (events.leg_told setup.network text) s found))

make-changed : (setup : Setup) (state : State) (name : Name) (avoid : Option Name) (e : events.Event) (r : Reply) →
    make setup state name avoid ≡ Change e r → can_tell setup (events.apply setup.network state e) r ≡ true
make-changed setup state name avoid e r =
    service-changed setup (events.apply setup.network state e) (service_of state name) name _ e r (λ s is h.
    let p1 = otherwise-Change _ _ e r h in
    let p2 = otherwise-Change _ _ e r p1.1 in
    let p3 = otherwise-Change _ _ e r p2.1 in
    let t = tried _ _ (λ l. Change (events.Event.Make name s.class (events.leg_text_of l)) (Reply.Made name)) e r p3.1 in
    made-tells setup state name s.class (events.leg_text_of t.0) s e r is t.2)

moved-changed : (setup : Setup) (state now : State) (name : Name) (class : Class) (back : Option Path) (e : events.Event)
    (r : Reply) → refit_backup setup state name class back ≡ Change e r → can_tell setup now r ≡ true
moved-changed setup state now name class None e r h = cc
moved-changed setup state now name class (Some b) e r h =
    let p1 = otherwise-Change _ _ e r h in
    let p2 = otherwise-Change _ _ e r p1.1 in
    plain-change setup now _ e _ r refl p2.1

refit-changed : (setup : Setup) (state now : State) (name : Name) (e : events.Event) (r : Reply) →
    refit setup state name ≡ Change e r → can_tell setup now r ≡ true
refit-changed setup state now name e r =
    service-changed setup now (service_of state name) name _ e r (λ s is h.
    moved-changed setup state now name s.class s.leg.back e r (otherwise-Change _ _ e r h).1)

said-alone : (found : Option Service) (name : Name) (q : Reply) (e : events.Event) (r : Reply) →
    for_service found name (λ s. Say q) ≡ Change e r → ⊥
said-alone None name q e r h = cc
said-alone (Some s) name q e r h = cc

said-number : (number : Option ℕ) (name : Name) (q : ℕ → Reply) (e : events.Event) (r : Reply) →
    for_number number name (λ i. Say (q i)) ≡ Change e r → ⊥
said-number None name q e r h = cc
said-number (Some i) name q e r h = cc

said-else : (cause : Option Reply) (q : Reply) (e : events.Event) (r : Reply) → or_else cause (Say q) ≡ Change e r → ⊥
unfolding or_else
said-else None q e r h = cc
said-else (Some x) q e r h = cc

outcome-changed : (setup : Setup) (state : State) (c : Command) (e : events.Event) (r : Reply) → is_compact c ≡ false →
    outcome_of setup state c ≡ Change e r → can_tell setup (events.apply setup.network state e) r ≡ true
outcome-changed setup state (Command.Place d w b) e r other h = place-changed setup state d w b e r h
outcome-changed setup state (Command.Admit d) e r other h = admit-changed setup state d e r h
outcome-changed setup state (Command.Release name) e r other h =
    release-changed setup (events.apply setup.network state e) (service_of state name) name e r h
outcome-changed setup state (Command.Push name n) e r other h =
    push-changed setup state (events.apply setup.network state e) name n e r h
outcome-changed setup state (Command.Make name avoid) e r other h = make-changed setup state name avoid e r h
outcome-changed setup state (Command.Finish name) e r other h =
    ended-changed setup (events.apply setup.network state e) (service_of state name) name (events.Event.Finish name) e
    (Reply.Finished name) r refl h
outcome-changed setup state (Command.Back name) e r other h =
    ended-changed setup (events.apply setup.network state e) (service_of state name) name (events.Event.Back name) e
    (Reply.Backed name) r refl h
outcome-changed setup state (Command.Refit name) e r other h =
    refit-changed setup state (events.apply setup.network state e) name e r h
outcome-changed setup state Command.Compact e r other h = cc
outcome-changed setup state (Command.Drill g) e r other h =
    absurd (said-number (risk_number_of setup.network g) g (λ i. Reply.Drill g (hits_of i state)) e r h)
outcome-changed setup state (Command.Routes s t) e r other h = absurd (said-else _ _ e r h)
outcome-changed setup state (Command.Show name) e r other h =
    absurd (said-alone (service_of state name) name (Reply.Show name) e r h)
outcome-changed setup state Command.List e r other h = cc
outcome-changed setup state (Command.Map name) e r other h =
    absurd (said-number (fibre_of setup.network name) name (λ i. Reply.Map (map_text setup state i)) e r h)
outcome-changed setup state Command.Stats e r other h = cc
outcome-changed setup state Command.Report e r other h = cc
outcome-changed setup state Command.Quit e r other h = cc

-- ---- what is decided

pub outcome-tells : (setup : Setup) (state : State) (c : Command) (d : Decision) → is_setup setup ≡ true →
    Legal setup state → is_compact c ≡ false → outcome_told d ≡ outcome_of setup state c → CanBeTold setup state d
outcome-tells setup state c (decision.Say r) ok legal other h = outcome-said setup state c _ ok legal other (sym h)
outcome-tells setup state c (decision.Change e r) ok legal other h = outcome-changed setup state c _ _ other (sym h)
