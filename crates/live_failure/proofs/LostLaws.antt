-- Of a legal state, which services are dark: those whose working route is down, and whose backup is not lit, or is lit
-- where a rival's is.
use Rattle.std.proofs.Common.{◌≡◌, refl, sym, ◌∙◌, ap, subst, inl, inr, ℕ, ℤ, Bool, true, false, cond, ◌&&◌, ◌||◌, not, List, [], ◌∷◌, ◌++◌, map, filter, Option, Some, None}
use Rattle.std.specs.Prelude.{is_some}
use Rattle.std.specs.Option.{option_to_list}
use Rattle.std.specs.List.{list_all, list_any, flat_map}
use Rattle.std.proofs.lemmas.Bool.{and_parts, not-true, cases_Bool, false≢true}
use Rattle.std.proofs.lemmas.List.Folds.{list_all-append, list_any-append}
use Rattle.eon_model.specs.declared.Class.{Class}
use Rattle.eon_model.specs.declared.Class.TheVariants.{Bare, Shared, Dual}
use Rattle.eon_model.specs.Names.{Name, same_name}
use Rattle.eon_model.specs.Services.{Path, Leg, Service, State, OwnedLeg, owned, owned_legs, all_legs, legs_of}
use Rattle.eon_model.specs.Legal.{Setup, is_protected, is_shared, is_dual, is_clear, fits, backup_fits, Legal}
use Rattle.eon_model.specs.Moments.{light_at, paths_collide}
use Rattle.eon_model.specs.LiveFailure.{Light, is_down, as_lights, lights_backup, lit_by_service, lit_now, is_disturbed, is_dark}
use Rattle.eon_model.proofs.ApartLaws.{apart, Covers, light_and_backup, backup_and_light, light_and_light, lit_and_backup, backup_and_lit}
use Rattle.eon_model.proofs.ClearLaws.{is_clear_comm}
use Rattle.eon_model.proofs.LegalLaws.{Legal-parts}
use Rattle.eon_model.proofs.LitLaws.{covers_light}
use Rattle.eon_model.proofs.ListLaws.{IsIn-flat_map}
use Rattle.eon_model.proofs.Members.{list_all-at, all_pairs-at}
use Rattle.eon_model.proofs.NameLaws.{names_equal}
use Rattle.eon_model.proofs.OrderLaws.{IsIn}
use Rattle.eon_model.proofs.OutlastLaws.{at_home}
use Rattle.live_failure.specs.Parts.{backup_up, backs_overlap, is_rival, has_switched, is_crossed, is_lost}

-- ---- lists

any-flat : {X Y : Type 0} (test : Y → Bool) (f : X → List Y) (xs : List X) →
    list_any test (flat_map f xs) ≡ list_any (λ x. list_any test (f x)) xs
any-flat test f [] = refl
any-flat test f (x ∷ xs) = list_any-append test (f x) (flat_map f xs) ∙ ap (λ b. list_any test (f x) || b) (any-flat test f xs)

any-same : {X : Type 0} (p q : X → Bool) (xs : List X) → ((x : X) → IsIn x xs → p x ≡ q x) →
    list_any p xs ≡ list_any q xs
any-same p q [] h = refl
any-same p q (x ∷ xs) h = λ i. h x (inl refl) i || any-same p q xs (λ y j. h y (inr j)) i

none-any : {X : Type 0} (xs : List X) → list_any (λ (x : X). false) xs ≡ false
none-any [] = refl
none-any (x ∷ xs) = none-any xs

and-false : (b : Bool) → (b && false) ≡ false
and-false true = refl
and-false false = refl

or-false : (b : Bool) → (b || false) ≡ b
or-false true = refl
or-false false = refl

and-true : (b : Bool) → (b && true) ≡ b
and-true true = refl
and-true false = refl

-- ---- the lights of a service

abbrev light_of : Name → Bool → Path → Light
light_of name is_backup p = record { name = name; is_backup = is_backup; path = p }

-- the lights of a service by whether its working path is lit, and its backup where it is up
abbrev lights_by : Name → Path → Option Path → (Path → Bool) → Bool → Bool → List Light
lights_by name work back up here there =
    as_lights name false (cond here (work ∷ []) [])
    ++ as_lights name true (cond there (filter up (option_to_list back)) [])

any-by_parts : (test : Light → Bool) (name : Name) (work : Path) (back : Option Path) (up : Path → Bool) (here there : Bool) →
    list_any test (lights_by name work back up here there)
    ≡ (here && test (light_of name false work)
    || there && list_any (λ b. up b && test (light_of name true b)) (option_to_list back))
any-by_parts test name work None up here there =
    list_any-append test (as_lights name false (cond here (work ∷ []) [])) (as_lights name true (cond there [] []))
    ∙ (λ i. first here i || second there i)
  where
    first : (here : Bool) → list_any test (as_lights name false (cond here (work ∷ []) [])) ≡ (here && test (light_of name false work))
    first true = or-false (test (light_of name false work))
    first false = refl

    second : (there : Bool) → list_any test (as_lights name true (cond there [] [])) ≡ (there && false)
    second true = refl
    second false = refl
any-by_parts test name work (Some b) up here there =
    list_any-append test (as_lights name false (cond here (work ∷ []) []))
    (as_lights name true (cond there (cond (up b) (b ∷ []) []) []))
    ∙ (λ i. first here i || second there (up b) i)
  where
    first : (here : Bool) → list_any test (as_lights name false (cond here (work ∷ []) [])) ≡ (here && test (light_of name false work))
    first true = or-false (test (light_of name false work))
    first false = refl

    second : (there u : Bool) → list_any test (as_lights name true (cond there (cond u (b ∷ []) []) []))
        ≡ (there && (u && test (light_of name true b) || false))
    second true true = refl
    second true false = refl
    second false u = refl

all-by_parts : (test : Light → Bool) (name : Name) (work : Path) (back : Option Path) (up : Path → Bool) (here there : Bool) →
    list_all test (lights_by name work back up here there)
    ≡ ((not here || test (light_of name false work))
    && (not there || list_all (λ b. not (up b) || test (light_of name true b)) (option_to_list back)))
all-by_parts test name work None up here there =
    list_all-append test (as_lights name false (cond here (work ∷ []) [])) (as_lights name true (cond there [] []))
    ∙ (λ i. first here i && second there i)
  where
    first : (here : Bool) → list_all test (as_lights name false (cond here (work ∷ []) [])) ≡ (not here || test (light_of name false work))
    first true = and-true (test (light_of name false work))
    first false = refl

    second : (there : Bool) → list_all test (as_lights name true (cond there [] [])) ≡ (not there || true)
    second true = refl
    second false = refl
all-by_parts test name work (Some b) up here there =
    list_all-append test (as_lights name false (cond here (work ∷ []) []))
    (as_lights name true (cond there (cond (up b) (b ∷ []) []) []))
    ∙ (λ i. first here i && second there (up b) i)
  where
    first : (here : Bool) → list_all test (as_lights name false (cond here (work ∷ []) [])) ≡ (not here || test (light_of name false work))
    first true = and-true (test (light_of name false work))
    first false = refl

    second : (there u : Bool) → list_all test (as_lights name true (cond there (cond u (b ∷ []) []) []))
        ≡ (not there || ((not u || test (light_of name true b)) && true))
    second true true = refl
    second true false = refl
    second false u = refl

-- ---- which paths of two services overlap

-- whether it is another's, and they overlap
abbrev meets : Service → Service → Path → Path → Bool
meets s t p q = not (same_name t.name s.name) && paths_collide p q

at_old : (p : Path) (to : Option ℤ) → light_at p.slot.n p to ≡ p
at_old p None = refl
at_old p (Some to) = refl

old_covers : (s : Service) → Covers (owned s.name s.class s.leg) s.leg.work
old_covers s = subst (λ (p : Path). Covers (owned s.name s.class s.leg) p) (at_old s.leg.work s.leg.to)
    (covers_light s.name s.class s.leg s.leg.work.slot.n (at_home s.leg.work.slot.n s.leg.to))

old_leg_in : (s : Service) (next : Option Leg) → IsIn (owned s.name s.class s.leg) (map (owned s.name s.class) (s.leg ∷ option_to_list next))
old_leg_in s next = inl refl

module _ (setup : Setup) (state : State) (legal : Legal setup state) where
  clear-at : (s t : Service) → IsIn s state → IsIn t state → same_name t.name s.name ≡ false →
      is_clear (owned s.name s.class s.leg) (owned t.name t.class t.leg) ≡ true
  clear-at s t i j d =
      all_pairs-at is_clear (λ (a b : OwnedLeg). same_name a.owner b.owner) is_clear_comm (λ (a : OwnedLeg). names_equal.refl a.owner)
      (all_legs state) (owned s.name s.class s.leg) (owned t.name t.class t.leg) (Legal-parts setup state legal).clear
      (IsIn-flat_map owned_legs s (owned s.name s.class s.leg) state i (old_leg_in s s.next))
      (IsIn-flat_map owned_legs t (owned t.name t.class t.leg) state j (old_leg_in t t.next))
      (names_equal.symm s.name t.name ∙ d)

  -- they do not, where the legs are clear of each other
  never : (s t : Service) (p q : Path) → IsIn s state → IsIn t state →
      (is_clear (owned s.name s.class s.leg) (owned t.name t.class t.leg) ≡ true → apart p q ≡ true) → meets s t p q ≡ false
  never s t p q i j h = elim (cases_Bool (same_name t.name s.name)) [
    | inl e ↦ ap (λ b. not b && paths_collide p q) e
    | inr e ↦ ap (λ b. not b && paths_collide p q) e ∙ not-true (paths_collide p q) (h (clear-at s t i j e))
  ]

  work_work : (s t : Service) → IsIn s state → IsIn t state → meets s t s.leg.work t.leg.work ≡ false
  work_work s t i j = never s t s.leg.work t.leg.work i j (λ c. light_and_light (owned s.name s.class s.leg)
      (owned t.name t.class t.leg) s.leg.work t.leg.work c (old_covers s) (old_covers t))

  work_back : (s t : Service) (q : Path) → IsIn s state → IsIn t state → t.leg.back ≡ Some q → meets s t s.leg.work q ≡ false
  work_back s t q i j e = never s t s.leg.work q i j (λ c. light_and_backup (owned s.name s.class s.leg)
      (owned t.name t.class t.leg) s.leg.work q c (old_covers s) e)

  back_work : (s t : Service) (p : Path) → IsIn s state → IsIn t state → s.leg.back ≡ Some p → meets s t p t.leg.work ≡ false
  back_work s t p i j e = never s t p t.leg.work i j (λ c. backup_and_light (owned s.name s.class s.leg)
      (owned t.name t.class t.leg) p t.leg.work c e (old_covers t))

  dual_back : (s t : Service) (p q : Path) → IsIn s state → IsIn t state → is_dual s.class ≡ true → s.leg.back ≡ Some p →
      t.leg.back ≡ Some q → meets s t p q ≡ false
  dual_back s t p q i j d e f = never s t p q i j (λ c. lit_and_backup (owned s.name s.class s.leg)
      (owned t.name t.class t.leg) p q c (record { dual = d; back = e }) f)

  back_dual : (s t : Service) (p q : Path) → IsIn s state → IsIn t state → is_dual t.class ≡ true → s.leg.back ≡ Some p →
      t.leg.back ≡ Some q → meets s t p q ≡ false
  back_dual s t p q i j d e f = never s t p q i j (λ c. backup_and_lit (owned s.name s.class s.leg)
      (owned t.name t.class t.leg) p q c e (record { dual = d; back = f }))

  module _ (failed : List ℕ) where
    abbrev up : Path → Bool
    up p = not (is_down failed p.route)

    -- whether the path of the service overlaps a light of the other
    abbrev met_by : Service → Path → Service → Bool
    met_by s p t = list_any (λ (k : Light). not (same_name k.name s.name) && paths_collide p k.path) (lit_by_service failed t)

    met-parts : (s t : Service) (p : Path) → met_by s p t
        ≡ (up t.leg.work && meets s t p t.leg.work
        || lights_backup failed t && list_any (λ b. up b && meets s t p b) (option_to_list t.leg.back))
    met-parts s t p = any-by_parts (λ (k : Light). not (same_name k.name s.name) && paths_collide p k.path) t.name t.leg.work
        t.leg.back up (up t.leg.work) (lights_backup failed t)

    disturbed-each : (s : Service) (is_backup : Bool) (p : Path) →
        is_disturbed (lit_now failed state) (light_of s.name is_backup p) ≡ list_any (met_by s p) state
    disturbed-each s is_backup p = any-flat (λ (k : Light). not (same_name k.name s.name) && paths_collide p k.path)
        (lit_by_service failed) state

    quiet_by : (u l : Bool) (test : Path → Bool) (work : Path) (back : Option Path) → test work ≡ false →
        ((b : Path) → back ≡ Some b → test b ≡ false) →
        (u && test work || l && list_any (λ b. up b && test b) (option_to_list back)) ≡ false
    quiet_by u l test work None h k = (λ i. u && h i || l && false) ∙ (λ i. and-false u i || and-false l i)
    quiet_by u l test work (Some b) h k =
        (λ i. u && h i || l && (up b && k b refl i || false))
        ∙ (λ i. and-false u i || l && (and-false (up b) i || false)) ∙ and-false l

    quiet : (s : Service) (is_backup : Bool) (p : Path) →
        ((t : Service) → IsIn t state → meets s t p t.leg.work ≡ false) →
        ((t : Service) (q : Path) → IsIn t state → t.leg.back ≡ Some q → meets s t p q ≡ false) →
        is_disturbed (lit_now failed state) (light_of s.name is_backup p) ≡ false
    quiet s is_backup p h k =
        disturbed-each s is_backup p
        ∙ any-same (met_by s p) (λ t. false) state (λ t j. met-parts s t p
        ∙ quiet_by (up t.leg.work) (lights_backup failed t) (meets s t p) t.leg.work t.leg.back (h t j) (λ q e. k t q j e))
        ∙ none-any state

    -- no working path is disturbed
    work_quiet : (s : Service) → IsIn s state → is_disturbed (lit_now failed state) (light_of s.name false s.leg.work) ≡ false
    work_quiet s i = quiet s false s.leg.work (λ t j. work_work s t i j) (λ t q j e. work_back s t q i j e)

    -- nor is a backup that is always lit
    dual_quiet : (s : Service) (p : Path) → IsIn s state → is_dual s.class ≡ true → s.leg.back ≡ Some p →
        is_disturbed (lit_now failed state) (light_of s.name true p) ≡ false
    dual_quiet s p i d e = quiet s true p (λ t j. back_work s t p i j e) (λ t q j f. dual_back s t p q i j d e f)

    rival_by : (class : Class) (down same w : Bool) (own : Path) (back : Option Path) → (not same && w) ≡ false →
        (is_dual class ≡ true → (q : Path) → back ≡ Some q → (not same && paths_collide own q) ≡ false) →
        (not down && (not same && w)
        || (is_dual class || is_shared class && down) && list_any (λ b. up b && (not same && paths_collide own b)) (option_to_list back))
        ≡ (down && backup_up failed back && (is_shared class && not same && backs_overlap (Some own) back))
    rival_by Bare down same w own back h k =
        (λ i. not down && h i || false) ∙ (λ i. and-false (not down) i || false)
        ∙ sym (and-false (down && backup_up failed back))
    rival_by Dual down same w own None h k =
        (λ i. not down && h i || false) ∙ (λ i. and-false (not down) i || false)
        ∙ sym (and-false (down && false))
    rival_by Dual down same w own (Some b) h k =
        (λ i. not down && h i || (up b && k refl b refl i || false))
        ∙ (λ i. and-false (not down) i || (and-false (up b) i || false))
        ∙ sym (and-false (down && up b))
    rival_by Shared down same w own None h k =
        (λ i. not down && h i || down && false) ∙ (λ i. and-false (not down) i || and-false down i)
        ∙ sym ((λ i. and-false down i && (not same && false)))
    rival_by Shared down same w own (Some b) h k =
        (λ i. not down && h i || down && (up b && (not same && paths_collide own b) || false))
        ∙ (λ i. and-false (not down) i || down && (up b && (not same && paths_collide own b) || false))
        ∙ joined down (up b) (not same && paths_collide own b)
      where
        joined : (d u m : Bool) → (false || d && (u && m || false)) ≡ (d && u && m)
        joined true true m = or-false m
        joined true false m = refl
        joined false u m = refl

    -- a shared backup is disturbed by those of rivals that have taken over
    shared_crossed : (s : Service) (p : Path) → IsIn s state → s.leg.back ≡ Some p →
        is_disturbed (lit_now failed state) (light_of s.name true p) ≡ is_crossed state failed s
    shared_crossed s p i e =
        disturbed-each s true p
        ∙ any-same (met_by s p) (λ t. has_switched failed t && is_rival s t) state (λ t j. met-parts s t p
        ∙ rival_by t.class (is_down failed t.leg.work.route) (same_name t.name s.name) (paths_collide p t.leg.work) p t.leg.back
        (back_work s t p i j e) (λ d q f. back_dual s t p q i j d e f)
        ∙ ap (λ (own : Option Path). has_switched failed t && (is_shared t.class && not (same_name t.name s.name)
        && backs_overlap own t.leg.back)) (sym e))

    -- a bare service has no backup
    bare_back : (s : Service) → IsIn s state → is_protected s.class ≡ false → s.leg.back ≡ None
    bare_back s i bare =
        let all = list_all-at (λ s. list_all (fits setup s) (legs_of s)) state s (Legal-parts setup state legal).fit i in
        let first = and_parts (fits setup s s.leg) (list_all (fits setup s) (option_to_list s.next)) all in
        let back = and_parts _ (backup_fits setup s s.leg) first.0 in
        none_by (is_protected s.class) s.leg.back _ bare back.1
      where
        none_by : (prot : Bool) (back : Option Path) (test : Path → Bool) → prot ≡ false →
            (not prot && not (is_some back) || prot && is_some back && list_all test (option_to_list back)) ≡ true → back ≡ None
        none_by prot None test e h = refl
        none_by true (Some b) test e h = absurd (false≢true (sym e))
        none_by false (Some b) test e h = absurd (false≢true h)

    lost_by : (class : Class) (down w crossed : Bool) (back : Option Path) (dist : Path → Bool) → w ≡ false →
        (is_protected class ≡ false → back ≡ None) →
        (is_dual class ≡ true → (b : Path) → back ≡ Some b → dist b ≡ false) →
        (is_shared class ≡ true → (b : Path) → back ≡ Some b → dist b ≡ crossed) →
        ((not (not down) || w) && (not (is_dual class || is_shared class && down)
        || list_all (λ b. not (up b) || dist b) (option_to_list back)))
        ≡ (down && (not (backup_up failed back) || is_shared class && crossed))
    lost_by Bare down w crossed None dist e bare dual shared = working down w e true
      where
        working : (d w : Bool) → w ≡ false → (r : Bool) → ((not (not d) || w) && r) ≡ (d && r)
        working true w e r = refl
        working false w e r = ap (λ v. v && r) e
    lost_by Bare down w crossed (Some b) dist e bare dual shared = let no : Some b ≡ None = bare refl in absurd cc
    lost_by Dual down w crossed None dist e bare dual shared = working down w e true
      where
        working : (d w : Bool) → w ≡ false → (r : Bool) → ((not (not d) || w) && r) ≡ (d && r)
        working true w e r = refl
        working false w e r = ap (λ v. v && r) e
    lost_by Dual down w crossed (Some b) dist e bare dual shared = whole down w (up b) (dist b) e (dual refl b refl)
      where
        whole : (d w u t : Bool) → w ≡ false → t ≡ false →
            ((not (not d) || w) && ((not u || t) && true)) ≡ (d && (not u || false))
        whole true w true t e f = ap (λ v. v && true) f
        whole true w false t e f = refl
        whole false w u t e f = ap (λ v. v && ((not u || t) && true)) e
    lost_by Shared down w crossed None dist e bare dual shared = whole down w e
      where
        whole : (d w : Bool) → w ≡ false → ((not (not d) || w) && (not d || true)) ≡ (d && true)
        whole true w e = refl
        whole false w e = ap (λ v. v && true) e
    lost_by Shared down w crossed (Some b) dist e bare dual shared = whole down w (up b) (dist b) e (shared refl b refl)
      where
        whole : (d w u t : Bool) → w ≡ false → t ≡ crossed →
            ((not (not d) || w) && (not d || ((not u || t) && true))) ≡ (d && (not u || crossed))
        whole true w true t e f = and-true t ∙ f
        whole true w false t e f = refl
        whole false w u t e f = ap (λ v. v && true) e

    -- a service of the state is dark where it is lost
    pub dark-lost : (s : Service) → IsIn s state → is_dark state failed s ≡ is_lost state failed s
    dark-lost s i =
        all-by_parts (is_disturbed (lit_now failed state)) s.name s.leg.work s.leg.back up (up s.leg.work) (lights_backup failed s)
        ∙ lost_by s.class (is_down failed s.leg.work.route)
        (is_disturbed (lit_now failed state) (light_of s.name false s.leg.work)) (is_crossed state failed s) s.leg.back
        (λ b. is_disturbed (lit_now failed state) (light_of s.name true b))
        (work_quiet s i) (λ bare. bare_back s i bare) (λ d b e. dual_quiet s b i d e) (λ h b e. shared_crossed s b i e)
