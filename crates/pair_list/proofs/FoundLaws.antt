-- What was found by searches over sets are the candidates.
use Rattle.std.proofs.Common.{◌≡◌, sym, ◌∙◌, ap, subst, ℕ, ◌<◌, Bool, List, [], ◌++◌, map, length, Option}
use Rattle.std.specs.List.{filter_map}
use Rattle.eon_model.specs.declared.Class.{Class}
use Rattle.eon_model.specs.Legal.{Setup}
use Rattle.eon_model.specs.Network.{Network, risks_of_fibre}
use Rattle.eon_model.specs.Route.{Route}
use Rattle.eon_model.specs.Routes.{first_routes}
use Rattle.eon_model.specs.Sets.{NumberSet, set_of, meets}
use Rattle.eon_model.specs.Candidates.{SizedRoute, Candidate, max_reach, sized, is_avoided, fails_with, with_backup, backed, candidates_over, candidates}
use Rattle.pair_list.proofs.BanLaws.{routes-alike, fails-alone}

-- fibres that meet the working route's risks are those that fail with it
pub backups-found : (setup : Setup) (s t : ℕ) (w : SizedRoute) (banned : ℕ → Bool) (net : Network)
    (risks : NumberSet) → net ≡ setup.network → risks ≡ w.route.risk →
    ((i : ℕ) → i < length net.fibres → banned i ≡ meets (set_of (risks_of_fibre net i)) risks) →
    first_routes setup.network s t banned setup.k (max_reach setup.formats)
    ≡ first_routes setup.network s t (fails_with setup.network w.route) setup.k (max_reach setup.formats)
backups-found setup s t w banned net risks same_net same_risks same =
    routes-alike setup.network s t banned (fails_with setup.network w.route) setup.k (max_reach setup.formats)
    (λ i l. same i (subst (λ (n : Network). i < length n.fibres) (sym same_net) l)
    ∙ (λ j. meets (set_of (risks_of_fibre (same_net j) i)) (same_risks j)) ∙ fails-alone setup.network w.route i)

pub backed-found : (setup : Setup) (s t rate : ℕ) (w : SizedRoute) (backups : List Route) (banned : ℕ → Bool)
    (net : Network) (risks : NumberSet) → net ≡ setup.network → risks ≡ w.route.risk →
    ((i : ℕ) → i < length net.fibres → banned i ≡ meets (set_of (risks_of_fibre net i)) risks) →
    backups ≡ first_routes setup.network s t banned setup.k (max_reach setup.formats) →
    map (with_backup w) (filter_map (sized setup rate) backups) ≡ backed setup s t rate w
backed-found setup s t rate w backups banned net risks same_net same_risks same found =
    ap (λ rs. map (with_backup w) (filter_map (sized setup rate) rs))
    (found ∙ backups-found setup s t w banned net risks same_net same_risks same)

pub candidates-found : (setup : Setup) (s t rate : ℕ) (class : Class) (avoid : Option ℕ)
    (pairs start : List Candidate) (works : List Route) (banned : ℕ → Bool) → start ≡ [] →
    ((i : ℕ) → banned i ≡ is_avoided avoid i) →
    works ≡ first_routes setup.network s t banned setup.k (max_reach setup.formats) →
    pairs ≡ start ++ candidates_over setup s t rate class (filter_map (sized setup rate) works) →
    pairs ≡ candidates setup s t rate class avoid
candidates-found setup s t rate class avoid pairs start works banned none same found put =
    put ∙ ap (λ ps. ps ++ candidates_over setup s t rate class (filter_map (sized setup rate) works)) none
    ∙ ap (λ rs. candidates_over setup s t rate class (filter_map (sized setup rate) rs))
    (found ∙ (λ j. first_routes setup.network s t (λ i. same i j) setup.k (max_reach setup.formats)))
