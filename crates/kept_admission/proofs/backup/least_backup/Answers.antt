use Rattle.std.proofs.Common.{sym, ◌∙◌, ap, subst, Some, w16}
use Rattle.std.specs.Prelude.{IfSome}
use Rattle.std.proofs.lemmas.Int.{to_z-of_z}
use Rattle.eon_model.specs.Legal.{Setup}
use Rattle.eon_model.specs.Services.{Path, Leg, Service}
use Rattle.eon_model.proofs.BackupLaws.{fits-parts, backup-path}
use Rattle.eon_model.proofs.ChangeLaws.{named_fits}
use Rattle.backup_sharing.specs.Shared.{IsThere}
use Rattle.row_admission.specs.RowFirst.{backup_of, IsRouteThere}
use Rattle.kept_admission.proofs.ThereLaws.{leg-there, path_route-there}
use Rattle.kept_admission.proofs.LeastBackupLaws.{least-told}
use Rattle.kept_admission.proofs.backup.least_backup.Goals as goal

pub least_back-requires-clause-work : goal.least_back-requires-clause-work
least_back-requires-clause-work c =
    let at = c.requires.served.2 in
    let fit = named_fits c.args.setup.now c.requires.served.0 c.requires.served.1 c.args.service.now at.legal at.found in
    subst (λ (p : Path). IsRouteThere c.args.rows.now.sharing p.route)
    (sym (c.work.view_is ∙ ap (λ (l : Leg). l.work) (c.leg.view_is ∙ ap (λ (v : Service). v.leg) c.service.view_is)))
    (path_route-there c.args.setup.now c.requires.in_range c.requires.served.0 c.args.rows.now at.stands
    c.args.service.now c.args.service.now.leg.work
    (fits-parts c.args.setup.now c.args.service.now c.args.service.now.leg fit).work)

pub least_back-requires-clause-route : goal.least_back-requires-clause-route
least_back-requires-clause-route c =
    let at = c.requires.served.2 in
    let fit = named_fits c.args.setup.now c.requires.served.0 c.requires.served.1 c.args.service.now at.legal at.found in
    subst (λ (p : Path). IsRouteThere c.args.rows.now.sharing p.route) (sym c.back.view_is)
    (path_route-there c.args.setup.now c.requires.in_range c.requires.served.0 c.args.rows.now at.stands
    c.args.service.now c.args.back.now
    (backup-path c.args.setup.now c.args.service.now c.args.service.now.leg c.args.back.now
    (fits-parts c.args.setup.now c.args.service.now c.args.service.now.leg fit).back c.requires.back))

pub least_back-requires-clause-own : goal.least_back-requires-clause-own
least_back-requires-clause-own c =
    let at = c.requires.served.2 in
    subst (λ (v : Service). IfSome (backup_of (Some v.leg)) (IsThere c.args.rows.now.sharing)) (sym c.service.view_is)
    (leg-there c.args.setup.now c.requires.in_range c.requires.served.0 c.args.rows.now at.stands c.args.service.now
    c.args.service.now.leg
    (named_fits c.args.setup.now c.requires.served.0 c.requires.served.1 c.args.service.now at.legal at.found))

pub returns : goal.returns
returns c = λ state name at.
    to_z-of_z w16 c.unwrap_or.result (record { sfits = c.unwrap_or.type_inv })
    ∙ c.unwrap_or.ensures
    ∙ least-told c.args.setup.now state name c.args.service.now c.args.rows.now at c.args.back.now c.requires.back
    c.requires.shared c.setup.inside.band c.service.inside.leg c.service.inside.class _ _ c.m.result c.least_back.result _
    (sym (ap (λ (s : Setup). s.band) c.setup.view_is)) (ap (λ (v : Service). v.leg) c.service.view_is)
    (ap (λ (v : Service). v.class) c.service.view_is)
    (c.work.view_is ∙ ap (λ (l : Leg). l.work) (c.leg.view_is ∙ ap (λ (v : Service). v.leg) c.service.view_is))
    c.back.view_is (c.m.ensures.value ∙ ap (λ (p : Path). p.slot.m) c.back.view_is) c.least_back.ensures
    (to_z-of_z w16 c.n.result (record { sfits = c.n.type_inv }) ∙ c.n.ensures.value
    ∙ ap (λ (p : Path). p.slot.n) c.back.view_is)
