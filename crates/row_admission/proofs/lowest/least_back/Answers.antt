use Rattle.std.proofs.Common.{◌≡◌, ◌∙◌, sym, subst, ℕ, ◌<◌, true, List}
use Rattle.std.specs.List.{AllByRecursion}
use Rattle.std.specs.Option.{option_copied}
use Rattle.eon_model.specs.FirstInRows.{least_shared}
use Rattle.eon_model.specs.Rows.{counts_among}
use Rattle.eon_model.specs.Sets.{NumberSet, has_member}
use Rattle.backup_sharing.specs.Shared.{counts_beside}
use Rattle.row_admission.specs.RowFirst.{backup_of}
use Rattle.row_admission.proofs.LeastLaws.{dual_least, shared_least}
use Rattle.row_admission.proofs.lowest.least_back.Goals as goal

pub returns-then-dual : goal.returns-then-dual
returns-then-dual g c =
    c.least_work.ensures
    ∙ dual_least c.args.band (g.V.Occupied.rows c.args.view.now)
    (counts_beside (backup_of (option_copied c.args.own)) (counts_among c.args.sharing.now.reserves)) c.args.work.now.risk
    c.args.class (record { route = c.args.route.now; m = c.args.m }) (sym c.dual.ensures ∙ c.if-dual.true)

pub least_beside-requires-clause-groups : goal.least_beside-requires-clause-groups
least_beside-requires-clause-groups g c =
    subst (λ (s : NumberSet). (n : ℕ) → has_member s n ≡ true → n < c.args.sharing.now.groups) (sym c.risk-risk.ensures)
    c.requires.work.groups

pub least_beside-requires-clause-fibres : goal.least_beside-requires-clause-fibres
least_beside-requires-clause-fibres g c =
    subst (λ (fs : List ℕ). AllByRecursion (λ f. f < c.args.sharing.now.fibres) fs) (sym c.fibres.ensures)
    c.requires.route.fibres

pub lowest-requires-clause-groups : goal.lowest-requires-clause-groups
lowest-requires-clause-groups g c =
    subst (λ (s : NumberSet). (n : ℕ) → has_member s n ≡ true → n < c.args.sharing.now.groups) (sym c.risk-risk.ensures)
    c.requires.work.groups

pub lowest-requires-clause-fibres : goal.lowest-requires-clause-fibres
lowest-requires-clause-fibres g c =
    subst (λ (fs : List ℕ). AllByRecursion (λ f. f < c.args.sharing.now.fibres) fs) (sym c.fibres-in-None.ensures)
    c.requires.route.fibres

pub returns-in-Some : goal.returns-in-Some
returns-in-Some g c =
    let rows = g.V.Occupied.rows c.args.view.now in
    let counts = counts_among c.args.sharing.now.reserves in
    c.least_beside.ensures
    ∙ (λ i. least_shared rows (counts_beside (backup_of (option_copied (sym c.in-Some.is i))) counts) (c.risk-risk.ensures i)
    (c.fibres.ensures i) c.args.m c.args.band)
    ∙ shared_least c.args.band rows (counts_beside (backup_of (option_copied c.args.own)) counts) c.args.work.now.risk
    c.args.class c.args.route.now.fibres c.args.m (sym c.dual.ensures ∙ c.if-dual.false)

pub returns-in-None : goal.returns-in-None
returns-in-None g c =
    let rows = g.V.Occupied.rows c.args.view.now in
    let counts = counts_among c.args.sharing.now.reserves in
    c.lowest.ensures
    ∙ (λ i. least_shared rows (counts_beside (backup_of (option_copied (sym c.in-None.is i))) counts) (c.risk-risk.ensures i)
    (c.fibres-in-None.ensures i) c.args.m c.args.band)
    ∙ shared_least c.args.band rows (counts_beside (backup_of (option_copied c.args.own)) counts) c.args.work.now.risk
    c.args.class c.args.route.now.fibres c.args.m (sym c.dual.ensures ∙ c.if-dual.false)
