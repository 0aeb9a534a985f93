use Rattle.std.proofs.Common.{sym, ◌∙◌, ap, ◌||◌}
use Rattle.eon_model.specs.Sets.{has_member}
use Rattle.route_list.specs.Fronts.{leads_by}
use Rattle.route_list.proofs.FrontLaws.{member-with, member-without}
use Rattle.route_list.proofs.deviation.with_next.Goals as goal

pub returns-in-Some : goal.returns-in-Some
returns-in-Some c = λ i.
    ap (λ s. has_member s i) c.with.ensures ∙ member-with c.args.used c.in-Some.fibre i
    ∙ ap (λ o. has_member c.args.used i || leads_by i o) (sym c.in-Some.is)

pub returns-in-None : goal.returns-in-None
returns-in-None c = λ i.
    member-without c.args.used i ∙ ap (λ o. has_member c.args.used i || leads_by i o) (sym c.in-None.is)
