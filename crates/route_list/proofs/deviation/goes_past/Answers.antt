use Rattle.std.proofs.Common.{sym, ◌∙◌, arith}
use Rattle.std.proofs.lemmas.Bool.{le-ltb}
use Rattle.route_list.proofs.FrontLaws.{front-starts, front-long}
use Rattle.route_list.proofs.deviation.goes_past.Goals as goal

pub returns-then-front-fibres : goal.returns-then-front-fibres
returns-then-front-fibres c =
    c.starts_with.ensures.value ∙ front-starts c.args.front.now c.args.fibres.now (omega (arith, c.if-front-fibres.true))

pub returns-else-front-fibres : goal.returns-else-front-fibres
returns-else-front-fibres c =
    le-ltb _ _ (omega (arith, c.if-front-fibres.false))
    ∙ sym (front-long c.args.front.now c.args.fibres.now (omega (arith, c.if-front-fibres.false)))
