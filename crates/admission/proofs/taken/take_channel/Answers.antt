use Rattle.std.proofs.Common.{◌≡◌, ◌∙◌, sym, ap, true}
use Rattle.eon_model.specs.Route as routes
use Rattle.eon_model.specs.Services.{Path, Leg}
use Rattle.admission.proofs.HoldingLaws.{channel_taken}
use Rattle.admission.proofs.taken.take_channel.Goals as goal

pub returns-then-share_fibre : goal.returns-then-share_fibre
returns-then-share_fibre c =
    let route = c.args.route.now in
    let shared : routes.share_fibre route c.args.leg.now.work.route ≡ true =
    ap (λ (l : Leg). routes.share_fibre route l.work.route) (sym c.leg.view_is)
    ∙ ap (λ (p : Path). routes.share_fibre route p.route) (sym c.work.view_is)
    ∙ sym c.share_fibre.ensures ∙ c.if-share_fibre.true in
    channel_taken c.args.row.now c.take.new.self route c.args.leg.now c.channel_span.result shared
    c.channel_span.ensures.units c.take.ensures
