use Rattle.std.proofs.Common.{◌+◌, sym, subst}
use Rattle.eon_model.specs.Network.{risks_of_fibre}
use Rattle.eon_model.specs.Sets.{NumberSet, set_of, meets}
use Rattle.pair_list.proofs.BanLaws.{HasBelow, has-none, has-more}
use Rattle.pair_list.proofs.sharers.sharers.Goals as goal

pub loop-fibre-init : goal.loop-fibre-init
loop-fibre-init c =
    subst (λ (s : NumberSet). HasBelow (λ i. meets (set_of (risks_of_fibre c.args.net.now i)) c.args.risks.now) 0 s)
    (sym c.empty-sharers.ensures)
    (has-none (λ i. meets (set_of (risks_of_fibre c.args.net.now i)) c.args.risks.now))

pub loop-fibre-preserved : goal.loop-fibre-preserved
loop-fibre-preserved c =
    subst (λ (s : NumberSet). HasBelow (λ i. meets (set_of (risks_of_fibre c.args.net.now i)) c.args.risks.now)
    (c.loop-fibre.fibre + 1) s)
    (sym c.with_sharer-sharers.ensures)
    (has-more (λ i. meets (set_of (risks_of_fibre c.args.net.now i)) c.args.risks.now) c.loop-fibre.fibre
    c.loop-fibre.sharers c.loop-fibre.invariant)
