use Rattle.std.proofs.Common.{ap, subst, [], ◌∷◌, codes, length}
use Rattle.std.specs.Fmt.{decimal}
use Rattle.eon_model.specs.Legal.{Setup}
use Rattle.eon_model.specs.LiveFailure.{fates_of}
use Rattle.eon_model.specs.Network.{Network, risk_name}
use Rattle.eon_model.specs.Spelling.{line}
use Rattle.line_writer.specs.Sent.{Takes}
use Rattle.line_writer.proofs.TakesLaws.{takes-both}
use Rattle.live_failure.proofs.fates.put_failed.Goals as goal

pub returns : goal.returns
returns g c =
    let net = ap (λ (v : Setup). v.network) c.setup.view_is in
    let first = rw c.hit_count.ensures at c.put_failed_line.ensures in
    takes-both _ _ _ _ _
    (subst (λ (n : Network). Takes (g.W.TextSink.sent c.args.out.now) (g.W.TextSink.sent c.put_failed_line.new.out)
    (line (codes "ok" ∷ codes "fail" ∷ risk_name n c.args.group ∷ decimal (length (fates_of c.args.group c.args.services.now.list)) ∷ []))) net first)
    c.put_hits.ensures
