use Rattle.std.proofs.Common.{sym, subst, ◌+◌, List, ℕ, arith}
use Rattle.live_failure.specs.Rivals.{AreRivals}
use Rattle.live_failure.proofs.RivalLaws.{rivals-more}
use Rattle.live_failure.proofs.WalkLaws.{at-place}
use Rattle.live_failure.proofs.exposing.rivals_of.Goals as goal

pub loop-place-preserved : goal.loop-place-preserved
loop-place-preserved c =
    let here = at-place c.args.services.now.list c.loop-place.place (omega (arith, c.loop-place-test.true, c.len-place-end.ensures.count)) in
    subst (λ (v : List ℕ). AreRivals c.args.services.now.list (c.loop-place.place + 1) c.args.own.now v) (sym c.in_ok-note_rival.ensures)
    (rivals-more c.args.services.now.list c.loop-place.place c.args.own.now here.0 c.loop-place.places.items here.1 c.loop-place.invariant)
