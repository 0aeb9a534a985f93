use Rattle.std.proofs.Common.{◌≡◌, ◌-◌, ◌+ℤ◌, pos, find}
use Rattle.eon_model.specs.Grid.{span_of, unit_count}
use Rattle.eon_model.specs.Lists.{integers_from}
use Rattle.eon_model.specs.FirstFit.{centres_in}
use Rattle.make_rule.specs.Refits.{may_back}
use Rattle.make_rule.proofs.refitting.least_centre.Given as goal

-- the backup may stand at no centre before this one
abbrev pub invariant-loop-place : goal.invariant-loop-place
invariant-loop-place l =
    find (may_back l.services.list l.band l.name l.service.class l.service.leg l.back)
    (integers_from ((span_of l.band).lo +ℤ pos l.place) (unit_count (span_of l.band) - l.place))
    ≡ find (may_back l.services.list l.band l.name l.service.class l.service.leg l.back) (centres_in l.band)
