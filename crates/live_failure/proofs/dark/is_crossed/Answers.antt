use Rattle.std.proofs.Common.{sym, ◌∙◌, ◌&&◌, ◌≤◌, length, arith}
use Rattle.live_failure.specs.Parts.{has_switched, is_rival, is_crossed}
use Rattle.live_failure.proofs.WalkLaws.{any-here, any-past, any-end}
use Rattle.live_failure.proofs.dark.is_crossed.Goals as goal

pub returns-then-crosses : goal.returns-then-crosses
returns-then-crosses c =
    any-here (λ t. has_switched c.args.failed.now t && is_rival c.args.own.now t) c.args.services.now.list c.loop-i.i
    c.at.result.now (is_crossed c.args.services.now.list c.args.failed.now c.args.own.now) c.at.ensures.service
    (sym c.crosses.ensures ∙ c.if-crosses.true) c.loop-i.invariant

pub loop-i-preserved : goal.loop-i-preserved
loop-i-preserved c =
    any-past (λ t. has_switched c.args.failed.now t && is_rival c.args.own.now t) c.args.services.now.list c.loop-i.i
    c.at.result.now (is_crossed c.args.services.now.list c.args.failed.now c.args.own.now) c.at.ensures.service
    (sym c.crosses.ensures ∙ c.if-crosses.false) c.loop-i.invariant

pub returns : goal.returns
returns c =
    let past : length c.args.services.now.list ≤ c.loop-i.i = omega arith in
    any-end (λ t. has_switched c.args.failed.now t && is_rival c.args.own.now t) c.args.services.now.list c.loop-i.i
    (is_crossed c.args.services.now.list c.args.failed.now c.args.own.now) past c.loop-i.invariant
