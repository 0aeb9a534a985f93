use Rattle.std.proofs.Common.{◌∙◌, sym, ap, w16, ◌&&◌}
use Rattle.std.specs.Option.{option_copied}
use Rattle.std.proofs.lemmas.Int.{to_z-of_z}
use Rattle.eon_model.proofs.SetupFacts.{setup-facts}
use Rattle.plan_core.specs.Following.{back_may_move}
use Rattle.plan_core.proofs.FollowLaws.{refit-follows}
use Rattle.plan_core.proofs.follow_move.may_refit.Goals as goal

pub returns : goal.returns
returns c =
    let moves = back_may_move c.args.services.now.list c.args.setup.now.band c.args.name.now in
    c.backup_may_move.ensures
    ∙ ap (λ n. moves n c.in-Some.service.now) (to_z-of_z w16 c.args.n c.ranges.n)
    ∙ (λ i. (sym c.if-not-is_refittable.false ∙ c.is_refittable.ensures) i && moves c.args.n c.in-Some.service.now)
    ∙ refit-follows c.args.setup.now c.args.services.now.list c.args.name.now c.args.n c.in-Some.service.now
    (setup-facts c.args.setup.now c.requires.in_range).band c.requires.legal
    (sym c.find.ensures ∙ ap option_copied c.in-Some.is)
