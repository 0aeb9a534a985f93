use Rattle.std.proofs.Common.{◌∙◌}
use Rattle.pair_list.specs.Given.{backups_for}
use Rattle.kept_routes.proofs.BehindLaws.{map-more}
use Rattle.kept_routes.proofs.candidates.backups_for_each.Goals as goal

pub loop-rank-preserved : goal.loop-rank-preserved
loop-rank-preserved c =
    let d = c.args.demand in
    let before = c.loop-rank.invariant in
    record {
      backups = map-more (backups_for c.args.setup.now d.s d.t d.class) c.args.works.now c.loop-rank.rank c.in_ok-behind.behind
          c.loop-rank.backups.items c.push.new.self.items before.backups c.in_ok-behind.ensures.backups
          c.in_ok-push.ensures.items;
      same = c.backups_at.ensures.same ∙ before.same;
    }
