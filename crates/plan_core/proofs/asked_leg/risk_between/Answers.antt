use Rattle.std.proofs.Common.{◌∙◌, sym, ap, subst, ℕ, ◌+◌, ◌<◌, length, IsTrue}
use Rattle.eon_model.specs.Sets.{NumberSet, has_member}
use Rattle.plan_core.specs.declared.demand.SizedPaths.{SizedPaths}
use Rattle.plan_core.proofs.asked_leg.risk_between.Goals as goal

pub least_shared-requires : goal.least_shared-requires
least_shared-requires c = record {
  known = subst
      (λ (s : NumberSet). (i : ℕ) → IsTrue (has_member s i)
      → i < length c.args.net.now.fibres + length c.args.net.now.groups)
      (sym (c.risk.ensures ∙ ap (λ (v : SizedPaths). v.work.path.route.risk) c.paths.view_is)) c.requires.known;
}
