use Rattle.std.proofs.Common.{sym, ◌∙◌, ap, ◌-◌, ◌++◌, [], ◌∷◌}
use Rattle.std.specs.FinSet.{contains}
use Rattle.std.specs.Option.{unwrap_or}
use Rattle.eon_model.specs.Lists.{has_number}
use Rattle.eon_model.specs.Deviations.{passed, next_node}
use Rattle.route_list.proofs.FrontLaws.{leads-past, passed-past, member-passed, left-past}
use Rattle.route_list.proofs.deviation.Front.past.Goals as goal

pub returns : goal.returns
returns c = λ s max_km front h.
    let fibres = c.args.net.now.fibres in
    record {
      node = c.unwrap_or-node.ensures ∙ ap (λ o. unwrap_or o c.args.self.node) c.far_end.ensures.value
          ∙ ap (λ n. next_node fibres n c.args.fibre) h.node ∙ sym (leads-past fibres s front c.args.fibre);
      passed = λ n. ap (λ v. contains v n) c.with.ensures
          ∙ member-passed c.args.self.passed (passed fibres s front) c.args.self.node n h.passed
          ∙ ap (λ ns. has_number ns n) (ap (λ k. passed fibres s front ++ k ∷ []) h.node
          ∙ sym (passed-past fibres s front c.args.fibre));
      left = c.saturating_sub-left.ensures ∙ ap (λ f. c.args.self.left - f.km) c.fibre.ensures
          ∙ left-past c.args.net.now front c.args.fibre max_km c.args.self.left h.left;
    }
