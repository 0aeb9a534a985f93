use Rattle.std.proofs.Common.{sym, ◌∙◌, ap, [], ◌∷◌, ◌++◌, ◌||◌}
use Rattle.std.specs.List.{list_any}
use Rattle.std.proofs.lemmas.List.{take_all}
use Rattle.eon_model.specs.Sets.{has_member}
use Rattle.eon_model.specs.Deviations.{begins_with}
use Rattle.route_list.proofs.FrontLaws.{used-more}
use Rattle.route_list.proofs.deviation.with_used.Goals as goal

pub loop-route-preserved : goal.loop-route-preserved
loop-route-preserved c = λ i.
    let front = c.args.front.now in
    used-more (λ q. begins_with (front ++ i ∷ []) q.fibres) c.args.found.now c.loop-route.route-index c.route-item.result
    (has_member c.loop-route.used i) (has_member c.with_next-used.result i) (has_member c.args.banned.now i)
    c.loop-route-test.true (c.loop-route.invariant i)
    (c.with_next-used.ensures i ∙ ap (λ b. has_member c.loop-route.used i || b) (sym (c.next_of.ensures.begins i)
    ∙ ap (begins_with (front ++ i ∷ [])) (c.fibres.ensures ∙ ap (λ r. r.fibres) c.route-item.is)))

pub returns : goal.returns
returns c = λ i.
    c.loop-route.invariant i ∙ ap (λ rs. has_member c.args.banned.now i
    || list_any (λ q. begins_with (c.args.front.now ++ i ∷ []) q.fibres) rs)
    (take_all c.loop-route.route-index c.args.found.now c.loop-route-test.false)
