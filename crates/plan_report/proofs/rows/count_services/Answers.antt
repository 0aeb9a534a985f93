use Rattle.std.proofs.Common.{sym, subst, add-one, take, List, to_z, of_z, w16, arith}
use Rattle.std.proofs.lemmas.Option.{slice_get_within}
use Rattle.eon_model.specs.Services.{Holding}
use Rattle.plan_report.specs.Counted.{service_holdings, state_holdings, holders, Grows}
use Rattle.plan_report.proofs.CountLemmas.{grows_then, grows_most, flat_map-take, state_most}
use Rattle.plan_report.proofs.rows.count_services.Goals as goal

pub count_service-requires-clause-room : goal.count_service-requires-clause-room
count_service-requires-clause-room c =
    let low = to_z w16 (of_z w16 c.args.lowest) in
    let before = state_holdings c.args.kind (take c.loop-i.i c.args.services.now.list) in
    let most = grows_most low c.args.fibre 0 before c.args.counts.now c.loop-i.counts
    c.loop-i.invariant c.requires.empty in
    let few = state_most c.args.kind c.args.services.now.list c.loop-i.i in
    let within = slice_get_within c.args.services.now.list c.loop-i.i c.at.result.now c.at.ensures.service in
    record { each = λ k h. let e = most.each k h in omega arith }

pub loop-i-preserved : goal.loop-i-preserved
loop-i-preserved c =
    let low = to_z w16 (of_z w16 c.args.lowest) in
    let before = state_holdings c.args.kind (take c.loop-i.i c.args.services.now.list) in
    let here = service_holdings c.args.kind c.at.result.now in
    let both = grows_then low c.args.fibre before here c.args.counts.now c.loop-i.counts
    c.count_service.new.counts c.loop-i.invariant c.count_service.ensures in
    rw (add-one c.loop-i.i)
    (subst (λ (hs : List Holding). Grows low (holders c.args.fibre hs) c.args.counts.now c.count_service.new.counts)
    (sym (flat_map-take (service_holdings c.args.kind) c.args.services.now.list c.loop-i.i c.at.result.now c.at.ensures.service))
    both)
