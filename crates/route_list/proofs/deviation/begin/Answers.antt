use Rattle.route_list.proofs.deviation.begin.Goals as goal

pub deviate-requires-clause-stands : goal.deviate-requires-clause-stands
deviate-requires-clause-stands g c = c.start-front.ensures c.args.net.now
