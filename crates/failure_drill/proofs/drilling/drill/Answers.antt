use Rattle.failure_drill.proofs.drilling.drill.Goals as goal

pub returns-clause-told : goal.returns-clause-told
returns-clause-told c setup moment legal stands =
    rw (c.of.ensures, c.in_ok-hits.ensures)
    (c.drills_tell_failures.ensures setup c.args.services.now.list c.args.group moment legal stands)
