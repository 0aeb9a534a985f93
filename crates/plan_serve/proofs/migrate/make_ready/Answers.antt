use Rattle.std.proofs.Common.{ap}
use Rattle.plan_serve.proofs.BindingSteps.{told-not_ready, told-ready, told-closing}
use Rattle.plan_serve.proofs.migrate.make_ready.Goals as goal

pub returns-in-Err-clause-told : goal.returns-in-Err-clause-told
returns-in-Err-clause-told g c =
    told-not_ready (Unit {0}) (g.D.Disk.now c.args.opening.now.disk.now) _ c.in-Err.ensures.reads.same c.args.core.now.setup
    c.follow_all.new.core.state c.follow_all.new.opening.place.at c.follow_all.new.opening.place.at c.follow_all.new.opening.place.number c.in-Err.fault c.not_replayed.result
    c.not_replayed.ensures c.in-Err.ensures.told

pub returns-in-Ok-prepare-clause-told : goal.returns-in-Ok-prepare-clause-told
returns-in-Ok-prepare-clause-told g c =
    told-ready (g.D.Disk.now c.args.opening.now.disk.now) (g.D.Disk.now c.follow_all.new.opening.disk.now)
    (g.D.Disk.now c.prepare.new.self.disk.now) c.in-Ok.ensures.reads.same c.args.core.now.setup
    c.follow_all.new.core.state c.follow_all.new.opening.place.at c.in-Ok.field-0 c.follow_all.new.opening.place.number
    c.prepare.new.self.place.at c.prepare.new.self.place.number (ap (λ p. p.at) c.in-Ok-prepare.ensures.place)
    (ap (λ p. p.number) c.in-Ok-prepare.ensures.place) c.in-Ok.ensures.number c.in-Ok-prepare.ensures.bytes c.in-Ok.ensures.told

pub returns-in-Ok-prepare-clause-moments : goal.returns-in-Ok-prepare-clause-moments
returns-in-Ok-prepare-clause-moments g c =
    told-closing g.D.Disk.now g.D.Disk.images g.D.Disk.clock g.D.Disk.images_since c.args.opening.now.disk.now
    c.follow_all.new.opening.disk.now c.prepare.new.self.disk.now c.args.core.now.setup c.follow_all.new.core.state
    c.follow_all.new.opening.place.at c.in-Ok.field-0 c.in-Ok.ensures.reads c.in-Ok.ensures.told
    c.in-Ok-prepare.ensures.moments

pub returns-in-Err-prepare-clause-moments : goal.returns-in-Err-prepare-clause-moments
returns-in-Err-prepare-clause-moments g c =
    told-closing g.D.Disk.now g.D.Disk.images g.D.Disk.clock g.D.Disk.images_since c.args.opening.now.disk.now
    c.follow_all.new.opening.disk.now c.prepare.new.self.disk.now c.args.core.now.setup c.follow_all.new.core.state
    c.follow_all.new.opening.place.at c.in-Ok.field-0 c.in-Ok.ensures.reads c.in-Ok.ensures.told
    c.in-Err-prepare.ensures.moments
