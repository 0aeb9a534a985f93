use Rattle.std.proofs.Common.{◌∙◌, sym, ap, subst, ℕ, ◌+◌}
use Rattle.std.specs.Prelude.{max}
use Rattle.make_room.specs.Heights.{base_of, backup_end_of, IsMaxTo}
use Rattle.make_room.proofs.HeightLaws.{max_more}
use Rattle.make_room.proofs.heights.least_begin.Goals as goal

pub loop-i-preserved : goal.loop-i-preserved
loop-i-preserved c =
    let f = backup_end_of c.args.from c.args.path.now in
    let state = c.args.services.now.list in
    let base = base_of c.args.from c.args.band.now c.args.path.now in
    subst (λ (t : ℕ). IsMaxTo f state base (c.loop-i.i + 1) t)
    (sym (c.max-least.ensures ∙ ap (max c.loop-i.least) c.backup_end.ensures))
    (max_more f state base c.loop-i.i c.loop-i.least c.at.result.now c.at.ensures.service c.loop-i.invariant)
