use Rattle.std.proofs.Common.{◌≡◌, ◌∙◌, sym, ap, subst, Option, None}
use Rattle.std.specs.Option.{option_copied}
use Rattle.eon_model.specs.Services.{Path}
use Rattle.kept_rows.specs.Standing.{IsHeldBy, reserves_on, shared_backup}
use Rattle.kept_rows.proofs.HeldLaws.{held_none}
use Rattle.kept_rows.proofs.rows.KeptRows.hold.Goals as goal

pub returns-in_default : goal.returns-in_default
returns-in_default c =
    let r = c.args.self.now in
    let none : shared_backup c.args.class c.args.leg.now ≡ None =
    sym c.shared_backup.ensures ∙ ap option_copied c.in_default.is in
    subst (λ (o : Option Path). IsHeldBy r r (reserves_on c.args.leg.now o)) (sym none) (held_none r)
