use Rattle.std.proofs.Common.{sym, ◌∙◌, ap}
use Rattle.kept_routes.specs.Kept.{found_by}
use Rattle.kept_routes.proofs.table.KeptRoutes.keep.Goals as goal

pub invariant_of-self : goal.invariant_of-self
invariant_of-self c =
    let setup = c.self.inside.setup.setup in (
      c.put.ensures.few,
      c.put.ensures.found setup
          (c.in-Ok.ensures ∙ c.requires ∙ ap (λ v. found_by v c.args.search) (sym c.self.view_is))
          (c.make_room.ensures.found setup c.self.invariant.1),
    )
