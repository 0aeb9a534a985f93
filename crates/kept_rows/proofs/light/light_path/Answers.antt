use Rattle.std.proofs.Common.{◌≡◌, ◌∙◌, sym, ap, subst, true, [], Option, Bor}
use Rattle.std.specs.Option.{option_copied}
use Rattle.eon_model.specs.Grid.{units_of}
use Rattle.eon_model.specs.Services.{Path, holding_of}
use Rattle.eon_model.specs.Occupied.{taken_of}
use Rattle.eon_model.specs.Rows.{Taken, is_dark}
use Rattle.spectrum_map.specs.Kept.{rows_in, taken}
use Rattle.kept_rows.specs.Standing.{CanBeLit, holdings_of}
use Rattle.kept_rows.proofs.LightLaws.{first_dark}
use Rattle.kept_rows.proofs.light.light_path.Goals as goal

pub add_lit-requires-clause-dark : goal.add_lit-requires-clause-dark
add_lit-requires-clause-dark c =
    let k = c.args.maps.now in
    let h = holding_of c.in-Some.path.now in
    let can = subst (λ (o : Option (Bor Path)). CanBeLit k (holdings_of (option_copied o))) c.in-Some.is c.requires in
    let fs = c.fibres.ensures ∙ ap (λ (p : Path). p.route.fibres) c.path.view_is in
    let us = c.units.ensures.value ∙ ap (λ (p : Path). units_of p.slot) c.path.view_is in
    let t : taken c.fibres.result.now c.units.result ≡ taken_of h = λ i. record { fibres = fs i; units = us i } in
    subst (λ (t : Taken). is_dark (rows_in k) t ≡ true) (sym t) (first_dark k h [] can)
