use Rattle.std.proofs.Common.{◌∙◌, ap, subst, []}
use Rattle.std.specs.Prelude.{count_by}
use Rattle.eon_model.specs.Legal.{Setup}
use Rattle.kept_rows.specs.Standing.{StandsFor}
use Rattle.kept_rows.proofs.rows.KeptRows.new.Goals as goal

pub returns : goal.returns
returns c =
    let maps = c.in_ok-maps.ensures in
    let sharing = c.in_ok-sharing.ensures in
    subst (λ (s : Setup). StandsFor s [] (record { maps = c.in_ok-maps.maps; sharing = c.in_ok-sharing.sharing }))
    c.setup.view_is (record {
      band = maps.band_is;
      fibres = maps.fibres_are ∙ c.fibres.ensures.count;
      sharing_band = sharing.band_is;
      sharing_fibres = sharing.fibres_are;
      groups = sharing.groups_are;
      lit = maps.dark;
      holders = maps.free;
      reserves = λ test. ap (count_by test) sharing.none;
    })
