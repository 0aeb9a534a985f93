use Rattle.std.proofs.Common.{ap, ◌∙◌}
use Rattle.std.specs.List.{flat_map}
use Rattle.eon_model.specs.NetworkText.{band_line}
use Rattle.line_writer.proofs.TakesLaws.{takes-both, takes-same}
use Rattle.net_file.specs.PrintWords.{front_text}
use Rattle.net_file.proofs.PrintNumbers.{front-same}
use Rattle.net_file.proofs.printing.put_front.Goals as goal

pub returns : goal.returns
returns g c =
    let band_lines = flat_map band_line c.setup.inside.band in
    takes-same _ _ _ _
    (front-same _ _ band_lines c.version.ensures _ _ _ _ _ _ _ _ (c.from.ensures ∙ c.guard.ensures.value) c.from-2.ensures
    c.from-3.ensures c.from-4.ensures ∙ ap front_text c.setup.view_is)
    (takes-both _ _ _ _ _
    (takes-both _ _ _ _ _
    (takes-both _ _ _ _ _
    (takes-both _ _ _ _ _
    (takes-both _ _ _ _ _ c.put_count.ensures c.put_parts.ensures)
    c.put_count-2.ensures) c.put_count-3.ensures) c.put_count-4.ensures) c.put_count-5.ensures)
