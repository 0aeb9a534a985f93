use Rattle.std.proofs.Common.{◌++◌, [], ◌∷◌, codes, ap}
use Rattle.std.specs.List.{flat_map}
use Rattle.eon_model.specs.Legal.{Setup}
use Rattle.eon_model.specs.Spelling.{line}
use Rattle.eon_model.specs.NetworkText.{format_line, network_lines}
use Rattle.line_writer.proofs.TakesLaws.{takes-both, takes-same}
use Rattle.net_file.specs.PrintWords.{front_text}
use Rattle.net_file.proofs.printing.put_setup.Goals as goal

pub returns : goal.returns
returns g c =
    let front = front_text c.args.setup.now in
    let last = line (codes "end" ∷ []) in
    takes-same _ _ _ _
    (ap (λ (t : Setup). front ++ flat_map format_line t.formats ++ network_lines t.network ++ last) c.setup.view_is)
    (takes-both _ _ _ _ _
    (takes-both _ _ _ _ _
    (takes-both _ _ _ _ _ c.put_front.ensures c.put_formats.ensures)
    c.put_network.ensures) c.put_line.ensures)
