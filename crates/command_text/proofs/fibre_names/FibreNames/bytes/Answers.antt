use Rattle.std.proofs.Common.{sym, ◌∙◌, ap}
use Rattle.std.proofs.lemmas.List.Splits.{join_with_byte-slice_split}
use Rattle.eon_model.specs.Spelling.{fibre_list}
use Rattle.command_text.proofs.fibre_names.FibreNames.bytes.Goals as goal

pub returns : goal.returns
returns c = sym (join_with_byte-slice_split 44 c.self.inside.bytes.now) ∙ ap fibre_list c.self.view_is
