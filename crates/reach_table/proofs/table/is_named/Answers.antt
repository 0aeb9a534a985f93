use Rattle.std.proofs.Common.{sym, ap, ◌∙◌}
use Rattle.std.specs.Prelude.{bytes_eq}
use Rattle.std.proofs.lemmas.Map.Text.{is_eq-slice_cmp}
use Rattle.reach_table.proofs.table.is_named.Goals as goal

pub returns : goal.returns
returns c =
    c.eq.ensures ∙ ap (λ name. bytes_eq c.args.name.now name) (c.bytes.ensures.value ∙ ap (λ row. row.name) c.row.view_is)
    ∙ sym (is_eq-slice_cmp c.args.name.now c.args.row.now.name)
