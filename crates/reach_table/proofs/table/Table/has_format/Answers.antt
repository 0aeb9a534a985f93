use Rattle.std.proofs.Common.{sym, ap, ◌∙◌}
use Rattle.std.specs.List.{list_any}
use Rattle.eon_model.specs.Names.{same_name, has_name}
use Rattle.eon_model.specs.Formats.{Format}
use Rattle.reach_table.specs.Tables.{format_names}
use Rattle.reach_table.proofs.TableLaws.{has_name-map}
use Rattle.reach_table.proofs.table.Table.has_format.Goals as goal

pub returns-clause-value : goal.returns-clause-value
returns-clause-value c =
    c.is_held.ensures
    ∙ ap (λ name. list_any (λ (row : Format). same_name name row.name) c.deref.result.now) c.bytes.ensures.value
    ∙ ap (list_any (λ row. same_name c.args.name.now row.name)) c.deref.ensures.value
    ∙ sym (has_name-map c.self.inside.rows.items c.args.name.now)
    ∙ ap (λ t. has_name (format_names t.rows) c.args.name.now) c.self.view_is
