use Rattle.std.proofs.Common.{sym, ap, ◌∙◌, false, refl}
use Rattle.std.specs.Prelude.{is_ok}
use Rattle.std.proofs.lemmas.Bool.{both_ways}
use Rattle.eon_model.specs.Names.{has_name}
use Rattle.reach_table.specs.Tables.{format_names}
use Rattle.reach_table.proofs.TableLaws.{format_in_range, push_if}
use Rattle.reach_table.proofs.table.Table.add.Goals as goal

pub invariant_of-self : goal.invariant_of-self
invariant_of-self c =
    let named = ap (λ f. f.name) c.f.view_is in
    push_if c.args.self.now c.self.inside.rows.items c.push.new.self.items c.self.inside.guard c.args.f
    (is_ok c.push.result) c.self.view_is c.self.invariant
    (λ full. both_ways false refl (c.if-is_full.ensures.1 full))
    (format_in_range c.args.f c.f.inside.name c.has_format.ensures.name named c.requires.reach
    c.requires.reach_limit c.requires.per c.requires.per_limit)
    (ap (has_name (format_names c.args.self.now.rows)) (sym named) ∙ sym c.if-has_format.ensures.value)
    c.push.ensures.items
