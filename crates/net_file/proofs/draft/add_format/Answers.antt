use Rattle.std.proofs.Common.{sym, ◌∙◌, ap, Ok}
use Rattle.net_file.proofs.FormatSteps.{format-taken}
use Rattle.net_file.proofs.draft.add_format.Goals as goal

pub returns-in-Ok-clause-ok : goal.returns-in-Ok-clause-ok
returns-in-Ok-clause-ok c =
    format-taken c.args.table.now.rows c.args.fields.now c.in-Some.words
    (sym c.format_words.ensures ∙ c.in-Some.is) (sym c.has_format_ranges.ensures.value ∙ c.if-not-has_format_ranges.false) c.requires
    (λ e. let w = c.in-Ok.ensures.many.1 e in cc) (λ h. let w = c.in-Ok.ensures.twice.1 h in cc)
    ∙ ap Ok (sym c.in-Ok.ensures.ok)
