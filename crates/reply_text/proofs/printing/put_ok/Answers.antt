use Rattle.std.proofs.Common.{[], ◌∷◌, codes}
use Rattle.line_writer.proofs.WordLaws.{line_ended}
use Rattle.reply_text.proofs.printing.put_ok.Goals as goal

pub returns : goal.returns
returns g c = line_ended _ _ _ (codes "ok") (c.args.word.now ∷ c.args.name.now ∷ []) c.begin_ok.ensures c.end_line.ensures
