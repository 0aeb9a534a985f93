use Rattle.std.proofs.Common.{[], ◌∷◌, codes}
use Rattle.line_writer.proofs.WordLaws.{line_on}
use Rattle.reply_text.proofs.printing.put_made.Goals as goal

pub returns : goal.returns
returns g c = line_on _ _ _ _ (codes "ok") (codes "make" ∷ c.args.name.now ∷ []) _ c.begin_ok.ensures c.put_second_leg.ensures
    c.end_line.ensures
