use Rattle.std.proofs.Common.{[], ◌∷◌, ap, codes, List, ℕ}
use Rattle.line_writer.specs.Words.{behind}
use Rattle.line_writer.proofs.TakesLaws.{takes-same}
use Rattle.line_writer.proofs.WordLaws.{line_taken, word_then}
use Rattle.net_file.proofs.printing.put_group.Goals as goal

pub returns : goal.returns
returns g c =
    line_taken _ _ _ _ (codes "group") _ c.put.ensures
    (word_then _ _ _ _ _ (takes-same _ _ _ _ (ap (λ (v : List ℕ). behind (v ∷ [])) c.group_name.ensures) c.put_name.ensures)
    c.put_members.ensures) c.end_line.ensures
