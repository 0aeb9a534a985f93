use Rattle.std.proofs.Common.{◌≡◌, sym, ap, ℤ, w16, to_z, of_z, arith, [], ◌∷◌}
use Rattle.std.specs.Fmt.{signed_decimal}
use Rattle.std.proofs.lemmas.Int.{ints}
use Rattle.eon_model.specs.Spelling.{fibre_list}
use Rattle.line_writer.specs.Words.{behind}
use Rattle.line_writer.proofs.TakesLaws.{takes-same}
use Rattle.line_writer.proofs.WordLaws.{words_three}
use Rattle.command_text.specs.declared.command.Command.{Command}
use Rattle.command_text.specs.Told.{told}
use Rattle.command_text.specs.Words.{rest_words}
use Rattle.command_text.proofs.printing.put_rest.Goals as goal

pub returns-in-Place : goal.returns-in-Place
returns-in-Place g c =
    let n = c.in-Place.work_n in
    let same : to_z w16 (of_z w16 n) ≡ n = omega (arith, ints) in
    takes-same _ _ _ _ (ap (λ (k : Command). behind (rest_words (told k))) (sym c.in-Place.is))
    (words_three _ _ _ _ _ _ _ c.put_demand.ensures
    (takes-same _ _ _ _ (ap (λ (z : ℤ). behind (fibre_list c.in-Place.work ∷ signed_decimal z ∷ [])) same) c.put_path.ensures)
    c.put_back.ensures)
