-- What is found in the names of both paths.
use Rattle.std.proofs.Common.{◌≡◌, sym, ◌∙◌, ap, not, List, find, Option, Some, None}
use Rattle.std.specs.Option.{option_or}
use Rattle.std.proofs.lemmas.List.Folds.{find-append}
use Rattle.eon_model.specs.Names.{Name}
use Rattle.eon_model.specs.Network.{Network}
use Rattle.eon_model.specs.Step.{is_fibre}
use Rattle.command_text.specs.declared.command.BackWords.{BackWords}
use Rattle.command_text.specs.Told.{told_backs}
use Rattle.plan_core.specs.Placing.{fibres_written}

module _ (net : Network) (work : List Name) (back : Option BackWords) where
  -- what is found in the names of the working path is found
  pub written_here : (name : Name) → find (λ n. not (is_fibre net n)) work ≡ Some name →
      Some name ≡ find (λ n. not (is_fibre net n)) (fibres_written work (told_backs back))
  written_here name h = elim back as (λ b. Some name ≡ find (λ n. not (is_fibre net n)) (fibres_written work (told_backs b))) [
    | None ↦ sym h
    | Some b ↦ sym (find-append (λ n. not (is_fibre net n)) work b.fibres
        ∙ ap (λ o. option_or o (find (λ n. not (is_fibre net n)) b.fibres)) h)
  ]

  -- and else what is found in those of the backup path
  pub written_back : (b : BackWords) (found : Option Name) → back ≡ Some b →
      find (λ n. not (is_fibre net n)) work ≡ None → found ≡ find (λ n. not (is_fibre net n)) b.fibres →
      found ≡ find (λ n. not (is_fibre net n)) (fibres_written work (told_backs back))
  written_back b found e none h = h ∙ sym (
      ap (λ o. find (λ n. not (is_fibre net n)) (fibres_written work (told_backs o))) e
      ∙ find-append (λ n. not (is_fibre net n)) work b.fibres
      ∙ ap (λ o. option_or o (find (λ n. not (is_fibre net n)) b.fibres)) none)
