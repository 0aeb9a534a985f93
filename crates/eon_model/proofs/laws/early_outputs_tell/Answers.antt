use Rattle.eon_model.specs.Answers.{Answers}
use Rattle.eon_model.proofs.AnswersWell.{Answers-well}
use Rattle.eon_model.proofs.RunLaws.{early-told}
use Rattle.eon_model.proofs.laws.early_outputs_tell.Goals as goal

pub returns : goal.returns
returns c = early-told Answers Answers-well
