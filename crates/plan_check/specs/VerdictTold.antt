-- What a text of a plan comes to, as the status that the check ends with.
use Rattle.eon_model.specs.CheckStatus.{CheckStatus}
use Rattle.plan_check.specs.declared.verdict.Verdict.{Verdict}
use Rattle.plan_check.specs.declared.verdict.Verdict.TheVariants as verdict
use Rattle.plan_check.specs.Told.{bad_move_told}

abbrev pub verdict_told : Verdict → CheckStatus
verdict_told (verdict.Holds batches moves) = CheckStatus.Holds batches moves
verdict_told (verdict.Breaks bad) = CheckStatus.Breaks (bad_move_told bad)
verdict_told (verdict.Wrong line) = CheckStatus.PlanRefused line
