use Rattle.reply_text.proofs.WordLaws.{no_comma, comma_taken}
use Rattle.live_failure.proofs.paths.put_comma.Goals as goal

pub returns-then-place-gt0 : goal.returns-then-place-gt0
returns-then-place-gt0 g c = comma_taken _ _ c.args.place c.if-place-gt0.true c.put.ensures

pub returns-else-place-gt0 : goal.returns-else-place-gt0
returns-else-place-gt0 g c = no_comma _ c.args.place c.if-place-gt0.false
