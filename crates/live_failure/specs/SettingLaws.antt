-- What is asked of the way in which lines are answered over a live state.
use Rattle.std.specs.Prelude.{◌≡◌, ℕ, IsTrue, Option, ⊤}
use Rattle.eon_model.specs.LiveCommands.{live_takes_memory, IsLiveLineOf}
use Rattle.eon_model.specs.LiveReplies.{LiveReply}
use Rattle.eon_model.specs.LiveStep.{live_said, live_answer}
use Rattle.eon_model.proofs.LiveAnswersLaws.{live_line-answered}
use Rattle.eon_model.proofs.LiveStreamLaws.{live-ends_early}
use Rattle.line_session.specs.Answering.{IsLawful}
use Rattle.line_session.proofs.LongLines.{answers_long}
use Rattle.live_failure.specs.Setting.{LiveSetting, live_by}

-- every line has an answer, whichever group has failed
pub live_lawful : (s : LiveSetting) (failed : Option ℕ) → IsLawful (live_by s) (λ _. ⊤) failed
live_lawful s failed = record {
  starts = tt;
  some = λ here line well. live_line-answered s.network s.state here line;
  stays = λ here line missed a well h. tt;
  early = (live-ends_early s.network s.state).1;
  long = λ here line missed a more h. answers_long IsLiveLineOf (λ c. IsTrue (live_takes_memory c))
      (λ c b. b ≡ live_answer s.network s.state here c) (λ place. live_said here (LiveReply.Line place))
      (live_said here LiveReply.Memory) line missed a more h;
}
