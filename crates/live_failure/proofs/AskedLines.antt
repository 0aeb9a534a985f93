-- A line of a stream, answered over a live state.
use Rattle.std.proofs.Common.{◌≡◌, refl, sym, inl, ℕ, Bool, true, false, List, Option, None, Ok, Err}
use Rattle.std.specs.Prelude.{MatchBool, ⊤}
use Rattle.std.proofs.lemmas.Bool.{false≢true}
use Rattle.eon_model.specs.Network.{Network}
use Rattle.eon_model.specs.Services.{State}
use Rattle.eon_model.specs.LiveRun.{LiveAnswers}
use Rattle.eon_model.specs.LiveStep.{LiveAnswer}
use Rattle.eon_model.specs.OneLine as one
use Rattle.line_session.specs.declared.answerer.Flow.{Flow}
use Rattle.line_session.specs.declared.answerer.Stopped.TheVariants.{Output}
use Rattle.line_session.specs.Answering.{AnswersLine}
use Rattle.live_failure.specs.Answering.{GivesAnswer}
use Rattle.live_failure.specs.Seen.{LiveSeen}
use Rattle.live_failure.specs.Setting.{LiveSetting, TakesMemory, live_by}

-- only the line of a command that takes memory is missed
only_missed : (net : Network) (state : State) (failed : Option ℕ) (line : List ℕ) (missed : Bool) (a : LiveAnswer) →
    LiveAnswers net state failed line missed a → MatchBool missed (TakesMemory line) ⊤
only_missed net state failed line false a h = tt
only_missed net state failed line true a (one.Missed c is short of free said) = (c, of, free)
only_missed net state failed line true a (one.Long is long said) = absurd (false≢true (sym is))
only_missed net state failed line true a (one.Fault at is short none place said) = absurd (false≢true (sym is))
only_missed net state failed line true a (one.Answered c is short of does) = absurd (false≢true (sym is))

-- the network and the services of a live state
abbrev pub setting_of : LiveSeen → LiveSetting
setting_of l = record { network = l.setup.network; state = l.state }

module _ {E : Type 0} (old new : LiveSeen) (line : List ℕ) (before now below : Option (List ℕ)) where
  pub line_whole : (flow : Flow) → GivesAnswer {E = E} old new line before now (Ok flow) →
      AnswersLine (live_by (setting_of old)) (λ answers doubt. doubt ≡ None) old.failed new.failed line before now below
      (Ok flow)
  line_whole flow h = record {
    missed = h.missed;
    answer = h.answer;
    is = h.is;
    only = only_missed old.setup.network old.state old.failed line h.missed h.answer h.is;
    comes = (h.failed, h.ok.1, h.ok.0, refl, λ change. absurd (false≢true change));
  }

  pub line_part : (e : E) → GivesAnswer {E = E} old new line before now (Err e) →
      AnswersLine (live_by (setting_of old)) (λ answers doubt. doubt ≡ None) old.failed new.failed line before now below
      (Err Output)
  line_part e h = record {
    missed = h.missed;
    answer = h.answer;
    is = h.is;
    only = only_missed old.setup.network old.state old.failed line h.missed h.answer h.is;
    comes = (h.err, inl refl);
  }
