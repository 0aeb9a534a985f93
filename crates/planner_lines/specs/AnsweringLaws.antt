-- What is asked of the way in which the planner answers lines.
use Rattle.std.proofs.Common.{sym, subst, ℕ, Bool, List, [], ◌++◌, Option, None}
use Rattle.std.specs.Option.{option_to_list}
use Rattle.std.proofs.lemmas.Grind.{flat_map-append}
use Rattle.eon_model.specs.Legal.{Setup, Legal}
use Rattle.eon_model.specs.Events.{Event}
use Rattle.eon_model.specs.Answers.{Answer, Answers}
use Rattle.eon_model.specs.Run.{Situation, planner, changes_of}
use Rattle.eon_model.proofs.AnswersWell.{Answers-well}
use Rattle.eon_model.proofs.RunLaws.{stays, one_answer, missed_text}
use Rattle.eon_model.proofs.MachineLaws.{may-end-early}
use Rattle.line_session.specs.Answering.{IsLawful}
use Rattle.line_session.proofs.LongLines.{answers_long}
use Rattle.planner_lines.specs.Answering.{Setting, answering, change_in, WentBy, StandsWell, IsReady}

-- ---- what was carried out

module _ {L : Type 0} (keeps : L → L → List Event → Option Event → Type 0) where
  pub none_went : ((log : L) → keeps log log [] None) → (log : L) → WentBy (keeps log log) [] None
  none_went law log = (law log, tt)

  pub more_went : ((before here now : L) (first more : List Event) (next : Option Event) → keeps before here first None →
      keeps here now more next → keeps before now (first ++ more) next) → (before here now : L)
      (first more : List Answer) (next : Option Answer) → WentBy (keeps before here) first None →
      WentBy (keeps here now) more next → WentBy (keeps before now) (first ++ more) next
  more_went law before here now first more next one two = (
    subst (λ (es : List Event). keeps before now es (change_in next)) (sym (flat_map-append (λ (a : Answer). option_to_list a.event) first more))
        (law before here now (changes_of first) (changes_of more) (change_in next) one.0 two.0),
    two.1,
  )

-- ---- in all

pub lawful_when : (setup : Setup) (acknowledges : Bool) (core log : ℕ) (place : Situation) (IsOpen : Type 0) →
    IsReady setup place acknowledges IsOpen →
    let s : Setting = record { setup = setup; acknowledges = acknowledges; core = core; log = log } in
    IsLawful (answering s) (StandsWell s) place
lawful_when setup acknowledges core log place IsOpen ready =
    let well = stays Answers Answers-well setup ready.in_range in
    record {
      starts = (ready.in_range, ready.legal);
      some = λ here line stands. well.some here line stands.1;
      stays = λ here line is_missed a stands h. (stands.0, well.well here line is_missed a stands.1 h);
      early = λ here bytes missed output given stands.
          may-end-early (planner Answers setup) (one_answer Answers Answers-well setup) (missed_text Answers Answers-well setup)
          (λ (v : Situation). Legal setup v.state) well here bytes missed output given stands.1;
      long = λ here line is_missed a more h. answers_long _ _ _ _ _ line is_missed a more h;
    }
