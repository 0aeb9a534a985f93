-- Commands that are made from a seed, answered one after the other, and what is told of them.
use Rattle.std.proofs.Common.{◌≡◌, refl, sym, ◌∙◌, ap, subst, ℕ, suc, ◌+◌, ◌<◌, ◌≤◌, Bool, true, false, cond, ◌&&◌, not, List, [], ◌∷◌, ◌++◌, append_assoc, length, length-append, map, Option, None, arith, nat_lt, ◌==◌}
use Rattle.std.specs.Prelude.{IsTrue}
use Rattle.std.specs.List.{list_all}
use Rattle.std.proofs.lemmas.List.{append-nil, map-append}
use Rattle.std.proofs.lemmas.List.Folds.{list_all-append}
use Rattle.eon_model.specs.Services.{State}
use Rattle.eon_model.specs.Legal.{Setup}
use Rattle.eon_model.specs.Commands.{Command}
use Rattle.eon_model.specs.CommandText.{command_text}
use Rattle.eon_model.specs.Answers.{Answer, Answers, takes_memory}
use Rattle.eon_model.specs.LineStream.{is_quit, MissesNoneFrom}
use Rattle.eon_model.specs.Listings.{totals}
use Rattle.eon_model.specs.Replies.{Totals}
use Rattle.eon_model.specs.LoadGenerator.{next_word, before_next, drive_command, drive_from, drive_commands, drive_lines, command_chosen, choice_of, drill_made}
use Rattle.eon_model.specs.DriveSummary.{Drives, summary_text}
use Rattle.eon_model.specs.Run.{AnswersLines, MissesOnly, Situation, answer_text, situation, situation_after, state_at_end}
use Rattle.reply_text.specs.Replied.{reply_told}
use Rattle.reply_text.specs.declared.reply.Reply.{Reply}
use Rattle.load_summary.specs.declared.tally.Tally.{Tally}
use Rattle.load_summary.specs.Kinds.{IsTally}
use Rattle.plan_serve.specs.declared.status.Status.{Status}
use Rattle.plan_serve.specs.declared.status.Status.TheVariants.{Done, Memory, WriteFault}
use Rattle.plan_serve.specs.Answering.{Decides}
use Rattle.plan_serve.specs.Outside.{Output}
use Rattle.plan_serve.specs.Session.{Answered, AreAnswered}
use Rattle.plan_serve.specs.JournalEnds.{Tells}
use Rattle.plan_serve.specs.Driving.{DrivenTo, IsDriven, TellsSummary, DriveOver}
use Rattle.plan_serve.proofs.AnsweredLaws.{answered_more, answers_more, after-answers}

-- ---- no command that is made is `quit`

module _ (setup : Setup) (w i : ℕ) where
  drill-goes_on : (b : Bool) (c : Command) → is_quit (command_text c) ≡ false →
      is_quit (command_text (cond b Command.Stats c)) ≡ false
  drill-goes_on true c h = refl
  drill-goes_on false c h = h

  either : (b : Bool) (c d : Command) → is_quit (command_text c) ≡ false → is_quit (command_text d) ≡ false →
      is_quit (command_text (cond b c d)) ≡ false
  either true c d h k = h
  either false c d h k = k

chosen-goes_on : (setup : Setup) (w i choice : ℕ) → is_quit (command_text (command_chosen setup w i choice)) ≡ false
chosen-goes_on setup w i choice =
    either setup w i (nat_lt choice 8) _ _ refl
    (either setup w i (nat_lt choice 10) _ _ refl
    (either setup w i (choice == 10) _ _ refl
    (either setup w i (choice == 11) _ _ refl
    (either setup w i (choice == 12) _ _ refl
    (either setup w i (choice == 13) _ _ (drill-goes_on setup w i (length setup.network.fibres == 0) _ refl)
    (either setup w i (choice == 14) _ _ refl refl))))))

made-goes_on : (setup : Setup) (before w i : ℕ) → is_quit (command_text (drive_command setup before w i)) ≡ false
made-goes_on setup before w i = either setup w i (before == 0) _ _ (chosen-goes_on setup w i (choice_of w)) refl

-- ---- the commands so far

-- the same, told of equal lines and an equal place
module _ (setup : Setup) (start here there : Situation) (lines others : List (List ℕ)) (text : List ℕ)
    (h : AreAnswered setup start lines here text) (e : lines ≡ others) (k : here ≡ there) where
  moved : AreAnswered setup start others there text
  moved = record {
    missed = h.missed;
    answers = h.answers;
    answered = subst (λ (v : List (List ℕ)). Answered setup h.missed start v h.answers) e h.answered;
    behind = subst (λ (v : List (List ℕ)). MissesNoneFrom h.missed (1 + length v)) e h.behind;
    only = subst (λ (v : List (List ℕ)). MissesOnly takes_memory h.missed 1 v) e h.only;
    stands = sym k ∙ h.stands;
    told = h.told;
  }

-- nothing was made yet
pub driven_none : (setup : Setup) (seed : ℕ) (state : State) (tally : Tally) → state ≡ [] → IsTally tally [] →
    DrivenTo setup seed 0 0 (next_word seed) state tally
driven_none setup seed state tally none counted = record {
  done = [];
  first = λ more. ap (λ (n : ℕ). drive_from setup 0 (next_word seed) 1 n) (from_none more);
  behind = λ some. absurd (omega (arith, some));
  none_quits = refl;
  text = [];
  answered = record {
    missed = [];
    answers = [];
    answered = tt;
    behind = λ n l. refl;
    only = tt;
    stands = ap (λ (s : State). situation s None) none;
    told = refl;
  };
  counted = counted;
  many = counted.all_are;
}
  where
    from_none : (n : ℕ) → 0 + n ≡ n
    from_none n = omega arith

module _ (setup : Setup) (seed count before word : ℕ) (old new : State) (t u : Tally) (reply : Reply)
    (h : DrivenTo setup seed count before word old t)
    (d : Decides setup (situation old None) (situation new None) (command_text (drive_command setup before word (count + 1))) reply)
    (tallied : (answers : List Answer) (a : Answer) → IsTally t answers → a.reply ≡ reply_told reply →
    IsTally u (answers ++ a ∷ [])) where
  abbrev made : Command
  made = drive_command setup before word (count + 1)

  lines_are : map command_text h.done ++ command_text made ∷ [] ≡ map command_text (h.done ++ made ∷ [])
  lines_are = sym (map-append command_text h.done (made ∷ []))

  more_first : (more : ℕ) → drive_from setup 0 (next_word seed) 1 ((count + 1) + more)
      ≡ (h.done ++ made ∷ []) ++ drive_from setup (before_next before word) (next_word word) ((count + 1) + 1) more
  more_first more =
      ap (λ (n : ℕ). drive_from setup 0 (next_word seed) 1 n) (one_more count more) ∙ h.first (suc more)
      ∙ sym (append_assoc h.done (made ∷ [])
      (drive_from setup (before_next before word) (next_word word) ((count + 1) + 1) more))
    where
      one_more : (n k : ℕ) → (n + 1) + k ≡ n + suc k
      one_more n k = omega arith

  goes_on : list_all (λ line. not (is_quit line)) (map command_text (h.done ++ made ∷ [])) ≡ true
  goes_on =
      ap (list_all (λ line. not (is_quit line))) (sym lines_are)
      ∙ list_all-append (λ line. not (is_quit line)) (map command_text h.done) (command_text made ∷ [])
      ∙ ap (λ (b : Bool). b && list_all (λ line. not (is_quit line)) (command_text made ∷ [])) h.none_quits
      ∙ ap (λ (b : Bool). not b && true) (made-goes_on setup before word (count + 1))

  next : AreAnswered setup (situation [] None) (map command_text h.done ++ command_text made ∷ [])
      (situation_after setup (situation old None) d.answer) (h.text ++ answer_text setup old d.answer)
  next = answered_more setup (situation [] None) (situation old None) (map command_text h.done) h.text (command_text made)
      d.missed d.answer h.none_quits h.answered d.has

  then : AreAnswered setup (situation [] None) (map command_text (h.done ++ made ∷ [])) (situation new None)
      (h.text ++ answer_text setup old d.answer)
  then = moved setup (situation [] None) (situation_after setup (situation old None) d.answer) (situation new None)
      (map command_text h.done ++ command_text made ∷ []) (map command_text (h.done ++ made ∷ []))
      (h.text ++ answer_text setup old d.answer) next lines_are (sym d.stands)

  answers_are : then.answers ≡ h.answered.answers ++ d.answer ∷ []
  unfolding then next moved
  answers_are = answers_more setup (situation [] None) (situation old None) (map command_text h.done) h.text (command_text made)
      d.missed d.answer h.none_quits h.answered d.has

  pub driven_next : (b w : ℕ) → b ≡ before_next before word → w ≡ next_word word →
      DrivenTo setup seed (count + 1) b w new u
  driven_next b w is_b is_w = record {
    done = h.done ++ made ∷ [];
    first = λ more. subst (λ (v : ℕ). drive_from setup 0 (next_word seed) 1 ((count + 1) + more)
        ≡ (h.done ++ made ∷ []) ++ drive_from setup v w ((count + 1) + 1) more) (sym is_b)
        (subst (λ (v : ℕ). drive_from setup 0 (next_word seed) 1 ((count + 1) + more)
        ≡ (h.done ++ made ∷ []) ++ drive_from setup (before_next before word) v ((count + 1) + 1) more) (sym is_w)
        (more_first more));
    behind = λ some. omega arith;
    none_quits = goes_on;
    text = h.text ++ answer_text setup old d.answer;
    answered = then;
    counted = subst (λ (v : List Answer). IsTally u v) (sym answers_are) tallied_more;
    many = let all = tallied_more.all_are in let before = h.counted.all_are in let so_far = h.many in
        let one = length-append h.answered.answers (d.answer ∷ []) in omega (arith, all, before, so_far, one);
  }
    where
      tallied_more : IsTally u (h.answered.answers ++ d.answer ∷ [])
      tallied_more = tallied h.answered.answers d.answer h.counted d.is

-- the same, as the calls tell it
pub driven_then : (setup there : Setup) (seed count before word : ℕ) (old new : State) (t u : Tally) (reply : Reply)
    (line : List ℕ) (b w : ℕ) → DrivenTo setup seed count before word old t →
    line ≡ command_text (drive_command setup before word (count + 1)) →
    Decides setup (situation old None) (situation new None) line reply →
    ((answers : List Answer) (a : Answer) → IsTally t answers → a.reply ≡ reply_told reply → IsTally u (answers ++ a ∷ [])) →
    there ≡ setup → b ≡ before_next before word → w ≡ next_word word → DrivenTo there seed (count + 1) b w new u
driven_then setup there seed count before word old new t u reply line b w h is d tallied same is_b is_w =
    subst (λ (v : Setup). DrivenTo v seed (count + 1) b w new u) (sym same)
    (driven_next setup seed count before word old new t u reply h
    (subst (λ (v : List ℕ). Decides setup (situation old None) (situation new None) v reply) is d) tallied b w is_b is_w)

-- ---- all of them

module _ (setup : Setup) (seed count : ℕ) (state : State) (tally : Tally) (h : IsDriven setup seed count state tally) where
  abbrev last : DrivenTo setup seed count h.0 h.1 state tally
  last = h.2

  all_done : last.done ≡ drive_commands setup seed count
  all_done =
      sym (append-nil last.done) ∙ sym (last.first 0)
      ∙ ap (λ (n : ℕ). drive_from setup 0 (next_word seed) 1 n) (none_more count)
    where
      none_more : (n : ℕ) → n + 0 ≡ n
      none_more n = omega arith

  lines_driven : map command_text last.done ≡ drive_lines setup seed count
  lines_driven = ap (map command_text) all_done

  state_is : state ≡ state_at_end setup [] last.answered.answers
  state_is = ap (λ (v : Situation). v.state) last.answered.stands
      ∙ after-answers setup (situation [] None) last.answered.answers

  -- a text that tells the counts and the totals is the summary
  pub summary_told : (totals_are : Totals) (text : List ℕ) (before now : Output) (status : Status) →
      totals_are ≡ totals setup state →
      ((setup : Setup) (answers : List Answer) → IsTally tally answers →
      totals_are ≡ totals setup (state_at_end setup [] answers) → text ≡ summary_text setup answers) →
      Tells text before now status → DriveOver setup seed count before now status
  summary_told totals_are text before now status is made told = by status told
    where
      drives : Drives setup seed count last.answered.missed text
      drives = record {
        answers = last.answered.answers;
        answered = subst (λ (v : List (List ℕ)). AnswersLines Answers setup last.answered.missed 1 [] None v last.answered.answers)
            lines_driven last.answered.answered;
        told = made setup last.answered.answers last.counted (is ∙ ap (totals setup) state_is);
      }

      only : MissesOnly takes_memory last.answered.missed 1 (drive_lines setup seed count)
      only = subst (λ (v : List (List ℕ)). MissesOnly takes_memory last.answered.missed 1 v) lines_driven last.answered.only

      by : (status : Status) → Tells text before now status → DriveOver setup seed count before now status
      by Done h = (last.answered.missed, text, drives, only, h)
      by WriteFault h = (last.answered.missed, text, drives, only, h)
      by Memory h = absurd h
      by _ h = absurd h

-- ---- the machine goes over the network that was opened

pub totals_as : (t : Totals) (a b : Setup) (x y : State) → t ≡ totals a x → a ≡ b → x ≡ y → t ≡ totals b y
totals_as t a b x y is same stays =
    is ∙ ap (λ (s : Setup). totals s x) same ∙ ap (totals b) stays

pub drive_as : (setup here there : Setup) (seed count : ℕ) (state : State) (tally : Tally) (before now : Output)
    (status : Status) → here ≡ setup → there ≡ here → IsDriven here seed count state tally →
    ((s c : ℕ) → IsDriven there s c state tally → DriveOver there s c before now status) →
    DriveOver setup seed count before now status
drive_as setup here there seed count state tally before now status is same driven told =
    subst (λ (v : Setup). DriveOver v seed count before now status) (same ∙ is)
    (told seed count (subst (λ (v : Setup). IsDriven v seed count state tally) (sym same) driven))
