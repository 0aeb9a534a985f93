-- What is decided on a line.
use Rattle.std.proofs.Common.{◌≡◌, ◌≢◌, refl, sym, ◌∙◌, ap, ℕ, ◌<◌, ◌≤◌, true, false, List, Option, Some, None, length}
use Rattle.std.proofs.lemmas.Bool.{true_from_ne_false}
use Rattle.eon_model.specs.Services.{State}
use Rattle.eon_model.specs.Legal.{Setup}
use Rattle.eon_model.specs.Commands.{Command}
use Rattle.eon_model.specs.CommandText.{IsLine, IsLineOf, IsFaultPlace}
use Rattle.eon_model.specs.Replies as model
use Rattle.eon_model.specs.Events as changes
use Rattle.eon_model.specs.Step as step
use Rattle.eon_model.specs.Answers.{Answer, Gives, said, with_room, takes_memory}
use Rattle.eon_model.specs.OneLine as one
use Rattle.journal_record.specs.Told.{event_told}
use Rattle.reply_text.specs.Replied.{reply_told}
use Rattle.reply_text.specs.declared.reply.Reply.TheVariants as reply
use Rattle.plan_core.specs.declared.decision.Decision.{Decision}
use Rattle.plan_core.specs.declared.decision.Decision.TheVariants.{Say, Change}
use Rattle.plan_core.specs.Told.{answer_of, CanBeTold}
use Rattle.planner_lines.specs.Deciding.{Decided}

-- an answer with a change
abbrev pub changed : changes.Event → model.Reply → Answer
changed e r = record { reply = r; event = Some e }

no_change : {P : Type 0} (e : changes.Event) → None ≡ Some e → P
no_change e is = absurd (let f : None ≡ Some e = is in cc)

-- A reply without a change is given whatever room there is.
said-given : (setup : Setup) (state : State) (o : step.Outcome) (left : Option ℕ) (r : model.Reply) →
    Gives setup state o (said r) → Gives setup state (with_room left o) (said r)
said-given setup state o None r h = h
said-given setup state (step.Say s) (Some left) r h = h
said-given setup state (step.Change e s) (Some left) r h = no_change e (ap (λ (a : Answer). a.event) h)
said-given setup state step.SayPlan (Some left) r h = h

-- An answer with a change is what a change comes to.
changed-is : (setup : Setup) (state : State) (o : step.Outcome) (e : changes.Event) (r : model.Reply) →
    Gives setup state o (changed e r) → o ≡ step.Change e r
changed-is setup state (step.Say s) e r h = no_change e (sym (ap (λ (a : Answer). a.event) h))
changed-is setup state (step.Change f s) e r h =
    let same : Some e ≡ Some f = ap (λ (a : Answer). a.event) h in
    let event : f ≡ e = cc in
    let says : s ≡ r = sym (ap (λ (a : Answer). a.reply) h) in
    ap (λ (v : changes.Event). step.Change v s) event ∙ ap (step.Change e) says
changed-is setup state step.SayPlan e r h = no_change e (sym (ap (λ (a : Answer). a.event) h.2))

-- what a step comes to
pub step-decided : (setup : Setup) (state : State) (c : Command) (d : Decision) →
    Gives setup state (step.outcome_of setup state c) (answer_of d) → CanBeTold setup state d → (line : List ℕ) →
    length line ≤ 4096 → IsLineOf line c → Decided setup state line d
step-decided setup state c (Say r) gives tellable line short of = record {
  missed = false;
  is = λ left. one.Answered c refl short of (said-given setup state (step.outcome_of setup state c) left (reply_told r) gives);
  only = tt;
  can_tell = tellable;
}
step-decided setup state c (Change e r) gives tellable line short of = record {
  command = c;
  short = short;
  of = of;
  comes = changed-is setup state (step.outcome_of setup state c) (event_told e) (reply_told r) gives;
  can_tell = tellable;
}

not_quit : (c : Command) → (takes_memory c ≡ false → ⊥) → c ≢ Command.Quit
not_quit c free e = free (ap takes_memory e)

-- there was no memory, and the command takes some
pub memory-decided : (setup : Setup) (state : State) (c : Command) → (takes_memory c ≡ false → ⊥) → (line : List ℕ) →
    length line ≤ 4096 → IsLineOf line c → Decided setup state line (Say reply.Memory)
memory-decided setup state c free line short of = record {
  missed = true;
  is = λ left. one.Missed c refl short of (not_quit c free) refl;
  only = (c, of, true_from_ne_false (takes_memory c) free);
  can_tell = refl;
}

-- a line of more bytes than a command has
pub long-decided : (setup : Setup) (state : State) (line : List ℕ) → 4096 < length line →
    Decided setup state line (Say (reply.Line 4096))
long-decided setup state line long = record {
  missed = false;
  is = λ left. one.Long refl long refl;
  only = tt;
  can_tell = refl;
}

-- a line that is no command
pub fault-decided : (setup : Setup) (state : State) (line : List ℕ) (at : ℕ) → length line ≤ 4096 → (IsLine line → ⊥) →
    IsFaultPlace line at → Decided setup state line (Say (reply.Line at))
fault-decided setup state line at short none place = record {
  missed = false;
  is = λ left. one.Fault at refl short none place refl;
  only = tt;
  can_tell = refl;
}
