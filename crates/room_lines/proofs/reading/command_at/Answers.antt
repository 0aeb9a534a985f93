use Rattle.std.proofs.Common.{sym}
use Rattle.std.proofs.lemmas.Bool.{eqb-true, eqb-false}
use Rattle.room_lines.specs.Told.{command_told}
use Rattle.room_lines.proofs.ReadSteps.{gives-err, no-verb, no-rest, not-ended, has-ended}
use Rattle.room_lines.proofs.reading.command_at.Goals as goal

pub returns-in_err-verb : goal.returns-in_err-verb
returns-in_err-verb c = gives-err command_told c.from_residual.result _ c.in_err-verb.field-0.0 c.from_residual.ensures.1 (no-verb c.args.line.now _ c.in_err-verb.ensures)

pub returns-in_err-command : goal.returns-in_err-command
returns-in_err-command c =
    gives-err command_told c.from_residual-in_err-command.result _ c.in_err-command.field-0.0 c.from_residual-in_err-command.ensures.1
    (no-rest c.args.line.now c.in_ok-verb.verb c.in_ok-verb.rest.now _ c.in_ok-verb.ensures c.in_err-command.ensures)

pub returns-then-not-is_done : goal.returns-then-not-is_done
returns-then-not-is_done c =
    not-ended c.args.line.now c.in_ok-verb.verb c.in_ok-verb.rest.now
    (command_told c.in_ok-command.command) c.rest_at.new.fields.rest.now c.in_ok-verb.ensures c.in_ok-command.ensures
    (eqb-false _ _ (sym c.if-not-is_done.ensures))

pub returns : goal.returns
returns c =
    has-ended c.args.line.now c.in_ok-verb.verb c.in_ok-verb.rest.now
    (command_told c.in_ok-command.command) c.rest_at.new.fields.rest.now c.in_ok-verb.ensures c.in_ok-command.ensures
    (eqb-true _ _ (sym c.if-not-is_done.ensures))
