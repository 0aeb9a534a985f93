use Rattle.std.proofs.Common.{sym}
use Rattle.std.proofs.lemmas.Bool.{eqb-true, eqb-false}
use Rattle.command_text.specs.Told.{told}
use Rattle.command_text.proofs.ReadSteps.{leaves-err, make-none, make-stuck, make-bad, make-some}
use Rattle.command_text.proofs.reading.make_at.Goals as goal

pub returns-then-is_done : goal.returns-then-is_done
returns-then-is_done c =
    make-none c.args.fields.now.rest.now c.in_ok-name.name c.name.new.self.rest.now c.in_ok-name.ensures
    (eqb-true _ _ (sym c.if-is_done.ensures))

pub returns-in_err-skip : goal.returns-in_err-skip
returns-in_err-skip c =
    leaves-err told c.from_residual-in_err-skip.result _ _ c.in_err-skip.field-0.0 c.from_residual-in_err-skip.ensures.1
    (make-stuck c.args.fields.now.rest.now c.in_ok-name.name c.name.new.self.rest.now _ c.in_ok-name.ensures
    (eqb-false _ _ (sym c.if-is_done.ensures)) c.in_err-skip.ensures)

pub returns-in_err-fibre : goal.returns-in_err-fibre
returns-in_err-fibre c =
    leaves-err told c.from_residual-in_err-fibre.result _ _ c.in_err-fibre.field-0.0 c.from_residual-in_err-fibre.ensures.1
    (make-bad c.args.fields.now.rest.now c.in_ok-name.name c.name.new.self.rest.now c.skip.new.self.rest.now _ c.in_ok-name.ensures (eqb-false _ _ (sym c.if-is_done.ensures))
    c.in_ok-skip.ensures c.in_err-fibre.ensures)

pub returns : goal.returns
returns c =
    make-some c.args.fields.now.rest.now c.in_ok-name.name c.name.new.self.rest.now c.skip.new.self.rest.now c.in_ok-fibre.fibre c.name-2.new.self.rest.now
    c.in_ok-name.ensures (eqb-false _ _ (sym c.if-is_done.ensures)) c.in_ok-skip.ensures c.in_ok-fibre.ensures
