use Rattle.std.proofs.Common.{◌≡◌, sym, ◌∙◌, subst, length, None, arith}
use Rattle.std.proofs.lemmas.Bool.{eqb-true}
use Rattle.eon_outside.specs.declared.reading.Failed.{Failed}
use Rattle.eon_model.specs.Run.{situation}
use Rattle.plan_core.specs.Seen.{CoreSeen}
use Rattle.plan_serve.specs.Answering.{AnswersLine}
use Rattle.plan_serve.proofs.KeptLaws.{no_length}
use Rattle.plan_serve.proofs.FrontLaws.{answers_whole, answers_kept}
use Rattle.plan_serve.proofs.session.Session.end_line.Goals as goal

pub returns-then-is_empty-clause-told : goal.returns-then-is_empty-clause-told
returns-then-is_empty-clause-told g c = λ fragment kept.
    let none : length c.args.self.now.begun.items ≡ 0 =
    omega (arith, c.args.self.now.begun.ok.0, eqb-true _ 0 (sym c.is_empty.ensures ∙ c.if-is_empty.true)) in
    answers_whole {E = Failed} _ _ _ c.args.self.now.begun.items fragment c.args.part.now _ _
    c.answer.result kept (no_length _ none) c.answer.ensures.told

pub returns-clause-told : goal.returns-clause-told
returns-clause-told g c = λ fragment kept.
    answers_kept {E = Failed} _ _ _ c.args.self.now.begun.items fragment c.args.part.now
    c.as_slice.result.now _ _ c.answer-answered.result kept
    (c.as_slice.ensures.value ∙ c.keep.ensures.begun)
    (subst (λ (m : CoreSeen). AnswersLine {E = Failed} m.setup (situation m.state None)
    (situation c.answer-answered.new.core.state None) c.as_slice.result.now
    (g.K.Sink.given c.args.out.now) (g.K.Sink.given c.answer-answered.new.out) c.answer-answered.result)
    c.keep.ensures.core c.answer-answered.ensures.told)
