use Rattle.std.proofs.Common.{◌≡◌, sym, ◌∙◌, length, arith}
use Rattle.std.proofs.lemmas.Bool.{eqb-true}
use Rattle.line_session.proofs.KeptLaws.{no_length}
use Rattle.line_session.proofs.FrontLaws.{answers_whole, answers_kept}
use Rattle.line_session.proofs.session.LineSession.end_line.Goals as goal

pub returns-then-is_empty-clause-told : goal.returns-then-is_empty-clause-told
returns-then-is_empty-clause-told g c = λ fragment kept.
    let none : length c.args.self.now.begun.items ≡ 0 =
    omega (arith, c.args.self.now.begun.ok.0, eqb-true _ 0 (sym c.is_empty.ensures ∙ c.if-is_empty.true)) in
    answers_whole _ _ _ _ _ _ _ c.args.self.now.begun.items fragment c.args.part.now
    c.answer.result kept (no_length _ none) c.answer.ensures.told

pub returns-clause-told : goal.returns-clause-told
returns-clause-told g c = λ fragment kept.
    answers_kept _ _ _ _ (g.met.M.Answerer.lawful c.args.answerer.now c.requires.ready) _ _ _ _ _
    c.args.self.now.begun.items fragment c.args.part.now c.as_slice.result.now c.answer-answered.result kept
    (c.as_slice.ensures.value ∙ c.keep.ensures.begun) c.answer-answered.ensures.told
