use Rattle.std.proofs.Common.{◌∙◌}
use Rattle.eon_outside.specs.declared.reading.Failed.{Failed}
use Rattle.plan_serve.proofs.DecideLaws.{answers_whole, answers_part}
use Rattle.plan_serve.proofs.answering.answer.Goals as goal

pub returns-in-Ok-clause-told : goal.returns-in-Ok-clause-told
returns-in-Ok-clause-told g c =
    answers_whole _ c.setup.result.now _ _ c.services.result.now.list _ _ _ _
    (c.setup.ensures.setup ∙ c.reply_to-reply.ensures.setup) c.services.ensures.list c.reply_to-reply.ensures.decides
    {E = Failed} c.flow_behind.result c.in-Ok.ensures.bytes c.flow_behind.ensures

pub returns-clause-told : goal.returns-clause-told
returns-clause-told g c =
    answers_part _ c.setup.result.now _ _ c.services.result.now.list _ _ _ _
    (c.setup.ensures.setup ∙ c.reply_to-reply.ensures.setup) c.services.ensures.list c.reply_to-reply.ensures.decides
    {E = Failed} c.in-Err.field-0 c.in-Err.ensures.part
