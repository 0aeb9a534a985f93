use Rattle.eon_outside.specs.declared.reading.Failed.{Failed}
use Rattle.live_failure.proofs.AnswerLaws.{answers_whole, answers_part}
use Rattle.live_failure.proofs.answering.answer_live.Goals as goal

pub returns-in-Ok-clause-told : goal.returns-in-Ok-clause-told
returns-in-Ok-clause-told g c =
    answers_whole _ _ _ _ _ _ c.reply_to-reply.ensures {E = Failed} c.flow_behind.result c.in-Ok.ensures.bytes c.flow_behind.ensures

pub returns-clause-told : goal.returns-clause-told
returns-clause-told g c =
    answers_part _ _ _ _ _ _ c.reply_to-reply.ensures {E = Failed} c.in-Err.field-0 c.in-Err.ensures.part
