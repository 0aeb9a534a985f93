use Rattle.std.proofs.Common.{refl, sym, ◌∙◌, ap, subst, ℕ, ◌+◌, arith}
use Rattle.eon_model.specs.LoadGenerator.{next_word, drive_command}
use Rattle.eon_model.specs.CommandText.{command_text}
use Rattle.eon_model.specs.Legal.{Setup}
use Rattle.plan_serve.specs.Driving.{DrivenTo}
use Rattle.plan_serve.proofs.DriveLaws.{driven_none, driven_then}
use Rattle.plan_serve.proofs.drive.answer_load.Goals as goal

pub loop-i-init : goal.loop-i-init
loop-i-init c = (
  refl,
  subst (λ (w : ℕ). DrivenTo c.args.core.now.setup c.args.seed 0 0 w c.args.core.now.state c.none-tally.result)
      (sym c.next_word-word.ensures)
      (driven_none c.args.core.now.setup c.args.seed c.args.core.now.state c.none-tally.result c.requires.at_start c.none-tally.ensures),
)

pub with_reply-tally-requires : goal.with_reply-tally-requires
with_reply-tally-requires c =
    let so_far = c.loop-i.invariant.1.many in
    let more = c.loop-i-test.true in
    let most = c.ranges.count.fits in
    omega (arith, so_far, more, most)

pub loop-i-preserved : goal.loop-i-preserved
loop-i-preserved c =
    let here = c.loop-i.core.setup in
    let line = c.bytes.ensures.value ∙ c.drive_line.ensures.line
    ∙ ap (λ (s : Setup). command_text (drive_command s c.loop-i.before c.loop-i.word (c.loop-i.i + 1))) c.setup.ensures.setup in (
      c.reply_to-reply.ensures.setup ∙ c.loop-i.invariant.0,
      driven_then here c.reply_to-reply.new.core.setup c.args.seed c.loop-i.i c.loop-i.before c.loop-i.word
          c.loop-i.core.state c.reply_to-reply.new.core.state c.loop-i.tally c.with_reply-tally.result c.reply_to-reply.result
          c.bytes.result.now c.before_next-before.result c.next_word-word-in-loop-i.result c.loop-i.invariant.1 line
          c.reply_to-reply.ensures.decides c.with_reply-tally.ensures.told c.reply_to-reply.ensures.setup
          c.before_next-before.ensures c.next_word-word-in-loop-i.ensures,
    )
