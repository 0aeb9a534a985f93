use Rattle.std.proofs.Common.{subst}
use Rattle.eon_model.specs.Replies.{Hit}
use Rattle.eon_model.specs.ReplyText.{hit_line}
use Rattle.line_writer.specs.Sent.{Takes}
use Rattle.line_writer.proofs.WordLaws.{line_taken, word_then}
use Rattle.reply_text.proofs.drills.put_hit.Goals as goal

pub returns : goal.returns
returns g c =
    subst (λ (h : Hit). Takes (g.W.TextSink.sent c.args.out.now) (g.W.TextSink.sent c.end_line.new.out) (hit_line c.args.net.now h))
    c.hit.view_is
    (line_taken _ _ _ _ _ _ c.put.ensures
    (word_then _ _ _ _ _ c.put_name.ensures (word_then _ _ _ _ _ c.put_number.ensures c.put_switch.ensures))
    c.end_line.ensures)
