use Rattle.std.proofs.Common.{◌∙◌, ap}
use Rattle.reply_text.specs.Replied.{reply_told}
use Rattle.load_summary.specs.Kinds.{with_one}
use Rattle.load_summary.proofs.TallyLaws.{tally_more}
use Rattle.load_summary.proofs.tally.Tally.with_reply.Goals as goal

pub returns : goal.returns
returns c = record {
  told = λ answers a h e. tally_more c.args.self answers a h (reply_told c.args.reply.now) c.with.result e
      (c.with.ensures ∙ ap (λ k. with_one k c.args.self) c.kind_of.ensures);
}
