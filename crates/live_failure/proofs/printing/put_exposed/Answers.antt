use Rattle.std.proofs.Common.{sym, ap, codes}
use Rattle.std.specs.Fmt.{decimal}
use Rattle.std.proofs.lemmas.List.{length-map}
use Rattle.eon_model.specs.ReplyText.{word_line}
use Rattle.line_writer.proofs.TakesLaws.{takes-both, takes-same}
use Rattle.live_failure.specs.Replied.{weak_told}
use Rattle.live_failure.proofs.printing.put_exposed.Goals as goal

pub returns : goal.returns
returns g c =
    let first = takes-same _ _ _ _ (ap (λ n. word_line (codes "exposed") (decimal n)) (sym (length-map c.args.weak.now weak_told))) c.put_count.ensures in
    takes-both _ _ _ _ _ first c.put_each_weak.ensures
