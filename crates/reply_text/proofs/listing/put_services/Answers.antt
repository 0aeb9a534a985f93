use Rattle.line_writer.proofs.TakesLaws.{takes-both}
use Rattle.reply_text.proofs.listing.put_services.Goals as goal

pub returns : goal.returns
returns g c =
    let count = rw c.len.ensures.count at c.put_count_line.ensures in
    takes-both _ _ _ _ _ count c.put_each_service.ensures
