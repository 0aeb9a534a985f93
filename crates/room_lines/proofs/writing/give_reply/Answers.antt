use Rattle.line_writer.proofs.TakesLaws.{sink-ends}
use Rattle.room_lines.proofs.writing.give_reply.Goals as goal

pub returns : goal.returns
returns g c =
    let told = sink-ends c.finish.result _ _ _ c.requires.going c.put_reply.ensures c.finish.ensures.whole
    c.finish.ensures.stopped in
    record {
      place = c.put_reply.ensures.place;
      bytes = told.0;
      part = told.1;
      stands = told.2;
    }
