use Rattle.std.proofs.Common.{refl, ◌∙◌}
use Rattle.line_writer.proofs.TakesLaws.{takes-both, memory-ends}
use Rattle.plan_report.proofs.map.keep_map.Goals as goal

pub returns : goal.returns
returns c =
    let told = memory-ends c.finish.result _ _ _ _ c.finish.new.self.bytes.now.items _ refl refl c.requires.going
    c.requires.begins (takes-both _ _ _ _ _ c.put_first_line.ensures c.put_map_lines.ensures) c.finish.ensures.whole
    c.finish.ensures.kept c.finish.ensures.stopped c.finish.ensures.cut in
    record {
      place = c.finish.ensures.place ∙ c.put_map_lines.ensures.place ∙ c.put_first_line.ensures.place;
      ok = told.0;
    }
