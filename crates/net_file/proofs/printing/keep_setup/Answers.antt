use Rattle.std.proofs.Common.{refl, ◌∙◌}
use Rattle.line_writer.proofs.TakesLaws.{memory-ends}
use Rattle.net_file.proofs.printing.keep_setup.Goals as goal

pub returns : goal.returns
returns c =
    let told = memory-ends c.finish.result _ _ _ _ c.finish.new.self.bytes.now.items _ refl refl c.requires.going
    c.requires.begins c.put_setup.ensures c.finish.ensures.whole c.finish.ensures.kept c.finish.ensures.stopped
    c.finish.ensures.cut in
    record { place = c.finish.ensures.place ∙ c.put_setup.ensures.place; ok = told.0; err = told.1 }
