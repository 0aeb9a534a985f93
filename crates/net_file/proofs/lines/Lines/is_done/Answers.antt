use Rattle.net_file.proofs.CutLaws.{lines-done}
use Rattle.net_file.proofs.lines.Lines.is_done.Goals as goal

pub returns : goal.returns
returns c = lines-done c.args.self.now c.self.inside.rest.now c.is_empty.result c.self.view_is c.is_empty.ensures
