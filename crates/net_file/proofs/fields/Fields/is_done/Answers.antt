use Rattle.net_file.proofs.CutLaws.{fields-done}
use Rattle.net_file.proofs.fields.Fields.is_done.Goals as goal

pub returns : goal.returns
returns c =
    fields-done c.self.inside.rest c.args.self.now c.is_none.result c.self.view_is c.is_none.ensures
