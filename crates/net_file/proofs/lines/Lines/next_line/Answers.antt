use Rattle.std.proofs.Common.{sym, ◌∙◌, ap, drop}
use Rattle.std.specs.Prelude.{slice_get}
use Rattle.net_file.proofs.CutLaws.{Lines, lines-more, lines-last}
use Rattle.net_file.proofs.lines.Lines.next_line.Goals as goal

pub returns-in_err-line-clause-value : goal.returns-in_err-line-clause-value
returns-in_err-line-clause-value c =
    let e = lines-last c.args.self.now c.self.inside.rest.now c.self.view_is c.in_err-line.ensures in
    rw c.from_residual.ensures (sym (ap (λ (now : Lines). slice_get now.0 0) e))

pub returns-in_err-line-clause-after : goal.returns-in_err-line-clause-after
returns-in_err-line-clause-after c =
    let e = lines-last c.args.self.now c.self.inside.rest.now c.self.view_is c.in_err-line.ensures in
    e ∙ sym (ap (λ (now : Lines). (drop 1 now.0, now.1)) e)

pub returns-clause-value : goal.returns-clause-value
returns-clause-value c =
    let e =
    lines-more c.args.self.now c.self.inside.rest.now c.in_ok-line.line.now c.in_ok-line.behind.now
    c.self.view_is c.in_ok-line.ensures in
    sym (ap (λ (now : Lines). slice_get now.0 0) e)

pub returns-clause-after : goal.returns-clause-after
returns-clause-after c =
    let e =
    lines-more c.args.self.now c.self.inside.rest.now c.in_ok-line.line.now c.in_ok-line.behind.now
    c.self.view_is c.in_ok-line.ensures in
    sym (ap (λ (now : Lines). (drop 1 now.0, now.1)) e)
