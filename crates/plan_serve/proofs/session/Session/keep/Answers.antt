use Rattle.std.proofs.Common.{◌≤◌, ◌∙◌, ap, ℕ, ◌-◌, length, min, arith}
use Rattle.plan_serve.specs.Lines.{most_kept}
use Rattle.plan_serve.proofs.KeptLaws.{keep_front}
use Rattle.plan_serve.proofs.session.Session.keep.Goals as goal

pub returns-clause-begun : goal.returns-clause-begun
returns-clause-begun c =
    let within : length c.args.self.now.begun.items ≤ most_kept =
    omega (arith, c.args.self.now.begun.ok.0, c.args.self.now.within) in
    c.in-Ok.ensures.items
    ∙ keep_front c.args.self.now.begun.items c.args.part.now c.min-kept.result most_kept within
    (c.min-kept.ensures ∙ ap (λ (v : ℕ). min (most_kept - v) (length c.args.part.now))
    (c.len-free.ensures ∙ c.args.self.now.begun.ok.0))
