use Rattle.std.proofs.Common.{◌≡◌, ◌≤◌, ◌∙◌, ap, ℕ, ◌-◌, length, min, take, ◌++◌, arith}
use Rattle.line_session.specs.Lines.{most_kept}
use Rattle.line_session.proofs.KeptLaws.{keep_front}
use Rattle.line_session.proofs.session.LineSession.keep.Goals as goal

pub returns : goal.returns
returns c =
    let within : length c.args.self.now.begun.items ≤ most_kept =
    omega (arith, c.args.self.now.begun.ok.0, c.args.self.now.within) in
    let kept : c.extend_from_slice.new.self.items ≡ take most_kept (c.args.self.now.begun.items ++ c.args.part.now) =
    c.in-Ok.ensures.items
    ∙ keep_front c.args.self.now.begun.items c.args.part.now c.min-kept.result most_kept within
    (c.min-kept.ensures ∙ ap (λ (v : ℕ). min (most_kept - v) (length c.args.part.now))
    (c.len-free.ensures ∙ c.args.self.now.begun.ok.0)) in record { begun = kept }
