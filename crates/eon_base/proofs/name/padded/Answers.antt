use Rattle.std.proofs.Common.{ap, ◌++◌, length, drop, ◌∙◌}
use Rattle.std.specs.Prelude.{replicate}
use Rattle.std.proofs.lemmas.List.{drop-replicate}
use Rattle.eon_base.proofs.name.padded.Goals as goal

pub returns : goal.returns
returns c =
    ap (λ front. front ++ drop (length c.args.bytes.now) (replicate 32 0)) c.copy_from_slice.ensures.after
    ∙ ap (λ zeros. c.args.bytes.now ++ zeros) (drop-replicate (length c.args.bytes.now) 32 0)
