use Rattle.std.proofs.Common.{sym, subst, ℕ, List}
use Rattle.std.specs.Str.{IsUtf8}
use Rattle.plan_report.proofs.PlainLemmas.{name_utf8}
use Rattle.plan_report.proofs.report.name_text.Goals as goal

pub unreachable-requires : goal.unreachable-requires
unreachable-requires c =
    c.in-Err.ensures.cases.0
    (subst (λ (v : List ℕ). IsUtf8 v) (sym c.bytes.ensures.value) (name_utf8 c.args.name.now c.bytes.ensures.name))
