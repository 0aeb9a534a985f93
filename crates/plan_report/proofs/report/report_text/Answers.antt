use Rattle.std.proofs.Common.{◌∙◌, ap}
use Rattle.serde_json.specs.Written.{has_float, compact_text}
use Rattle.plan_report.proofs.ReportLemmas.{report-plain}
use Rattle.plan_report.proofs.report.report_text.Goals as goal

pub returns : goal.returns
returns c =
    let p = report-plain c.args.setup.now c.args.services.now.list c.requires.setup c.in_ok-value.ensures.named in
    let e = c.in_ok-value.ensures.value in
    c.of.ensures ∙ (λ i. (c.into_bytes.ensures.value i).items)
    ∙ c.in_ok-text.ensures.text (ap has_float e ∙ p.no_float) ∙ ap compact_text e ∙ p.is
