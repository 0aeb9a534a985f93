use Rattle.std.proofs.Common.{sym, ◌∙◌, ap}
use Rattle.net_file.specs.Told.{word_told}
use Rattle.net_file.specs.Steps.{may_come}
use Rattle.net_file.specs.Drafts.{draft_seen}
use Rattle.net_file.proofs.RankLaws.{fibre-groups}
use Rattle.net_file.proofs.draft.Draft.take_line.Goals as goal

pub take_words-requires-clause-groups : goal.take_words-requires-clause-groups
take_words-requires-clause-groups c = λ is.
    fibre-groups (draft_seen c.args.self.now) c.requires
    (ap (λ w. may_come (draft_seen c.args.self.now) (word_told w)) (sym is) ∙ sym c.may_come.ensures ∙ c.if-not-may_come.false)
