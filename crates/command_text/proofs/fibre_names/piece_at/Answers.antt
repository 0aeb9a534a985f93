use Rattle.std.proofs.Common.{nat_eq, rules, tests}
use Rattle.std.proofs.lemmas.Iterator.Consumers.{nth_from_yields_List}
use Rattle.std.proofs.lemmas.Iterator.Splits.{YieldsList-from_slice_split}
use Rattle.command_text.proofs.fibre_names.piece_at.Goals as goal

pub returns : goal.returns
returns c = nth_from_yields_List _ _ c.args.i c.nth.ensures.ran
    (YieldsList-from_slice_split _ (λ b. nat_eq b 44) c.args.bytes.now c.split.ensures.rest c.split.ensures.done c.split.ensures.closure (λ x b q. search (rules, tests)))
