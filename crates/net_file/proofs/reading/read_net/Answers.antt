use Rattle.std.proofs.Common.{sym, ◌∙◌, subst, arith}
use Rattle.eon_model.specs.Legal.{Setup}
use Rattle.eon_model.specs.NetworkText.{IsNetworkTextOf}
use Rattle.net_file.specs.Drafts.{draft_seen}
use Rattle.net_file.proofs.ReadLaws.{at-begin, at-onward, at-few, at-refused, told-short, told-rest, told-whole, told-band}
use Rattle.net_file.proofs.RefusedLaws.{refused-texts}
use Rattle.net_file.proofs.reading.read_net.Goals as goal

pub loop-line-init : goal.loop-line-init
loop-line-init c =
    at-begin c.args.bytes.now (draft_seen c.new-draft.result) c.new-lines.result c.new-draft.ensures c.new-lines.ensures

pub overflow_add-number : goal.overflow_add-number
overflow_add-number c =
    let few = at-few c.args.bytes.now (draft_seen c.loop-line.draft) c.loop-line.number c.loop-line.lines c.loop-line.invariant in
    omega arith

pub loop-line-preserved : goal.loop-line-preserved
loop-line-preserved c =
    at-onward c.args.bytes.now (draft_seen c.loop-line.draft) (draft_seen c.take_line.new.self) c.loop-line.number
    c.loop-line.lines c.next_line.new.self c.in-Some.line.now c.loop-line.invariant c.in-Some.ensures.value
    c.in-Ok.ensures.ok c.next_line.ensures.after

pub returns-in-Err-clause-fault : goal.returns-in-Err-clause-fault
returns-in-Err-clause-fault c =
    at-refused c.args.bytes.now (draft_seen c.loop-line.draft) c.loop-line.number c.loop-line.lines c.in-Some.line.now
    c.in-Err.fault c.refusal.result c.loop-line.invariant c.in-Some.ensures.value c.in-Err.ensures.err c.refusal.ensures

pub returns-then-not-has_ended-clause-fault : goal.returns-then-not-has_ended-clause-fault
returns-then-not-has_ended-clause-fault c =
    told-short c.args.bytes.now (draft_seen c.loop-line.draft) c.loop-line.number c.loop-line.lines
    c.refusal-then-not-has_ended.result c.loop-line.invariant c.in_default.ensures.value
    (sym c.has_ended.ensures ∙ c.if-not-has_ended.true) c.refusal-then-not-has_ended.ensures

pub returns-then-not-is_done-clause-fault : goal.returns-then-not-is_done-clause-fault
returns-then-not-is_done-clause-fault c =
    told-rest c.args.bytes.now (draft_seen c.loop-line.draft) c.loop-line.number c.loop-line.lines
    c.next_line.new.self c.refusal-then-not-is_done.result c.loop-line.invariant c.in_default.ensures.value
    (sym c.has_ended.ensures ∙ c.if-not-has_ended.false) c.next_line.ensures.after
    (sym c.is_done.ensures ∙ c.if-not-is_done.true) c.refusal-then-not-is_done.ensures

pub finish-requires : goal.finish-requires
finish-requires c =
    told-band c.args.bytes.now (draft_seen c.loop-line.draft) c.loop-line.number c.loop-line.lines c.loop-line.invariant
    (sym c.has_ended.ensures ∙ c.if-not-has_ended.false)

pub returns-clause-ok : goal.returns-clause-ok
returns-clause-ok c =
    subst (λ (s : Setup). IsNetworkTextOf c.args.bytes.now s) (sym c.finish.ensures)
    (told-whole c.args.bytes.now (draft_seen c.loop-line.draft) c.loop-line.number c.loop-line.lines
    c.next_line.new.self c.loop-line.invariant c.in_default.ensures.value
    (sym c.has_ended.ensures ∙ c.if-not-has_ended.false) c.next_line.ensures.after
    (sym c.is_done.ensures ∙ c.if-not-is_done.false)).1

pub returns-clause-no_fault : goal.returns-clause-no_fault
returns-clause-no_fault c =
    (told-whole c.args.bytes.now (draft_seen c.loop-line.draft) c.loop-line.number c.loop-line.lines
    c.next_line.new.self c.loop-line.invariant c.in_default.ensures.value
    (sym c.has_ended.ensures ∙ c.if-not-has_ended.false) c.next_line.ensures.after
    (sym c.is_done.ensures ∙ c.if-not-is_done.false)).0

pub returns-in-Err-clause-refused : goal.returns-in-Err-clause-refused
returns-in-Err-clause-refused c = refused-texts c.args.bytes.now c.refusal.result (returns-in-Err-clause-fault c)

pub returns-then-not-has_ended-clause-refused : goal.returns-then-not-has_ended-clause-refused
returns-then-not-has_ended-clause-refused c = refused-texts c.args.bytes.now c.refusal-then-not-has_ended.result (returns-then-not-has_ended-clause-fault c)

pub returns-then-not-is_done-clause-refused : goal.returns-then-not-is_done-clause-refused
returns-then-not-is_done-clause-refused c = refused-texts c.args.bytes.now c.refusal-then-not-is_done.result (returns-then-not-is_done-clause-fault c)
