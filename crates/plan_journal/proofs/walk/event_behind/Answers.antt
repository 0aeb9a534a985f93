use Rattle.std.proofs.Common.{◌≡◌, sym, ◌∙◌, ap, ◌+◌, ◌-◌, ℕ, take, drop, arith}
use Rattle.std.specs.Prelude.{nat_le, ◌&&◌, length, is_some, Option}
use Rattle.std.proofs.lemmas.Bool.{eq-eqb}
use Rattle.eon_model.specs.EventFault.{EventFault, event_fault}
use Rattle.eon_model.specs.JournalFault.{told_length, told_number}
use Rattle.plan_journal.proofs.GateReads.{one-event, no-event}
use Rattle.plan_journal.proofs.walk.event_behind.Goals as goal

pub returns-in-Ok-clause-some : goal.returns-in-Ok-clause-some
returns-in-Ok-clause-some c =
    let behind = c.args.behind.now in
    let len : c.two-len.result ≡ told_length behind = c.two-len.ensures in
    let all : 6 + c.two-len.result - 6 ≡ told_length behind = omega arith in
    let number : told_number behind ≡ c.args.number = sym c.four.ensures ∙ c.if-four-number.false in
    one-event behind c.args.room c.args.number
    (ap (λ (n : ℕ). nat_le (n + 7) (length behind) && nat_le (n + 8) c.args.room) (sym len) ∙ sym c.is_whole.ensures
    ∙ c.if-not-is_whole.false)
    (eq-eqb (told_number behind) c.args.number number)
    (ap (λ (n : ℕ). event_fault (take n (drop 6 behind))) (sym all) ∙ sym c.in-Ok.ensures.fault)

pub returns-in-Ok-clause-bytes : goal.returns-in-Ok-clause-bytes
returns-in-Ok-clause-bytes c =
    let behind = c.args.behind.now in
    let len : c.two-len.result ≡ told_length behind = c.two-len.ensures in
    let all : 6 + c.two-len.result - 6 ≡ told_length behind = omega arith in
    c.in-Ok.ensures.bytes ∙ ap (λ (n : ℕ). take n (drop 6 behind)) all

pub returns-in-Err-clause-none : goal.returns-in-Err-clause-none
returns-in-Err-clause-none c same =
    let behind = c.args.behind.now in
    let len : c.two-len.result ≡ told_length behind = c.two-len.ensures in
    let all : 6 + c.two-len.result - 6 ≡ told_length behind = omega arith in
    no-event behind c.args.room c.args.number
    (ap (λ (n : ℕ). is_some (event_fault (take n (drop 6 behind)))) (sym all)
    ∙ sym (ap (λ (o : Option EventFault). is_some o) c.in-Err.ensures.fault))
