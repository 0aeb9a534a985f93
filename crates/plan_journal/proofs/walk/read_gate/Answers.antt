use Rattle.std.proofs.Common.{◌≡◌, sym, subst, ◌∷◌, List, ℕ, rules}
use Rattle.eon_model.specs.JournalFault.{HasRecord, IsBadRecord}
use Rattle.eon_model.proofs.EventFields.{AreBytes}
use Rattle.journal_record.specs.Told.{event_told}
use Rattle.journal_record.proofs.ReadLaws.{are_bytes}
use Rattle.plan_journal.proofs.GateReads.{reads-record, reads-none, taken_is}
use Rattle.plan_journal.proofs.walk.read_gate.Goals as goal

pub returns-in-Some-event_behind : goal.returns-in-Some-event_behind
returns-in-Some-event_behind c =
    let behind = c.in-Some.behind.now in
    let gate = c.if-gate-ne-OPEN.false in
    let bytes : c.args.bytes.now ≡ 1 ∷ behind = search rules in
    let small = are_bytes c.args.bytes.now c.type_inv.bytes in
    let e = event_told c.in-Some-event_behind.event in
    let text = c.in-Some-event_behind.ensures.bytes in
    let ok = c.in-Some-event_behind.ensures.in_range in
    let record_is = reads-record behind c.args.room c.args.number e
    (subst (λ (v : List ℕ). AreBytes v) bytes small) c.ranges.number.fits c.in-Some-event_behind.ensures.some ok text in (
      subst (λ (v : List ℕ). HasRecord v c.args.room 0 c.args.number e) (sym bytes) record_is,
      taken_is behind c.args.room c.args.number e c.in-Some-event_behind.ensures.some text c.two.result c.two.ensures,
    )

pub returns-in-None : goal.returns-in-None
returns-in-None c =
    let behind = c.in-Some.behind.now in
    let gate = c.if-gate-ne-OPEN.false in
    let bytes : c.args.bytes.now ≡ 1 ∷ behind = search rules in
    subst (λ (v : List ℕ). IsBadRecord v c.args.room 0 c.args.number) (sym bytes)
    (reads-none behind c.args.room c.args.number c.ranges.number.fits (c.event_behind.ensures.none c.in-None.is))
