use Rattle.std.proofs.Common.{◌≡◌, ◌∙◌, ◌∷◌, ◌++◌, [], ℕ, List, take}
use Rattle.eon_model.specs.Disk.{LeavesOnly}
use Rattle.eon_model.specs.Journal.{record_body}
use Rattle.eon_model.specs.JournalMoments.{IsAppending}
use Rattle.journal_record.specs.Told.{event_told}
use Rattle.plan_journal.proofs.MomentLaws.{some_more}
use Rattle.plan_journal.proofs.journal.Journal.append.Goals as goal

pub write_record-requires-clause-gate : goal.write_record-requires-clause-gate
write_record-requires-clause-gate g c =
    (record_body c.args.self.now.place.number (event_told c.args.e.now), c.bytes.ensures ∙ c.of-record.ensures)

pub returns-in-Ok-clause-moments : goal.returns-in-Ok-clause-moments
returns-in-Ok-clause-moments g c =
    let old = c.args.self.now.disk.now in
    let new = c.write_record.new.disk in
    let body = record_body c.args.self.now.place.number (event_told c.args.e.now) in
    let leaves : List ℕ → List ℕ → Type 0 = λ bytes body. LeavesOnly g.D.Disk.clock g.D.Disk.images_since old new
    (IsAppending (take c.args.self.now.place.at bytes) body) in
    some_more (g.D.Disk.now old) (λ bytes. (body : List ℕ) → c.bytes.result.now ≡ body ++ 0 ∷ [] → leaves bytes body)
    (λ bytes. leaves bytes body) (λ bytes h. h body (c.bytes.ensures ∙ c.of-record.ensures)) c.write_record.ensures.moments

pub returns-in-Err-clause-moments : goal.returns-in-Err-clause-moments
returns-in-Err-clause-moments g c =
    let old = c.args.self.now.disk.now in
    let new = c.write_record.new.disk in
    let body = record_body c.args.self.now.place.number (event_told c.args.e.now) in
    let leaves : List ℕ → List ℕ → Type 0 = λ bytes body. LeavesOnly g.D.Disk.clock g.D.Disk.images_since old new
    (IsAppending (take c.args.self.now.place.at bytes) body) in
    some_more (g.D.Disk.now old) (λ bytes. (body : List ℕ) → c.bytes.result.now ≡ body ++ 0 ∷ [] → leaves bytes body)
    (λ bytes. leaves bytes body) (λ bytes h. h body (c.bytes.ensures ∙ c.of-record.ensures)) c.write_record.ensures.moments
