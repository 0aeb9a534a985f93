-- What `read_event` answers.
use Rattle.std.proofs.Common.{◌≡◌, refl, sym, ◌∙◌, ap, subst, ℕ, suc, List, [], ◌∷◌, slice_index_or, Fits, w8, arith}
use Rattle.std.proofs.lemmas.Bool.{and_from, lt-ltb}
use Rattle.std.specs.Prelude.{IsTrue, IfOk, Result, Ok, Err}
use Rattle.std.specs.Result.{result_err}
use Rattle.std.specs.Option.{option_map}
use Rattle.eon_model.specs.Events as model
use Rattle.eon_model.specs.EventFault as faults
use Rattle.eon_model.specs.EventFault.{event_fault}
use Rattle.eon_model.specs.EventText.{event_text, is_event}
use Rattle.eon_model.proofs.EventFields.{AreBytes}
use Rattle.eon_model.proofs.EventFaultLaws.{event_text-no_fault}
use Rattle.journal_record.specs.declared.event.Event.{Event}
use Rattle.journal_record.specs.declared.fault.EventFault.{EventFault}
use Rattle.journal_record.specs.Told.{event_told}
use Rattle.journal_record.specs.Given.{Gives, fault_told}
use Rattle.journal_record.specs.Reading.{event_read}
use Rattle.journal_record.proofs.JudgedEvents.{Decided, event-decided}

-- each fits into eight bits
pub are_bytes : (bytes : List ℕ) → ((i : ℕ) → Fits w8 (slice_index_or bytes i 0)) → AreBytes bytes
are_bytes [] h = refl
are_bytes (b ∷ bytes) h = and_from _ _ (lt-ltb b 256 (omega (arith, h 0))) (are_bytes bytes (λ i. h (suc i)))

given : (bytes : List ℕ) (r : Result model.Event faults.EventFault) → AreBytes bytes → event_read bytes ≡ r → Decided bytes r
given bytes r small e = subst (Decided bytes) e (event-decided bytes small)

pub read-range : (bytes : List ℕ) (r : Result Event EventFault) → AreBytes bytes → Gives event_told r (event_read bytes) →
    IfOk r (λ e. IsTrue (is_event (event_told e)))
read-range bytes (Ok e) small g = (given bytes (Ok (event_told e)) small g).0
read-range bytes (Err x) small g = tt

pub read-bytes : (bytes : List ℕ) (r : Result Event EventFault) → AreBytes bytes → Gives event_told r (event_read bytes) →
    IfOk r (λ e. event_text (event_told e) ≡ bytes)
read-bytes bytes (Ok e) small g = (given bytes (Ok (event_told e)) small g).1
read-bytes bytes (Err x) small g = tt

pub read-fault : (bytes : List ℕ) (r : Result Event EventFault) → AreBytes bytes → Gives event_told r (event_read bytes) →
    option_map fault_told (result_err r) ≡ event_fault bytes
read-fault bytes (Ok e) small g =
    let d = given bytes (Ok (event_told e)) small g in
    sym (event_text-no_fault (event_told e) d.0) ∙ ap event_fault d.1
read-fault bytes (Err x) small g = sym (given bytes (Err (fault_told x)) small g)
