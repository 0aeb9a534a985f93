-- A piece of a journal, from a gate on, has the record behind that gate.
use Rattle.std.proofs.Common.{◌≡◌, refl, sym, ◌∙◌, ap, inl, inr, ℕ, zero, suc, ◌+◌, ◌-◌, ◌<◌, ◌≤◌, min, List, [], ◌∷◌, length, take, drop, slice_index, arith}
use Rattle.std.specs.Prelude.{Option, Some, None, IfSome, Ok}
use Rattle.std.proofs.lemmas.List.{length-take, length-drop, get_or-take, get_or-drop}
use Rattle.eon_model.specs.Events.{Event}
use Rattle.eon_model.specs.Journal.{record_text}
use Rattle.eon_model.specs.JournalFault.{HasRecord}
use Rattle.eon_model.proofs.EventLengthLaws.{event-short}
use Rattle.eon_model.proofs.JournalGrowth.{length-record}
use Rattle.eon_model.specs.Disk.{Reads}
use Rattle.eon_disk.specs.declared.disk.DiskFailed.{DiskFailed}
use Rattle.plan_journal.specs.declared.walk.Walked.{Walked}
use Rattle.plan_journal.specs.declared.walk.Walked.TheVariants.{Record, Gate, Bad}
use Rattle.plan_journal.specs.Walked.{Stands}

pub take-less : (n k : ℕ) (xs : List ℕ) → n ≤ k → take n (take k xs) ≡ take n xs
take-less zero k xs l = refl
take-less (suc n) zero xs l = absurd (omega arith)
take-less (suc n) (suc k) [] l = refl
take-less (suc n) (suc k) (x ∷ xs) l = ap (λ (v : List ℕ). x ∷ v) (take-less n k xs (omega arith))

index-some : (xs : List ℕ) → slice_index xs 0 ≡ 1 → 0 < length xs
index-some [] h = absurd (omega arith)
index-some (x ∷ xs) h = omega arith

module _ (bytes piece : List ℕ) (limit p number k : ℕ) (is : piece ≡ take k (drop p bytes))
    (count : k ≡ min 185 (length bytes - p)) (within : p + 1 ≤ limit) where
  piece_long : length piece ≡ k
  piece_long =
      let a = length-take k (drop p bytes) in
      let b = length-drop p bytes in
      ap length is ∙ omega arith

  nearer : (e : Event) → HasRecord bytes limit p number e → HasRecord piece (limit - p) 0 number e
  nearer e r =
      let text = record_text number e in
      let short = event-short e r.in_range in
      let long = length-record number e in
      let whole = r.whole in
      let room = r.within in
      let l = piece_long in
      let c = count in
      record {
        in_range = r.in_range;
        is = ap (take (length text)) is ∙ take-less (length text) k (drop p bytes) (omega arith) ∙ r.is;
        whole = omega arith;
        within = omega arith;
      }

  deeper : (e : Event) → HasRecord piece (limit - p) 0 number e → HasRecord bytes limit p number e
  deeper e r =
      let text = record_text number e in
      let whole = r.whole in
      let room = r.within in
      let l = piece_long in
      let c = count in
      record {
        in_range = r.in_range;
        is = sym (ap (take (length text)) is ∙ take-less (length text) k (drop p bytes) (omega arith)) ∙ r.is;
        whole = omega arith;
        within = omega arith;
      }

  first_byte : 0 < k → slice_index piece 0 ≡ slice_index bytes p
  first_byte l =
      ap (λ (v : List ℕ). slice_index v 0) is ∙ get_or-take k (drop p bytes) 0 0 l ∙ get_or-drop p bytes 0 0
      ∙ ap (λ (i : ℕ). slice_index bytes i) (omega arith)

  pub stands : (w : Walked) → Stands piece (limit - p) 0 number w → Stands bytes limit p number w
  stands (Record event taken) s = (deeper _ s.0, s.1)
  stands (Gate gate) s =
      let there = s.there in
      let l = piece_long in
      let c = count in
      record { there = omega arith; is = sym (first_byte (omega arith)) ∙ s.is; shut = s.shut }
  stands Bad s = record {
    gate = elim s.gate [
      | inl none ↦ let l = piece_long in let c = count in let n = none in inl (omega arith)
      | inr one ↦ inr (sym (first_byte (some one)) ∙ one)
    ];
    none = λ e r. s.none e (nearer e r);
  }
    where
      some : slice_index piece 0 ≡ 1 → 0 < k
      some one = let h = index-some piece one in let l = piece_long in omega arith

-- what is read of a disk, where it tells its bytes
pub reads-gate : (o : Option (List ℕ)) (buf : List ℕ) (p k limit number : ℕ) → p + 1 ≤ limit → (w : Walked) →
    Reads {E = DiskFailed} o p 185 buf (Ok k) → Stands (take k buf) (limit - p) 0 number w →
    IfSome o (λ bytes. Stands bytes limit p number w)
reads-gate None buf p k limit number within w r s = tt
reads-gate (Some bytes) buf p k limit number within w r s = stands bytes (take k buf) limit p number k r.1 r.0 within w s
