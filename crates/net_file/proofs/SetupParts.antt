-- A sheet that has ended tells a setup in range.
use Rattle.std.proofs.Common.{◌≡◌, refl, sym, ap, ℕ, zero, suc, ◌≤◌, true, false, cond, length, nat_le, Option, Some, None, is_some, arith}
use Rattle.std.proofs.lemmas.Bool.{and_parts, and_from, le-leb, leb-true, lt-leb, false≢true}
use Rattle.eon_model.specs.Grid.{Band, is_band}
use Rattle.eon_model.specs.NetworkText.{version_of, is_setup}
use Rattle.net_file.specs.Steps.{SoFar, parts_of, setup_told}
use Rattle.eon_model.specs.Numerals.{is_within}
use Rattle.net_file.specs.Drafts.{InRange, BandSoFar}
use Rattle.eon_model.proofs.SetupFacts.{table_is, network_is}

-- a band of the version that the text has
pub record Whole (version : ℕ) (band : Option Band) : Type 0 where
  pub some : is_some band ≡ true
  pub good : is_band (parts_of band) ≡ true
  pub version_is : version ≡ version_of (parts_of band)

pub whole-band : (far version : ℕ) (band : Option Band) → 3 ≤ far → is_within 1 2 version ≡ true →
    BandSoFar far version band → Whole version band
whole-band far version None l w h = absurd (omega arith)
whole-band far zero (Some band) l w h = absurd (false≢true w)
whole-band far (suc zero) (Some band) l w h = record {
  some = refl;
  good = h.good;
  version_is = sym (ap (λ (n : ℕ). cond {A = ℕ} (nat_le n 1) 1 2) (h.one refl));
}
whole-band far (suc (suc zero)) (Some band) l w h =
    let many = h.more refl l in
    let more : nat_le (length band) 1 ≡ false = lt-leb (length band) 1 (omega arith) in
    record { some = refl; good = h.good; version_is = sym (λ i. cond {A = ℕ} (more i) 1 2) }
whole-band far (suc (suc (suc version))) (Some band) l w h =
    let most = leb-true (suc (suc (suc version))) 2
    (and_parts (nat_le 1 (suc (suc (suc version)))) (nat_le (suc (suc (suc version))) 2) w).1 in absurd (omega arith)

pub setup-whole : (s : SoFar) → InRange s → Whole s.version s.band → 1 ≤ length s.formats →
    1 ≤ length s.network.nodes → is_setup (setup_told s) ≡ true
setup-whole s r b formats nodes =
    and_from _ _ (and_from _ _ (and_from _ _ (and_from _ _ (and_from _ _ (and_from _ _ b.good
    (le-leb s.guard 64 r.guard)) r.k) r.services) r.journal) (table_is s.formats r.rows formats))
    (network_is s.network r.graph nodes)
