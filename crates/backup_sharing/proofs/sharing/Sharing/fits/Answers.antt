use Rattle.std.proofs.Common.{◌≡◌, ◌∙◌, sym, ap, subst, ℕ, ◌<◌, true, not, List, length, arith}
use Rattle.std.specs.List.{AllByRecursion, list_all, list_any}
use Rattle.eon_model.specs.Grid.{lies_in, span_of}
use Rattle.eon_model.specs.Rows.{counts_among, is_unshared, units_in}
use Rattle.eon_model.specs.Sets.{has_member}
use Rattle.spectrum_map.specs.Kept.{Kept, taken}
use Rattle.backup_sharing.specs.Shared.{Sharers, AreOthers, bars, counts_beside, map_at}
use Rattle.backup_sharing.proofs.CountedLaws.{fibres_there}
use Rattle.backup_sharing.proofs.FitLaws.{own_there, fits-counts, fits-legs}
use Rattle.backup_sharing.proofs.sharing.Sharing.fits.Goals as goal

pub is_free-requires : goal.is_free-requires
is_free-requires c =
    let same = c.deref.ensures.value in
    record {
      few = let n = c.self.invariant.few_groups in let l = ap length same in omega (arith, n, l);
      band = subst (λ (ms : List Kept). (g : ℕ) → g < length ms → (map_at ms g).band ≡ c.self.inside.band) (sym same)
          (λ g l. (c.self.invariant.each g l).band_is);
      groups = subst (λ (ms : List Kept). (g : ℕ) → has_member c.args.risk.now g ≡ true → g < length ms) (sym same)
          (subst (λ (v : Sharers). (g : ℕ) → has_member c.args.risk.now g ≡ true → g < v.groups) (sym c.self.view_is)
          c.requires.there.groups);
      fibres = subst (λ (ms : List Kept). (g : ℕ) → g < length ms →
          AllByRecursion (λ f. f < (map_at ms g).fibres) c.args.fibres.now) (sym same)
          (fibres_there c.self.inside.band c.self.inside.fibres c.self.inside.maps.items c.self.inside.added.reserves
          c.self.invariant c.args.fibres.now (subst (λ (v : Sharers). AllByRecursion (λ f. f < v.fibres) c.args.fibres.now)
          (sym c.self.view_is) c.requires.there.fibres));
      units = subst (λ (v : Sharers). lies_in (span_of v.band) c.args.units ≡ true) (sym c.self.view_is)
          c.requires.there.units;
      own = own_there c.args.self.now c.self.inside.band (ap (λ (v : Sharers). v.band) (sym c.self.view_is)) c.args.own c.requires.own;
    }

pub returns-clause-counts : goal.returns-clause-counts
returns-clause-counts c =
    let t = taken c.args.fibres.now c.args.units in
    let groups = subst (λ (v : Sharers). (g : ℕ) → has_member c.args.risk.now g ≡ true → g < v.groups) (sym c.self.view_is)
    c.requires.there.groups in
    c.is_free.ensures.free
    ∙ ap (λ (ms : List Kept). list_all (λ u. not (list_any (λ fibre. bars ms c.args.risk.now c.args.own fibre u)
    c.args.fibres.now)) (units_in c.args.units)) c.deref.ensures.value
    ∙ fits-counts c.self.inside.band c.self.inside.fibres c.self.inside.maps.items c.self.inside.added.reserves
    c.self.invariant c.args.own c.args.risk.now groups t
    ∙ ap (λ (v : Sharers). is_unshared (counts_beside c.args.own (counts_among v.reserves)) c.args.risk.now t) c.self.view_is

pub returns-clause-legs : goal.returns-clause-legs
returns-clause-legs c others are =
    let t = taken c.args.fibres.now c.args.units in
    let groups = subst (λ (v : Sharers). (g : ℕ) → has_member c.args.risk.now g ≡ true → g < v.groups) (sym c.self.view_is)
    c.requires.there.groups in
    c.is_free.ensures.free
    ∙ ap (λ (ms : List Kept). list_all (λ u. not (list_any (λ fibre. bars ms c.args.risk.now c.args.own fibre u)
    c.args.fibres.now)) (units_in c.args.units)) c.deref.ensures.value
    ∙ fits-counts c.self.inside.band c.self.inside.fibres c.self.inside.maps.items c.self.inside.added.reserves
    c.self.invariant c.args.own c.args.risk.now groups t
    ∙ fits-legs c.self.inside.band c.self.inside.fibres c.self.inside.maps.items c.self.inside.added.reserves
    c.self.invariant c.args.own c.args.risk.now groups t c.is_free.ensures.some others
    (subst (λ (v : Sharers). AreOthers c.args.own v.reserves others) (sym c.self.view_is) are)
