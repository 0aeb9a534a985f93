use Rattle.std.proofs.Common.{◌≡◌, sym, ◌∙◌, ap, subst, ℕ, List, true}
use Rattle.eon_model.specs.Grid.{Band, units_of, is_slot, is_band}
use Rattle.eon_model.specs.Services.{Path}
use Rattle.make_room.specs.declared.heights.Side.TheVariants.{Floor, Ceiling}
use Rattle.make_room.specs.Sweeps.{SettlesLeast, SettlesClear}
use Rattle.make_room.specs.Sides.{goes_so}
use Rattle.make_room.proofs.TargetsAre.{lows_are, highs_are, downs_are, ups_are}
use Rattle.make_room.proofs.targets.room_targets.Goals as goal

pub returns-clause-targets : goal.returns-clause-targets
returns-clause-targets c setup of_band banded legal rest =
    let state = c.args.services.now.list in
    let block = c.args.block.now in
    let lts = c.in_ok-lows.lows.items in
    let hts = c.in_ok-highs.highs.items in
    let dts = c.in_ok-downs.downs.items in
    let uts = c.in_ok-ups.ups.items in
    let sl = subst (λ (b : Band). SettlesLeast Floor b state lts) (sym of_band) c.in_ok-lows.ensures in
    let sh = subst (λ (b : Band). SettlesLeast Ceiling b state hts) (sym of_band) c.in_ok-highs.ensures in
    let ok = subst (λ (b : Band). is_band b ≡ true) (sym of_band) banded in
    let slot : is_slot block.slot ≡ true = ap (λ (p : Path). is_slot p.slot) (sym c.block.view_is) ∙ c.m.ensures.valid in
    let units = units_of block.slot in
    record {
      lowest = lows_are setup state rest legal ok block slot lts hts dts uts sl sh;
      highest = highs_are setup state rest legal ok block slot lts hts dts uts sl sh;
      down = downs_are setup state rest legal ok block slot lts hts dts uts sl sh
          (subst (λ (xs : List ℕ). SettlesClear Ceiling state units (goes_so Ceiling block xs hts) xs dts)
          c.deref.ensures.value
          (subst (λ (ys : List ℕ). SettlesClear Ceiling state units (goes_so Ceiling block c.deref.result.now ys)
          c.deref.result.now dts) c.deref-2.ensures.value c.in_ok-downs.ensures));
      up = ups_are setup state rest legal ok block slot lts hts dts uts sl sh
          (subst (λ (ys : List ℕ). SettlesClear Floor state units (goes_so Floor block lts ys) ys uts)
          c.deref-4.ensures.value
          (subst (λ (xs : List ℕ). SettlesClear Floor state units (goes_so Floor block xs c.deref-4.result.now)
          c.deref-4.result.now uts) c.deref-3.ensures.value c.in_ok-ups.ensures));
    }

pub returns-clause-heights : goal.returns-clause-heights
returns-clause-heights c =
    let lows = c.in_ok-lows.ensures in
    let highs = c.in_ok-highs.ensures in
    let downs = c.in_ok-downs.ensures in
    let ups = c.in_ok-ups.ensures in
    record {
      lows = record { long = lows.settles.places; small = lows.settles.small };
      highs = record { long = highs.settles.places; small = highs.settles.small };
      downs = record { long = downs.settles.places; small = downs.settles.small };
      ups = record { long = ups.settles.places; small = ups.settles.small };
    }
