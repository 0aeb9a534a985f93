use Rattle.std.proofs.Common.{◌≡◌, ◌∙◌, sym, ap, subst, true, Option}
use Rattle.eon_model.specs.Services.{Path, Leg, working_holding}
use Rattle.eon_model.specs.Occupied.{taken_of}
use Rattle.eon_model.specs.Rows.{Taken, at_each, without_lit}
use Rattle.spectrum_map.specs.Kept.{Becomes, IsKeptThere, holders_in, lit_in, rows_in, taken}
use Rattle.kept_rows.specs.Standing.{CanGoDark, IsDarkBy, holdings_of, lit_backup}
use Rattle.kept_rows.proofs.LightLaws.{lit_by_is, first_lit, rest_lit, dark_more}
use Rattle.kept_rows.proofs.dark.darken.Goals as goal

pub channel_units-requires : goal.channel_units-requires
channel_units-requires c =
    (subst (CanGoDark c.args.maps.now) (lit_by_is c.args.class c.args.leg.now) c.requires).places.0.grid

pub take_lit-requires : goal.take_lit-requires
take_lit-requires c =
    let l = c.args.leg.now in
    let k = c.args.maps.now in
    let can = subst (CanGoDark k) (lit_by_is c.args.class l) c.requires in
    let fs = c.fibres.ensures ∙ ap (λ (p : Path). p.route.fibres) c.work.view_is
    ∙ ap (λ (l : Leg). l.work.route.fibres) c.leg.view_is in
    let t : taken c.fibres.result.now c.channel_units.result ≡ taken_of (working_holding l) =
    λ i. record { fibres = fs i; units = c.channel_units.ensures i } in
    record {
      there = subst (IsKeptThere k) (sym t) can.places.0.there;
      lit = subst (λ (t : Taken). at_each (lit_in k) t ≡ true) (sym t)
          (first_lit k (working_holding l) (holdings_of (lit_backup c.args.class l)) can);
    }

pub darken_path-requires : goal.darken_path-requires
darken_path-requires c =
    let l = c.args.leg.now in
    let k = c.args.maps.now in
    let mid = c.take_lit.new.self in
    let can = subst (CanGoDark k) (lit_by_is c.args.class l) c.requires in
    let fs = c.fibres.ensures ∙ ap (λ (p : Path). p.route.fibres) c.work.view_is
    ∙ ap (λ (l : Leg). l.work.route.fibres) c.leg.view_is in
    let t : taken c.fibres.result.now c.channel_units.result ≡ taken_of (working_holding l) =
    λ i. record { fibres = fs i; units = c.channel_units.ensures i } in
    subst (λ (o : Option Path). CanGoDark mid (holdings_of o)) (sym c.lit_backup.ensures)
    (rest_lit k mid (working_holding l) (holdings_of (lit_backup c.args.class l)) can
    (subst (λ (t : Taken). Becomes k mid (without_lit t (rows_in k)).lit (holders_in k)) t c.take_lit.ensures))

pub returns : goal.returns
returns c =
    let l = c.args.leg.now in
    let k = c.args.maps.now in
    let mid = c.take_lit.new.self in
    let after = c.darken_path.new.maps in
    let fs = c.fibres.ensures ∙ ap (λ (p : Path). p.route.fibres) c.work.view_is
    ∙ ap (λ (l : Leg). l.work.route.fibres) c.leg.view_is in
    let t : taken c.fibres.result.now c.channel_units.result ≡ taken_of (working_holding l) =
    λ i. record { fibres = fs i; units = c.channel_units.ensures i } in
    subst (IsDarkBy k after) (sym (lit_by_is c.args.class l))
    (dark_more k mid after (working_holding l) (holdings_of (lit_backup c.args.class l))
    (subst (λ (t : Taken). Becomes k mid (without_lit t (rows_in k)).lit (holders_in k)) t c.take_lit.ensures)
    (subst (λ (o : Option Path). IsDarkBy mid after (holdings_of o)) c.lit_backup.ensures c.darken_path.ensures))
