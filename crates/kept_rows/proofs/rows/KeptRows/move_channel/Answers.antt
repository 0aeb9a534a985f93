use Rattle.std.proofs.Common.{◌≡◌, ◌∙◌, sym, ap, subst, true, []}
use Rattle.eon_model.specs.Services.{Path, Leg, Holding, working_holding}
use Rattle.eon_model.specs.Occupied.{taken_of}
use Rattle.eon_model.specs.Rows.{Taken, at_each, is_dark, with_lit, without_lit}
use Rattle.spectrum_map.specs.Kept.{Becomes, IsKeptThere, holders_in, lit_in, rows_in, taken}
use Rattle.kept_rows.proofs.HeldLaws.{reserves_none}
use Rattle.kept_rows.proofs.LightLaws.{first_dark, first_lit}
use Rattle.kept_rows.proofs.TurnLaws.{can_be_lit_there, has_moved}
use Rattle.kept_rows.proofs.rows.KeptRows.move_channel.Goals as goal

pub take_lit-requires-clause-lit : goal.take_lit-requires-clause-lit
take_lit-requires-clause-lit c =
    let r = c.args.self.now in
    let l = c.args.leg.now in
    let one = working_holding l in
    let other : Holding = record { route = l.work.route; units = c.args.units.now } in
    let route = ap (λ (p : Path). p.route.fibres) c.work.view_is ∙ ap (λ (l : Leg). l.work.route.fibres) c.leg.view_is in
    let out : taken c.fibres.result.now c.channel_units.result ≡ taken_of one =
    λ i. record { fibres = (c.fibres.ensures ∙ route) i; units = c.channel_units.ensures i } in
    subst (λ (t : Taken). at_each (lit_in r.maps) t ≡ true) (sym out) (first_lit r.maps one [] c.requires.lit_out)

pub add_lit-requires-clause-there : goal.add_lit-requires-clause-there
add_lit-requires-clause-there c =
    let r = c.args.self.now in
    let l = c.args.leg.now in
    let one = working_holding l in
    let other : Holding = record { route = l.work.route; units = c.args.units.now } in
    let route = ap (λ (p : Path). p.route.fibres) c.work.view_is ∙ ap (λ (l : Leg). l.work.route.fibres) c.leg.view_is in
    let out : taken c.fibres.result.now c.channel_units.result ≡ taken_of one =
    λ i. record { fibres = (c.fibres.ensures ∙ route) i; units = c.channel_units.ensures i } in
    let mid = c.take_lit.new.self in
    let dark = subst (λ (t : Taken). Becomes r.maps mid (without_lit t (rows_in r.maps)).lit (holders_in r.maps)) out
    c.take_lit.ensures in
    let new : taken c.fibres-2.result.now c.units_in.result ≡ taken_of other =
    λ i. record { fibres = (c.fibres-2.ensures ∙ route) i; units = c.units_in.ensures i } in
    subst (IsKeptThere mid) (sym new) (can_be_lit_there r one other c.requires mid dark).places.0.there

pub add_lit-requires-clause-dark : goal.add_lit-requires-clause-dark
add_lit-requires-clause-dark c =
    let r = c.args.self.now in
    let l = c.args.leg.now in
    let one = working_holding l in
    let other : Holding = record { route = l.work.route; units = c.args.units.now } in
    let route = ap (λ (p : Path). p.route.fibres) c.work.view_is ∙ ap (λ (l : Leg). l.work.route.fibres) c.leg.view_is in
    let out : taken c.fibres.result.now c.channel_units.result ≡ taken_of one =
    λ i. record { fibres = (c.fibres.ensures ∙ route) i; units = c.channel_units.ensures i } in
    let mid = c.take_lit.new.self in
    let dark = subst (λ (t : Taken). Becomes r.maps mid (without_lit t (rows_in r.maps)).lit (holders_in r.maps)) out
    c.take_lit.ensures in
    let new : taken c.fibres-2.result.now c.units_in.result ≡ taken_of other =
    λ i. record { fibres = (c.fibres-2.ensures ∙ route) i; units = c.units_in.ensures i } in
    subst (λ (t : Taken). is_dark (rows_in mid) t ≡ true) (sym new)
    (first_dark mid other [] (can_be_lit_there r one other c.requires mid dark))

pub returns : goal.returns
returns c =
    let r = c.args.self.now in
    let l = c.args.leg.now in
    let one = working_holding l in
    let other : Holding = record { route = l.work.route; units = c.args.units.now } in
    let route = ap (λ (p : Path). p.route.fibres) c.work.view_is ∙ ap (λ (l : Leg). l.work.route.fibres) c.leg.view_is in
    let out : taken c.fibres.result.now c.channel_units.result ≡ taken_of one =
    λ i. record { fibres = (c.fibres.ensures ∙ route) i; units = c.channel_units.ensures i } in
    let mid = c.take_lit.new.self in
    let dark = subst (λ (t : Taken). Becomes r.maps mid (without_lit t (rows_in r.maps)).lit (holders_in r.maps)) out
    c.take_lit.ensures in
    let new : taken c.fibres-2.result.now c.units_in.result ≡ taken_of other =
    λ i. record { fibres = (c.fibres-2.ensures ∙ route) i; units = c.units_in.ensures i } in
    let after = c.add_lit.new.self in
    has_moved r one other c.requires mid dark after
    (subst (λ (t : Taken). Becomes mid after (with_lit t (rows_in mid)).lit (holders_in mid)) new c.add_lit.ensures)
    (reserves_none r.sharing)
