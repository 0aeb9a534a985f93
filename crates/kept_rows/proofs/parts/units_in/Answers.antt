use Rattle.std.proofs.Common.{◌≡◌, ◌∙◌, sym, to_z, of_z, w16, arith}
use Rattle.std.proofs.lemmas.Int.{ints}
use Rattle.flex_grid.specs.Makes.{units_from}
use Rattle.kept_rows.proofs.StandLaws.{grid_range, made_of}
use Rattle.kept_rows.proofs.parts.units_in.Goals as goal

pub short-requires : goal.short-requires
short-requires c =
    let s = c.args.span.now in
    let r = grid_range s c.requires in
    let a = r.0 in
    let b = r.1.0 in
    let d = r.1.1 in
    let lo = c.lo.ensures in
    record { low = omega (arith, ints); high = omega (arith, ints) }

pub short-requires-2 : goal.short-requires-2
short-requires-2 c =
    let s = c.args.span.now in
    let r = grid_range s c.requires in
    let a = r.0 in
    let b = r.1.0 in
    let d = r.1.1 in
    let hi = c.hi.ensures in
    record { low = omega (arith, ints); high = omega (arith, ints) }

pub returns : goal.returns
returns c =
    let s = c.args.span.now in
    let lo : to_z w16 (of_z w16 c.short.result) ≡ s.lo =
    let a = c.short.ensures in let b = c.lo.ensures in omega (arith, ints) in
    let hi : to_z w16 (of_z w16 c.short-2.result) ≡ s.hi =
    let a = c.short-2.ensures in let b = c.hi.ensures in omega (arith, ints) in
    made_of c.in-Some.units s ((λ i. units_from (sym lo i) (sym hi i)) ∙ sym c.make.ensures.value ∙ c.in-Some.is) c.requires
