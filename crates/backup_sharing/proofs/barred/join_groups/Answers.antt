use Rattle.std.proofs.Common.{◌∙◌, ℕ, ℤ, ◌&&◌, ◌||◌, not, nat_eq, arith}
use Rattle.std.proofs.lemmas.List.{get_or_default}
use Rattle.spectrum_map.specs.Bits.{bit_of}
use Rattle.spectrum_map.specs.Kept.{is_unit_that, holders_in}
use Rattle.backup_sharing.specs.Shared.{map_at, blank, own_on, but_own}
use Rattle.backup_sharing.proofs.BarLaws.{groups_none, groups_more, groups_all}
use Rattle.backup_sharing.proofs.barred.join_groups.Goals as goal

pub loop-group-init : goal.loop-group-init
loop-group-init c i =
    groups_none c.args.band.now c.args.risk.now (λ (g : ℕ) (u : ℤ). not (nat_eq (but_own (own_on c.args.own.now g c.args.fibre) u (holders_in (map_at c.args.maps.now g) c.args.fibre u)) 0))
    (bit_of c.args.row.now.words i) i

pub returns : goal.returns
returns c i =
    c.loop-group.invariant i
    ∙ groups_all c.args.band.now c.args.risk.now (λ (g : ℕ) (u : ℤ). not (nat_eq (but_own (own_on c.args.own.now g c.args.fibre) u (holders_in (map_at c.args.maps.now g) c.args.fibre u)) 0))
    c.loop-group.group (bit_of c.args.row.now.words i) i
    (λ g h. let near = c.requires.groups g h in let far = c.loop-group-test.false in omega (arith, near, far))

pub loop-group-preserved : goal.loop-group-preserved
loop-group-preserved c i =
    let n = c.loop-group.group in
    let fibre = c.args.fibre in
    let maps = c.args.maps.now in
    let own = c.args.own.now in
    let same = c.index-maps-group.is ∙ get_or_default maps n c.index-maps-group.result blank c.loop-group-test.true in
    c.join_where.ensures i
    ∙ (λ k. c.loop-group.invariant i k || (c.has.ensures k && is_unit_that c.args.band.now
    (λ u. not (nat_eq (but_own (own_on own n fibre) u (holders_in (same k) fibre u)) 0)) i))
    ∙ groups_more c.args.band.now c.args.risk.now (λ (g : ℕ) (u : ℤ). not (nat_eq (but_own (own_on own g fibre) u (holders_in (map_at maps g) fibre u)) 0))
    n (bit_of c.args.row.now.words i) i
