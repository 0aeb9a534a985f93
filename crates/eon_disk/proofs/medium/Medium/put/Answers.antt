use Rattle.std.proofs.Common.{◌≤◌, sym, subst, length}
use Rattle.eon_disk.specs.HeldBytes.{Roomy}
use Rattle.eon_disk.proofs.RangeLaws.{image-written, ranges-pushed}
use Rattle.eon_disk.proofs.medium.Medium.put.Goals as goal

pub invariant_of-self : goal.invariant_of-self
invariant_of-self c =
    let inside = c.self.inside in
    let track = inside.moments.track in
    let within = subst (λ (m : Roomy). c.args.at ≤ length m.held.bytes) (sym c.self.view_is) c.requires.within in (
      image-written track c.wrote.new.self.track inside.bytes.items c.put_piece.new.bytes.items c.args.piece.now c.args.at
          c.self.invariant.0 within c.wrote.ensures c.put_piece.ensures.items,
      ranges-pushed (λ r. (r.at, r.count)) inside.ranges.items c.push.new.self.items
          (record { at = c.args.at; count = length c.args.piece.now }) track c.wrote.new.self.track c.self.invariant.1
          c.in-Ok.ensures.items c.wrote.ensures,
    )
