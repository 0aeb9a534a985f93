use Rattle.std.proofs.Common.{sym, subst, ℕ, ◌≤◌, List}
use Rattle.std.specs.Prelude.{All}
use Rattle.make_room.specs.Targets.{bounds_from}
use Rattle.make_room.proofs.SettleSteps.{settled_by}
use Rattle.make_room.proofs.EachLaws.{bounds_small}
use Rattle.make_room.proofs.targets.clear.Goals as goal

pub settled-requires-clause-few : goal.settled-requires-clause-few
settled-requires-clause-few c =
    subst (λ (xs : List ℕ). All (λ h. h ≤ 8192) xs) (sym c.deref-3.ensures.value)
    (bounds_small (bounds_from c.args.from c.args.lows.now c.args.highs.now) c.args.services.now.list
    c.in_ok-caps.caps.items c.in_ok-caps.ensures)

pub returns : goal.returns
returns c = record {
  starts = c.in_ok-starts.starts.items;
  starts_are = c.in_ok-starts.ensures;
  limits = c.in_ok-limits.limits.items;
  limits_are = c.in_ok-limits.ensures;
  caps = c.in_ok-caps.caps.items;
  caps_are = c.in_ok-caps.ensures;
  settles = settled_by c.args.services.now.list c.deref.result.now c.in_ok-starts.starts.items c.deref-2.result.now
      c.in_ok-limits.limits.items c.deref-3.result.now c.in_ok-caps.caps.items c.in_ok-heights.heights.items
      c.deref.ensures.value c.deref-2.ensures.value c.deref-3.ensures.value c.in_ok-heights.ensures;
}
