use Rattle.std.proofs.Common.{sym, subst, ℕ, ◌≤◌, List}
use Rattle.std.specs.Prelude.{All}
use Rattle.make_room.proofs.SettleSteps.{settled_by}
use Rattle.make_room.proofs.EachLaws.{begins_small}
use Rattle.make_room.proofs.sweeps.extremes.Goals as goal

pub settled-requires-clause-few : goal.settled-requires-clause-few
settled-requires-clause-few c =
    subst (λ (xs : List ℕ). All (λ h. h ≤ 8192) xs) (sym c.deref-3.ensures.value)
    (begins_small c.args.from c.args.services.now.list c.in_ok-starts.starts.items c.in_ok-starts.ensures)

pub returns : goal.returns
returns c = record {
  starts = c.in_ok-starts.starts.items;
  starts_are = c.in_ok-starts.ensures;
  limits = c.in_ok-limits.limits.items;
  limits_are = c.in_ok-limits.ensures;
  settles = settled_by c.args.services.now.list c.deref.result.now c.in_ok-starts.starts.items c.deref-2.result.now
      c.in_ok-limits.limits.items c.deref-3.result.now c.in_ok-starts.starts.items c.in_ok-heights.heights.items
      c.deref.ensures.value c.deref-2.ensures.value c.deref-3.ensures.value c.in_ok-heights.ensures;
}
