-- These are the rivals among the services so far.
use Rattle.live_failure.specs.Rivals.{AreRivals}
use Rattle.live_failure.proofs.exposing.rivals_of.Given as goal

abbrev pub invariant-loop-place : goal.invariant-loop-place
invariant-loop-place l = AreRivals l.services.list l.place l.own l.places.items
