-- The hits of the services so far are listed.
use Rattle.std.proofs.Common.{◌≡◌, ◌++◌, drop}
use Rattle.eon_model.specs.Listings.{hits_of}
use Rattle.failure_drill.proofs.drilling.all_hits.Given as goal

abbrev pub invariant-loop-i : goal.invariant-loop-i
invariant-loop-i l = l.hits.items ++ hits_of l.group (drop l.i l.services.list) ≡ hits_of l.group l.services.list
