-- Whose fibres and ends are the network's.
use Rattle.std.specs.Prelude.{◌<◌, length, IfSome}
use Rattle.eon_model.specs.Network.{Network, AreFibres}
use Rattle.eon_model.specs.Services.{Path, Leg, Service}

-- a path on the network's fibres
abbrev pub PathInRange : Network → Path → Type 0
PathInRange net p = AreFibres net.fibres p.route.fibres

-- a leg on them
pub record LegInRange (net : Network) (l : Leg) : Type 0 where
  pub working : PathInRange net l.work
  pub spare : IfSome l.back (PathInRange net)

-- a service on them, between nodes of the network
pub record ServiceInRange (net : Network) (s : Service) : Type 0 where
  pub from : s.src < length net.nodes
  pub till : s.dst < length net.nodes
  pub carried : LegInRange net s.leg
  pub second : IfSome s.next (LegInRange net)
