-- What a network is narrower in, in the planner's definitions.
use Rattle.std.specs.Prelude.{Bool, bytes_eq}
use Rattle.eon_model.specs.Network.{Group}
use Rattle.eon_model.specs.Wider.{Wide}
use Rattle.net_widening.specs.declared.narrower.Narrower.{Narrower}
use Rattle.net_widening.specs.declared.narrower.Narrower.TheVariants as narrower

abbrev pub wide_told : Narrower → Wide
wide_told narrower.Guard = Wide.Guard
wide_told narrower.Services = Wide.Services
wide_told narrower.Journal = Wide.Journal
wide_told narrower.Format = Wide.Format
wide_told narrower.Node = Wide.Node
wide_told narrower.Fibre = Wide.Fibre
wide_told narrower.Group = Wide.Group
wide_told narrower.Band = Wide.Band

-- whether the groups hold the same fibres
abbrev pub same_members : Group → Group → Bool
same_members g h = bytes_eq g.fibres h.fibres
