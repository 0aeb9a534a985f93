-- A walk over the names of a list of fibres.
use Rattle.std.specs.Prelude.{List, []}
use Rattle.std.specs.Option.{unwrap_or}
use Rattle.eon_model.specs.Names.{Name}
use Rattle.command_text.specs.declared.fibre_names.FibreWalk.{FibreWalk}

-- the names that it has not come to
abbrev pub names_left : FibreWalk → List Name
names_left walk = unwrap_or walk.rest []
