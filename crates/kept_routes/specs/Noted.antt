-- What a note holds before anything was noted.
use Rattle.std.specs.Prelude.{[]}
use Rattle.eon_model.specs.Legal.{Setup}

-- the network of no node
abbrev pub no_setup : Setup
no_setup = record {
  band = [];
  guard = 0;
  k = 0;
  services = 0;
  journal = 0;
  formats = [];
  network = record { nodes = []; fibres = []; groups = [] };
}
