-- A network that was read, with the bytes of its file, or its digest.
use Rattle.std.proofs.Common.{ℕ, List, Option, Result, Ok, Err}
use Rattle.eon_model.specs.Legal.{Setup}
use Rattle.eon_outside.specs.Reading.{NamedFiles}
use Rattle.plan_serve.specs.declared.status.Status.{Status}
use Rattle.plan_serve.specs.Files.{ReadsNetwork, ReadsText}

pub network_read : (files : Option NamedFiles) (name : List ℕ) (before now : ℕ) (text : List ℕ)
    (r : Result Setup Status) → ReadsText files name before now text r → ReadsNetwork files name before now r
network_read files name before now text (Ok setup) h = (h.0, (text, h.1, h.2))
network_read files name before now text (Err status) h = h
