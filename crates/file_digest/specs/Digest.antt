-- The digest of a file.
use Rattle.std.specs.Prelude.{ℕ, List}
use Rattle.sha2.specs.Sha256.{sha256}

-- SHA-256, of FIPS 180-4
abbrev pub digest : List ℕ → List ℕ
digest bytes = sha256 bytes
