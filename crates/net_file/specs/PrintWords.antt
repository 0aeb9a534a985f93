-- The texts of parts by their numbers.
use Rattle.std.specs.Prelude.{ℕ, zero, suc, List, [], ◌∷◌, ◌++◌, slice_get, codes, if◌then◌else◌}
use Rattle.std.specs.Option.{unwrap_or}
use Rattle.std.specs.List.{flat_map}
use Rattle.eon_model.specs.Legal.{Setup}
use Rattle.eon_model.specs.NetworkText.{number_line, band_line, version_of}
use Rattle.eon_model.specs.Lists.{has_number}
use Rattle.eon_model.specs.Network.{Network, Group, fibre_at}
use Rattle.eon_model.specs.Formats.{Format}
use Rattle.line_writer.specs.Words.{behind}

-- ---- by number

-- the texts of the numbers below n, one after another
abbrev pub each_below : (ℕ → List ℕ) → ℕ → List ℕ
each_below text zero = []
each_below text (suc n) = each_below text n ++ text n

-- the format past the last number
abbrev pub no_format : Format
no_format = record { name = []; reach = 0; per = 0 }

-- the format of this number
abbrev pub format_at : List Format → ℕ → Format
format_at formats i = unwrap_or (slice_get formats i) no_format

-- the group past the last number
abbrev pub no_group : Group
no_group = record { name = []; fibres = [] }

-- the named group of this number
abbrev pub group_at : List Group → ℕ → Group
group_at groups i = unwrap_or (slice_get groups i) no_group

-- the fibre's name behind a space, where the named group holds it
abbrev pub member_text : Network → ℕ → ℕ → List ℕ
member_text net group fibre =
    if has_number (group_at net.groups group).fibres fibre then behind ((fibre_at net.fibres fibre).name ∷ []) else []

-- ---- the front

-- the lines before the formats
abbrev pub front_text : Setup → List ℕ
front_text s =
    number_line (codes "net") (version_of s.band)
    ++ flat_map band_line s.band
    ++ number_line (codes "guard") s.guard
    ++ number_line (codes "k") s.k
    ++ number_line (codes "services") s.services
    ++ number_line (codes "journal") s.journal
