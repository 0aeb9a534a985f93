-- What each kind of line makes of what the lines before have told.
use Rattle.std.specs.Prelude.{◌≡◌, ⊤, ℕ, nat_le, ◌==◌, ℤ, pos, ◌+ℤ◌, ◌-ℤ◌, int_le, Bool, true, false, ◌&&◌, ◌||◌, not, List, [], ◌∷◌, ◌++◌, length, drop, Option, Some, None, Result, Ok, Err, if◌then◌else◌}
use Rattle.std.specs.List.{list_all}
use Rattle.std.specs.Option.{is_none}
use Rattle.eon_model.specs.Grid.{Units, Band, is_units, span_of}
use Rattle.eon_model.specs.Names.{Name, has_name, is_name}
use Rattle.eon_model.specs.Network.{Network}
use Rattle.eon_model.specs.Formats.{Format}
use Rattle.eon_model.specs.Numerals.{is_within}
use Rattle.eon_model.specs.Legal.{Setup}
use Rattle.eon_model.specs.NetworkFault.{Fields, field_at, word_spelled, may_stand_after, is_end}
use Rattle.eon_model.specs.NetworkFault as model
use Rattle.flex_grid.specs.Makes.{band_from, band_with}
use Rattle.reach_table.specs.Tables.{format_names}
use Rattle.net_file.specs.Readings.{is_nil}
use Rattle.net_graph.specs.declared.graph.GraphFault.{GraphFault}
use Rattle.net_graph.specs.declared.graph.GraphFault.TheVariants as graph
use Rattle.net_graph.specs.Graph.{node_fault, with_node, fibre_fault, fibre_between, with_fibre, group_fault, group_named, with_group}
use Rattle.net_file.specs.declared.fault.Why.{Why}
use Rattle.net_file.specs.declared.fault.Why.TheVariants as why
use Rattle.net_file.specs.declared.fault.LineFault.{LineFault}
use Rattle.net_file.specs.declared.fault.LineFault.TheVariants as fault
use Rattle.net_file.specs.declared.line_words.FibreWords.{FibreWords}
use Rattle.net_file.specs.declared.line_words.FormatWords.{FormatWords}
use Rattle.net_file.specs.LineWords.{number_in, ranged, band_words, format_words, node_words, fibre_words}

-- ---- answers

-- no memory, or the cause that was told
abbrev pub IsFaultOf : {A : Type 0} → LineFault → Result A Why → Type 0
IsFaultOf fault.Memory r = ⊤
IsFaultOf (fault.Cause w) r = r ≡ Err w

-- with what was read, and its fault where nothing was
abbrev pub on_ok : {A B : Type 0} → (A → Result B Why) → Result A Why → Result B Why
on_ok f (Err w) = Err w
on_ok f (Ok x) = f x

-- the value, or the first fault that it has
abbrev pub unless_fault : {A : Type 0} → Option Why → A → Result A Why
unless_fault None x = Ok x
unless_fault (Some w) x = Err w

-- the cause that a fault of the graph is; want of memory is none
abbrev pub graph_why : GraphFault → Option Why
graph_why graph.Memory = None
graph_why graph.Many = Some why.Many
graph_why graph.Order = Some why.Order
graph_why graph.Unknown = Some why.Unknown
graph_why graph.SelfEnd = Some why.SelfEnd
graph_why graph.Twice = Some why.Twice
graph_why graph.Groups = Some why.Groups

abbrev pub graph_whys : Option GraphFault → Option Why
graph_whys None = None
graph_whys (Some f) = graph_why f

-- what the reader tells of it
abbrev pub fault_of : Option Why → LineFault
fault_of None = fault.Memory
fault_of (Some w) = fault.Cause w

-- ---- the kinds of lines

abbrev pub units_between : ℤ × ℤ → Units
units_between ends = record { lo = ends.0; hi = ends.1 }

-- the parts of a band that is told so far
abbrev pub parts_of : Option Band → Band
parts_of None = []
parts_of (Some band) = band

-- in a text of more parts than one, a first part leaves room for a second
abbrev pub leaves_room : Units → Bool
leaves_room part = int_le (part.hi -ℤ part.lo) (pos 1021) && int_le part.hi (pos 4093)

-- whether the part may stand there, by its units and those of the parts before
abbrev pub is_in_reach : ℕ → Option Band → Units → Bool
is_in_reach version None part = not (version == 2) || leaves_room part
is_in_reach version (Some band) part = int_le (part.hi -ℤ (span_of band).lo) (pos 1023)

-- no unit lies between the part and those before
abbrev pub touches : Band → Units → Bool
touches band part = not (int_le ((span_of band).hi +ℤ pos 2) part.lo)

-- the band, if it is one
abbrev pub if_band : Option Band → Result Band Why
if_band None = Err why.Range
if_band (Some band) = Ok band

-- the band with a part that is in reach
abbrev pub with_part : Option Band → Units → Result Band Why
with_part None part = if_band (band_from part.lo part.hi)
with_part (Some band) part =
    if nat_le 8 (length band) then Err why.Many
    else if touches band part then Err why.Order
    else if_band (band_with band part.lo part.hi)

abbrev pub part_step : ℕ → Option Band → Units → Result Band Why
part_step version band part = if is_in_reach version band part then with_part band part else Err why.Range

-- the units that the fields tell
unfoldable pub units_step : Fields → Result Units Why
units_step fields =
    on_ok (λ ends. Ok (units_between ends)) (ranged (λ ends. is_units (units_between ends)) (band_words fields))

unfoldable pub band_step : ℕ → Option Band → Fields → Result Band Why
band_step version band fields = on_ok (part_step version band) (units_step fields)

abbrev pub format_of : FormatWords → Format
format_of f = record { name = f.name; reach = f.reach; per = f.per }

abbrev pub has_format_ranges : FormatWords → Bool
has_format_ranges f = is_within 1 100000 f.reach && is_within 1 10000 f.per

abbrev pub format_why : List Format → Name → Option Why
format_why rows name =
    if nat_le 64 (length rows) then Some why.Many
    else if has_name (format_names rows) name then Some why.Twice
    else None

unfoldable pub format_step : List Format → Fields → Result (List Format) Why
format_step rows fields =
    on_ok (λ f. unless_fault (format_why rows f.name) (rows ++ format_of f ∷ []))
    (ranged has_format_ranges (format_words fields))

-- any that is read
abbrev pub is_any : {A : Type 0} → A → Bool
is_any x = true

unfoldable pub node_step : Network → Fields → Result Network Why
node_step net fields =
    on_ok (λ name. unless_fault (graph_whys (node_fault net name)) (with_node net name))
    (ranged is_any (node_words fields))

abbrev pub has_fibre_range : FibreWords → Bool
has_fibre_range f = is_within 1 100000 f.km

unfoldable pub fibre_step : Network → Fields → Result Network Why
fibre_step net fields =
    on_ok (λ f. unless_fault (graph_whys (fibre_fault net f.name f.a f.b))
    (with_fibre net (fibre_between net f.name f.a f.b f.km)))
    (ranged has_fibre_range (fibre_words fields))

-- a name and one or more
abbrev pub group_words : Fields → Option (Name × List Name)
group_words [] = None
group_words (name ∷ []) = None
group_words (name ∷ first ∷ members) =
    if is_name name && list_all is_name (first ∷ members) then Some (name, first ∷ members) else None

unfoldable pub group_step : Network → Fields → Result Network Why
group_step net fields =
    on_ok (λ g. unless_fault (graph_whys (group_fault net g.0 g.1)) (with_group net (group_named net g.0 g.1)))
    (ranged is_any (group_words fields))

-- ---- the setup so far

-- What the lines so far have told: the version of the text, and the numbers and lists of a setup.
pub record SoFar : Type 0 where
  pub version : ℕ
  pub band : Option Band
  pub guard : ℕ
  pub k : ℕ
  pub services : ℕ
  pub journal : ℕ
  pub formats : List Format
  pub network : Network

-- the setup of it
abbrev pub setup_told : SoFar → Setup
setup_told s = record {
  band = parts_of s.band;
  guard = s.guard;
  k = s.k;
  services = s.services;
  journal = s.journal;
  formats = s.formats;
  network = s.network;
}

-- The word of the last line, and what was told in its place.
pub record Sheet : Type 0 where
  pub last : Option model.Word
  pub setup : SoFar

abbrev pub with_formats : SoFar → List Format → SoFar
with_formats s rows = record {
  version = s.version;
  band = s.band;
  guard = s.guard;
  k = s.k;
  services = s.services;
  journal = s.journal;
  formats = rows;
  network = s.network;
}

abbrev pub with_network : SoFar → Network → SoFar
with_network s net = record {
  version = s.version;
  band = s.band;
  guard = s.guard;
  k = s.k;
  services = s.services;
  journal = s.journal;
  formats = s.formats;
  network = net;
}

-- what the fields behind the word make of it
unfoldable pub setup_step : model.Word → SoFar → Fields → Result SoFar Why
setup_step model.Net s fields =
    on_ok (λ n. Ok (record {
      version = n;
      band = s.band;
      guard = s.guard;
      k = s.k;
      services = s.services;
      journal = s.journal;
      formats = s.formats;
      network = s.network;
    })) (number_in 1 2 fields)
setup_step model.Band s fields =
    on_ok (λ band. Ok (record {
      version = s.version;
      band = Some band;
      guard = s.guard;
      k = s.k;
      services = s.services;
      journal = s.journal;
      formats = s.formats;
      network = s.network;
    })) (band_step s.version s.band fields)
setup_step model.Guard s fields =
    on_ok (λ n. Ok (record {
      version = s.version;
      band = s.band;
      guard = n;
      k = s.k;
      services = s.services;
      journal = s.journal;
      formats = [];
      network = s.network;
    })) (number_in 0 64 fields)
setup_step model.K s fields =
    on_ok (λ n. Ok (record {
      version = s.version;
      band = s.band;
      guard = s.guard;
      k = n;
      services = s.services;
      journal = s.journal;
      formats = s.formats;
      network = s.network;
    })) (number_in 1 16 fields)
setup_step model.Services s fields =
    on_ok (λ n. Ok (record {
      version = s.version;
      band = s.band;
      guard = s.guard;
      k = s.k;
      services = n;
      journal = s.journal;
      formats = s.formats;
      network = s.network;
    })) (number_in 1 4096 fields)
setup_step model.Journal s fields =
    on_ok (λ n. Ok (record {
      version = s.version;
      band = s.band;
      guard = s.guard;
      k = s.k;
      services = s.services;
      journal = n;
      formats = s.formats;
      network = s.network;
    })) (number_in 4096 67108864 fields)
setup_step model.Format s fields = on_ok (λ rows. Ok (with_formats s rows)) (format_step s.formats fields)
setup_step model.Node s fields = on_ok (λ net. Ok (with_network s net)) (node_step s.network fields)
setup_step model.Fibre s fields = on_ok (λ net. Ok (with_network s net)) (fibre_step s.network fields)
setup_step model.Group s fields = on_ok (λ net. Ok (with_network s net)) (group_step s.network fields)
setup_step model.End s fields = if is_nil fields then Ok s else Err why.Form

-- whether the line `end` has come
abbrev pub has_end : Option model.Word → Bool
has_end None = false
has_end (Some w) = is_end w

-- in version 2 a second part stands behind the first, and in version 1 none
abbrev pub has_its_parts : SoFar → model.Word → Bool
has_its_parts s model.Band = is_none s.band || (s.version == 2)
has_its_parts s model.Guard = not (s.version == 2) || nat_le 2 (length (parts_of s.band))
has_its_parts s _ = true

-- whether a line with the word may come next
abbrev pub may_come : Sheet → model.Word → Bool
may_come s w = may_stand_after s.last w && has_its_parts s.setup w

abbrev pub told_by : model.Word → SoFar → Sheet
told_by w s = record { last = Some w; setup = s }

abbrev pub word_step : Sheet → Option model.Word → Fields → Result Sheet Why
word_step s None fields = Err why.Word
word_step s (Some w) fields =
    if may_come s w then on_ok (λ setup. Ok (told_by w setup)) (setup_step w s.setup fields)
    else Err why.Word

-- what a line makes of it, or why it is wrong
unfoldable pub line_step : Sheet → Fields → Result Sheet Why
line_step s fields =
    if has_end s.last then Err why.Rest else word_step s (word_spelled (field_at fields 0)) (drop 1 fields)
