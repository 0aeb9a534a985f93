-- The report of a state, as JSON.
use Rattle.std.specs.Prelude.{ℕ, ℤ, [], ◌∷◌, map, codes, Option, Some, None}
use Rattle.serde_json.specs.Data.{Data, null, number, unsigned, string, array, object, member, no_members}
use Rattle.serde_json.specs.Find.{of_integer}
use Rattle.serde_json.specs.View.{items_of}
use Rattle.eon_model.specs.Grid.{Units, span_of}
use Rattle.eon_model.specs.Network.{Network, fibre_at, name_at}
use Rattle.eon_model.specs.Services.{Path, Leg, Service, State, legs_of}
use Rattle.eon_model.specs.Legal.{Setup}
use Rattle.eon_model.specs.Listings.{centre_mhz, class_word, totals}
use Rattle.eon_model.specs.Replies.{Totals}

-- a whole number
abbrev pub integer_data : ℤ → Data
integer_data z = number (of_integer z)

-- the name of a fibre
abbrev pub fibre_data : Network → ℕ → Data
fibre_data net i = string (fibre_at net.fibres i).name

-- what is there, or null
abbrev pub data_or_null : {X : Type 0} → (X → Data) → Option X → Data
data_or_null told None = null
data_or_null told (Some x) = told x

abbrev pub path_data : Network → Path → Data
path_data net p = object (
    member (codes "centre_mhz") (integer_data (centre_mhz p.slot.n)) (
    member (codes "fibres") (array (items_of (map (fibre_data net) p.route.fibres))) (
    member (codes "km") (number (unsigned p.route.km)) (
    member (codes "m") (number (unsigned p.slot.m)) (
    member (codes "n") (integer_data p.slot.n) no_members)))))

abbrev pub leg_data : Network → Leg → Data
leg_data net l = object (
    member (codes "back") (data_or_null (path_data net) l.back) (
    member (codes "to") (data_or_null integer_data l.to) (
    member (codes "work") (path_data net l.work) no_members)))

abbrev pub service_data : Network → Service → Data
service_data net s = object (
    member (codes "class") (string (class_word s.class)) (
    member (codes "dst") (string (name_at net.nodes s.dst)) (
    member (codes "legs") (array (items_of (map (leg_data net) (legs_of s)))) (
    member (codes "name") (string s.name) (
    member (codes "rate") (number (unsigned s.rate)) (
    member (codes "src") (string (name_at net.nodes s.src)) no_members))))))

abbrev pub totals_data : Totals → Data
totals_data t = object (
    member (codes "drifting") (number (unsigned t.drifting)) (
    member (codes "held") (number (unsigned t.held)) (
    member (codes "lit") (number (unsigned t.lit)) (
    member (codes "making") (number (unsigned t.making)) (
    member (codes "protected") (number (unsigned t.protected)) (
    member (codes "services") (number (unsigned t.services)) no_members))))))

abbrev pub band_data : Units → Data
band_data band = array (items_of (integer_data band.lo ∷ integer_data band.hi ∷ []))

-- the whole report
abbrev pub report_data : Setup → State → Data
report_data setup state = object (
    member (codes "band") (band_data (span_of setup.band)) (
    member (codes "services") (array (items_of (map (service_data setup.network) state))) (
    member (codes "stats") (totals_data (totals setup state)) no_members)))
