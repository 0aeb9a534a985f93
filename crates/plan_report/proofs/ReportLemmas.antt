-- The text of a report.
use Rattle.std.proofs.Common.{◌≡◌, refl, sym, ap, ◌∙◌, ℕ, zero, suc, ◌+◌, Bool, true, ◌&&◌, not, List, [], ◌∷◌, ◌++◌, map, length, take, slice_get, Option, Some, None, nat_lt}
use Rattle.std.specs.Prelude.{codes, ◌==◌}
use Rattle.std.specs.Fmt.{signed_decimal}
use Rattle.std.specs.List.{list_all}
use Rattle.std.proofs.lemmas.Bool.{and_parts, and_from}
use Rattle.std.proofs.lemmas.List.{map-append, take_more}
use Rattle.std.proofs.lemmas.List.Folds.{list_all_more}
use Rattle.std.proofs.lemmas.Option.{slice_get_within, get_or_from_slice_get}
use Rattle.json.specs.Print.{escape}
use Rattle.serde_json.specs.Data.{Data, array, object, Members, no_members, member}
use Rattle.serde_json.specs.View.{items_of, view}
use Rattle.serde_json.specs.declared.value.Value.{Value}
use Rattle.serde_json.proofs.OnLiterals.{serde_json_on_literals}
use Rattle.eon_model.specs.Grid.{Units, span_of}
use Rattle.eon_model.specs.Names.{Name, is_name}
use Rattle.eon_model.specs.Network.{Network, Fibre, fibre_at, name_at, names_of_fibres}
use Rattle.eon_model.specs.Numerals.{is_within}
use Rattle.eon_model.specs.NetworkText.{is_setup, is_fibre_among}
use Rattle.eon_model.specs.declared.Class.{Class}
use Rattle.eon_model.specs.declared.Class.TheVariants.{Bare, Shared, Dual}
use Rattle.eon_model.specs.Services.{Path, Leg, Service, State, legs_of}
use Rattle.eon_model.specs.Legal.{Setup}
use Rattle.eon_model.specs.Listings.{centre_mhz, class_word, path_json, or_null, leg_json, service_json, totals_json, report_text, totals}
use Rattle.eon_model.specs.Replies.{Totals}
use Rattle.eon_model.specs.Json as json
use Rattle.eon_model.proofs.OrderLaws.{AllOf}
use Rattle.eon_model.proofs.SetupLaws.{network-parts, setup-network}
use Rattle.plan_report.specs.Reported.{integer_data, fibre_data, data_or_null, path_data, leg_data, service_data, totals_data, band_data, report_data}
use Rattle.plan_report.proofs.PlainLemmas.{IsPlain, ItemsPlain, MembersPlain, name_same, plain-null, plain-unsigned, plain-integer, plain-string, plain-array, plain-map, plain-object}

-- ---- names of the network

-- the names of a network need no escapes
record NamesArePlain (net : Network) : Type 0 where
  pub nodes : list_all is_name net.nodes ≡ true
  pub fibres : list_all (is_fibre_among net.nodes) net.fibres ≡ true

names-plain : (setup : Setup) → is_setup setup ≡ true → NamesArePlain setup.network
names-plain setup h =
    let p = network-parts setup.network (setup-network setup h) in
    record { nodes = p.node_names; fibres = p.fibres }

node_same : (names : List Name) (i : ℕ) → list_all is_name names ≡ true → escape (name_at names i) ≡ name_at names i
node_same [] i h = refl
node_same (name ∷ names) zero h =
    name_same name (and_parts (is_name name) (list_all is_name names) h).0
node_same (name ∷ names) (suc i) h =
    node_same names i (and_parts (is_name name) (list_all is_name names) h).1

fibre_name : (nodes : List Name) (f : Fibre) → is_fibre_among nodes f ≡ true → is_name f.name ≡ true
fibre_name nodes f h =
    let a = and_parts (is_name f.name && nat_lt f.a (length nodes) && nat_lt f.b (length nodes)
    && not (f.a == f.b)) (is_within 1 100000 f.km) h in
    let b = and_parts (is_name f.name && nat_lt f.a (length nodes) && nat_lt f.b (length nodes))
    (not (f.a == f.b)) a.0 in
    let d = and_parts (is_name f.name && nat_lt f.a (length nodes)) (nat_lt f.b (length nodes)) b.0 in
    (and_parts (is_name f.name) (nat_lt f.a (length nodes)) d.0).0

fibre_same : (nodes : List Name) (fibres : List Fibre) (i : ℕ) → list_all (is_fibre_among nodes) fibres ≡ true →
    escape (fibre_at fibres i).name ≡ (fibre_at fibres i).name
fibre_same nodes [] i h = refl
fibre_same nodes (f ∷ fs) zero h =
    name_same f.name (fibre_name nodes f (and_parts (is_fibre_among nodes f) (list_all (is_fibre_among nodes) fs) h).0)
fibre_same nodes (f ∷ fs) (suc i) h =
    fibre_same nodes fs i (and_parts (is_fibre_among nodes f) (list_all (is_fibre_among nodes) fs) h).1

-- ---- keys

key-centre_mhz : escape (codes "centre_mhz") ≡ codes "centre_mhz"
unfolding serde_json_on_literals
key-centre_mhz = refl

key-fibres : escape (codes "fibres") ≡ codes "fibres"
unfolding serde_json_on_literals
key-fibres = refl

key-km : escape (codes "km") ≡ codes "km"
unfolding serde_json_on_literals
key-km = refl

key-m : escape (codes "m") ≡ codes "m"
unfolding serde_json_on_literals
key-m = refl

key-n : escape (codes "n") ≡ codes "n"
unfolding serde_json_on_literals
key-n = refl

key-back : escape (codes "back") ≡ codes "back"
unfolding serde_json_on_literals
key-back = refl

key-to : escape (codes "to") ≡ codes "to"
unfolding serde_json_on_literals
key-to = refl

key-work : escape (codes "work") ≡ codes "work"
unfolding serde_json_on_literals
key-work = refl

key-class : escape (codes "class") ≡ codes "class"
unfolding serde_json_on_literals
key-class = refl

key-dst : escape (codes "dst") ≡ codes "dst"
unfolding serde_json_on_literals
key-dst = refl

key-legs : escape (codes "legs") ≡ codes "legs"
unfolding serde_json_on_literals
key-legs = refl

key-name : escape (codes "name") ≡ codes "name"
unfolding serde_json_on_literals
key-name = refl

key-rate : escape (codes "rate") ≡ codes "rate"
unfolding serde_json_on_literals
key-rate = refl

key-src : escape (codes "src") ≡ codes "src"
unfolding serde_json_on_literals
key-src = refl

key-drifting : escape (codes "drifting") ≡ codes "drifting"
unfolding serde_json_on_literals
key-drifting = refl

key-held : escape (codes "held") ≡ codes "held"
unfolding serde_json_on_literals
key-held = refl

key-lit : escape (codes "lit") ≡ codes "lit"
unfolding serde_json_on_literals
key-lit = refl

key-making : escape (codes "making") ≡ codes "making"
unfolding serde_json_on_literals
key-making = refl

key-protected : escape (codes "protected") ≡ codes "protected"
unfolding serde_json_on_literals
key-protected = refl

key-services : escape (codes "services") ≡ codes "services"
unfolding serde_json_on_literals
key-services = refl

key-band : escape (codes "band") ≡ codes "band"
unfolding serde_json_on_literals
key-band = refl

key-stats : escape (codes "stats") ≡ codes "stats"
unfolding serde_json_on_literals
key-stats = refl

bare_word : escape (codes "bare") ≡ codes "bare"
unfolding serde_json_on_literals
bare_word = refl

shared_word : escape (codes "shared") ≡ codes "shared"
unfolding serde_json_on_literals
shared_word = refl

dual_word : escape (codes "dual") ≡ codes "dual"
unfolding serde_json_on_literals
dual_word = refl

class_same : (class : Class) → escape (class_word class) ≡ class_word class
class_same Bare = bare_word
class_same Shared = shared_word
class_same Dual = dual_word

-- members with their texts, built one by one
record MembersTold (ms : Members) (ts : List (List ℕ)) : Type 0 where
  pub all : MembersPlain ms ts

no_more : MembersTold no_members []
no_more = record { all = tt }

and_then : (k : List ℕ) {value : List ℕ} {d : Data} {ms : Members} {ts : List (List ℕ)} → IsPlain d value →
    escape k ≡ k → MembersTold ms ts → MembersTold (member k d ms) (json.member k value ∷ ts)
and_then k {value} p e m = record { all = (record { value = value; plain = p; key = e; is = refl }, m.all) }

told-object : {ms : Members} {ts : List (List ℕ)} → MembersTold ms ts → IsPlain (object ms) (json.object ts)
told-object {ms} {ts} m = plain-object ms ts m.all

-- ---- values

every : {X : Type 0} (P : X → Type 0) → ((x : X) → P x) → (xs : List X) → AllOf P xs
every P f [] = tt
every P f (x ∷ xs) = (f x, every P f xs)

fibre_names-both : (net : Network) → NamesArePlain net → (is : List ℕ) →
    ItemsPlain (map (fibre_data net) is) (map json.quoted (names_of_fibres net.fibres is))
fibre_names-both net names [] = tt
fibre_names-both net names (i ∷ is) = (
  plain-string (fibre_at net.fibres i).name (fibre_same net.nodes net.fibres i names.fibres),
  fibre_names-both net names is,
)

fibre_names-plain : (net : Network) → NamesArePlain net → (fibres : List ℕ) →
    IsPlain (array (items_of (map (fibre_data net) fibres)))
    (json.array (map json.quoted (names_of_fibres net.fibres fibres)))
fibre_names-plain net names fibres =
    plain-array (map (fibre_data net) fibres) (map json.quoted (names_of_fibres net.fibres fibres))
    (fibre_names-both net names fibres)

path-plain : (net : Network) → NamesArePlain net → (p : Path) → IsPlain (path_data net p) (path_json net p)
path-plain net names p =
    told-object (and_then (codes "centre_mhz") (plain-integer (centre_mhz p.slot.n)) key-centre_mhz
    (and_then (codes "fibres") (fibre_names-plain net names p.route.fibres) key-fibres
    (and_then (codes "km") (plain-unsigned p.route.km) key-km
    (and_then (codes "m") (plain-unsigned p.slot.m) key-m
    (and_then (codes "n") (plain-integer p.slot.n) key-n no_more)))))

or_null-plain : {X : Type 0} (f : X → Data) (text : X → List ℕ) → ((x : X) → IsPlain (f x) (text x)) →
    (o : Option X) → IsPlain (data_or_null f o) (or_null text o)
or_null-plain f text p None = plain-null
or_null-plain f text p (Some x) = p x

leg-plain : (net : Network) → NamesArePlain net → (l : Leg) → IsPlain (leg_data net l) (leg_json net l)
leg-plain net names l =
    told-object
    (and_then (codes "back") (or_null-plain (path_data net) (path_json net) (path-plain net names) l.back) key-back
    (and_then (codes "to") (or_null-plain integer_data signed_decimal plain-integer l.to) key-to
    (and_then (codes "work") (path-plain net names l.work) key-work no_more)))

legs-plain : (net : Network) → NamesArePlain net → (ls : List Leg) →
    IsPlain (array (items_of (map (leg_data net) ls))) (json.array (map (leg_json net) ls))
legs-plain net names ls =
    plain-array (map (leg_data net) ls) (map (leg_json net) ls)
    (plain-map (leg_data net) (leg_json net) ls
    (every (λ l. IsPlain (leg_data net l) (leg_json net l)) (leg-plain net names) ls))

service-plain : (net : Network) → NamesArePlain net → (s : Service) → is_name s.name ≡ true →
    IsPlain (service_data net s) (service_json net s)
service-plain net names s h =
    told-object (and_then (codes "class") (plain-string (class_word s.class) (class_same s.class)) key-class
    (and_then (codes "dst") (plain-string (name_at net.nodes s.dst) (node_same net.nodes s.dst names.nodes)) key-dst
    (and_then (codes "legs") (legs-plain net names (legs_of s)) key-legs
    (and_then (codes "name") (plain-string s.name (name_same s.name h)) key-name
    (and_then (codes "rate") (plain-unsigned s.rate) key-rate
    (and_then (codes "src") (plain-string (name_at net.nodes s.src) (node_same net.nodes s.src names.nodes)) key-src
    no_more))))))

services-each : (net : Network) → NamesArePlain net → (state : State) → list_all (λ s. is_name s.name) state ≡ true →
    AllOf (λ s. IsPlain (service_data net s) (service_json net s)) state
services-each net names [] h = tt
services-each net names (s ∷ ss) h =
    let p = and_parts (is_name s.name) (list_all (λ (x : Service). is_name x.name) ss) h in
    (service-plain net names s p.0, services-each net names ss p.1)

services-plain : (net : Network) → NamesArePlain net → (state : State) → list_all (λ s. is_name s.name) state ≡ true →
    IsPlain (array (items_of (map (service_data net) state))) (json.array (map (service_json net) state))
services-plain net names state h =
    plain-array (map (service_data net) state) (map (service_json net) state)
    (plain-map (service_data net) (service_json net) state (services-each net names state h))

totals-plain : (t : Totals) → IsPlain (totals_data t) (totals_json t)
totals-plain t =
    told-object (and_then (codes "drifting") (plain-unsigned t.drifting) key-drifting
    (and_then (codes "held") (plain-unsigned t.held) key-held
    (and_then (codes "lit") (plain-unsigned t.lit) key-lit
    (and_then (codes "making") (plain-unsigned t.making) key-making
    (and_then (codes "protected") (plain-unsigned t.protected) key-protected
    (and_then (codes "services") (plain-unsigned t.services) key-services no_more))))))

band-plain : (b : Units) →
    IsPlain (band_data b) (json.array (signed_decimal b.lo ∷ signed_decimal b.hi ∷ []))
band-plain b =
    plain-array (integer_data b.lo ∷ integer_data b.hi ∷ []) (signed_decimal b.lo ∷ signed_decimal b.hi ∷ [])
    (plain-integer b.lo, (plain-integer b.hi, tt))

-- a report's data and its text
pub report-plain : (setup : Setup) (state : State) → is_setup setup ≡ true →
    list_all (λ s. is_name s.name) state ≡ true → IsPlain (report_data setup state) (report_text setup state)
report-plain setup state ok named =
    let names = names-plain setup ok in
    told-object (and_then (codes "band") (band-plain (span_of setup.band)) key-band
    (and_then (codes "services") (services-plain setup.network names state named) key-services
    (and_then (codes "stats") (totals-plain (totals setup state)) key-stats no_more)))

-- ---- values one by one

pub values_more : {X : Type 0} (f : X → Data) (vs new : List Value) (v : Value) (xs : List X) (i : ℕ) (x : X) →
    slice_get xs i ≡ Some x → map view vs ≡ map f (take i xs) → new ≡ vs ++ v ∷ [] → view v ≡ f x →
    map view new ≡ map f (take (i + 1) xs)
values_more f vs new v xs i x at before pushed told =
    let one : take (i + 1) xs ≡ take i xs ++ x ∷ [] =
    take_more xs i x (slice_get_within xs i x at) ∙ ap (λ y. take i xs ++ y ∷ []) (get_or_from_slice_get xs i x x at) in
    ap (map view) pushed ∙ map-append view vs (v ∷ []) ∙ (λ j. before j ++ told j ∷ [])
    ∙ sym (ap (map f) one ∙ map-append f (take i xs) (x ∷ []))

pub all_more : {X : Type 0} (p : X → Bool) (xs : List X) (i : ℕ) (x : X) → slice_get xs i ≡ Some x →
    list_all p (take i xs) ≡ true → p x ≡ true → list_all p (take (i + 1) xs) ≡ true
all_more p xs i x at before here =
    list_all_more p xs i x (slice_get_within xs i x at)
    ∙ ap (λ y. list_all p (take i xs) && p y) (get_or_from_slice_get xs i x x at)
    ∙ and_from (list_all p (take i xs)) (p x) before here
