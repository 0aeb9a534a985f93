-- A setup in range, test by test, and a setup in range from its tests.
use Rattle.std.proofs.Common.{◌≡◌, ℕ, ◌≤◌, pos, ◌-ℤ◌, ◌≤ℤ◌, true, ◌&&◌, List, length, map}
use Rattle.std.specs.Prelude.{nat_le, int_le}
use Rattle.std.specs.List.{list_all}
use Rattle.std.proofs.lemmas.Bool.{and_parts, and_from, leb-true, le-leb}
use Rattle.eon_model.specs.Grid.{Band, span_of, is_units, parts_ascend, is_band}
use Rattle.eon_model.specs.Names.{is_name, differ, ascend}
use Rattle.eon_model.specs.Network.{Network}
use Rattle.eon_model.specs.Formats.{Format}
use Rattle.eon_model.specs.Legal.{Setup}
use Rattle.eon_model.specs.NetworkText.{is_format, is_table, is_network, has_fibres, has_groups, is_setup}
use Rattle.eon_model.specs.Numerals.{is_within}
use Rattle.eon_model.proofs.GridLaws.{int_le-le}
use Rattle.eon_model.proofs.BandLaws.{BandParts, band-parts}
use Rattle.eon_model.proofs.RouteLaws.{EndsAreNodes}
use Rattle.eon_model.proofs.SetupLaws.{NetworkParts, network-parts, fibres-EndsAreNodes}

pub record SetupFacts (s : Setup) : Type 0 where
  -- the band
  pub band : is_band s.band ≡ true
  pub parts : BandParts s.band
  pub some_parts : 1 ≤ length s.band
  pub few_parts : length s.band ≤ 8
  pub wide : ((span_of s.band).hi -ℤ (span_of s.band).lo) ≤ℤ pos 1023
  -- the numbers, by test and by bounds
  pub guard_test : nat_le s.guard 64 ≡ true
  pub guard : s.guard ≤ 64
  pub k_test : is_within 1 16 s.k ≡ true
  pub some_k : 1 ≤ s.k
  pub few_k : s.k ≤ 16
  pub services_test : is_within 1 4096 s.services ≡ true
  pub some_services : 1 ≤ s.services
  pub few_services : s.services ≤ 4096
  pub journal_test : is_within 4096 67108864 s.journal ≡ true
  pub least_journal : 4096 ≤ s.journal
  pub most_journal : s.journal ≤ 67108864
  -- the reach table
  pub table : is_table s.formats ≡ true
  pub some_formats : 1 ≤ length s.formats
  pub few_formats : length s.formats ≤ 64
  pub formats : list_all is_format s.formats ≡ true
  pub formats_differ : differ (map (λ (f : Format). f.name) s.formats) ≡ true
  -- the network
  pub network : is_network s.network ≡ true
  pub graph : NetworkParts s.network
  pub ends : EndsAreNodes s.network

-- ---- lists of tests

record Within (least most n : ℕ) : Type 0 where
  some : least ≤ n
  few : n ≤ most

within : (least most n : ℕ) → is_within least most n ≡ true → Within least most n
within least most n h =
    let both = and_parts (nat_le least n) (nat_le n most) h in
    record { some = leb-true least n both.0; few = leb-true n most both.1 }

record CountOfParts (band : Band) : Type 0 where
  some : 1 ≤ length band
  few : length band ≤ 8
  wide : ((span_of band).hi -ℤ (span_of band).lo) ≤ℤ pos 1023

count_of_parts : (band : Band) → is_band band ≡ true → CountOfParts band
count_of_parts b h =
    let a = and_parts (nat_le 1 (length b) && nat_le (length b) 8 && list_all is_units b && parts_ascend b)
    (int_le ((span_of b).hi -ℤ (span_of b).lo) (pos 1023)) h in
    let c = and_parts (nat_le 1 (length b) && nat_le (length b) 8 && list_all is_units b) (parts_ascend b) a.0 in
    let d = and_parts (nat_le 1 (length b) && nat_le (length b) 8) (list_all is_units b) c.0 in
    let e = and_parts (nat_le 1 (length b)) (nat_le (length b) 8) d.0 in
    record { some = leb-true _ _ e.0; few = leb-true _ _ e.1; wide = int_le-le _ _ a.1 }

record TableParts (rows : List Format) : Type 0 where
  count : Within 1 64 (length rows)
  formats : list_all is_format rows ≡ true
  differ : differ (map (λ (f : Format). f.name) rows) ≡ true

table_parts : (rows : List Format) → is_table rows ≡ true → TableParts rows
table_parts rows h =
    let a = and_parts (is_within 1 64 (length rows) && list_all is_format rows)
    (differ (map (λ (f : Format). f.name) rows)) h in
    let b = and_parts (is_within 1 64 (length rows)) (list_all is_format rows) a.0 in
    record { count = within 1 64 (length rows) b.0; formats = b.1; differ = a.1 }

-- ---- the whole setup

pub setup-facts : (s : Setup) → is_setup s ≡ true → SetupFacts s
setup-facts s h =
    let a = and_parts (is_band s.band && nat_le s.guard 64 && is_within 1 16 s.k && is_within 1 4096 s.services
    && is_within 4096 67108864 s.journal && is_table s.formats) (is_network s.network) h in
    let b = and_parts (is_band s.band && nat_le s.guard 64 && is_within 1 16 s.k && is_within 1 4096 s.services
    && is_within 4096 67108864 s.journal) (is_table s.formats) a.0 in
    let c = and_parts (is_band s.band && nat_le s.guard 64 && is_within 1 16 s.k && is_within 1 4096 s.services)
    (is_within 4096 67108864 s.journal) b.0 in
    let d = and_parts (is_band s.band && nat_le s.guard 64 && is_within 1 16 s.k) (is_within 1 4096 s.services) c.0 in
    let e = and_parts (is_band s.band && nat_le s.guard 64) (is_within 1 16 s.k) d.0 in
    let f = and_parts (is_band s.band) (nat_le s.guard 64) e.0 in
    let count = count_of_parts s.band f.0 in
    let k = within 1 16 s.k e.1 in
    let services = within 1 4096 s.services d.1 in
    let journal = within 4096 67108864 s.journal c.1 in
    let table = table_parts s.formats b.1 in
    let graph = network-parts s.network a.1 in
    record {
      band = f.0;
      parts = band-parts s.band f.0;
      some_parts = count.some;
      few_parts = count.few;
      wide = count.wide;
      guard_test = f.1;
      guard = leb-true s.guard 64 f.1;
      k_test = e.1;
      some_k = k.some;
      few_k = k.few;
      services_test = d.1;
      some_services = services.some;
      few_services = services.few;
      journal_test = c.1;
      least_journal = journal.some;
      most_journal = journal.few;
      table = b.1;
      some_formats = table.count.some;
      few_formats = table.count.few;
      formats = table.formats;
      formats_differ = table.differ;
      network = a.1;
      graph = graph;
      ends = fibres-EndsAreNodes s.network graph.fibres;
    }

-- ---- the other way

-- a table with a row
pub table_is : (rows : List Format) →
    (nat_le (length rows) 64 && list_all is_format rows && differ (map (λ (f : Format). f.name) rows)) ≡ true →
    1 ≤ length rows → is_table rows ≡ true
table_is rows h some =
    let p = and_parts (nat_le (length rows) 64 && list_all is_format rows) (differ (map (λ f. f.name) rows)) h in
    let q = and_parts (nat_le (length rows) 64) (list_all is_format rows) p.0 in
    and_from _ _ (and_from _ _ (and_from _ _ (le-leb 1 (length rows) some) q.0) q.1) p.1

-- a network with a node
pub network_is : (net : Network) → ((nat_le (length net.nodes) 64 && list_all is_name net.nodes && ascend net.nodes)
    && has_fibres net && has_groups net) ≡ true → 1 ≤ length net.nodes → is_network net ≡ true
network_is net h some =
    let few = nat_le (length net.nodes) 64 in
    let nodes = (few && list_all is_name net.nodes) && ascend net.nodes in
    let p = and_parts (nodes && has_fibres net) (has_groups net) h in
    let q = and_parts nodes (has_fibres net) p.0 in
    let r = and_parts (few && list_all is_name net.nodes) (ascend net.nodes) q.0 in
    let n = and_parts few (list_all is_name net.nodes) r.0 in
    and_from _ _ (and_from _ _ (and_from _ _ (and_from _ _ (and_from _ _ (le-leb 1 (length net.nodes) some) n.0) n.1)
    r.1) q.1) p.1

-- a setup from its tests
pub setup_is : (s : Setup) → is_band s.band ≡ true → s.guard ≤ 64 → is_within 1 16 s.k ≡ true →
    is_within 1 4096 s.services ≡ true → is_within 4096 67108864 s.journal ≡ true → is_table s.formats ≡ true →
    is_network s.network ≡ true → is_setup s ≡ true
setup_is s band guard k services journal table network =
    and_from _ _ (and_from _ _ (and_from _ _ (and_from _ _ (and_from _ _ (and_from _ _ band
    (le-leb s.guard 64 guard)) k) services) journal) table) network
