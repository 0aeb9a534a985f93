use Rattle.std.proofs.Common.{◌≡◌, sym, ◌∙◌, ap, refl, ℕ, ◌<◌, List, [], ◌∷◌, ◌++◌, length, map, None, arith, cond}
use Rattle.std.specs.Result.{is_ok}
use Rattle.std.specs.FinSet as set
use Rattle.eon_model.specs.Names.{Name}
use Rattle.eon_model.specs.Network.{Fibre, fibre_names}
use Rattle.eon_model.specs.NetworkText.{is_fibre_among}
use Rattle.eon_model.specs.Sets.{set_of}
use Rattle.net_graph.specs.declared.graph.Fibre as FibreOf
use Rattle.net_graph.specs.declared.graph.FibreRow.{FibreRow}
use Rattle.net_graph.specs.Graph.{comes_after, fibre_fault, fibre_between, with_fibre}
use Rattle.net_graph.specs.Rows.{network_of, fibre_seen, row_fibre}
use Rattle.net_graph.proofs.GraphParts.{length_rows}
use Rattle.net_graph.proofs.FaultLemmas.{fibre-accepts, fibre-among}
use Rattle.net_graph.proofs.BuildLemmas.{kept-with_fibre, added-fibre}
use Rattle.net_graph.proofs.builder.NetBuilder.add_fibre.Goals as goal
use Rattle.net_graph.proofs.builder.NetBuilder.add_fibre.Goals.{in-Ok, in-Err}

-- the fibre, between the nodes of the builder
between_read : (nodes : List Name) (rows : List FibreRow) (ns : List Name) (rs : List FibreRow) (name a b : Name)
    (km : ℕ) (f : FibreOf.Fibre) → ns ≡ nodes → rs ≡ rows →
    fibre_seen f ≡ fibre_between (network_of ns rs []) name a b km →
    fibre_seen f ≡ fibre_between (network_of nodes rows []) name a b km
between_read nodes rows ns rs name a b km f at_nodes at_rows made =
    made ∙ (λ i. fibre_between (network_of (at_nodes i) (at_rows i) []) name a b km)

pub invariant_of-self : goal.invariant_of-self
invariant_of-self c =
    let s = c.self.inside in
    let nodes = s.nodes.items in
    let rows = s.rows.items in
    let groups = s.groups.items in
    let f = c.in_ok-fibre.fibre in
    let net = network_of nodes rows [] in
    let made = between_read nodes rows _ _ c.args.name c.args.a c.args.b c.args.km f c.deref.ensures.value
    c.deref-2.ensures.value c.in_ok-fibre.ensures.made in
    let accepted : fibre_fault net c.args.name c.args.a c.args.b ≡ None =
    sym (λ i. fibre_fault (network_of (c.deref.ensures.value i) (c.deref-2.ensures.value i) []) c.args.name c.args.a
    c.args.b) ∙ c.in_ok-fibre.ensures.accepted in
    let ok = fibre-accepts net c.args.name c.args.a c.args.b accepted in
    let few : length rows < 128 = omega (arith, ok.few, length_rows rows) in
    let place : c.len-number.result ≡ length rows =
    omega (arith, c.len-number.ensures, c.deref-2.ensures.len, ap length c.deref-2.ensures.value) in
    let row : FibreRow = record { fibre = f; risk = c.with.result; groups = 0 } in
    kept-with_fibre nodes rows groups row (is_ok c.push.result) c.push.new.self.items c.self.invariant
    (ap (λ n. n.groups) c.self.view_is ∙ c.requires.no_group) few
    (ap (is_fibre_among nodes) made
    ∙ fibre-among net c.args.name c.args.a c.args.b c.args.km accepted c.in_ok-fibre.ensures.named
    c.requires.least_km c.requires.most_km)
    (ap (λ (x : Fibre). comes_after (fibre_names (map row_fibre rows)) x.name) made ∙ ok.after)
    (c.with.ensures ∙ ap (λ v. set.insert v c.len-number.result) c.empty.ensures
    ∙ ap (λ n. set_of (n ∷ [])) place)
    refl c.push.ensures.items

pub returns-clause-added : goal.returns-clause-added
returns-clause-added c =
    let s = c.self.inside in
    let nodes = s.nodes.items in
    let rows = s.rows.items in
    let groups = s.groups.items in
    let f = c.in_ok-fibre.fibre in
    let made = between_read nodes rows _ _ c.args.name c.args.a c.args.b c.args.km f c.deref.ensures.value
    c.deref-2.ensures.value c.in_ok-fibre.ensures.made in
    let row : FibreRow = record { fibre = f; risk = c.with.result; groups = 0 } in
    let grown = with_fibre (network_of nodes rows groups)
    (fibre_between (network_of nodes rows groups) c.args.name c.args.a c.args.b c.args.km) in
    elim c.match-push.branch [
      | in-Ok w ↦
          let is : c.push.new.self.items ≡ rows ++ row ∷ [] =
          c.push.ensures.items ∙ (λ i. cond (is_ok (w.in-Ok.is i)) (rows ++ row ∷ []) rows) in
          let added : network_of nodes c.push.new.self.items groups ≡ grown =
          added-fibre nodes rows groups row _ c.push.new.self.items made is in
          rw w.result-is (added
          ∙ ap (λ n. with_fibre n (fibre_between n c.args.name c.args.a c.args.b c.args.km)) c.self.view_is)
      | in-Err w ↦ rw w.result-is tt
    ]
