-- Groups and the end: each is taken in its turn.
use Rattle.std.proofs.Common.{◌≡◌, refl, sym, ◌∙◌, ap, subst, ℕ, ◌<◌, Bool, true, false, cond, ◌&&◌, not, List, [], ◌∷◌, ◌++◌, length, nat_le, Option, Some, None, Result, Ok, arith}
use Rattle.std.specs.Prelude.{codes}
use Rattle.std.specs.Option.{is_none}
use Rattle.std.specs.List.{list_all, list_any, filter_map, cons_option}
use Rattle.std.proofs.lemmas.Bool.{and_parts, or_parts}
use Rattle.eon_model.specs.Names.{Name, is_name, has_name, ascend}
use Rattle.eon_model.specs.Network.{Network, fibre_names, group_names, names_of_fibres, fibre_of}
use Rattle.eon_model.specs.Step.{fibres_numbered}
use Rattle.eon_model.specs.NetworkFault.{Word, Field, Fields, AName, ANumber, End, has_form, last_word}
use Rattle.eon_model.specs.NetworkFault as model
use Rattle.eon_model.proofs.NamePlaceLaws.{name-fibre_at}
use Rattle.net_graph.specs.declared.graph.GraphFault.TheVariants as graph
use Rattle.net_graph.specs.Graph.{comes_after, group_fault, group_named, with_group, holders}
use Rattle.net_graph.proofs.JoinLemmas.{graph-with_group, group-among}
use Rattle.net_graph.proofs.FaultLemmas.{group-accepts}
use Rattle.net_file.specs.declared.fault.Why.{Why}
use Rattle.net_file.specs.LineWords.{ranged}
use Rattle.net_file.specs.Steps.{SoFar, Sheet, on_ok, unless_fault, told_by, may_come, with_network, graph_whys, is_any, group_words, group_step, setup_step}
use Rattle.net_file.specs.Drafts.{rank, net_words, lines_of, Sound}
use Rattle.net_file.proofs.FibreParts.{group_rest, group_reads}
use Rattle.net_file.proofs.RankLaws.{come-far}
use Rattle.net_file.proofs.GroupParts.{behind-group}
use Rattle.net_file.proofs.LineGrowth.{last-word, network-grows, group-grows, network-in_range}
use Rattle.net_file.proofs.BandLines.{band-later}
use Rattle.net_file.proofs.StepParts.{Takes, Follows, Grows, nested, line-takes, checked}
use Rattle.net_file.proofs.NetSteps.{named_at}

group_free : (many after twice unknown full : Bool) →
    graph_whys (cond many (Some graph.Many) (cond after (Some graph.Order) (cond twice (Some graph.Twice)
    (cond unknown (Some graph.Unknown) (cond full (Some graph.Groups) None))))) ≡ None →
    cond many (Some graph.Many) (cond after (Some graph.Order) (cond twice (Some graph.Twice)
    (cond unknown (Some graph.Unknown) (cond full (Some graph.Groups) None)))) ≡ None
group_free true after twice unknown full e = cc
group_free false true twice unknown full e = cc
group_free false false true unknown full e = cc
group_free false false false true full e = cc
group_free false false false false true e = cc
group_free false false false false false e = refl

group_accepted : (net : Network) (name : Name) (members : List Name) →
    graph_whys (group_fault net name members) ≡ None → group_fault net name members ≡ None
group_accepted net name members e =
    group_free (nat_le 128 (length net.groups)) (not (comes_after (group_names net.groups) name && ascend members))
    (has_name (fibre_names net.fibres) name) (list_any (λ f. is_none (fibre_of net f)) members)
    (list_any (λ i. nat_le 8 (holders net.groups i)) (fibres_numbered net members)) e

-- the names of the fibres that names have are those names
named_by : (net : Network) (members : List Name) (name : Name) (o : Option ℕ) → fibre_of net name ≡ o →
    is_none o ≡ false → names_of_fibres net.fibres (filter_map (fibre_of net) members) ≡ members →
    names_of_fibres net.fibres (cons_option o (filter_map (fibre_of net) members)) ≡ name ∷ members
named_by net members name None e known more = cc
named_by net members name (Some i) e known more =
    λ k. (name-fibre_at net.fibres i ∙ named_at (fibre_names net.fibres) name i e) k ∷ more k

members_named : (net : Network) (members : List Name) → list_any (λ f. is_none (fibre_of net f)) members ≡ false →
    names_of_fibres net.fibres (fibres_numbered net members) ≡ members
members_named net [] h = refl
members_named net (name ∷ members) h =
    let p = or_parts (is_none (fibre_of net name)) (list_any (λ f. is_none (fibre_of net f)) members) h in
    named_by net members name (fibre_of net name) refl p.0 (members_named net members p.1)

group_grown : (s : Sheet) → Sound s → may_come s model.Group ≡ true → (g : Name × List Name) →
    is_name g.0 ≡ true → 0 < length g.1 → graph_whys (group_fault s.setup.network g.0 g.1) ≡ None →
    Grows s (codes "group" ∷ group_rest g) (told_by model.Group
    (with_network s.setup (with_group s.setup.network (group_named s.setup.network g.0 g.1))))
group_grown s sound may g named some free =
    let far = come-far s model.Group may in
    let r = sound.ranges in
    let net = s.setup.network in
    let made = group_named net g.0 g.1 in
    let more = with_group net made in
    let none = group_accepted net g.0 g.1 free in
    let ok = group-accepts net g.0 g.1 none in
    let among = group-among net g.0 g.1 r.graph none named some in
    let lines = network-grows (rank s.last) 10 s.setup (with_network s.setup more) (codes "group" ∷ group_rest g)
    (omega arith) (omega arith) (omega arith) (omega arith) refl refl
    (group-grows net made
    ∙ ap (λ (v : List Name). net_words net ++ (codes "group" ∷ g.0 ∷ v) ∷ []) (members_named net g.1 ok.found)) in
    record {
      sound = record {
        ranges = network-in_range s.setup more r (graph-with_group net made r.graph ok.few among ok.after ok.room);
        band = band-later (rank s.last) 10 s.setup.version s.setup.band (omega arith) (omega arith) sound.band;
        no_version = λ l. absurd (omega arith);
        last = ap last_word lines ∙ last-word (lines_of s) (codes "group" ∷ group_rest g) model.Group refl;
        no_formats = λ l. absurd (omega arith);
        no_nodes = λ l. absurd (omega arith);
        no_fibres = λ l. absurd (omega arith);
        no_groups = λ l. absurd (omega arith);
        some_formats = λ l. sound.some_formats (omega arith);
        some_nodes = λ l. sound.some_nodes (omega arith);
      };
      lines = lines;
    }

-- a group that was read has a name, and one fibre or more
record GroupRead (g : Name × List Name) : Type 0 where
  named : is_name g.0 ≡ true
  some : 0 < length g.1

group_chosen : (b : Bool) (x y : Name) (rest : List Name) (g : Name × List Name) →
    (b ≡ true → is_name x ≡ true) → cond b (Some (x, y ∷ rest)) None ≡ Some g → GroupRead g
group_chosen true x y rest g h e =
    let is : (x, y ∷ rest) ≡ g = cc in
    subst (λ (v : Name × List Name). GroupRead v) is (record { named = h refl; some = omega arith })
group_chosen false x y rest g h e = cc

group_read : (rest : Fields) (g : Name × List Name) → group_words rest ≡ Some g → GroupRead g
group_read [] g e = cc
group_read (x ∷ []) g e = cc
group_read (x ∷ y ∷ rest) g e =
    group_chosen (is_name x && list_all is_name (y ∷ rest)) x y rest g
    (λ h. (and_parts (is_name x) (list_all is_name (y ∷ rest)) h).0) e

pub group-takes : (s : Sheet) → Sound s → may_come s model.Group ≡ true → (rest : Fields) →
    Takes s (codes "group" ∷ rest) (on_ok (λ setup. Ok (told_by model.Group setup)) (setup_step model.Group s.setup rest))
unfolding setup_step group_step
group-takes s sound may rest =
    let net = s.setup.network in
    let put = with_network s.setup in
    let word = codes "group" in
    let check = λ (g : Name × List Name). unless_fault (graph_whys (group_fault net g.0 g.1))
    (with_group net (group_named net g.0 g.1)) in
    subst (λ (v : Result SoFar Why). Takes s (word ∷ rest) (on_ok (λ setup. Ok (told_by model.Group setup)) v))
    (sym (nested (λ (n : Network). Ok (put n)) check (ranged is_any (group_words rest))))
    (line-takes s model.Group word rest (group_words rest) is_any group_rest
    (λ g. on_ok (λ (n : Network). Ok (put n)) (check g)) sound refl may (group_reads (lines_of s) word rest)
    (λ g e t is.
    let read = group_read rest g e in
    subst (λ (v : Fields). Follows s model.Group (word ∷ v) (on_ok (λ (n : Network). Ok (put n)) (check g))) (sym is)
    (checked s model.Group (word ∷ group_rest g) (graph_whys (group_fault net g.0 g.1))
    (with_group net (group_named net g.0 g.1)) put (behind-group (rank s.last) s.setup sound.ranges.graph g.0 g.1)
    (group_grown s sound may g read.named read.some))))
