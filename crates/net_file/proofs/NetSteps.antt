-- Fibres: each is taken in its turn.
use Rattle.std.proofs.Common.{◌≡◌, refl, sym, ◌∙◌, ap, subst, ℕ, Bool, true, false, cond, ◌||◌, not, List, [], ◌∷◌, ◌++◌, length, nat_le, Some, None, Result, Ok, arith}
use Rattle.std.specs.Prelude.{codes}
use Rattle.std.specs.Option.{is_none}
use Rattle.std.specs.Fmt.{decimal}
use Rattle.std.proofs.lemmas.List.Quantifiers.{position-Some}
use Rattle.std.proofs.lemmas.Bool.{and_parts, leb-true}
use Rattle.eon_model.specs.Names.{Name, is_name, same_name}
use Rattle.eon_model.specs.Network.{Network, name_at, fibre_names, number_of, node_of}
use Rattle.eon_model.specs.Step.{node_numbered}
use Rattle.eon_model.specs.NetworkFault.{Word, Field, Fields, AName, ANumber, End, has_form, last_word}
use Rattle.eon_model.specs.NetworkFault as model
use Rattle.eon_model.proofs.NumberLaws.{same-name}
use Rattle.net_graph.specs.declared.graph.GraphFault.TheVariants as graph
use Rattle.net_graph.specs.Graph.{comes_after, fibre_fault, fibre_between, with_fibre}
use Rattle.net_graph.proofs.BuildLemmas.{graph-with_fibre}
use Rattle.net_graph.proofs.FaultLemmas.{fibre-accepts, fibre-among}
use Rattle.net_file.specs.declared.fault.Why.{Why}
use Rattle.net_file.specs.declared.line_words.FibreWords.{FibreWords}
use Rattle.net_file.specs.LineWords.{ranged, fibre_words}
use Rattle.net_file.specs.Steps.{SoFar, Sheet, on_ok, unless_fault, told_by, may_come, with_network, graph_whys, has_fibre_range, fibre_step, setup_step}
use Rattle.net_file.specs.Drafts.{rank, fibre_line_words, net_words, lines_of, Sound}
use Rattle.net_file.proofs.FibreParts.{fibre_rest, fibre_reads}
use Rattle.net_file.proofs.RankLaws.{come-far}
use Rattle.net_file.proofs.BehindParts.{behind-fibre}
use Rattle.net_file.proofs.GroupParts.{name_at-got}
use Rattle.net_file.proofs.LineGrowth.{last-word, network-grows, fibre-grows, network-in_range}
use Rattle.net_file.proofs.TableSteps.{formed}
use Rattle.net_file.proofs.BandLines.{band-later}
use Rattle.net_file.proofs.StepParts.{Takes, Follows, Grows, nested, line-takes, checked}

-- the name with the number that a name has
pub named_at : (names : List Name) (name : Name) (i : ℕ) → number_of names name ≡ Some i → name_at names i ≡ name
named_at names name i e =
    let at = position-Some (same_name name) names i [] e in
    name_at-got names i ∙ sym (same-name name _ at.1)

-- ---- fibres

fibre_free : (many after unknown ends : Bool) →
    graph_whys (cond many (Some graph.Many) (cond after (Some graph.Order) (cond unknown (Some graph.Unknown)
    (cond ends (Some graph.SelfEnd) None)))) ≡ None →
    cond many (Some graph.Many) (cond after (Some graph.Order) (cond unknown (Some graph.Unknown)
    (cond ends (Some graph.SelfEnd) None))) ≡ None
fibre_free true after unknown ends e = cc
fibre_free false true unknown ends e = cc
fibre_free false false true ends e = cc
fibre_free false false false true e = cc
fibre_free false false false false e = refl

fibre_accepted : (net : Network) (name a b : Name) → graph_whys (fibre_fault net name a b) ≡ None →
    fibre_fault net name a b ≡ None
fibre_accepted net name a b e =
    fibre_free (nat_le 128 (length net.fibres)) (not (comes_after (fibre_names net.fibres) name))
    (is_none (node_of net a) || is_none (node_of net b)) (same_name a b) e

fibre_spelled : (net : Network) (f : FibreWords) → fibre_fault net f.name f.a f.b ≡ None →
    fibre_line_words net.nodes (fibre_between net f.name f.a f.b f.km) ≡ codes "fibre" ∷ fibre_rest f
fibre_spelled net f none =
    let ok = fibre-accepts net f.name f.a f.b none in
    let a = named_at net.nodes f.a (node_numbered net f.a) ok.in_a in
    let b = named_at net.nodes f.b (node_numbered net f.b) ok.in_b in
    λ i. codes "fibre" ∷ f.name ∷ a i ∷ b i ∷ decimal f.km ∷ []

fibre_grown : (s : Sheet) → Sound s → may_come s model.Fibre ≡ true → (f : FibreWords) →
    is_name f.name ≡ true → has_fibre_range f ≡ true →
    graph_whys (fibre_fault s.setup.network f.name f.a f.b) ≡ None →
    Grows s (codes "fibre" ∷ fibre_rest f) (told_by model.Fibre
    (with_network s.setup (with_fibre s.setup.network (fibre_between s.setup.network f.name f.a f.b f.km))))
fibre_grown s sound may f named within free =
    let far = come-far s model.Fibre may in
    let r = sound.ranges in
    let net = s.setup.network in
    let made = fibre_between net f.name f.a f.b f.km in
    let more = with_fibre net made in
    let none = fibre_accepted net f.name f.a f.b free in
    let ok = fibre-accepts net f.name f.a f.b none in
    let p = and_parts (nat_le 1 f.km) (nat_le f.km 100000) within in
    let among = fibre-among net f.name f.a f.b f.km none named (leb-true 1 f.km p.0) (leb-true f.km 100000 p.1) in
    let groups = sound.no_groups (omega arith) in
    let lines = network-grows (rank s.last) 9 s.setup (with_network s.setup more) (codes "fibre" ∷ fibre_rest f)
    (omega arith) (omega arith) (omega arith) (omega arith) refl refl
    (fibre-grows net made groups ∙ ap (λ (v : Fields). net_words net ++ v ∷ []) (fibre_spelled net f none)) in
    record {
      sound = record {
        ranges = network-in_range s.setup more r (graph-with_fibre net made r.graph groups ok.few among ok.after);
        band = band-later (rank s.last) 9 s.setup.version s.setup.band (omega arith) (omega arith) sound.band;
        no_version = λ l. absurd (omega arith);
        last = ap last_word lines ∙ last-word (lines_of s) (codes "fibre" ∷ fibre_rest f) model.Fibre refl;
        no_formats = λ l. absurd (omega arith);
        no_nodes = λ l. absurd (omega arith);
        no_fibres = λ l. absurd (omega arith);
        no_groups = λ l. groups;
        some_formats = λ l. sound.some_formats (omega arith);
        some_nodes = λ l. sound.some_nodes (omega arith);
      };
      lines = lines;
    }

pub fibre-takes : (s : Sheet) → Sound s → may_come s model.Fibre ≡ true → (rest : Fields) →
    Takes s (codes "fibre" ∷ rest) (on_ok (λ setup. Ok (told_by model.Fibre setup)) (setup_step model.Fibre s.setup rest))
unfolding setup_step fibre_step
fibre-takes s sound may rest =
    let net = s.setup.network in
    let put = with_network s.setup in
    let word = codes "fibre" in
    let check = λ (f : FibreWords). unless_fault (graph_whys (fibre_fault net f.name f.a f.b))
    (with_fibre net (fibre_between net f.name f.a f.b f.km)) in
    subst (λ (v : Result SoFar Why). Takes s (word ∷ rest) (on_ok (λ setup. Ok (told_by model.Fibre setup)) v))
    (sym (nested (λ (n : Network). Ok (put n)) check (ranged has_fibre_range (fibre_words rest))))
    (line-takes s model.Fibre word rest (fibre_words rest) has_fibre_range fibre_rest
    (λ f. on_ok (λ (n : Network). Ok (put n)) (check f)) sound refl may (fibre_reads (lines_of s) word rest)
    (λ f e t is.
    let form = formed model.Fibre (AName ∷ AName ∷ AName ∷ ANumber 1 100000 ∷ []) word rest (fibre_rest f)
    (fibre_words rest) f (fibre_reads (lines_of s) word rest).form e is refl in
    let named = (and_parts (is_name f.name) _ form).0 in
    subst (λ (v : Fields). Follows s model.Fibre (word ∷ v) (on_ok (λ (n : Network). Ok (put n)) (check f))) (sym is)
    (checked s model.Fibre (word ∷ fibre_rest f) (graph_whys (fibre_fault net f.name f.a f.b))
    (with_fibre net (fibre_between net f.name f.a f.b f.km)) put
    (behind-fibre (rank s.last) s.setup f.name f.a f.b (decimal f.km ∷ [])) (fibre_grown s sound may f named t))))
