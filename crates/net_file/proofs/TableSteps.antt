-- Formats and nodes: each is taken in its turn.
use Rattle.std.proofs.Common.{◌≡◌, refl, sym, ◌∙◌, ap, subst, ℕ, Bool, true, false, cond, not, List, [], ◌∷◌, ◌++◌, length, nat_le, Option, Some, None, is_some, Result, Ok, arith}
use Rattle.std.specs.Prelude.{codes}
use Rattle.std.specs.Fmt.{decimal}
use Rattle.std.proofs.lemmas.List.{length-append}
use Rattle.std.proofs.lemmas.Bool.{and_parts, and_from, leb-false, le-leb, not-false}
use Rattle.eon_model.specs.Names.{Name, is_name, has_name}
use Rattle.eon_model.specs.Numerals.{is_within}
use Rattle.eon_model.specs.Network.{Network}
use Rattle.eon_model.specs.Formats.{Format}
use Rattle.eon_model.specs.NetworkText.{is_format}
use Rattle.eon_model.specs.NetworkFault.{Word, Field, Fields, AName, ANumber, Node, fields_after, has_form, last_word}
use Rattle.eon_model.specs.NetworkFault as model
use Rattle.reach_table.specs.Tables.{format_names, are_rows}
use Rattle.reach_table.proofs.TableLaws.{push_row}
use Rattle.net_graph.specs.declared.graph.GraphFault.TheVariants as graph
use Rattle.net_graph.specs.Graph.{comes_after, node_fault, with_node}
use Rattle.net_graph.proofs.BuildLemmas.{graph-with_node}
use Rattle.net_graph.proofs.FaultLemmas.{past}
use Rattle.net_file.specs.declared.fault.Why.{Why}
use Rattle.net_file.specs.declared.fault.Why.TheVariants as why
use Rattle.net_file.specs.declared.line_words.FormatWords.{FormatWords}
use Rattle.net_file.specs.LineWords.{ranged, format_words, node_words}
use Rattle.net_file.specs.Steps.{SoFar, Sheet, on_ok, unless_fault, told_by, may_come, with_formats, with_network, graph_whys, format_why, format_of, has_format_ranges, is_any, format_step, node_step, setup_step}
use Rattle.net_file.specs.Drafts.{rank, lines_of, Sound}
use Rattle.net_file.proofs.FrontParts.{matches, form_of}
use Rattle.net_file.proofs.NamedParts.{node_rest, node_reads, format_rest, format_reads}
use Rattle.net_file.proofs.RankLaws.{come-far}
use Rattle.net_file.proofs.BehindParts.{behind-format, behind-node}
use Rattle.net_file.proofs.LineGrowth.{last-word, format-grows, network-grows, node-grows, network-in_range}
use Rattle.net_file.proofs.BandLines.{band-later}
use Rattle.net_file.proofs.StepParts.{Takes, Follows, Grows, nested, line-takes, checked}

-- fields that were read have the form of their kinds
pub formed : {A : Type 0} (w : Word) (kinds : List Field) (word : List ℕ) (rest spelled : Fields) (o : Option A) (a : A) →
    has_form w (word ∷ rest) ≡ is_some o → o ≡ Some a → rest ≡ spelled → fields_after w (length spelled) ≡ kinds →
    matches kinds spelled ≡ true
formed {A = A} w kinds word rest spelled o a form e is after =
    sym (form_of w kinds word spelled after) ∙ ap (λ (v : Fields). has_form w (word ∷ v)) (sym is) ∙ form
    ∙ ap (λ (v : Option A). is_some v) e

-- ---- formats

format_grown : (s : Sheet) → Sound s → may_come s model.Format ≡ true → (f : FormatWords) →
    is_name f.name ≡ true → has_format_ranges f ≡ true → format_why s.setup.formats f.name ≡ None →
    Grows s (codes "format" ∷ format_rest f)
    (told_by model.Format (with_formats s.setup (s.setup.formats ++ format_of f ∷ [])))
format_grown s sound may f named within none =
    let far = come-far s model.Format may in
    let r = sound.ranges in
    let rows = s.setup.formats in
    let more = rows ++ format_of f ∷ [] in
    let t = with_formats s.setup more in
    let p = past (nat_le 64 (length rows)) why.Many _ none in
    let q = past (has_name (format_names rows) f.name) why.Twice None p.1 in
    let few = leb-false 64 (length rows) p.0 in
    let within_parts = and_parts (is_within 1 100000 f.reach) (is_within 1 10000 f.per) within in
    let good : is_format (format_of f) ≡ true = and_from _ _ (and_from _ _ named within_parts.0) within_parts.1 in
    let table = and_from (are_rows rows) (nat_le s.setup.guard 64) r.rows (le-leb s.setup.guard 64 r.guard) in
    let pushed = push_row rows s.setup.guard (format_of f) table (λ e. absurd (omega arith)) good q.0 in
    let nodes = sound.no_nodes (omega arith) in
    let fibres = sound.no_fibres (omega arith) in
    let groups = sound.no_groups (omega arith) in
    let lines = format-grows (rank s.last) s.setup t (format_of f) (omega arith) (omega arith) nodes fibres groups refl refl refl in
    let long = length-append rows (format_of f ∷ []) in
    record {
      sound = record {
        ranges = record {
          version = r.version;
          guard = r.guard;
          k = r.k;
          services = r.services;
          journal = r.journal;
          rows = (and_parts (are_rows more) (nat_le s.setup.guard 64) pushed).0;
          graph = r.graph;
        };
        band = band-later (rank s.last) 7 s.setup.version s.setup.band (omega arith) (omega arith) sound.band;
        no_version = λ l. absurd (omega arith);
        last = ap last_word lines ∙ last-word (lines_of s) (codes "format" ∷ format_rest f) model.Format refl;
        no_formats = λ l. absurd (omega arith);
        no_nodes = λ l. nodes;
        no_fibres = λ l. fibres;
        no_groups = λ l. groups;
        some_formats = λ l. omega arith;
        some_nodes = λ l. absurd (omega arith);
      };
      lines = lines;
    }

pub format-takes : (s : Sheet) → Sound s → may_come s model.Format ≡ true → (rest : Fields) →
    Takes s (codes "format" ∷ rest) (on_ok (λ setup. Ok (told_by model.Format setup)) (setup_step model.Format s.setup rest))
unfolding setup_step format_step
format-takes s sound may rest =
    let rows = s.setup.formats in
    let put = with_formats s.setup in
    let word = codes "format" in
    let check = λ (f : FormatWords). unless_fault (format_why rows f.name) (rows ++ format_of f ∷ []) in
    subst (λ (v : Result SoFar Why). Takes s (word ∷ rest) (on_ok (λ setup. Ok (told_by model.Format setup)) v))
    (sym (nested (λ (rows : List Format). Ok (put rows)) check (ranged has_format_ranges (format_words rest))))
    (line-takes s model.Format word rest (format_words rest) has_format_ranges format_rest
    (λ f. on_ok (λ (rows : List Format). Ok (put rows)) (check f)) sound refl may (format_reads (lines_of s) word rest)
    (λ f e t is.
    let form = formed model.Format (AName ∷ ANumber 1 100000 ∷ ANumber 1 10000 ∷ []) word rest (format_rest f)
    (format_words rest) f (format_reads (lines_of s) word rest).form e is refl in
    let named = (and_parts (is_name f.name) _ form).0 in
    subst (λ (v : Fields). Follows s model.Format (word ∷ v) (on_ok (λ (rows : List Format). Ok (put rows)) (check f)))
    (sym is)
    (checked s model.Format (word ∷ format_rest f) (format_why rows f.name) (rows ++ format_of f ∷ []) put
    (behind-format (rank s.last) s.setup f.name (decimal f.reach ∷ decimal f.per ∷ [])) (format_grown s sound may f named t))))

-- ---- nodes

node_free : (many out : Bool) →
    graph_whys (cond many (Some graph.Many) (cond out (Some graph.Order) None)) ≡ None → (many ≡ false) × (out ≡ false)
node_free true out e = cc
node_free false true e = cc
node_free false false e = (refl, refl)

node_grown : (s : Sheet) → Sound s → may_come s Node ≡ true → (name : Name) → is_name name ≡ true →
    graph_whys (node_fault s.setup.network name) ≡ None →
    Grows s (codes "node" ∷ node_rest name) (told_by Node (with_network s.setup (with_node s.setup.network name)))
node_grown s sound may name named none =
    let far = come-far s Node may in
    let r = sound.ranges in
    let net = s.setup.network in
    let more = with_node net name in
    let p = node_free (nat_le 64 (length net.nodes)) (not (comes_after net.nodes name)) none in
    let few = leb-false 64 (length net.nodes) p.0 in
    let fibres = sound.no_fibres (omega arith) in
    let groups = sound.no_groups (omega arith) in
    let lines = network-grows (rank s.last) 8 s.setup (with_network s.setup more) (codes "node" ∷ name ∷ [])
    (omega arith) (omega arith) (omega arith) (omega arith) refl refl (node-grows net name fibres groups) in
    let long = length-append net.nodes (name ∷ []) in
    record {
      sound = record {
        ranges = network-in_range s.setup more r (graph-with_node net name r.graph few named (not-false _ p.1));
        band = band-later (rank s.last) 8 s.setup.version s.setup.band (omega arith) (omega arith) sound.band;
        no_version = λ l. absurd (omega arith);
        last = ap last_word lines ∙ last-word (lines_of s) (codes "node" ∷ name ∷ []) Node refl;
        no_formats = λ l. absurd (omega arith);
        no_nodes = λ l. absurd (omega arith);
        no_fibres = λ l. fibres;
        no_groups = λ l. groups;
        some_formats = λ l. sound.some_formats (omega arith);
        some_nodes = λ l. omega arith;
      };
      lines = lines;
    }

pub node-takes : (s : Sheet) → Sound s → may_come s Node ≡ true → (rest : Fields) →
    Takes s (codes "node" ∷ rest) (on_ok (λ setup. Ok (told_by Node setup)) (setup_step Node s.setup rest))
unfolding setup_step node_step
node-takes s sound may rest =
    let net = s.setup.network in
    let put = with_network s.setup in
    let word = codes "node" in
    let check = λ (name : Name). unless_fault (graph_whys (node_fault net name)) (with_node net name) in
    subst (λ (v : Result SoFar Why). Takes s (word ∷ rest) (on_ok (λ setup. Ok (told_by Node setup)) v))
    (sym (nested (λ (n : Network). Ok (put n)) check (ranged is_any (node_words rest))))
    (line-takes s Node word rest (node_words rest) is_any node_rest
    (λ name. on_ok (λ (n : Network). Ok (put n)) (check name)) sound refl may (node_reads (lines_of s) word rest)
    (λ name e t is.
    let form = formed Node (AName ∷ []) word rest (node_rest name) (node_words rest) name (node_reads (lines_of s) word rest).form e is
    refl in
    let named = (and_parts (is_name name) true form).0 in
    subst (λ (v : Fields). Follows s Node (word ∷ v) (on_ok (λ (n : Network). Ok (put n)) (check name))) (sym is)
    (checked s Node (word ∷ node_rest name) (graph_whys (node_fault net name)) (with_node net name) put
    (behind-node (rank s.last) s.setup name []) (node_grown s sound may name named))))
