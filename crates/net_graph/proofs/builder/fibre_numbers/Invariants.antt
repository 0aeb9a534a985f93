use Rattle.std.proofs.Common.{◌≡◌, false, take}
use Rattle.std.specs.List.{list_any, filter_map}
use Rattle.std.specs.Option.{is_none}
use Rattle.eon_model.specs.Network.{number_of}
use Rattle.net_graph.specs.Rows.{row_names}
use Rattle.net_graph.proofs.builder.fibre_numbers.Given as goal

abbrev pub invariant-loop-name : goal.invariant-loop-name
invariant-loop-name l = record {
  found : l.numbers.items ≡ filter_map (number_of (row_names l.rows)) (take l.name-index l.names);
  known : list_any (λ f. is_none (number_of (row_names l.rows) f)) (take l.name-index l.names) ≡ false;
}
