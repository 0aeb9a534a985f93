use Rattle.std.proofs.Common.{◌≡◌, ◌++◌, length}
use Rattle.std.specs.List.{list_all}
use Rattle.eon_model.specs.Names.{is_name}
use Rattle.net_file.proofs.line_words.names_left.Given as goal

abbrev pub invariant-loop-field : goal.invariant-loop-field
invariant-loop-field l = record {
  read : l.fn.fields ≡ l.names.items ++ l.fields;
  named : list_all is_name l.fn.fields ≡ list_all is_name l.fields;
}

abbrev pub decreases-loop-field : goal.decreases-loop-field
decreases-loop-field l = length l.fields
