use Rattle.std.proofs.Common.{ℕ, eqb, sym, ap, ◌∙◌, map, List, String, Vec, Global, string_bytes}
use Rattle.std.specs.Ordering.{nat_cmp}
use Rattle.std.specs.Cmp.Lexicographic.{slice_cmp}
use Rattle.std.specs.FinMap.{find}
use Rattle.std.proofs.lemmas.List.{at_drop_all, length-map}
use lib.Pointwise.{pointwise}
use Rattle.eon_outside.proofs.FindLaws.{found_here, found_later}
use Rattle.eon_outside.proofs.files_in_memory.find_file.Goals as goal

abbrev named : String Global × Vec ℕ Global → List ℕ × List ℕ
named file = (string_bytes file.0, file.1.items)

pub returns-then-eq-clause-first : goal.returns-then-eq-clause-first
returns-then-eq-clause-first c =
    sym c.loop-i.invariant
    ∙ found_here named c.args.name.now c.args.files.now c.loop-i.i c.index-files-i.result c.loop-i-test.true c.index-files-i.is
    (sym (c.if-eq.ensures ∙ ap (pointwise eqb c.args.name.now) c.as_str.ensures.value))

pub loop-i-preserved : goal.loop-i-preserved
loop-i-preserved c =
    sym (found_later named c.args.name.now c.args.files.now c.loop-i.i c.index-files-i.result c.loop-i-test.true c.index-files-i.is
    (sym (c.if-eq.ensures ∙ ap (pointwise eqb c.args.name.now) c.as_str.ensures.value)))
    ∙ c.loop-i.invariant

pub returns-clause-first : goal.returns-clause-first
returns-clause-first c =
    sym c.loop-i.invariant
    ∙ at_drop_all (find (slice_cmp nat_cmp) c.args.name.now) (map named c.args.files.now) c.loop-i.i (rw (length-map c.args.files.now named) c.loop-i-test.false)
