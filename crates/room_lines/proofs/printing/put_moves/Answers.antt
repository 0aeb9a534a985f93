use Rattle.std.proofs.Common.{sym, ap, codes}
use Rattle.std.specs.Fmt.{decimal}
use Rattle.std.proofs.lemmas.List.{length-map}
use Rattle.eon_model.specs.ReplyText.{word_line}
use Rattle.line_writer.proofs.TakesLaws.{takes-both, takes-same}
use Rattle.make_room.specs.Shifts.{shift_told}
use Rattle.room_lines.proofs.printing.put_moves.Goals as goal

pub returns : goal.returns
returns g c =
    let first = takes-same _ _ _ _ (ap (λ n. word_line (codes "room") (decimal n)) (sym (length-map c.args.shifts.now shift_told))) c.put_count.ensures in
    takes-both _ _ _ _ _ first c.put_each_shift.ensures
