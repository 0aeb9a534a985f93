use Rattle.std.proofs.Common.{◌-◌, ◌∙◌, arith, length, drop}
use Rattle.std.proofs.lemmas.List.{length-take, length-drop}
use Rattle.eon_outside.proofs.KnownBytesLaws.{appends_of_piece}
use Rattle.eon_outside.proofs.writing.write_front.Goals as goal

pub loop-done-preserved : goal.loop-done-preserved
loop-done-preserved g c =
    let piece = c.args.piece.now in
    let done = c.loop-done.done in
    record {
      within = omega (arith, c.in-Ok.ensures.bound.0, c.loop-done.invariant.within, length-take (length piece - done) (drop done piece), length-drop done piece);
      given = appends_of_piece (g.K.Sink.given c.args.out.now) _ (g.K.Sink.given c.write.new.self) piece done _ c.loop-done.invariant.given c.in-Ok.ensures.bytes;
      stands = c.in-Ok.ensures.stands ∙ c.loop-done.invariant.stands;
    }
