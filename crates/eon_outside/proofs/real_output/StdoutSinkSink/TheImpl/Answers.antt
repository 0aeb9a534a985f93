use Rattle.eon_outside.proofs.Untold.{untold_write, untold_stands}
use Rattle.eon_outside.proofs.real_output.StdoutSinkSink.TheImpl.Goals as goal

pub write-tells : goal.write-tells
write-tells g c = record {
  bound = c.ensures.bound;
  bytes = untold_write c.result c.args.piece.now;
  stands = untold_stands c.result c.args.self.now.faults c.new.self.now.faults c.ensures.counts;
}
