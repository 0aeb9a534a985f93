use Rattle.line_session.proofs.KeptLaws.{end_found, no_end_found}
use Rattle.line_session.proofs.session.end_of_line.Goals as goal

pub returns-clause-some : goal.returns-clause-some
returns-clause-some c = end_found c.args.bytes.now c.memchr.result c.memchr.ensures

pub returns-clause-none : goal.returns-clause-none
returns-clause-none c = no_end_found c.args.bytes.now c.memchr.result c.memchr.ensures
