use Rattle.room_lines.proofs.printing.put_reply.Goals as goal

pub returns-in-Over : goal.returns-in-Over
returns-in-Over g c = rw c.in-Over.is c.put_noroom.ensures
