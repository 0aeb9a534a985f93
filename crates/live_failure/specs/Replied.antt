-- The replies of the code as replies of the planner's definitions.
use Rattle.std.specs.Prelude.{map}
use Rattle.std.specs.Option.{option_map, option_to_list}
use Rattle.eon_model.specs.Services.{State}
use Rattle.eon_model.specs.LiveFailure as found
use Rattle.eon_model.specs.LiveReplies as said
use Rattle.live_failure.specs.declared.reply.Weak.{Weak}
use Rattle.live_failure.specs.declared.reply.GroupPair.{GroupPair}
use Rattle.live_failure.specs.declared.reply.Audit.{Audit}
use Rattle.live_failure.specs.declared.reply.LiveReply.{LiveReply}
use Rattle.live_failure.specs.declared.reply.LiveReply.TheVariants as reply

-- the service and its group
abbrev pub weak_told : Weak → found.Weak
weak_told w = record { name = w.name; group = w.group }

-- the two groups
abbrev pub pair_told : GroupPair → found.GroupPair
pair_told p = record { one = p.one; two = p.two }

-- the number of pairs, and the first
abbrev pub audit_told : Audit → found.Audit
audit_told a = record { pairs = a.pairs; first = option_map pair_told a.first }

-- the reply that it is over these services
abbrev pub reply_told : State → LiveReply → said.LiveReply
reply_told state (reply.Line at) = said.LiveReply.Line at
reply_told state (reply.Unknown name) = said.LiveReply.Unknown name
reply_told state (reply.HasFailed group) = said.LiveReply.HasFailed group
reply_told state (reply.Failed group) = said.LiveReply.Failed group (found.fates_of group state)
reply_told state reply.Intact = said.LiveReply.Intact
reply_told state (reply.Repaired group) = said.LiveReply.Repaired group
reply_told state (reply.Lights failed) = said.LiveReply.Lights (found.lit_now (option_to_list failed) state)
reply_told state (reply.Exposed weak) = said.LiveReply.Exposed (map weak_told weak.items)
reply_told state (reply.Audit name audit) = said.LiveReply.Audit name (audit_told audit)
reply_told state reply.Memory = said.LiveReply.Memory
reply_told state reply.Bye = said.LiveReply.Bye
