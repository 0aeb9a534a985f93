-- The replies of the code as replies of the planner's definitions.
use Rattle.eon_model.specs.Replies as said
use Rattle.compact_plan.specs.Told.{plan_told}
use Rattle.reply_text.specs.declared.reply.Reply.{Reply}
use Rattle.reply_text.specs.declared.reply.Reply.TheVariants as reply

-- the reply that it is
abbrev pub reply_told : Reply → said.Reply
reply_told (reply.Line at) = said.Reply.Line at
reply_told (reply.Unknown name) = said.Reply.Unknown name
reply_told (reply.Taken name) = said.Reply.Taken name
reply_told (reply.Busy name) = said.Reply.Busy name
reply_told (reply.Idle name) = said.Reply.Idle name
reply_told (reply.Same name) = said.Reply.Same name
reply_told (reply.Bare name) = said.Reply.Bare name
reply_told (reply.Dual name) = said.Reply.Dual name
reply_told (reply.Clash name) = said.Reply.Clash name
reply_told (reply.Risk name) = said.Reply.Risk name
reply_told (reply.Path part) = said.Reply.Path part
reply_told (reply.Reach part) = said.Reply.Reach part
reply_told (reply.Band part) = said.Reply.Band part
reply_told reply.FullServices = said.Reply.FullServices
reply_told reply.NoRoute = said.Reply.NoRoute
reply_told (reply.Blocked pairs) = said.Reply.Blocked pairs
reply_told (reply.FullJournal need left) = said.Reply.FullJournal need left
reply_told reply.Memory = said.Reply.Memory
reply_told (reply.Placed name) = said.Reply.Placed name
reply_told (reply.Admitted name) = said.Reply.Admitted name
reply_told (reply.Made name) = said.Reply.Made name
reply_told (reply.Released name) = said.Reply.Released name
reply_told (reply.Pushed name from to) = said.Reply.Pushed name from to
reply_told (reply.Finished name) = said.Reply.Finished name
reply_told (reply.Backed name) = said.Reply.Backed name
reply_told (reply.Refitted name from to) = said.Reply.Refitted name from to
reply_told (reply.Show name) = said.Reply.Show name
reply_told reply.List = said.Reply.List
reply_told (reply.Routes routes) = said.Reply.Routes routes
reply_told (reply.Drill group hits) = said.Reply.Drill group hits
reply_told (reply.Plan plan) = said.Reply.Plan (plan_told plan)
reply_told (reply.Map text) = said.Reply.Map text
reply_told (reply.Stats stats) = said.Reply.Stats stats
reply_told (reply.Report text) = said.Reply.Report text
reply_told reply.Bye = said.Reply.Bye
