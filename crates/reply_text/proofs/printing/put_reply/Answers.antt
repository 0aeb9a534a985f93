-- Each reply was printed by its own call.
use Rattle.std.proofs.Common.{w16, rules}
use mir.Val.{SFits}
use Rattle.std.proofs.lemmas.Int.{to_z-of_z}
use Rattle.reply_text.proofs.printing.put_reply.Goals as goal

pub returns-in-Line : goal.returns-in-Line
returns-in-Line g c = rw c.in-Line.is c.put_number_line.ensures

pub returns-in-Unknown : goal.returns-in-Unknown
returns-in-Unknown g c = rw c.in-Unknown.is c.put_name_line.ensures

pub returns-in-Taken : goal.returns-in-Taken
returns-in-Taken g c = rw c.in-Taken.is c.put_name_line-in-Taken.ensures

pub returns-in-Busy : goal.returns-in-Busy
returns-in-Busy g c = rw c.in-Busy.is c.put_name_line-in-Busy.ensures

pub returns-in-Idle : goal.returns-in-Idle
returns-in-Idle g c = rw c.in-Idle.is c.put_name_line-in-Idle.ensures

pub returns-in-Same : goal.returns-in-Same
returns-in-Same g c = rw c.in-Same.is c.put_name_line-in-Same.ensures

pub returns-in-Bare : goal.returns-in-Bare
returns-in-Bare g c = rw c.in-Bare.is c.put_name_line-in-Bare.ensures

pub returns-in-Dual : goal.returns-in-Dual
returns-in-Dual g c = rw c.in-Dual.is c.put_name_line-in-Dual.ensures

pub returns-in-Clash : goal.returns-in-Clash
returns-in-Clash g c = rw c.in-Clash.is c.put_name_line-in-Clash.ensures

pub returns-in-Risk : goal.returns-in-Risk
returns-in-Risk g c = rw c.in-Risk.is c.put_name_line-in-Risk.ensures

pub returns-in-Path : goal.returns-in-Path
returns-in-Path g c = rw c.in-Path.is c.put_part_line.ensures

pub returns-in-Reach : goal.returns-in-Reach
returns-in-Reach g c = rw c.in-Reach.is c.put_part_line-in-Reach.ensures

pub returns-in-Band : goal.returns-in-Band
returns-in-Band g c = rw c.in-Band.is c.put_part_line-in-Band.ensures

pub returns-in-FullServices : goal.returns-in-FullServices
returns-in-FullServices g c = rw c.in-FullServices.is c.put_two.ensures

pub returns-in-NoRoute : goal.returns-in-NoRoute
returns-in-NoRoute g c = rw c.in-NoRoute.is c.put_alone.ensures

pub returns-in-Blocked : goal.returns-in-Blocked
returns-in-Blocked g c = rw c.in-Blocked.is c.put_number_line-in-Blocked.ensures

pub returns-in-FullJournal : goal.returns-in-FullJournal
returns-in-FullJournal g c = rw c.in-FullJournal.is c.put_full_journal.ensures

pub returns-in-Memory : goal.returns-in-Memory
returns-in-Memory g c = rw c.in-Memory.is c.put_alone-in-Memory.ensures

pub returns-in-Placed : goal.returns-in-Placed
returns-in-Placed g c = rw c.in-Placed.is c.put_placed.ensures

pub returns-in-Admitted : goal.returns-in-Admitted
returns-in-Admitted g c = rw c.in-Admitted.is c.put_placed-in-Admitted.ensures

pub returns-in-Made : goal.returns-in-Made
returns-in-Made g c = rw c.in-Made.is c.put_made.ensures

pub returns-in-Released : goal.returns-in-Released
returns-in-Released g c = rw c.in-Released.is c.put_ok.ensures

pub returns-in-Pushed : goal.returns-in-Pushed
returns-in-Pushed g c =
    let low : SFits w16 c.in-Pushed.from = search rules in
    let high : SFits w16 c.in-Pushed.to = search rules in
    let both = rw (to_z-of_z w16 c.in-Pushed.from low, to_z-of_z w16 c.in-Pushed.to high) at c.put_moved.ensures in
    rw c.in-Pushed.is both

pub returns-in-Finished : goal.returns-in-Finished
returns-in-Finished g c = rw c.in-Finished.is c.put_ok-in-Finished.ensures

pub returns-in-Backed : goal.returns-in-Backed
returns-in-Backed g c = rw c.in-Backed.is c.put_ok-in-Backed.ensures

pub returns-in-Refitted : goal.returns-in-Refitted
returns-in-Refitted g c =
    let low : SFits w16 c.in-Refitted.from = search rules in
    let high : SFits w16 c.in-Refitted.to = search rules in
    let both = rw (to_z-of_z w16 c.in-Refitted.from low, to_z-of_z w16 c.in-Refitted.to high) at c.put_moved-in-Refitted.ensures in
    rw c.in-Refitted.is both

pub returns-in-Show : goal.returns-in-Show
returns-in-Show g c = rw c.in-Show.is c.put_named.ensures

pub returns-in-List : goal.returns-in-List
returns-in-List g c = rw c.in-List.is c.put_services.ensures

pub returns-in-Routes : goal.returns-in-Routes
returns-in-Routes g c = rw c.in-Routes.is c.put_routes.ensures

pub returns-in-Drill : goal.returns-in-Drill
returns-in-Drill g c = rw c.in-Drill.is c.put_drill.ensures

pub returns-in-Plan : goal.returns-in-Plan
returns-in-Plan g c = rw c.in-Plan.is c.put_plan.ensures

pub returns-in-Map : goal.returns-in-Map
returns-in-Map g c =
    let text = rw c.bytes.ensures at c.put.ensures in
    rw c.in-Map.is text

pub returns-in-Stats : goal.returns-in-Stats
returns-in-Stats g c = rw c.in-Stats.is c.put_stats.ensures

pub returns-in-Report : goal.returns-in-Report
returns-in-Report g c =
    let text = rw c.bytes-in-Report.ensures at c.put_text.ensures in
    rw c.in-Report.is text

pub returns-in-Bye : goal.returns-in-Bye
returns-in-Bye g c = rw c.in-Bye.is c.put_alone-in-Bye.ensures
