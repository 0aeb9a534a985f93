use Rattle.reply_text.proofs.ListingLaws.{next_route, shown_at}
use Rattle.reply_text.proofs.listing.put_each_route.Goals as goal

pub put_route-requires : goal.put_route-requires
put_route-requires g c = shown_at c.args.setup.now c.args.routes.now c.loop-i.i c.at.result.now c.requires c.at.ensures.route

pub loop-i-preserved : goal.loop-i-preserved
loop-i-preserved g c = next_route c.args.setup.now c.args.routes.now c.loop-i.i c.at.result.now _ _ _
    (rw c.len-i-end.ensures at c.loop-i-test.true)
    c.at.ensures.read c.loop-i.invariant c.put_route.ensures
