use Rattle.std.proofs.Common.{arith}
use Rattle.net_file.specs.PrintWords.{group_at}
use Rattle.net_widening.proofs.GroupMembers.{members-of, same-held}
use Rattle.net_widening.proofs.network.same_members.Goals as goal

pub returns : goal.returns
returns c =
    let net = c.args.net.now in
    let other = c.args.other.now in
    let j = c.args.group in
    let a = c.fibres.ensures.count in
    let b = c.fibres-2.ensures.count in
    let most = c.max-fibre-end.ensures in
    let past = c.loop-fibre-test.false in
    same-held c.loop-fibre.fibre net.fibres other.fibres (group_at net.groups j).fibres (group_at other.groups j).fibres
    (members-of net j c.fibres.ensures.graph c.requires.group)
    (members-of other j c.fibres-2.ensures.graph c.requires.other) (omega arith) (omega arith) c.loop-fibre.invariant
