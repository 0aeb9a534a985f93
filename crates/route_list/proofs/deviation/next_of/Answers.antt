use Rattle.std.proofs.Common.{sym, ◌∙◌}
use Rattle.route_list.proofs.FrontLaws.{front-shorter, next-none, next-some, small-at}
use Rattle.route_list.proofs.deviation.next_of.Goals as goal

pub returns-then-not-goes_past : goal.returns-then-not-goes_past
returns-then-not-goes_past c = record {
  begins = λ i. next-none c.args.front.now c.args.fibres.now i (sym c.goes_past.ensures ∙ c.if-not-goes_past.true);
  small = λ a. tt;
}

pub bounds-fibres-front : goal.bounds-fibres-front
bounds-fibres-front c =
    front-shorter c.args.front.now c.args.fibres.now (sym c.goes_past.ensures ∙ c.if-not-goes_past.false)

pub returns : goal.returns
returns c =
    let past = sym c.goes_past.ensures ∙ c.if-not-goes_past.false in
    record {
      begins = λ i. next-some c.args.front.now c.args.fibres.now i 0 past;
      small = λ a. small-at 128 c.args.fibres.now _ 0 a (front-shorter c.args.front.now c.args.fibres.now past);
    }
