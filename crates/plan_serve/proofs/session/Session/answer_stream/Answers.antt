use Rattle.std.proofs.Common.{◌≡◌, refl, sym, ◌∙◌, ap, subst, ℕ, ◌-◌, ◌<◌, ◌≤◌, List, ◌++◌, length, take, drop, None, arith}
use Rattle.std.specs.Io.KnownBytes.{Consumes}
use Rattle.eon_model.specs.Modes.{stream_limit}
use Rattle.eon_model.specs.Run.{situation}
use Rattle.plan_serve.proofs.EndLaws.{going_begin, going_on, stops_reading, stops_at_long, stops_writing, quits_read, finishes, cut_at, finish_told, fed_on, fed_ended, fed_breaks, counts_none}
use Rattle.plan_serve.proofs.GoesLaws.{goes_begin}
use Rattle.plan_serve.proofs.HeldLaws.{given_all, below}
use Rattle.plan_serve.proofs.session.Session.answer_stream.Goals as goal

pub loop-count-init : goal.loop-count-init
loop-count-init g c = record {
  within = omega arith;
  setup = refl;
  going = going_begin _ _ _ _ _ (goes_begin _ _ _ _ c.requires.none_begun);
  held = c.requires.none_held;
  files = refl;
  opened = refl;
  reads = refl;
  stands = refl;
  calm = λ h. h;
}

pub returns-in-Err-clause-answered : goal.returns-in-Err-clause-answered
returns-in-Err-clause-answered g c =
    let so_far = c.loop-count.invariant in
    stops_reading _ _ _ c.requires.in_range c.requires.legal _ _ _ _ _ _ _
    (g.K.Sink.given c.args.out.now.out.now) (g.K.Sink.given c.loop-count.out.out.now) so_far.going so_far.within
    c.in-Err.ensures.bytes
    (given_all g.S.Start.bytes _ _ c.args.out.now.held.now.items c.loop-count.out.held.now.items so_far.going.goes.text
    c.requires.from c.requires.none_held so_far.held so_far.going.goes.given)

pub returns-then-count-eq0-clause-answered : goal.returns-then-count-eq0-clause-answered
returns-then-count-eq0-clause-answered g c =
    let so_far = c.loop-count.invariant in
    let buffer = c.read.new.buf in
    let some : 0 < length buffer = omega (arith, c.requires.some_room, c.loop-count.auto.buffer, c.read.auto.buf) in
    finishes _ _ _ c.requires.in_range c.requires.legal _ _ _ _ _ _ _
    (g.K.Sink.given c.args.out.now.out.now) (g.K.Sink.given c.finish.new.out.out.now) so_far.going so_far.within
    (subst (λ (n : ℕ). Consumes (g.H.Shelf.left c.loop-count.shelf) (g.H.Shelf.left c.read.new.self) (take n buffer))
    c.if-count-eq0.true c.in-Ok.ensures.bytes.0)
    (c.in-Ok.ensures.bytes.1 c.if-count-eq0.true some)
    (situation c.finish.new.self.core.state None) c.finish.new.out.held.now.items _ c.finish.result
    (λ done text given. given_all g.S.Start.bytes _ _ c.args.out.now.held.now.items c.finish.new.out.held.now.items text
    c.requires.from c.requires.none_held (c.finish.ensures.none_held done) given)
    (λ front left text is more given. below g.S.Start.bytes _ _ c.args.out.now.held.now.items c.finish.new.out.held.now.items front
    left text c.requires.from c.requires.none_held is more given)
    (finish_told _ _ _ _ _ _ _ _ _ so_far.going.taken _ so_far.setup so_far.going.goes c.finish.result
    (c.finish.ensures.ended _ _ so_far.going.taken))

pub returns-then-count-eq0-clause-reads : goal.returns-then-count-eq0-clause-reads
returns-then-count-eq0-clause-reads g c =
    counts_none c.finish.result _ _ c.finish.ensures.no_read (c.in-Ok.ensures.counts ∙ c.loop-count.invariant.reads)

pub returns-then-count-eq0-clause-calm : goal.returns-then-count-eq0-clause-calm
returns-then-count-eq0-clause-calm g c = λ calm. c.finish.ensures.no_read

pub returns-then-allowed-count-clause-answered : goal.returns-then-allowed-count-clause-answered
returns-then-allowed-count-clause-answered g c =
    let so_far = c.loop-count.invariant in
    let buffer = c.read.new.buf in
    let allowed = stream_limit - c.loop-count.taken in
    let count = c.in-Ok.count in
    let some = c.min.result in
    let is : some ≡ allowed = omega (arith, c.min.ensures, c.if-allowed-count.true) in
    let low : some ≤ count = omega (arith, c.min.ensures) in
    let cut = cut_at buffer some count low c.in-Ok.ensures.bound.0 in
    let k = fed_on _ _ _ _ (situation c.feed.new.self.core.state None) _ _ _ _ so_far.going.taken c.feed.new.out.held.now.items so_far.setup
    so_far.going.goes c.feed.new.self.begun.items (take some buffer)
    c.in-Ok-On.field-0 c.in-Ok-On.field-0-is (c.in-Ok-On.ensures.fed _ _ so_far.going.taken) in
    stops_at_long _ _ _ c.requires.in_range c.requires.legal _ _ _ _ _ _ _
    (g.K.Sink.given c.args.out.now.out.now) (g.K.Sink.given c.feed.new.out.out.now) so_far.going
    (take some buffer) (drop some (take count buffer))
    (subst (λ (v : List ℕ). Consumes (g.H.Shelf.left c.loop-count.shelf) (g.H.Shelf.left c.read.new.self) v)
    (sym cut.is) c.in-Ok.ensures.bytes.0) _ _ _
    (omega (arith, cut.size, is, so_far.within)) (omega (arith, cut.rest, is, c.if-allowed-count.true)) k
    (given_all g.S.Start.bytes _ _ c.args.out.now.held.now.items c.feed.new.out.held.now.items k.text
    c.requires.from c.requires.none_held c.in-Ok-On.ensures.none_held k.given)

pub loop-count-preserved : goal.loop-count-preserved
loop-count-preserved g c =
    let so_far = c.loop-count.invariant in
    let buffer = c.read.new.buf in
    let count = c.in-Ok.count in
    let some = c.min.result in
    let is : some ≡ count = omega (arith, c.min.ensures, c.if-allowed-count.false) in
    let cut = cut_at buffer some count (omega (arith, is)) c.in-Ok.ensures.bound.0 in
    let k = fed_on _ _ _ _ (situation c.feed.new.self.core.state None) _ _ _ _ so_far.going.taken c.feed.new.out.held.now.items so_far.setup
    so_far.going.goes c.feed.new.self.begun.items (take some buffer)
    c.in-Ok-On.field-0 c.in-Ok-On.field-0-is (c.in-Ok-On.ensures.fed _ _ so_far.going.taken) in record {
      within = omega (arith, c.if-allowed-count.false, so_far.within);
      setup = c.in-Ok-On.ensures.setup ∙ so_far.setup;
      going = going_on _ _ _ _ (g.H.Shelf.left c.loop-count.shelf) (g.H.Shelf.left c.read.new.self) _ _ _ _ so_far.going
          (take some buffer) count _ _ (cut.size ∙ is)
          (subst (λ (n : ℕ). Consumes (g.H.Shelf.left c.loop-count.shelf) (g.H.Shelf.left c.read.new.self) (take n buffer))
          (sym is) c.in-Ok.ensures.bytes.0) k;
      held = c.in-Ok-On.ensures.none_held;
      files = c.in-Ok.ensures.files ∙ so_far.files;
      opened = c.in-Ok.ensures.opened ∙ so_far.opened;
      reads = c.in-Ok.ensures.counts ∙ so_far.reads;
      stands = c.in-Ok-On.ensures.stands ∙ so_far.stands;
      calm = λ calm. (c.in-Ok.ensures.calm (so_far.calm calm)).0;
    }

pub returns-in-Ok-Ended-clause-answered : goal.returns-in-Ok-Ended-clause-answered
returns-in-Ok-Ended-clause-answered g c =
    let so_far = c.loop-count.invariant in
    let buffer = c.read.new.buf in
    let count = c.in-Ok.count in
    let some = c.min.result in
    let low : some ≤ count = omega (arith, c.min.ensures) in
    let within = c.in-Ok.ensures.bound.0 in
    let cut = cut_at buffer some count low within in
    let all : length (take some buffer ++ drop some (take count buffer)) ≡ count = ap length cut.is ∙ cut.all in
    let k = fed_ended _ _ _ _ (situation c.feed.new.self.core.state None) _ _ _ _ so_far.going.taken c.feed.new.out.held.now.items so_far.setup
    so_far.going.goes c.feed.new.self.begun.items (take some buffer)
    c.in-Ok-Ended.field-0 c.in-Ok-Ended.field-0-is (c.in-Ok-Ended.ensures.fed _ _ so_far.going.taken) in
    quits_read _ _ _ c.requires.in_range c.requires.legal _ _ _ _ _ _ _
    (g.K.Sink.given c.args.out.now.out.now) (g.K.Sink.given c.feed.new.out.out.now) so_far.going
    (take some buffer) (drop some (take count buffer))
    (subst (λ (v : List ℕ). Consumes (g.H.Shelf.left c.loop-count.shelf) (g.H.Shelf.left c.read.new.self) v)
    (sym cut.is) c.in-Ok.ensures.bytes.0) _
    (omega (arith, cut.size, c.min.ensures, so_far.within))
    (omega (arith, all, within, c.requires.few, c.loop-count.auto.buffer, c.read.auto.buf)) k
    (given_all g.S.Start.bytes _ _ c.args.out.now.held.now.items c.feed.new.out.held.now.items k.text
    c.requires.from c.requires.none_held c.in-Ok-Ended.ensures.none_held k.given)

pub returns-in-Err-feed-clause-answered : goal.returns-in-Err-feed-clause-answered
returns-in-Err-feed-clause-answered g c =
    let so_far = c.loop-count.invariant in
    let buffer = c.read.new.buf in
    let count = c.in-Ok.count in
    let some = c.min.result in
    let low : some ≤ count = omega (arith, c.min.ensures) in
    let cut = cut_at buffer some count low c.in-Ok.ensures.bound.0 in
    let k = fed_breaks _ _ _ _ (situation c.feed.new.self.core.state None) _ _ _ _ so_far.going.taken c.feed.new.out.held.now.items so_far.setup
    so_far.going.goes c.feed.new.self.begun.items (take some buffer)
    c.in-Err-feed.field-0 (c.in-Err-feed.ensures.fed _ _ so_far.going.taken) in
    stops_writing _ _ _ c.requires.in_range c.requires.legal _ _ _ _ _ _ _
    (g.K.Sink.given c.args.out.now.out.now) (g.K.Sink.given c.feed.new.out.out.now) so_far.going
    (take some buffer) (drop some (take count buffer))
    (subst (λ (v : List ℕ). Consumes (g.H.Shelf.left c.loop-count.shelf) (g.H.Shelf.left c.read.new.self) v)
    (sym cut.is) c.in-Ok.ensures.bytes.0) c.feed.new.out.held.now.items _ k
    (below g.S.Start.bytes _ _ c.args.out.now.held.now.items c.feed.new.out.held.now.items k.front k.left k.text
    c.requires.from c.requires.none_held k.is k.some k.given)
