use Rattle.std.proofs.Common.{◌≡◌, refl, sym, ◌∙◌, ap, subst, ℕ, ◌-◌, ◌<◌, ◌≤◌, List, ◌++◌, length, take, drop, arith}
use Rattle.std.specs.Io.KnownBytes.{Consumes}
use Rattle.eon_model.specs.LineStream.{each_text}
use Rattle.eon_model.specs.Modes.{stream_limit}
use Rattle.line_session.proofs.EndLaws.{going_begin, going_on, stops_reading, stops_at_long, stops_broken, quits_read, finishes, cut_at, fed_on, fed_ended, counts_none, not_reading}
use Rattle.line_session.proofs.GoesLaws.{goes_begin}
use Rattle.line_session.proofs.HeldLaws.{given_all, given_none}
use Rattle.line_session.proofs.session.LineSession.answer_stream.Goals as goal

pub loop-count-init : goal.loop-count-init
loop-count-init g c = record {
  within = omega arith;
  ready = c.requires.ready;
  setting = refl;
  going = going_begin _ _ _ _ _ _ _ (goes_begin _ _ _ (g.K.Sink.given c.args.out.now) _ _ c.requires.none_begun
      (g.met.M.Answerer.went_none c.args.answerer.now)
      (given_none (g.K.Sink.given c.args.out.now) c.args.held.now.items c.requires.none_held));
  held = c.requires.none_held;
  files = refl;
  opened = refl;
  reads = refl;
  stands = refl;
  calm = λ h. h;
}

pub returns-in-Err-clause-answered : goal.returns-in-Err-clause-answered
returns-in-Err-clause-answered g c =
    let so_far = c.loop-count.invariant in
    let went = g.M.Answerer.went c.args.answerer.now c.loop-count.answerer in
    stops_reading _ _ _ (g.met.M.Answerer.lawful c.args.answerer.now c.requires.ready) went went _ _ _ _ _ _ _ _ _
    (g.K.Sink.given c.loop-count.out) so_far.going so_far.within c.in-Err.ensures.bytes
    (given_all (g.K.Sink.given c.args.out.now) (g.K.Sink.given c.loop-count.out) c.loop-count.held.items
    (each_text (g.M.Answerer.by (g.M.Answerer.setting c.args.answerer.now)).machine (g.M.Answerer.place c.args.answerer.now) so_far.going.goes.answers) so_far.held so_far.going.goes.are.given)

pub returns-then-count-eq0-clause-answered : goal.returns-then-count-eq0-clause-answered
returns-then-count-eq0-clause-answered g c =
    let so_far = c.loop-count.invariant in
    let buffer = c.read.new.buf in
    let some : 0 < length buffer = omega (arith, c.requires.some_room, c.loop-count.auto.buffer, c.read.auto.buf) in
    finishes _ _ _ (g.met.M.Answerer.lawful c.args.answerer.now c.requires.ready)
    (g.M.Answerer.went c.args.answerer.now c.loop-count.answerer) (g.M.Answerer.went c.args.answerer.now c.finish.new.answerer)
    _ _ _ _ _ _ _ _ _ (g.K.Sink.given c.finish.new.out) so_far.going so_far.within
    (subst (λ (n : ℕ). Consumes (g.H.Shelf.left c.loop-count.shelf) (g.H.Shelf.left c.read.new.self) (take n buffer))
    c.if-count-eq0.true c.in-Ok.ensures.bytes.0)
    (c.in-Ok.ensures.bytes.1 c.if-count-eq0.true some)
    (g.M.Answerer.place c.finish.new.answerer) c.finish.new.held.items c.finish.result c.finish.ensures.none_held
    (c.finish.ensures.ended c.args.answerer.now (g.K.Sink.given c.args.out.now) so_far.going.taken so_far.setting so_far.going.goes)

pub returns-then-count-eq0-clause-reads : goal.returns-then-count-eq0-clause-reads
returns-then-count-eq0-clause-reads g c =
    counts_none c.finish.result _ _ c.finish.ensures.no_read (c.in-Ok.ensures.counts ∙ c.loop-count.invariant.reads)

pub returns-then-count-eq0-clause-calm : goal.returns-then-count-eq0-clause-calm
returns-then-count-eq0-clause-calm g c = λ calm. c.finish.ensures.no_read

pub returns-then-allowed-count-clause-answered : goal.returns-then-allowed-count-clause-answered
returns-then-allowed-count-clause-answered g c =
    let so_far = c.loop-count.invariant in
    let buffer = c.read.new.buf in
    let allowed = stream_limit - c.loop-count.taken in
    let count = c.in-Ok.count in
    let some = c.min.result in
    let is : some ≡ allowed = omega (arith, c.min.ensures, c.if-allowed-count.true) in
    let low : some ≤ count = omega (arith, c.min.ensures) in
    let cut = cut_at buffer some count low c.in-Ok.ensures.bound.0 in
    let k = fed_on _ _ _ _ _ _ _ c.feed.new.self.begun.items _ c.feed.new.held.items c.in-Ok-On.field-0 c.in-Ok-On.field-0-is
    (c.in-Ok-On.ensures.fed c.args.answerer.now (g.K.Sink.given c.args.out.now) so_far.going.taken so_far.setting so_far.going.goes) in
    stops_at_long _ _ _ (g.met.M.Answerer.lawful c.args.answerer.now c.requires.ready)
    (g.M.Answerer.went c.args.answerer.now c.loop-count.answerer) (g.M.Answerer.went c.args.answerer.now c.feed.new.answerer)
    _ _ _ _ _ _ _ _ _ (g.K.Sink.given c.feed.new.out) so_far.going
    (take some buffer) (drop some (take count buffer))
    (subst (λ (v : List ℕ). Consumes (g.H.Shelf.left c.loop-count.shelf) (g.H.Shelf.left c.read.new.self) v)
    (sym cut.is) c.in-Ok.ensures.bytes.0) _ _ _
    (omega (arith, cut.size, is, so_far.within)) (omega (arith, cut.rest, is, c.if-allowed-count.true)) k
    (given_all (g.K.Sink.given c.args.out.now) (g.K.Sink.given c.feed.new.out) c.feed.new.held.items (each_text (g.M.Answerer.by (g.M.Answerer.setting c.args.answerer.now)).machine (g.M.Answerer.place c.args.answerer.now) k.answers)
    c.in-Ok-On.ensures.none_held k.are.given)

pub loop-count-preserved : goal.loop-count-preserved
loop-count-preserved g c =
    let so_far = c.loop-count.invariant in
    let buffer = c.read.new.buf in
    let count = c.in-Ok.count in
    let some = c.min.result in
    let is : some ≡ count = omega (arith, c.min.ensures, c.if-allowed-count.false) in
    let cut = cut_at buffer some count (omega (arith, is)) c.in-Ok.ensures.bound.0 in
    let k = fed_on _ _ _ _ _ _ _ c.feed.new.self.begun.items _ c.feed.new.held.items c.in-Ok-On.field-0 c.in-Ok-On.field-0-is
    (c.in-Ok-On.ensures.fed c.args.answerer.now (g.K.Sink.given c.args.out.now) so_far.going.taken so_far.setting so_far.going.goes) in record {
      within = omega (arith, c.if-allowed-count.false, so_far.within);
      ready = c.in-Ok-On.ensures.ready;
      setting = c.in-Ok-On.ensures.setting ∙ so_far.setting;
      going = going_on _ (g.M.Answerer.went c.args.answerer.now c.loop-count.answerer)
          (g.M.Answerer.went c.args.answerer.now c.feed.new.answerer) _ _ _
          (g.H.Shelf.left c.loop-count.shelf) (g.H.Shelf.left c.read.new.self) _ _ _ _ _ so_far.going
          (take some buffer) count _ _ _ (cut.size ∙ is)
          (subst (λ (n : ℕ). Consumes (g.H.Shelf.left c.loop-count.shelf) (g.H.Shelf.left c.read.new.self) (take n buffer))
          (sym is) c.in-Ok.ensures.bytes.0) k;
      held = c.in-Ok-On.ensures.none_held;
      files = c.in-Ok.ensures.files ∙ so_far.files;
      opened = c.in-Ok.ensures.opened ∙ so_far.opened;
      reads = c.in-Ok.ensures.counts ∙ so_far.reads;
      stands = c.in-Ok-On.ensures.stands ∙ so_far.stands;
      calm = λ calm. (c.in-Ok.ensures.calm (so_far.calm calm)).0;
    }

pub returns-in-Ok-Ended-clause-answered : goal.returns-in-Ok-Ended-clause-answered
returns-in-Ok-Ended-clause-answered g c =
    let so_far = c.loop-count.invariant in
    let buffer = c.read.new.buf in
    let count = c.in-Ok.count in
    let some = c.min.result in
    let low : some ≤ count = omega (arith, c.min.ensures) in
    let within = c.in-Ok.ensures.bound.0 in
    let cut = cut_at buffer some count low within in
    let all : length (take some buffer ++ drop some (take count buffer)) ≡ count = ap length cut.is ∙ cut.all in
    let k = fed_ended _ _ _ _ _ _ _ c.feed.new.self.begun.items _ c.feed.new.held.items c.in-Ok-Ended.field-0 c.in-Ok-Ended.field-0-is
    (c.in-Ok-Ended.ensures.fed c.args.answerer.now (g.K.Sink.given c.args.out.now) so_far.going.taken so_far.setting so_far.going.goes) in
    quits_read _ _ _ (g.met.M.Answerer.lawful c.args.answerer.now c.requires.ready)
    (g.M.Answerer.went c.args.answerer.now c.loop-count.answerer) (g.M.Answerer.went c.args.answerer.now c.feed.new.answerer)
    _ _ _ _ _ _ _ _ _ (g.K.Sink.given c.feed.new.out) so_far.going
    (take some buffer) (drop some (take count buffer))
    (subst (λ (v : List ℕ). Consumes (g.H.Shelf.left c.loop-count.shelf) (g.H.Shelf.left c.read.new.self) v)
    (sym cut.is) c.in-Ok.ensures.bytes.0) _
    (omega (arith, cut.size, c.min.ensures, so_far.within))
    (omega (arith, all, within, c.requires.few, c.loop-count.auto.buffer, c.read.auto.buf)) k
    (given_all (g.K.Sink.given c.args.out.now) (g.K.Sink.given c.feed.new.out) c.feed.new.held.items (each_text (g.M.Answerer.by (g.M.Answerer.setting c.args.answerer.now)).machine (g.M.Answerer.place c.args.answerer.now) k.answers)
    c.in-Ok-Ended.ensures.none_held k.are.given)

pub returns-in-Err-feed-clause-answered : goal.returns-in-Err-feed-clause-answered
returns-in-Err-feed-clause-answered g c =
    let so_far = c.loop-count.invariant in
    let buffer = c.read.new.buf in
    let count = c.in-Ok.count in
    let some = c.min.result in
    let low : some ≤ count = omega (arith, c.min.ensures) in
    let cut = cut_at buffer some count low c.in-Ok.ensures.bound.0 in
    stops_broken _ _ _ (g.met.M.Answerer.lawful c.args.answerer.now c.requires.ready)
    (g.M.Answerer.went c.args.answerer.now c.loop-count.answerer) (g.M.Answerer.went c.args.answerer.now c.feed.new.answerer)
    _ _ _ _ _ _ _ _ _ (g.K.Sink.given c.feed.new.out) so_far.going
    (take some buffer) (drop some (take count buffer))
    (subst (λ (v : List ℕ). Consumes (g.H.Shelf.left c.loop-count.shelf) (g.H.Shelf.left c.read.new.self) v)
    (sym cut.is) c.in-Ok.ensures.bytes.0)
    (g.M.Answerer.place c.feed.new.answerer) c.feed.new.self.begun.items c.feed.new.held.items _
    c.in-Err-feed.stopped c.outcome_of.result c.outcome_of.ensures refl
    (c.in-Err-feed.ensures.fed c.args.answerer.now (g.K.Sink.given c.args.out.now) so_far.going.taken so_far.setting so_far.going.goes)

pub returns-in-Err-feed-clause-reads : goal.returns-in-Err-feed-clause-reads
returns-in-Err-feed-clause-reads g c =
    counts_none c.outcome_of.result _ _ (not_reading c.in-Err-feed.stopped c.outcome_of.result c.outcome_of.ensures)
    (c.in-Ok.ensures.counts ∙ c.loop-count.invariant.reads)

pub returns-in-Err-feed-clause-calm : goal.returns-in-Err-feed-clause-calm
returns-in-Err-feed-clause-calm g c = λ calm. not_reading c.in-Err-feed.stopped c.outcome_of.result c.outcome_of.ensures
