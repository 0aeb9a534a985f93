use Rattle.std.proofs.Common.{refl, sym, ◌∙◌, ap, ℕ, ◌+◌, List, [], ◌∷◌, ◌++◌, take, arith}
use Rattle.std.proofs.lemmas.List.{take_rest}
use Rattle.line_session.proofs.GoesLaws.{rest_goes, rest_shorter, loop_begins, loop_goes, loop_quits, loop_breaks, loop_ends}
use Rattle.line_session.proofs.session.LineSession.answer_lines.Goals as goal

pub loop-at-init : goal.loop-at-init
loop-at-init g c = record {
  short = omega arith;
  done = [];
  whole = refl;
  ready = c.requires.ready;
  setting = refl;
  goes = λ first before bytes same h. loop_begins _ _ _ _ before _ _ _ bytes h;
  stands = refl;
}

pub loop-at-preserved : goal.loop-at-preserved
loop-at-preserved g c =
    let so_far = c.loop-at.invariant in
    let rest = c.loop-at.rest.now in
    let at = c.in-Some.at in
    let found = c.in-Some.ensures.some in record {
      short = rest_shorter rest _ _ _ so_far.short;
      done = so_far.done ++ (take at rest ++ 10 ∷ []);
      whole = rest_goes c.args.piece.now so_far.done rest at found.2 so_far.whole
          ∙ ap (λ (v : List ℕ). (so_far.done ++ (take at rest ++ 10 ∷ [])) ++ v) (sym (take_rest rest (at + 1)));
      ready = c.in-Ok-On.ensures.ready;
      setting = c.in-Ok-On.ensures.setting ∙ so_far.setting;
      goes = λ first before bytes same h.
          loop_goes g.M.Answerer.Setting g.M.Answerer.by _ _ (so_far.setting ∙ same)
          _ _ _ (g.met.M.Answerer.went_more first c.loop-at.answerer c.end_line.new.answerer) _ _ _ before _ _
          c.loop-at.held.items c.end_line.new.held.items
          c.loop-at.self.begun.items bytes c.args.piece.now so_far.done rest at found.1 (so_far.goes first before bytes same h)
          c.in-Ok-On.field-0 _ c.in-Ok-On.field-0-is c.in-Ok-On.ensures.begun c.in-Ok-On.ensures.told;
      stands = c.in-Ok-On.ensures.stands ∙ so_far.stands;
    }

pub returns-in-Ok-Ended-clause-fed : goal.returns-in-Ok-Ended-clause-fed
returns-in-Ok-Ended-clause-fed g c = λ first before bytes same h.
    let so_far = c.loop-at.invariant in
    let found = c.in-Some.ensures.some in
    loop_quits g.M.Answerer.Setting g.M.Answerer.by _ _ (so_far.setting ∙ same)
    _ _ _ (g.met.M.Answerer.went_more first c.loop-at.answerer c.end_line.new.answerer) _ _ _ before _ _
    c.loop-at.held.items c.end_line.new.held.items
    c.loop-at.self.begun.items bytes c.args.piece.now so_far.done c.loop-at.rest.now c.in-Some.at
    found.1 (so_far.goes first before bytes same h) c.in-Ok-Ended.field-0 c.in-Ok-Ended.field-0-is found.2 so_far.whole
    c.in-Ok-Ended.ensures.told

pub returns-in-Err-clause-fed : goal.returns-in-Err-clause-fed
returns-in-Err-clause-fed g c = λ first before bytes same h.
    let so_far = c.loop-at.invariant in
    let found = c.in-Some.ensures.some in
    loop_breaks g.M.Answerer.Setting g.M.Answerer.by _ _ (so_far.setting ∙ same)
    _ _ _ (g.met.M.Answerer.went_more first c.loop-at.answerer c.end_line.new.answerer) _ _ _ before _ _
    c.loop-at.held.items c.end_line.new.held.items
    c.loop-at.self.begun.items bytes c.args.piece.now so_far.done c.loop-at.rest.now c.in-Some.at
    found.1 (so_far.goes first before bytes same h) c.in-Err.stopped found.2 so_far.whole c.end_line.new.self.begun.items c.in-Err.ensures.told

pub returns-clause-fed : goal.returns-clause-fed
returns-clause-fed g c = λ first before bytes same h.
    let so_far = c.loop-at.invariant in
    loop_ends _ _ _ _ before _ _ c.loop-at.self.begun.items _ bytes c.args.piece.now so_far.done c.loop-at.rest.now
    so_far.whole (c.in_default.ensures.none refl) c.keep.ensures.begun (so_far.goes first before bytes same h)
