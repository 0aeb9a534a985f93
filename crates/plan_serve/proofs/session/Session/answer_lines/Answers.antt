use Rattle.std.proofs.Common.{refl, sym, ◌∙◌, ap, ℕ, ◌+◌, List, [], ◌∷◌, ◌++◌, take, None, arith}
use Rattle.std.proofs.lemmas.List.{take_rest}
use Rattle.eon_model.specs.Run.{situation}
use Rattle.plan_core.specs.Seen.{CoreSeen}
use Rattle.plan_serve.proofs.GoesLaws.{rest_goes, rest_shorter, loop_begins, loop_goes, loop_quits, loop_breaks, loop_ends}
use Rattle.plan_serve.proofs.session.Session.answer_lines.Goals as goal

pub loop-at-init : goal.loop-at-init
loop-at-init g c = record {
  short = omega arith;
  done = [];
  whole = refl;
  setup = refl;
  goes = λ start before bytes h. loop_begins _ start _ before _ _ bytes h;
  stands = refl;
}

pub loop-at-preserved : goal.loop-at-preserved
loop-at-preserved g c =
    let so_far = c.loop-at.invariant in
    let rest = c.loop-at.rest.now in
    let at = c.in-Some.at in
    let found = c.in-Some.ensures.some in record {
      short = rest_shorter rest _ _ _ so_far.short;
      done = so_far.done ++ (take at rest ++ 10 ∷ []);
      whole = rest_goes c.args.piece.now so_far.done rest at found.2 so_far.whole
          ∙ ap (λ (v : List ℕ). (so_far.done ++ (take at rest ++ 10 ∷ [])) ++ v) (sym (take_rest rest (at + 1)));
      setup = c.in-Ok-On.ensures.setup ∙ so_far.setup;
      goes = λ start before bytes h. loop_goes _ _ start _ _ before _ _ _ bytes c.args.piece.now so_far.done rest at so_far.setup
          found.1 (so_far.goes start before bytes h) c.in-Ok-On.field-0 _ c.in-Ok-On.field-0-is c.in-Ok-On.ensures.begun
          c.in-Ok-On.ensures.told;
      stands = c.in-Ok-On.ensures.stands ∙ so_far.stands;
    }

pub returns-in-Ok-Ended-clause-fed : goal.returns-in-Ok-Ended-clause-fed
returns-in-Ok-Ended-clause-fed g c = λ start before bytes h.
    let so_far = c.loop-at.invariant in
    let found = c.in-Some.ensures.some in
    loop_quits _ _ start _ _ before _ _ _ bytes c.args.piece.now so_far.done c.loop-at.rest.now c.in-Some.at so_far.setup
    found.1 (so_far.goes start before bytes h) c.in-Ok-Ended.field-0 c.in-Ok-Ended.field-0-is found.2 so_far.whole
    c.in-Ok-Ended.ensures.told

pub returns-in-Err-clause-fed : goal.returns-in-Err-clause-fed
returns-in-Err-clause-fed g c = λ start before bytes h.
    let so_far = c.loop-at.invariant in
    let found = c.in-Some.ensures.some in
    loop_breaks _ _ start _ _ before _ _ _ bytes c.args.piece.now so_far.done c.loop-at.rest.now c.in-Some.at so_far.setup
    found.1 (so_far.goes start before bytes h) c.in-Err.field-0 found.2 so_far.whole c.in-Err.ensures.told

pub returns-clause-fed : goal.returns-clause-fed
returns-clause-fed g c = λ start before bytes h.
    let so_far = c.loop-at.invariant in
    loop_ends _ start _ _ before _ _ _ _ bytes c.args.piece.now so_far.done c.loop-at.rest.now refl
    (ap (λ (m : CoreSeen). situation m.state None) c.keep.ensures.core) so_far.whole (c.in_default.ensures.none refl)
    c.keep.ensures.begun (so_far.goes start before bytes h)
