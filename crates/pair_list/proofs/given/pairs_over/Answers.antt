use Rattle.std.proofs.Common.{◌≤◌, sym, ◌∙◌, ap, subst, List, ◌++◌, length}
use Rattle.std.specs.List.{filter_map}
use Rattle.eon_model.specs.Candidates.{Candidate, sized, candidates_over}
use Rattle.eon_model.specs.Route.{Route}
use Rattle.eon_model.proofs.FewCandidates.{few-candidates}
use Rattle.pair_list.proofs.given.pairs_over.Goals as goal

pub invariant_of-result : goal.invariant_of-result
invariant_of-result c =
    let setup = c.args.setup.now in
    let over = λ (works : List Route). candidates_over setup c.args.s c.args.t c.args.rate c.args.class (filter_map (sized setup c.args.rate) works) in
    let avoid = c.requires.works.0 in
    subst (λ (ps : List Candidate). length ps ≤ 256)
    (sym (c.in_ok-put_each_given.ensures ∙ ap (λ ps. ps ++ over c.args.works.now) c.new-pairs.ensures.items
    ∙ ap over c.requires.works.1))
    (few-candidates setup c.args.s c.args.t c.args.rate c.args.class avoid c.requires.setup)

pub returns : goal.returns
returns c =
    let setup = c.args.setup.now in
    c.in_ok-put_each_given.ensures
    ∙ ap (λ ps. ps ++ candidates_over setup c.args.s c.args.t c.args.rate c.args.class
    (filter_map (sized setup c.args.rate) c.args.works.now)) c.new-pairs.ensures.items
