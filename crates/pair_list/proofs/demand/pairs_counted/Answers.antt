use Rattle.std.proofs.Common.{◌≤◌, sym, ◌∙◌, ap, subst, List, length}
use Rattle.std.specs.List.{list_all}
use Rattle.eon_model.specs.Candidates.{Candidate}
use Rattle.eon_model.specs.Sets.{has_member}
use Rattle.eon_model.proofs.FewCandidates.{few-candidates}
use Rattle.pair_list.proofs.BanLaws.{avoid-small}
use Rattle.pair_list.proofs.FoundLaws.{candidates-found}
use Rattle.pair_list.specs.Sized.{is_sized_candidate}
use Rattle.pair_list.proofs.SizedLaws.{candidates-sized}
use Rattle.pair_list.proofs.RunLaws.{runs-found, most-found}
use Rattle.pair_list.proofs.demand.pairs_counted.Goals as goal

pub avoided-banned-requires : goal.avoided-banned-requires
avoided-banned-requires g c = avoid-small c.args.avoid c.args.setup.now c.requires.setup c.requires.avoid

pub invariant_of-result : goal.invariant_of-result
invariant_of-result g c =
    let setup = c.args.setup.now in
    subst (λ (ps : List Candidate). length ps ≤ 256)
    (sym (candidates-found setup c.args.s c.args.t c.args.rate c.args.class c.args.avoid c.put_works.new.pairs.items
    c.new-pairs.result.items c.in_ok-works.works (has_member c.avoided-banned.result) c.new-pairs.ensures.items
    c.avoided-banned.ensures c.in_ok-works.ensures.routes c.in_ok-put_works.ensures.pairs))
    (few-candidates setup c.args.s c.args.t c.args.rate c.args.class c.args.avoid c.requires.setup)

pub returns : goal.returns
returns g c =
    let setup = c.args.setup.now in
    let found = candidates-found setup c.args.s c.args.t c.args.rate c.args.class c.args.avoid
    c.put_works.new.pairs.items c.new-pairs.result.items c.in_ok-works.works (has_member c.avoided-banned.result)
    c.new-pairs.ensures.items c.avoided-banned.ensures c.in_ok-works.ensures.routes
    c.in_ok-put_works.ensures.pairs in
    record {
      pairs = found;
      sized = ap (list_all (is_sized_candidate setup c.args.s c.args.t c.args.rate)) found
          ∙ candidates-sized setup c.args.s c.args.t c.args.rate c.requires.setup c.requires.rate
          c.requires.rate_limit c.args.class c.args.avoid;
      runs = runs-found setup c.args.s c.args.t c.args.rate c.args.class c.args.avoid c.in_ok-works.works
          (has_member c.avoided-banned.result) c.args.steps.now c.routes_within_counted.new.steps
          c.put_works.new.steps c.avoided-banned.ensures c.in_ok-works.ensures.routes
          c.in_ok-works.ensures.runs c.in_ok-put_works.ensures.runs;
      most = most-found setup c.args.s c.args.t c.args.class c.in_ok-works.works
          (has_member c.avoided-banned.result) c.args.steps.now c.routes_within_counted.new.steps
          c.put_works.new.steps c.in_ok-works.ensures.routes c.routes_within_counted.ensures.most
          c.in_ok-put_works.ensures.most;
    }
