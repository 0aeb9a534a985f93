use Rattle.std.proofs.Common.{◌∙◌, ap, List}
use Rattle.std.specs.List.{list_all, filter_map}
use Rattle.std.proofs.lemmas.Result.{IfOk-weaker}
use Rattle.eon_model.specs.Candidates.{sized, candidates_over}
use Rattle.eon_model.specs.Route.{Route}
use Rattle.pair_list.specs.Sized.{is_sized_candidate}
use Rattle.pair_list.proofs.SizedLaws.{candidates-sized}
use Rattle.kept_routes.proofs.candidates.pairs_kept.Goals as goal

pub pairs_over-requires : goal.pairs_over-requires
pairs_over-requires c = record {
  setup = c.requires.setup;
  rate = c.requires.rate;
  rate_limit = c.requires.rate_limit;
  works = (c.args.avoid, c.in_ok-works.ensures.routes);
  backups = c.deref.ensures.value ∙ c.in_ok-backups.ensures.backups;
}

pub returns-clause-pairs : goal.returns-clause-pairs
returns-clause-pairs c =
    let setup = c.args.setup.now in
    IfOk-weaker c.pairs_over.result _ _ (λ ps e. e ∙ ap (λ (works : List Route). candidates_over setup c.args.s c.args.t c.args.rate
    c.args.class (filter_map (sized setup c.args.rate) works)) c.in_ok-works.ensures.routes) c.pairs_over.ensures

pub returns-clause-sized : goal.returns-clause-sized
returns-clause-sized c =
    let setup = c.args.setup.now in
    IfOk-weaker c.pairs_over.result _ _ (λ ps e. ap (list_all (is_sized_candidate setup c.args.s c.args.t c.args.rate))
    (e ∙ ap (λ (works : List Route). candidates_over setup c.args.s c.args.t c.args.rate
    c.args.class (filter_map (sized setup c.args.rate) works)) c.in_ok-works.ensures.routes)
    ∙ candidates-sized setup c.args.s c.args.t c.args.rate c.requires.setup c.requires.rate c.requires.rate_limit
    c.args.class c.args.avoid) c.pairs_over.ensures
