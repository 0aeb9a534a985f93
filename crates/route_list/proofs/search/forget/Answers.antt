use Rattle.std.proofs.Common.{◌∙◌, ap, map, not, rules}
use Rattle.std.proofs.lemmas.Fn.{filter_same}
use Rattle.eon_model.specs.Deviations.{is_front}
use Rattle.route_list.specs.Fronts.{seen}
use Rattle.route_list.proofs.PoolLaws.{filter-mapped}
use Rattle.route_list.proofs.search.forget.Goals as goal

pub returns : goal.returns
returns c =
    ap (map seen) (filter_same _ (λ d. not (is_front (seen d).front c.args.fibres.now)) _ (λ x b f' k. search rules)
    c.args.pool.now.items _ c.retain.ensures.filtered)
    ∙ filter-mapped seen (λ d. not (is_front d.front c.args.fibres.now)) c.args.pool.now.items
