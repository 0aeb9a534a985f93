use Rattle.kept_routes.specs.contracts.table.SearchPartialEq.TheImpl.{eq-value}
use Rattle.kept_routes.proofs.KeptLaws.{same-search, found-at}
use Rattle.kept_routes.proofs.table.find.Goals as goal

pub returns : goal.returns
returns c = λ setup h. found-at eq-value.it same-search setup c.args.map.now.entries c.args.search.now c.get.result
    c.get.ensures.value h
