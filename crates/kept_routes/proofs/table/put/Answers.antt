use Rattle.indexmap.specs.IndexMap.{insert_entry}
use Rattle.kept_routes.specs.contracts.table.SearchPartialEq.TheImpl.{eq-value}
use Rattle.kept_routes.proofs.KeptLaws.{same-search, found-more, either-found}
use Rattle.kept_routes.proofs.table.put.Goals as goal

pub returns-clause-found : goal.returns-clause-found
returns-clause-found c = λ setup is h.
    let old = c.args.map.now.entries in
    either-found c.insert.result setup old c.insert.new.self.entries
    (insert_entry eq-value.it old c.args.search c.args.routes) c.insert.ensures.entries c.insert.ensures.err
    (found-more eq-value.it same-search setup old c.args.search c.args.routes is h) h
