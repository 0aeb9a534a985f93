use Rattle.std.proofs.Common.{sym, ◌∙◌, ◌+◌, ap, inl, inr, arith}
use Rattle.std.proofs.lemmas.Result.{on_ok_weaker}
use Rattle.eon_model.specs.Legal.{is_protected}
use Rattle.pair_list.proofs.RunLaws.{runs-one, most-one}
use Rattle.pair_list.proofs.demand.put_work.Goals as goal

pub returns-in-Shared-clause-runs : goal.returns-in-Shared-clause-runs
returns-in-Shared-clause-runs g c =
    let d = c.args.demand in
    on_ok_weaker c.put_protected.result (λ put. put ∙ ap (λ n. c.args.steps.now + n)
    (sym (runs-one c.args.setup.now d.s d.t d.class c.args.work c.in-Some.work c.in-Some.is
    (elim c.in-Shared.is [ inl e ↦ ap is_protected e | inr e ↦ ap is_protected e ])))) c.put_protected.ensures.runs

pub returns-in-Shared-clause-most : goal.returns-in-Shared-clause-most
returns-in-Shared-clause-most g c =
    let same = most-one c.args.setup.now c.args.demand.class
    (elim c.in-Shared.is [ inl e ↦ ap is_protected e | inr e ↦ ap is_protected e ]) in
    omega (arith, same, c.put_protected.ensures.most)
