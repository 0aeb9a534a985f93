use Rattle.std.proofs.Common.{◌∙◌, ap, inl, inr}
use Rattle.std.proofs.lemmas.Result.{on_ok_weaker}
use Rattle.eon_model.specs.Legal.{is_protected}
use Rattle.pair_list.proofs.GivenLaws.{given-one}
use Rattle.pair_list.proofs.given.put_given.Goals as goal

pub returns-in-Shared : goal.returns-in-Shared
returns-in-Shared c =
    let d = c.args.demand in
    on_ok_weaker c.put_backups.result (λ put. put ∙ given-one c.args.setup.now d.s d.t d.rate d.class c.in-Some.work c.args.work
    c.args.backups.now c.args.pairs.now.items c.in-Some.is
    (elim c.in-Shared.is [ inl e ↦ ap is_protected e | inr e ↦ ap is_protected e ]) c.requires) c.put_backups.ensures
