use Rattle.std.proofs.Common.{sym, ◌∙◌, ap}
use Rattle.std.specs.FinSet.{insert}
use Rattle.eon_model.specs.Candidates.{is_avoided}
use Rattle.eon_model.specs.Sets.{has_member}
use Rattle.pair_list.proofs.BanLaws.{avoided-one, avoided-none}
use Rattle.pair_list.proofs.sharers.avoided.Goals as goal

pub returns-in-Some : goal.returns-in-Some
returns-in-Some c =
    λ i. ap (λ s. has_member s i) (c.with.ensures ∙ ap (λ s. insert s c.in-Some.fibre) c.empty.ensures)
    ∙ avoided-one c.in-Some.fibre i ∙ ap (λ o. is_avoided o i) (sym c.in-Some.is)

pub returns-in-None : goal.returns-in-None
returns-in-None c =
    λ i. ap (λ s. has_member s i) c.empty-in-None.ensures ∙ avoided-none i ∙ ap (λ o. is_avoided o i) (sym c.in-None.is)
