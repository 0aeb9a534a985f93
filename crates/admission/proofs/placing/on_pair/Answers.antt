use Rattle.std.proofs.Common.{◌≡◌, sym, ◌∙◌, ap, ℤ, w16, to_z, of_z, arith, Option, Some, None}
use Rattle.std.specs.Option.{option_copied, option_map}
use Rattle.std.proofs.lemmas.Int.{ints}
use Rattle.eon_model.specs.declared.Class.{Class}
use Rattle.eon_model.specs.Grid.{Band}
use Rattle.eon_model.specs.Services.{Leg, State}
use Rattle.eon_model.specs.Candidates.{Candidate}
use Rattle.admission.specs.declared.placing.Found.{Found}
use Rattle.admission.specs.Clear.{work_found, back_found}
use Rattle.admission.proofs.PairLemmas.{no_work, no_back, placed_here}
use Rattle.admission.proofs.placing.on_pair.Goals as goal

-- what is found for a pair is found for the same one
module _ (list : State) (band : Band) (class : Class) (own : Option Leg) (p q : Candidate) (same : p ≡ q) where
  work_seen : (n : Option ℤ) → work_found list band p.work ≡ n → work_found list band q.work ≡ n
  work_seen n h = ap (λ (r : Candidate). work_found list band r.work) (sym same) ∙ h

  back_seen : (n : Option (Option ℤ)) → back_found list band class own p.work.route p.back ≡ n →
      back_found list band class own q.work.route q.back ≡ n
  back_seen n h = ap (λ (r : Candidate). back_found list band class own r.work.route r.back) (sym same) ∙ h

pub returns-in_err-work_n : goal.returns-in_err-work_n
returns-in_err-work_n c =
    let list = c.args.services.now.list in
    let band = c.args.band.now in
    let own = option_copied c.args.own in
    c.from_residual.ensures
    ∙ no_work list band c.args.class own c.args.number c.args.pair.now
    (work_seen list band c.args.class own _ c.args.pair.now c.pair.view_is None
    (sym c.least_work.ensures ∙ c.in_err-work_n.was))

pub returns-in_default : goal.returns-in_default
returns-in_default c =
    let list = c.args.services.now.list in
    let band = c.args.band.now in
    let own = option_copied c.args.own in
    let n = c.in_ok-work_n.work_n in
    let e : to_z w16 (of_z w16 n) ≡ n = omega (arith, ints) in
    let at : ℤ → Option Found = λ z. Some (record { pair = c.args.number; work_n = z; back_n = None }) in
    ap at e
    ∙ placed_here list band c.args.class own c.args.number c.args.pair.now n None
    (work_seen list band c.args.class own _ c.args.pair.now c.pair.view_is (Some n)
    (sym c.least_work.ensures ∙ c.in_ok-work_n.was))
    (back_seen list band c.args.class own _ c.args.pair.now c.pair.view_is (Some None)
    (ap (back_found list band c.args.class own c.pair.inside.work) c.in_default.is))

pub returns-in_err-back_n : goal.returns-in_err-back_n
returns-in_err-back_n c =
    let list = c.args.services.now.list in
    let band = c.args.band.now in
    let own = option_copied c.args.own in
    let n = c.in_ok-work_n.work_n in
    c.from_residual-in_err-back_n.ensures
    ∙ no_back list band c.args.class own c.args.number c.args.pair.now n
    (work_seen list band c.args.class own _ c.args.pair.now c.pair.view_is (Some n)
    (sym c.least_work.ensures ∙ c.in_ok-work_n.was))
    (back_seen list band c.args.class own _ c.args.pair.now c.pair.view_is None
    (ap (back_found list band c.args.class own c.pair.inside.work) c.in-Some.is
    ∙ ap (option_map (λ z. Some z)) (sym c.least_back.ensures ∙ c.in_err-back_n.was)))

pub returns : goal.returns
returns c =
    let list = c.args.services.now.list in
    let band = c.args.band.now in
    let own = option_copied c.args.own in
    let n = c.in_ok-work_n.work_n in
    let z = c.in_ok-back_n.back_n in
    let e : to_z w16 (of_z w16 n) ≡ n = omega (arith, ints) in
    let f : to_z w16 (of_z w16 z) ≡ z = omega (arith, ints) in
    (λ i. Some (record { pair = c.args.number; work_n = e i; back_n = Some (f i) }))
    ∙ placed_here list band c.args.class own c.args.number c.args.pair.now n (Some z)
    (work_seen list band c.args.class own _ c.args.pair.now c.pair.view_is (Some n)
    (sym c.least_work.ensures ∙ c.in_ok-work_n.was))
    (back_seen list band c.args.class own _ c.args.pair.now c.pair.view_is (Some (Some z))
    (ap (back_found list band c.args.class own c.pair.inside.work) c.in-Some.is
    ∙ ap (option_map (λ y. Some y)) (sym c.least_back.ensures ∙ c.in_ok-back_n.was)))
