use Rattle.std.proofs.Common.{◌≡◌, ◌∙◌, sym, ap, w16, to_z, of_z}
use Rattle.std.specs.Option.{option_copied}
use Rattle.std.proofs.lemmas.Int.{to_z-of_z}
use Rattle.eon_model.specs.Services.{Path}
use Rattle.make_rule.proofs.RefitSteps.{refit-busy, refit-bare, refit-dual, refit-done, least-is}
use Rattle.make_rule.proofs.refitting.refit.Goals as goal

pub returns-then-is_moving : goal.returns-then-is_moving
returns-then-is_moving c = λ setup of_band legal.
    refit-busy setup c.args.services.now.list c.args.name.now c.in-Some.service.now
    (sym c.find.ensures ∙ ap option_copied c.in-Some.is) (sym c.is_moving.ensures ∙ c.if-is_moving.true)

pub returns-in_default-backup_of : goal.returns-in_default-backup_of
returns-in_default-backup_of c = λ setup of_band legal.
    refit-bare setup c.args.services.now.list c.args.name.now c.in-Some.service.now
    (sym c.find.ensures ∙ ap option_copied c.in-Some.is) (sym c.is_moving.ensures ∙ c.if-is_moving.false)
    (sym c.backup_of.ensures ∙ c.in_default-backup_of.is)

pub returns-then-is_dual : goal.returns-then-is_dual
returns-then-is_dual c = λ setup of_band legal.
    refit-dual setup c.args.services.now.list c.args.name.now c.in-Some.service.now
    (sym c.find.ensures ∙ ap option_copied c.in-Some.is) c.in-Some-backup_of.back
    (sym c.is_moving.ensures ∙ c.if-is_moving.false) (sym c.backup_of.ensures ∙ c.in-Some-backup_of.is)
    (sym c.is_dual.ensures ∙ c.if-is_dual.true)

pub returns : goal.returns
returns c = λ setup of_band legal.
    let found = sym c.find.ensures ∙ ap option_copied c.in-Some.is in
    let rest = sym c.is_moving.ensures ∙ c.if-is_moving.false in
    let back = sym c.backup_of.ensures ∙ c.in-Some-backup_of.is in
    let from : to_z w16 (of_z w16 c.n-from.result) ≡ c.in-Some-backup_of.back.slot.n =
    to_z-of_z w16 c.n-from.result (record { sfits = c.n-from.type_inv }) ∙ c.n-from.ensures.value
    ∙ ap (λ (p : Path). p.slot.n) c.back.view_is in
    let to = to_z-of_z w16 c.unwrap_or-to.result (record { sfits = c.unwrap_or-to.type_inv }) ∙ c.unwrap_or-to.ensures in
    refit-done setup c.args.services.now.list c.args.name.now c.in-Some.service.now found c.in-Some-backup_of.back
    (to_z w16 (of_z w16 c.n-from.result)) (to_z w16 (of_z w16 c.unwrap_or-to.result)) rest back
    (sym c.is_dual.ensures ∙ c.if-is_dual.false) from
    (to ∙ least-is setup c.args.services.now.list c.args.name.now c.in-Some.service.now legal found rest
    c.in-Some-backup_of.back back c.args.band.now c.least_centre.result (to_z w16 (of_z w16 c.n-from.result))
    c.in-Some-backup_of.back.slot.n of_band c.parts.ensures.valid c.least_centre.ensures from)
