use Rattle.std.proofs.Common.{◌≡◌, sym, ◌∙◌, ap, subst, refl, ℤ, true, w16}
use Rattle.std.proofs.lemmas.Int.{to_z-of_z}
use Rattle.eon_model.specs.Grid.{is_band}
use Rattle.eon_model.specs.Legal.{Setup}
use Rattle.eon_model.proofs.SetupFacts.{setup-facts}
use Rattle.room_lines.specs.Asking.{slot_in_band}
use Rattle.room_lines.proofs.AskLaws.{width-wide}
use Rattle.room_lines.proofs.asking.block_on.Goals as goal

pub slot_within-requires-clause-grid : goal.slot_within-requires-clause-grid
slot_within-requires-clause-grid c =
    subst (λ (s : Setup). is_band s.band ≡ true) (sym c.setup.view_is) (setup-facts c.args.setup.now c.requires.in_range).band

pub slot_within-requires-clause-wide : goal.slot_within-requires-clause-wide
slot_within-requires-clause-wide c =
    width-wide c.args.setup.now c.args.rate c.args.route.km c.in-Some.m c.requires.in_range c.requires.rate
    (sym c.width.ensures ∙ c.in-Some.is)

pub returns-in-Some-slot_within : goal.returns-in-Some-slot_within
returns-in-Some-slot_within c = (
  c.in-Some.m,
  sym c.width.ensures ∙ c.in-Some.is,
  sym (c.slot_within.ensures ∙ ap (λ (k : ℤ). slot_in_band c.setup.inside.band k c.in-Some.m) (to_z-of_z w16 c.args.n c.ranges.n)
      ∙ ap (λ (s : Setup). slot_in_band s.band c.args.n c.in-Some.m) c.setup.view_is) ∙ c.in-Some-slot_within.is,
  refl,
)
