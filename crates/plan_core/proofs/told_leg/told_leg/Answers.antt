use Rattle.std.proofs.Common.{◌∙◌, sym, ap, refl}
use Rattle.std.specs.Option.{option_map}
use Rattle.journal_record.specs.Told as told
use Rattle.plan_core.proofs.ToldLegLaws.{leg_bare, leg_backed, leg_unbacked}
use Rattle.plan_core.proofs.told_leg.told_leg.Goals as goal

pub returns-in_default-back : goal.returns-in_default-back
returns-in_default-back c = leg_bare c.args.setup.now c.args.traffic.src c.args.traffic.dst c.args.traffic.rate
    c.args.class (told.leg_told c.args.text.now) c.requires.backup c.in-Some.work
    (sym c.in-Some.is ∙ c.in_ok-work.ensures) (ap (option_map told.path_told) c.in_default-back.is) _ refl

pub returns-in-Some-2 : goal.returns-in-Some-2
returns-in-Some-2 c = leg_backed c.args.setup.now c.args.traffic.src c.args.traffic.dst c.args.traffic.rate
    c.args.class (told.leg_told c.args.text.now) c.requires.backup c.in-Some.work
    (sym c.in-Some.is ∙ c.in_ok-work.ensures) (told.path_told c.in-Some-back.text)
    (ap (option_map told.path_told) c.in-Some-back.is) c.in-Some-2.back
    (sym c.in-Some-2.is ∙ c.in_ok-back.ensures) _ refl

pub returns-in-None : goal.returns-in-None
returns-in-None c = leg_unbacked c.args.setup.now c.args.traffic.src c.args.traffic.dst c.args.traffic.rate
    c.args.class (told.leg_told c.args.text.now) c.requires.backup c.in-Some.work
    (sym c.in-Some.is ∙ c.in_ok-work.ensures) (told.path_told c.in-Some-back.text)
    (ap (option_map told.path_told) c.in-Some-back.is) (sym c.in-None.is ∙ c.in_ok-back.ensures)
