use Rattle.std.proofs.Common.{◌∙◌, sym, ap, List}
use Rattle.eon_model.specs.Services.{Holding}
use Rattle.plan_report.specs.declared.rows.Kind.TheVariants.{Lit, Held}
use Rattle.eon_model.specs.Listings.{units_held}
use Rattle.plan_report.proofs.CountLemmas.{few_services, kind_same}
use Rattle.plan_report.proofs.totals.stats.Goals as goal

pub service_count-requires : goal.service_count-requires
service_count-requires c = few_services c.args.setup.now c.args.services.now.list c.requires.setup c.requires.legal

pub count_where-requires : goal.count_where-requires
count_where-requires c = few_services c.args.setup.now c.args.services.now.list c.requires.setup c.requires.legal

pub count_where-requires-2 : goal.count_where-requires-2
count_where-requires-2 c = few_services c.args.setup.now c.args.services.now.list c.requires.setup c.requires.legal

pub count_where-requires-3 : goal.count_where-requires-3
count_where-requires-3 c = few_services c.args.setup.now c.args.services.now.list c.requires.setup c.requires.legal

pub units_held-requires : goal.units_held-requires
units_held-requires c = few_services c.args.setup.now c.args.services.now.list c.requires.setup c.requires.legal

pub units_held-requires-2 : goal.units_held-requires-2
units_held-requires-2 c = few_services c.args.setup.now c.args.services.now.list c.requires.setup c.requires.legal

pub returns : goal.returns
returns c = λ i. record {
  services = c.service_count.ensures i;
  protected = c.count_where.ensures i;
  drifting = c.count_where-2.ensures i;
  making = c.count_where-3.ensures i;
  lit = (c.units_held.ensures
      ∙ ap (λ (hs : List Holding). units_held c.args.setup.now hs) (sym (kind_same Lit c.args.services.now.list))) i;
  held = (c.units_held-2.ensures
      ∙ ap (λ (hs : List Holding). units_held c.args.setup.now hs) (sym (kind_same Held c.args.services.now.list))) i;
}
