use Rattle.std.proofs.Common.{◌∙◌, ap}
use Rattle.leg_state.specs.Listed.{ServicesSeen}
use Rattle.eon_model.specs.Services.{Service}
use Rattle.indexmap.proofs.CallerLemmas.{insert_entry-new}
use Rattle.leg_state.proofs.EntryLemmas.{is_key, no_entry, list_entered, named_entered}
use Rattle.leg_state.proofs.services.Services.enter.Goals as goal

pub invariant_of-self : goal.invariant_of-self
invariant_of-self c =
    let named = ap (λ (s : Service). s.name) c.service.view_is in
    let none = no_entry c.service.inside.name c.args.service.name c.self.inside.map.entries
    c.args.self.now.list c.self.invariant (ap (λ (s : ServicesSeen). s.list) c.self.view_is) named
    c.requires.fresh in
    named_entered c.self.inside.map.entries _ c.service.inside.name c.args.service c.self.invariant named
    (c.in-Ok.ensures.entries ∙ insert_entry-new is_key c.self.inside.map c.service.inside.name c.args.service none)

pub returns : goal.returns
returns c =
    let named = ap (λ (s : Service). s.name) c.service.view_is in
    let seen = ap (λ (s : ServicesSeen). s.list) c.self.view_is in
    let none = no_entry c.service.inside.name c.args.service.name c.self.inside.map.entries
    c.args.self.now.list c.self.invariant seen named c.requires.fresh in
    list_entered c.self.inside.map.entries _ c.service.inside.name c.args.service c.args.self.now.list seen
    (c.in-Ok.ensures.entries ∙ insert_entry-new is_key c.self.inside.map c.service.inside.name c.args.service none)
