-- Which replies can be told of a state: what their text reads is there.
use Rattle.std.specs.Prelude.{ℕ, Bool, true, ◌&&◌, nat_lt, List, length, is_some}
use Rattle.std.specs.Option.{option_and_then, option_to_list}
use Rattle.std.specs.List.{list_all}
use Rattle.eon_model.specs.Route.{Route}
use Rattle.eon_model.specs.Formats.{format_for}
use Rattle.eon_model.specs.Services.{State, service_of}
use Rattle.eon_model.specs.Legal.{Setup}
use Rattle.eon_model.specs.Replies.{Reply, Hit}

-- each of the fibres is one of the network's
abbrev pub are_fibres : Setup → List ℕ → Bool
are_fibres setup fibres = list_all (λ i. nat_lt i (length setup.network.fibres)) fibres

-- each fibre of the route is one of the network's, and a format reaches its length
abbrev pub can_show : Setup → Route → Bool
can_show setup r = are_fibres setup r.fibres && is_some (format_for setup.formats r.km)

-- each fibre of the backup, if there is one, is one of the network's
abbrev pub can_switch : Setup → Hit → Bool
can_switch setup h = list_all (λ p. are_fibres setup p.route.fibres) (option_to_list h.back)

-- the service is live where its leg is told, with a second leg where that is, and the routes and the backups can be shown
abbrev pub can_tell : Setup → State → Reply → Bool
can_tell setup state (Reply.Placed name) = is_some (service_of state name)
can_tell setup state (Reply.Admitted name) = is_some (service_of state name)
can_tell setup state (Reply.Made name) = is_some (option_and_then (λ s. s.next) (service_of state name))
can_tell setup state (Reply.Show name) = is_some (service_of state name)
can_tell setup state (Reply.Routes routes) = list_all (can_show setup) routes
can_tell setup state (Reply.Drill g hits) = list_all (can_switch setup) hits
can_tell setup state _ = true
