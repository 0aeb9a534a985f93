-- The backups of a legal state can be listed, and the services are listed one after the other.
use Rattle.std.proofs.Common.{◌≡◌, ℕ, ◌<◌, true, ◌&&◌, ◌||◌, not, length, Option, Some, None, is_some, nat_lt}
use Rattle.std.specs.Prelude.{IfSome, nat_le, slice_get}
use Rattle.std.specs.Option.{option_to_list}
use Rattle.std.specs.List.{list_all}
use Rattle.std.proofs.lemmas.Bool.{and_parts, leb-true}
use Rattle.std.proofs.lemmas.List.Elements.{All-from_recursion}
use Rattle.eon_model.specs.Grid.{is_slot}
use Rattle.eon_model.specs.Route.{share_group}
use Rattle.eon_model.specs.Services.{Path, Leg, Service, State, legs_of}
use Rattle.eon_model.specs.Legal.{Setup, is_protected, path_fits, target_fits, backup_fits, fits, Legal}
use Rattle.eon_model.specs.NetworkText.{is_setup}
use Rattle.eon_model.proofs.ListLaws.{slice_get_in}
use Rattle.eon_model.proofs.ListTests.{below-list_all}
use Rattle.eon_model.proofs.Members.{list_all-at}
use Rattle.eon_model.proofs.LegalLaws.{Legal-parts}
use Rattle.eon_model.proofs.RangeLaws.{path-range}
use Rattle.eon_model.proofs.ToldLaws.{backup-fits}
use Rattle.failure_drill.specs.Hits.{IsNumbered, IsNumberedService}

path-numbered : (setup : Setup) (s : Service) (p : Path) → is_setup setup ≡ true → path_fits setup s p ≡ true →
    IsNumbered p
path-numbered setup s p ok h =
    let fibres = p.route.fibres in
    let a = and_parts (nat_le 1 (length fibres) && nat_le (length fibres) 63 && list_all (λ i. nat_lt i 128) fibres)
    (is_slot p.slot) (path-range setup s p ok h).text in
    let b = and_parts (nat_le 1 (length fibres) && nat_le (length fibres) 63) (list_all (λ i. nat_lt i 128) fibres) a.0 in
    record {
      few = leb-true (length fibres) 63 (and_parts (nat_le 1 (length fibres)) (nat_le (length fibres) 63) b.0).1;
      below = All-from_recursion (λ n. n < 128) fibres (below-list_all 128 fibres b.1);
    }

back-numbered : (setup : Setup) (s : Service) (l : Leg) (back : Option Path) → is_setup setup ≡ true →
    (not (is_protected s.class) && not (is_some back) || is_protected s.class && is_some back
    && list_all (λ b. path_fits setup s b && not (share_group l.work.route b.route)) (option_to_list back))
    ≡ true → IfSome back IsNumbered
back-numbered setup s l None ok h = tt
back-numbered setup s l (Some b) ok h = path-numbered setup s b ok (backup-fits setup s l (is_protected s.class) b h)

leg-numbered : (setup : Setup) (s : Service) (l : Leg) → is_setup setup ≡ true → fits setup s l ≡ true →
    IfSome l.back IsNumbered
leg-numbered setup s l ok h = back-numbered setup s l l.back ok
    (and_parts (path_fits setup s l.work && target_fits setup l.work l.to) (backup_fits setup s l) h).1

second-numbered : (setup : Setup) (s : Service) (next : Option Leg) → is_setup setup ≡ true →
    list_all (fits setup s) (option_to_list next) ≡ true → IfSome next (λ l. IfSome l.back IsNumbered)
second-numbered setup s None ok h = tt
second-numbered setup s (Some l) ok h = leg-numbered setup s l ok (and_parts (fits setup s l) true h).0

-- the service at a place
pub service_at-numbered : (setup : Setup) (state : State) (i : ℕ) (s : Service) → is_setup setup ≡ true →
    Legal setup state → slice_get state i ≡ Some s → IsNumberedService s
service_at-numbered setup state i s ok legal e =
    let fit = list_all-at (λ s. list_all (fits setup s) (legs_of s)) state s (Legal-parts setup state legal).fit
    (slice_get_in state i s e).1 in
    let both = and_parts (fits setup s s.leg) (list_all (fits setup s) (option_to_list s.next)) fit in
    record { first = leg-numbered setup s s.leg ok both.0; second = second-numbered setup s s.next ok both.1 }
