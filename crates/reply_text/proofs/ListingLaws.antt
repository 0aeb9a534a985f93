-- Lines that are taken one after the other.
use Rattle.std.proofs.Common.{◌≡◌, add-one, sym, ◌∙◌, ap, ℕ, ◌+◌, ◌<◌, List, [], ◌∷◌, ◌++◌, length, take, get_or, codes, append_assoc, arith}
use Rattle.std.specs.Prelude.{true, nat_lt, slice_get, Option, Some, None, is_some, IsTrue, IfSome}
use Rattle.std.specs.Option.{option_to_list}
use Rattle.std.specs.List.{flat_map, list_all}
use Rattle.std.proofs.lemmas.Bool.{and_parts}
use Rattle.eon_model.specs.Formats.{format_for}
use Rattle.eon_model.proofs.ListLaws.{slice_get_in}
use Rattle.eon_model.proofs.ListTests.{below-list_all}
use Rattle.eon_model.proofs.Members.{list_all-at}
use Rattle.eon_model.specs.Replies.{Hit}
use Rattle.eon_model.specs.Services.{Path}
use Rattle.plan_report.specs.InRange.{PathInRange}
use Rattle.reply_text.specs.Tellable.{are_fibres, can_show, can_switch}
use Rattle.std.specs.Fmt.{decimal}
use Rattle.std.proofs.lemmas.List.{append-nil, take_more, length-take-le}
use Rattle.eon_model.specs.Legal.{Setup}
use Rattle.eon_model.specs.Network.{names_of_fibres, AreFibres}
use Rattle.eon_model.specs.Route.{Route}
use Rattle.eon_model.specs.ReplyText.{format_name, route_lines}
use Rattle.eon_model.specs.Spelling.{line, fibre_list}
use Rattle.plan_report.proofs.CountLemmas.{flat_map-take}
use Rattle.line_writer.specs.Sent.{Sent, Takes}
use Rattle.line_writer.proofs.TakesLaws.{takes-both, takes-same}

-- the text of one more
pub next_text : {X : Type 0} (f : X → List ℕ) (xs : List X) (i : ℕ) (x : X) (a b c : Sent) → slice_get xs i ≡ Some x →
    Takes a b (flat_map f (take i xs)) → Takes b c (f x) → Takes a c (flat_map f (take (i + 1) xs))
next_text f xs i x a b c e p q =
    rw (add-one i) (takes-same a c _ _ (sym (flat_map-take f xs i x e)) (takes-both a b c _ _ p q))

-- the line of a route
abbrev pub route_line : Setup → ℕ → Route → List ℕ
route_line setup rank r =
    line (codes "route" ∷ decimal rank ∷ decimal r.km ∷ format_name setup.formats r.km
    ∷ fibre_list (names_of_fibres setup.network.fibres r.fibres) ∷ [])

lines-push : (setup : Setup) (n m : ℕ) (rs : List Route) (r : Route) → m ≡ n + length rs →
    route_lines setup n (rs ++ r ∷ []) ≡ route_lines setup n rs ++ route_line setup m r
lines-push setup n m [] r e =
    let same : n ≡ m = omega arith in append-nil (route_line setup n r) ∙ ap (λ k. route_line setup k r) same
lines-push setup n m (s ∷ rs) r e =
    let same : m ≡ (n + 1) + length rs = omega arith in
    ap (λ v. route_line setup n s ++ v) (lines-push setup (n + 1) m rs r same)
    ∙ sym (append_assoc (route_line setup n s) (route_lines setup (n + 1) rs) (route_line setup m r))

-- ---- routes and backups that can be shown

-- the fibres of the route at a place
pub shown_at : (setup : Setup) (rs : List Route) (i : ℕ) (r : Route) → IsTrue (list_all (can_show setup) rs) →
    slice_get rs i ≡ Some r → AreFibres setup.network.fibres r.fibres
shown_at setup rs i r h e =
    let here = list_all-at (can_show setup) rs r h (slice_get_in rs i r e).1 in
    below-list_all (length setup.network.fibres) r.fibres
    (and_parts (list_all (λ i. nat_lt i (length setup.network.fibres)) r.fibres) (is_some (format_for setup.formats r.km)) here).0

-- the fibres of the backup at a place
pub switched_at : (setup : Setup) (hits : List Hit) (i : ℕ) (h : Hit) → IsTrue (list_all (can_switch setup) hits) →
    slice_get hits i ≡ Some h → IfSome h.back (PathInRange setup.network)
switched_at setup hits i h all e = by h.back (list_all-at (can_switch setup) hits h all (slice_get_in hits i h e).1)
  where
    by : (back : Option Path) → list_all (λ p. are_fibres setup p.route.fibres) (option_to_list back) ≡ true →
        IfSome back (PathInRange setup.network)
    by None t = tt
    by (Some p) t = below-list_all (length setup.network.fibres) p.route.fibres
        (and_parts (are_fibres setup p.route.fibres) true t).0

-- the line of one route more
pub next_route : (setup : Setup) (rs : List Route) (i : ℕ) (r : Route) (a b c : Sent) → i < length rs →
    r ≡ get_or rs i r → Takes a b (route_lines setup 1 (take i rs)) →
    Takes b c (line (codes "route" ∷ decimal (i + 1) ∷ decimal r.km ∷ format_name setup.formats r.km
    ∷ fibre_list (names_of_fibres setup.network.fibres r.fibres) ∷ [])) →
    Takes a c (route_lines setup 1 (take (i + 1) rs))
next_route setup rs i r a b c l e p q =
    let n = length-take-le i rs (omega arith) in
    let rank : i + 1 ≡ 1 + length (take i rs) = omega arith in
    takes-same a c _ _
    (sym (lines-push setup 1 (i + 1) (take i rs) r rank)
    ∙ ap (λ y. route_lines setup 1 (take i rs ++ y ∷ [])) e ∙ ap (route_lines setup 1) (sym (take_more rs i r l)))
    (takes-both a b c _ _ p q)
