-- What may be turned over can be lit, made dark, held and let go in turn.
use Rattle.std.proofs.Common.{◌≡◌, refl, sym, ◌∙◌, ap, subst, ℕ, ◌+◌, ◌-◌, ◌<◌, ◌≤◌, arith, Bool, true, false, cond, ◌&&◌, ◌||◌, not, List, [], ◌∷◌, map, length}
use Rattle.std.specs.Prelude.{count_by}
use Rattle.std.specs.List.{AllByRecursion}
use Rattle.eon_model.specs.Grid.{Band, lies_in, span_of}
use Rattle.eon_model.specs.Services.{Holding}
use Rattle.eon_model.specs.Listings.{holds}
use Rattle.eon_model.specs.Rows.{Reserved, Holders, changed_by, with_lit, without_lit, with_held, without_held}
use Rattle.eon_model.specs.Occupied.{Reserve, holders_among, taken_of, reserved_of}
use Rattle.eon_model.proofs.FreeLaws.{count-cons}
use Rattle.spectrum_map.specs.Kept.{Kept, Becomes, lit_in, holders_in}
use Rattle.kept_rows.specs.declared.rows.KeptRows.{KeptRows}
use Rattle.kept_rows.specs.Standing.{MayTurn, HasTurned, CanBeLit, CanBeHeld, CanGoFree, IsLitBy, IsDarkBy, IsHeldBy, IsFreeBy, Reserves}
use Rattle.kept_rows.proofs.LightLaws.{places_after}
use Rattle.kept_rows.proofs.StandLaws.{length_counted}

-- the rows with other maps
abbrev pub with_maps : Kept → KeptRows → KeptRows
with_maps m r = record { maps = m; sharing = r.sharing }

dark_there : (b : Bool) → (b && true) ≡ false → b ≡ false
dark_there true h = h
dark_there false h = refl

-- ---- what comes

module _ (r : KeptRows) (hs : List Holding) (xs : List Reserve)
    (may : MayTurn r (record { lit_out = []; lit_in = hs; held_out = []; held_in = xs })) where
  pub can_be_lit : CanBeLit r.maps hs
  can_be_lit = record {
    places = may.places;
    dark = λ fibre u k. dark_there (lit_in r.maps fibre u) (may.dark fibre u k);
    once = may.once;
  }

  pub can_be_held : (m : Kept) → IsLitBy r.maps m hs → CanBeHeld (with_maps m r) xs
  can_be_held m l = record {
    places = places_after (λ (x : Reserve). taken_of x.backup) r.maps m xs l.band l.fibres may.held_places;
    there = may.there;
    few = let few = may.few in omega (arith, few);
    room = λ fibre u. subst (λ (h : Holders). h fibre u + holders_among xs fibre u ≤ 8192) (sym l.holders_are)
        (let room = may.room fibre u in let none : holders_among [] fibre u ≡ 0 = refl in omega (arith, room, none));
  }

  pub has_come : (m : Kept) (after : KeptRows) → IsLitBy r.maps m hs → IsHeldBy (with_maps m r) after xs →
      HasTurned r after (record { lit_out = []; lit_in = hs; held_out = []; held_in = xs })
  has_come m after l h = record {
    maps = record {
      band = h.maps.band ∙ l.band;
      fibres = h.maps.fibres ∙ l.fibres;
      lit_is = h.maps.lit_is ∙ l.lit_is;
      holders_are = h.maps.holders_are
          ∙ ap (changed_by with_held (map (λ (x : Reserve). taken_of x.backup) xs)) l.holders_are;
    };
    sharing = h.sharing;
  }

-- ---- what goes

module _ (r : KeptRows) (hs : List Holding) (xs : List Reserve)
    (may : MayTurn r (record { lit_out = hs; lit_in = []; held_out = xs; held_in = [] })) where
  pub can_go_free : (m : Kept) → IsDarkBy r.maps m hs → CanGoFree (with_maps m r) xs
  can_go_free m l = record {
    places = places_after (λ (x : Reserve). taken_of x.backup) r.maps m xs l.band l.fibres may.held_out.places;
    there = may.held_out.there;
    some = λ fibre u. subst (λ (h : Holders). holders_among xs fibre u ≤ h fibre u) (sym l.holders_are)
        (may.held_out.some fibre u);
    among = may.held_out.among;
  }

  pub has_gone : (m : Kept) (after : KeptRows) → IsDarkBy r.maps m hs → IsFreeBy (with_maps m r) after xs →
      HasTurned r after (record { lit_out = hs; lit_in = []; held_out = xs; held_in = [] })
  has_gone m after l h = record {
    maps = record {
      band = h.maps.band ∙ l.band;
      fibres = h.maps.fibres ∙ l.fibres;
      lit_is = h.maps.lit_is ∙ l.lit_is;
      holders_are = h.maps.holders_are
          ∙ ap (changed_by without_held (map (λ (x : Reserve). taken_of x.backup) xs)) l.holders_are;
    };
    sharing = h.sharing;
  }

-- ---- a channel that moves

or_none : (a : Bool) → (a || false) ≡ a
or_none true = refl
or_none false = refl

module _ (r : KeptRows) (one other : Holding)
    (may : MayTurn r (record { lit_out = one ∷ []; lit_in = other ∷ []; held_out = []; held_in = [] })) (m : Kept)
    (dark : Becomes r.maps m (without_lit (taken_of one) (record { lit = lit_in r.maps; held = λ fibre u. false })).lit
    (holders_in r.maps)) where
  pub can_be_lit_there : CanBeLit m (other ∷ [])
  can_be_lit_there = record {
    places = places_after taken_of r.maps m (other ∷ []) dark.band dark.fibres may.places;
    dark = λ fibre u k. (λ i. dark.lit_is i fibre u)
        ∙ ap (λ b. lit_in r.maps fibre u && not b) (sym (or_none (holds fibre u one))) ∙ may.dark fibre u k;
    once = may.once;
  }

  pub has_moved : (after : Kept) → Becomes m after (with_lit (taken_of other) (record { lit = lit_in m; held = λ fibre u. false })).lit
      (holders_in m) → Reserves r.sharing r.sharing [] [] →
      HasTurned r (with_maps after r) (record { lit_out = one ∷ []; lit_in = other ∷ []; held_out = []; held_in = [] })
  has_moved after b same = record {
    maps = record {
      band = b.band ∙ dark.band;
      fibres = b.fibres ∙ dark.fibres;
      lit_is = b.lit_is ∙ (λ i fibre u. dark.lit_is i fibre u || (holds fibre u other));
      holders_are = b.holders_are ∙ dark.holders_are;
    };
    sharing = same;
  }

-- ---- a backup that moves

room_there : (a : Bool) (n out new : ℕ) → out ≡ cond a 1 0 + 0 → out ≤ n → n + new ≤ 8192 + out →
    cond a (n - 1) n + new ≤ 8192
room_there true n out new e some room = omega (arith, e, some, room)
room_there false n out new e some room = omega (arith, e, some, room)

module _ (r mid : KeptRows) (one other : Reserve)
    (may : MayTurn r (record { lit_out = []; lit_in = []; held_out = one ∷ []; held_in = other ∷ [] }))
    (free : IsFreeBy r mid (one ∷ [])) where
  length_there : length mid.sharing.reserves + 1 ≡ length r.sharing.reserves
  length_there =
      let turns = free.sharing.turns in
      let b = turns.before_is (λ x. true) in
      let a = turns.after_is (λ x. true) in
      let m = length_counted mid.sharing.reserves in
      let n = length_counted r.sharing.reserves in
      let k = length_counted (reserved_of one ∷ []) in
      let none : count_by (λ (x : Reserved). true) [] ≡ 0 = refl in
      omega arith

  pub can_be_held_there : CanBeHeld mid (other ∷ [])
  can_be_held_there = record {
    places = places_after (λ (x : Reserve). taken_of x.backup) r.maps mid.maps (other ∷ []) free.maps.band free.maps.fibres
        may.held_places;
    there = (
      record {
        groups = λ g k. subst (λ (n : ℕ). g < n) (sym free.sharing.groups) (may.there.0.groups g k);
        fibres = subst (λ (n : ℕ). AllByRecursion (λ f. f < n) other.backup.route.fibres) (sym free.sharing.fibres)
            may.there.0.fibres;
        once = may.there.0.once;
        units = subst (λ (b : Band). lies_in (span_of b) other.backup.units ≡ true) (sym free.sharing.band)
            may.there.0.units;
      },
      tt,
    );
    few = let few = may.few in let l = length_there in omega (arith, few, l);
    room = λ fibre u. subst (λ (h : Holders). h fibre u + holders_among (other ∷ []) fibre u ≤ 8192)
        (sym free.maps.holders_are)
        (room_there (holds fibre u one.backup) (holders_in r.maps fibre u) (holders_among (one ∷ []) fibre u)
        (holders_among (other ∷ []) fibre u) (count-cons (λ (x : Reserve). holds fibre u x.backup) one [])
        (may.held_out.some fibre u) (may.room fibre u));
  }

  pub has_moved_back : (after : KeptRows) → IsHeldBy mid after (other ∷ []) →
      HasTurned r after (record { lit_out = []; lit_in = []; held_out = one ∷ []; held_in = other ∷ [] })
  has_moved_back after h = record {
    maps = record {
      band = h.maps.band ∙ free.maps.band;
      fibres = h.maps.fibres ∙ free.maps.fibres;
      lit_is = h.maps.lit_is ∙ free.maps.lit_is;
      holders_are = h.maps.holders_are ∙ ap (with_held (taken_of other.backup)) free.maps.holders_are;
    };
    sharing = record {
      band = h.sharing.band ∙ free.sharing.band;
      fibres = h.sharing.fibres ∙ free.sharing.fibres;
      groups = h.sharing.groups ∙ free.sharing.groups;
      turns = record {
        rest = free.sharing.turns.rest;
        before_is = free.sharing.turns.before_is;
        after_is = λ test.
            let a = free.sharing.turns.after_is test in
            let b = h.sharing.turns.before_is test in
            let c = h.sharing.turns.after_is test in
            let none : count_by test [] ≡ 0 = refl in
            omega arith;
      };
    };
  }
