-- What is kept stays what a search gives.
use Rattle.std.proofs.Common.{◌≡◌, refl, sym, ◌∙◌, ap, subst, ℕ, nat_eq, Bool, true, false, cond, ◌&&◌, List, [], ◌∷◌, Option, Some, None, Ok, Err, Result, Bor}
use Rattle.std.specs.Prelude.{IfSome, OnOk, OnErr}
use Rattle.std.specs.Option.{option_copied, option_eq}
use Rattle.std.specs.Map.{lookup}
use Rattle.std.proofs.lemmas.Bool.{and_parts, eqb-true, false≢true}
use Rattle.indexmap.specs.IndexMap.{insert_entry}
use Rattle.eon_model.specs.Legal.{Setup}
use Rattle.eon_model.specs.Route.{Route}
use Rattle.kept_routes.specs.declared.table.Search.{Search}
use Rattle.kept_routes.specs.Kept.{found_by, AreFound}

-- ---- equal searches

same_number : (a b : Option ℕ) → option_eq nat_eq a b ≡ true → a ≡ b
same_number None None h = refl
same_number None (Some y) h = absurd (false≢true h)
same_number (Some x) None h = absurd (false≢true h)
same_number (Some x) (Some y) h = ap Some (eqb-true x y h)

pub same-search : (x y : Search) →
    (nat_eq x.s y.s && (nat_eq x.t y.t && (option_eq nat_eq x.avoid y.avoid && option_eq nat_eq x.behind y.behind))) ≡ true →
    x ≡ y
same-search x y h =
    let p = and_parts (nat_eq x.s y.s) (nat_eq x.t y.t && (option_eq nat_eq x.avoid y.avoid && option_eq nat_eq x.behind y.behind)) h in
    let q = and_parts (nat_eq x.t y.t) (option_eq nat_eq x.avoid y.avoid && option_eq nat_eq x.behind y.behind) p.1 in
    let r = and_parts (option_eq nat_eq x.avoid y.avoid) (option_eq nat_eq x.behind y.behind) q.1 in
    let s = eqb-true x.s y.s p.0 in
    let t = eqb-true x.t y.t q.0 in
    let avoid = same_number x.avoid y.avoid r.0 in
    let behind = same_number x.behind y.behind r.1 in
    λ i. record { s = s i; t = t i; avoid = avoid i; behind = behind i }

module _ (eq : Search → Search → Bool) (sound : (x y : Search) → eq x y ≡ true → x ≡ y) (setup : Setup) where
  -- one more entry
  pub found-more : (es : List (Search × List Route)) (k : Search) (v : List Route) → v ≡ found_by setup k →
      AreFound setup es → AreFound setup (insert_entry eq es k v)
  found-more [] k v is h = (is, tt)
  found-more (e ∷ es) k v is h = by (eq k e.0) refl (found-more es k v is h.1)
    where
      by : (b : Bool) → eq k e.0 ≡ b → AreFound setup (insert_entry eq es k v) →
          AreFound setup (cond b ((e.0, v) ∷ es) (e ∷ insert_entry eq es k v))
      by true same rest = (is ∙ ap (found_by setup) (sound k e.0 same), h.1)
      by false same rest = (h.0, rest)

  -- what a look-up finds
  found_by_look_up : (es : List (Search × List Route)) (k : Search) → AreFound setup es →
      IfSome (lookup (eq k) es) (λ v. v ≡ found_by setup k)
  found_by_look_up [] k h = tt
  found_by_look_up (e ∷ es) k h = by (eq k e.0) refl (found_by_look_up es k h.1)
    where
      by : (b : Bool) → eq k e.0 ≡ b → IfSome (lookup (eq k) es) (λ v. v ≡ found_by setup k) →
          IfSome (cond b (Some e.1) (lookup (eq k) es)) (λ v. v ≡ found_by setup k)
      by true same rest = h.0 ∙ ap (found_by setup) (sym (sound k e.0 same))
      by false same rest = rest

  pub found-at : (es : List (Search × List Route)) (k : Search) (o : Option (Bor (List Route))) →
      option_copied o ≡ lookup (eq k) es → AreFound setup es → IfSome o (λ v. v.now ≡ found_by setup k)
  found-at es k o is h = by o (move (found_by_look_up es k h))
    where
      move : IfSome (lookup (eq k) es) (λ v. v ≡ found_by setup k) →
          IfSome (option_copied o) (λ v. v ≡ found_by setup k)
      move p = subst (λ (x : Option (List Route)). IfSome x (λ v. v ≡ found_by setup k)) (sym is) p

      by : (x : Option (Bor (List Route))) → IfSome (option_copied x) (λ v. v ≡ found_by setup k) →
          IfSome x (λ v. v.now ≡ found_by setup k)
      by None p = tt
      by (Some v) p = p

-- it was added, or nothing changed
pub either-found : {T E : Type 0} (r : Result T E) (setup : Setup) (old fresh added : List (Search × List Route)) →
    OnOk r (fresh ≡ added) → OnErr r (fresh ≡ old) → AreFound setup added → AreFound setup old → AreFound setup fresh
either-found (Ok x) setup old fresh added p q with_it without = subst (AreFound setup) (sym p) with_it
either-found (Err e) setup old fresh added p q with_it without = subst (AreFound setup) (sym q) without
