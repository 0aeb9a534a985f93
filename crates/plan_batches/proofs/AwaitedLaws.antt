-- What a mover waits for, of some moves.
use Rattle.std.proofs.Common.{◌≡◌, refl, sym, ◌∙◌, subst, ℕ, ◌<◌, ◌≤◌, ◌⊎◌, inl, inr, Bool, true, false, cond, List, [], ◌∷◌, Option, Some, None, arith}
use Rattle.std.specs.Prelude.{fold, nat_lt, ◌==◌, ◌&&◌}
use Rattle.std.proofs.lemmas.Bool.{both_ways, ltb-true, ltb-false, eqb-true, eqb-false, or_cases, or_parts, and_parts, and_cases, cases_lt}
use Rattle.eon_model.proofs.OrderLaws.{IsIn}
use Rattle.plan_batches.specs.declared.mover.Mover.{Mover}
use Rattle.plan_batches.specs.declared.turn.Turn.{Turn}
use Rattle.plan_batches.specs.Awaited.{is_met, is_sooner, sooner, awaited}

-- b has a later batch, or the same one and does not stand behind it in the list
abbrev pub NoLater : Turn → Turn → Type 0
NoLater b t = (t.batch < b.batch) ⊎ ((t.batch ≡ b.batch) × (b.place ≤ t.place))

-- b is the one that is waited for, of those that are seen
pub record IsFirstOf (m : Mover) (Seen : Turn → Type 0) (b : Turn) : Type 0 where
  pub there : Seen b
  pub met : is_met m b ≡ true
  pub first : (t : Turn) → Seen t → is_met m t ≡ true → NoLater b t

-- what is waited for, of those that are seen, or nothing
abbrev pub Awaits : Mover → (Turn → Type 0) → Option Turn → Type 0
Awaits m Seen None = (t : Turn) → Seen t → is_met m t ≡ false
Awaits m Seen (Some b) = IsFirstOf m Seen b

sooner_than : (a b : Turn) → is_sooner a b ≡ true → NoLater a b
sooner_than a b h = elim (or_cases (nat_lt b.batch a.batch) (a.batch == b.batch && nat_lt a.place b.place) h) [
  | inl e ↦ inl (ltb-true b.batch a.batch e)
  | inr e ↦
      let both = and_parts (a.batch == b.batch) (nat_lt a.place b.place) e in
      let before = ltb-true a.place b.place both.1 in
      inr (sym (eqb-true a.batch b.batch both.0), omega arith)
]

not_sooner : (a b : Turn) → is_sooner a b ≡ false → NoLater b a
not_sooner a b h =
    let both = or_parts (nat_lt b.batch a.batch) (a.batch == b.batch && nat_lt a.place b.place) h in
    let low = ltb-false b.batch a.batch both.0 in
    elim (and_cases (a.batch == b.batch) (nat_lt a.place b.place) both.1) [
      | inl e ↦ inl (less a.batch b.batch low (eqb-false a.batch b.batch e))
      | inr e ↦ at_most a.batch b.batch low (ltb-false a.place b.place e)
    ]
  where
    less : (n m : ℕ) → n ≤ m → (n ≡ m → ⊥) → n < m
    less n m h k = elim (cases_lt n m) [ inl l ↦ l | inr l ↦ absurd (k (omega arith)) ]

    at_most : (n m : ℕ) → n ≤ m → b.place ≤ a.place → (n < m) ⊎ ((n ≡ m) × (b.place ≤ a.place))
    at_most n m h k = elim (cases_lt n m) [ inl l ↦ inl l | inr l ↦ inr (omega arith, k) ]

no_later_chain : (a b c : Turn) → NoLater a b → NoLater b c → NoLater a c
no_later_chain a b c (inl h) (inl k) = inl (omega arith)
no_later_chain a b c (inl h) (inr k) = let e = k.0 in inl (omega arith)
no_later_chain a b c (inr h) (inl k) = let e = h.0 in inl (omega arith)
no_later_chain a b c (inr h) (inr k) = let e = h.1 in let f = k.1 in inr (k.0 ∙ h.0, omega arith)

no_later_itself : (a : Turn) → NoLater a a
no_later_itself a = inr (refl, omega arith)

-- one more is seen
abbrev Also : (Turn → Type 0) → Turn → Turn → Type 0
Also Seen t u = Seen u ⊎ (u ≡ t)

also_met : (m : Mover) (Seen : Turn → Type 0) (o : Option Turn) (t : Turn) → is_met m t ≡ true → Awaits m Seen o →
    IsFirstOf m (Also Seen t) (sooner t o)
also_met m Seen None t met a = record {
  there = inr refl;
  met = met;
  first = λ u seen h. elim seen [
    | inl s ↦ absurd (both_ways (is_met m u) (a u s) h)
    | inr e ↦ subst (λ (v : Turn). NoLater t v) (sym e) (no_later_itself t)
  ];
}
also_met m Seen (Some b) t met a = one (is_sooner t b) refl
  where
    one : (s : Bool) → is_sooner t b ≡ s → IsFirstOf m (Also Seen t) (cond s t b)
    one true e = record {
      there = inr refl;
      met = met;
      first = λ u seen h. elim seen [
        | inl s ↦ no_later_chain t b u (sooner_than t b e) (a.first u s h)
        | inr f ↦ subst (λ (v : Turn). NoLater t v) (sym f) (no_later_itself t)
      ];
    }
    one false e = record {
      there = inl a.there;
      met = a.met;
      first = λ u seen h. elim seen [
        | inl s ↦ a.first u s h
        | inr f ↦ subst (λ (v : Turn). NoLater b v) (sym f) (not_sooner t b e)
      ];
    }

also_not : (m : Mover) (Seen : Turn → Type 0) (o : Option Turn) (t : Turn) → is_met m t ≡ false → Awaits m Seen o →
    Awaits m (Also Seen t) o
also_not m Seen None t unmet a = λ u seen. elim seen [
  | inl s ↦ a u s
  | inr e ↦ subst (λ (v : Turn). is_met m v ≡ false) (sym e) unmet
]
also_not m Seen (Some b) t unmet a = record {
  there = inl a.there;
  met = a.met;
  first = λ u seen h. elim seen [
    | inl s ↦ a.first u s h
    | inr e ↦ absurd (both_ways (is_met m u) (subst (λ (v : Turn). is_met m v ≡ false) (sym e) unmet) h)
  ];
}

awaits_also : (m : Mover) (Seen : Turn → Type 0) (o : Option Turn) (t : Turn) → Awaits m Seen o →
    Awaits m (Also Seen t) (awaited m o t)
awaits_also m Seen o t a = one (is_met m t) refl
  where
    one : (b : Bool) → is_met m t ≡ b → Awaits m (Also Seen t) (cond b (Some (sooner t o)) o)
    one true e = also_met m Seen o t e a
    one false e = also_not m Seen o t e a

awaits_same : (m : Mover) (S R : Turn → Type 0) → ((t : Turn) → S t → R t) → ((t : Turn) → R t → S t) → (o : Option Turn) →
    Awaits m S o → Awaits m R o
awaits_same m S R to back None h = λ t r. h t (back t r)
awaits_same m S R to back (Some b) h =
    record { there = to b h.there; met = h.met; first = λ t r. h.first t (back t r) }

awaits_more : (m : Mover) (Seen : Turn → Type 0) (o : Option Turn) (ts : List Turn) → Awaits m Seen o →
    Awaits m (λ u. Seen u ⊎ IsIn u ts) (fold (awaited m) o ts)
awaits_more m Seen o [] a =
    awaits_same m Seen (λ u. Seen u ⊎ ⊥) (λ t s. inl s) (λ t s. elim s [ inl here ↦ here | inr none ↦ absurd none ]) o a
awaits_more m Seen o (t ∷ ts) a =
    awaits_same m (λ u. Also Seen t u ⊎ IsIn u ts) (λ u. Seen u ⊎ ((u ≡ t) ⊎ IsIn u ts))
    (λ u s. elim s [
      | inl here ↦ elim here [ inl old ↦ inl old | inr e ↦ inr (inl e) ]
      | inr more ↦ inr (inr more)
    ])
    (λ u s. elim s [
      | inl old ↦ inl (inl old)
      | inr new ↦ elim new [ inl e ↦ inl (inr e) | inr more ↦ inr more ]
    ])
    (fold (awaited m) (awaited m o t) ts)
    (awaits_more m (Also Seen t) (awaited m o t) ts (awaits_also m Seen o t a))

-- what is found along a list is what is waited for
pub awaits-fold : (m : Mover) (ts : List Turn) → Awaits m (λ u. IsIn u ts) (fold (awaited m) None ts)
awaits-fold m ts =
    awaits_same m (λ u. ⊥ ⊎ IsIn u ts) (λ u. IsIn u ts) (λ t s. elim s [ inl none ↦ absurd none | inr i ↦ i ]) (λ t i. inr i)
    (fold (awaited m) None ts) (awaits_more m (λ u. ⊥) None ts (λ t none. absurd none))
