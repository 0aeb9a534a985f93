-- Distances: shortened over one fibre, over all of them, and when nothing is shorter.
use Rattle.std.proofs.Common.{◌≡◌, refl, sym, ◌∙◌, ap, subst, inl, inr, ◌⊎◌, ℕ, zero, suc, ◌+◌, ◌<◌, ◌≤◌, nat_lt, nat_eq, Bool, true, false, cond, ◌||◌, List, [], ◌∷◌, length, sum, get_or, set, slice_get, Some, None, arith, get_or-set_other, get_or-set_same, length-set, replicate}
use Rattle.std.specs.Option.{option_and_then}
use Rattle.std.proofs.lemmas.List.{get_or_past, length-replicate, get_or-replicate}
use Rattle.std.proofs.lemmas.Bool.{cases_lt, ltb-true, ltb-false, cases_eq, false≢true, eq-eqb, eqb-true}
use Rattle.std.proofs.lemmas.List.Sums.{sum_by-set}
use Rattle.eon_model.specs.Network.{Network, Fibre, fibre_at}
use Rattle.eon_model.specs.Route.{far_end}
use Rattle.eon_model.proofs.RouteLaws.{far_end_cases}
use Rattle.net_graph.specs.Walks.{node_after}
use Rattle.route_list.specs.Distance.{is_free, km_at, shortened, Leads, IsRelaxed, GoesOn, Reached, Settled, Rounds}

-- ---- the ends of a fibre

pub fibre-there : (fs : List Fibre) (i : ℕ) → i < length fs → slice_get fs i ≡ Some (fibre_at fs i)
fibre-there [] i l = absurd (omega (arith, l))
fibre-there (f ∷ fs) zero l = refl
fibre-there (f ∷ fs) (suc i) l = fibre-there fs i (omega (arith, l))

far_there : (f : Fibre) → far_end f.a f ≡ Some f.b
far_there f = ap (λ b. cond b (Some f.b) (cond (nat_eq f.b f.a) (Some f.a) None)) (eq-eqb f.a f.a refl)

far_back : (f : Fibre) → far_end f.b f ≡ Some f.a
far_back f = by (nat_eq f.a f.b) refl
  where
    by : (b : Bool) → nat_eq f.a f.b ≡ b → cond b (Some f.b) (cond (nat_eq f.b f.b) (Some f.a) None) ≡ Some f.a
    by true e = ap Some (sym (eqb-true f.a f.b e))
    by false e = ap (λ b. cond b (Some f.a) None) (eq-eqb f.b f.b refl)

pub ends-of : (fibres : List Fibre) (node i next : ℕ) → i < length fibres → node_after fibres node i ≡ Some next →
    (((fibre_at fibres i).a ≡ node) × ((fibre_at fibres i).b ≡ next))
    ⊎ (((fibre_at fibres i).b ≡ node) × ((fibre_at fibres i).a ≡ next))
ends-of fibres node i next l e =
    let f = fibre_at fibres i in
    far_end_cases node next f (nat_eq f.a node) (nat_eq f.b node) refl refl
    (ap (option_and_then (far_end node)) (sym (fibre-there fibres i l)) ∙ e)

module _ (net : Network) (banned closed : ℕ → Bool) where
  abbrev To : ℕ → ℕ → ℕ → Type 0
  To node i next = Leads net banned closed node i next

  pub leads-there : (i : ℕ) → i < length net.fibres → is_free net banned closed i ≡ true →
      To (fibre_at net.fibres i).a i (fibre_at net.fibres i).b
  leads-there i l free = record {
    free = free;
    to = ap (option_and_then (far_end (fibre_at net.fibres i).a)) (fibre-there net.fibres i l)
        ∙ far_there (fibre_at net.fibres i);
  }

  pub leads-back : (i : ℕ) → i < length net.fibres → is_free net banned closed i ≡ true →
      To (fibre_at net.fibres i).b i (fibre_at net.fibres i).a
  leads-back i l free = record {
    free = free;
    to = ap (option_and_then (far_end (fibre_at net.fibres i).b)) (fibre-there net.fibres i l)
        ∙ far_back (fibre_at net.fibres i);
  }

  -- it leads from one of its ends to the other
  pub leads-ends : (node i next : ℕ) → i < length net.fibres → To node i next →
      (((fibre_at net.fibres i).a ≡ node) × ((fibre_at net.fibres i).b ≡ next))
      ⊎ (((fibre_at net.fibres i).b ≡ node) × ((fibre_at net.fibres i).a ≡ next))
  leads-ends node i next l h = ends-of net.fibres node i next l h.to

  -- ---- one way that is shorter

  module _ (t max_km : ℕ) where
    abbrev R : List ℕ → Type 0
    R away = Reached net banned closed t max_km away

    module _ (away : List ℕ) (node i next : ℕ) (h : R away) (to : To node i next) (small : node < 64)
        (less : get_or away next 0 + km_at net i < get_or away node 0) where
      abbrev v : ℕ
      v = get_or away next 0 + km_at net i

      inside : node < length away
      inside = omega (arith, h.long)

      here : get_or (set away node v) node 0 ≡ v
      here = get_or-set_same away node v 0 inside

      apart : node ≡ next → ⊥
      apart e = let s = ap (λ n. get_or away n 0) e in omega (arith, less, s)

      there : (n : ℕ) → (n ≡ node → ⊥) → get_or (set away node v) n 0 ≡ get_or away n 0
      there n ne = get_or-set_other away node n v 0 ne

      lower : (n : ℕ) → get_or (set away node v) n 0 ≤ get_or away n 0
      lower n = elim (cases_eq n node) [
        | inl e ↦
            let a = ap (λ k. get_or (set away node v) k 0) e in
            let b = ap (λ k. get_or away k 0) e in
            omega (arith, a, b, here, less)
        | inr ne ↦ omega (arith, there n ne)
      ]

      not_target : node ≡ t → ⊥
      not_target e = let s = ap (λ n. get_or away n 0) e in omega (arith, less, s, h.target)

      goes_on : (n : ℕ) → n < 64 → (n ≡ t → ⊥) → get_or (set away node v) n 0 ≤ max_km →
          GoesOn net banned closed (set away node v) n
      goes_on n l ne most = elim (cases_eq n node) [
        | inl e ↦ subst (λ (k : ℕ). GoesOn net banned closed (set away node v) k) (sym e) (record {
          fibre = i;
          next = next;
          leads = to;
          nearer = omega (arith, here, there next (λ e. apart (sym e)));
        })
        | inr other ↦
            let g = h.on n l ne (omega (arith, there n other, most)) in
            record {
              fibre = g.fibre;
              next = g.next;
              leads = g.leads;
              nearer = omega (arith, g.nearer, there n other, lower g.next);
            }
      ]

      set_reached : R (set away node v)
      set_reached = record {
        long = length-set away node v ∙ h.long;
        most = λ n. omega (arith, lower n, h.most n);
        target = there t (λ e. not_target (sym e)) ∙ h.target;
        on = goes_on;
      }

      set_less : sum (set away node v) < sum away
      set_less = let s = sum_by-set (λ (n : ℕ). n) away node v 0 inside in omega (arith, s, less)

    -- both ways of the test
    pub shorten-reached : (away : List ℕ) (node i next : ℕ) → R away → To node i next → node < 64 →
        R (shortened away node next (km_at net i))
    shorten-reached away node i next h to small =
        by (nat_lt (get_or away next 0 + km_at net i) (get_or away node 0)) refl
      where
        by : (b : Bool) → nat_lt (get_or away next 0 + km_at net i) (get_or away node 0) ≡ b →
            R (cond b (set away node (get_or away next 0 + km_at net i)) away)
        by true e = set_reached away node i next h to small (ltb-true _ _ e)
        by false e = h

    -- what one test says
    pub record Shorter (old fresh : List ℕ) (node i next : ℕ) (shorter : Bool) : Type 0 where
      pub reached : R fresh
      pub still : shorter ≡ false → (fresh ≡ old) × (get_or old node 0 ≤ get_or old next 0 + km_at net i)
      pub less : shorter ≡ true → sum fresh < sum old

    pub shorter : (old fresh : List ℕ) (node i next : ℕ) (b : Bool) → R old → To node i next → node < 64 →
        fresh ≡ shortened old node next (km_at net i) →
        b ≡ nat_lt (get_or old next 0 + km_at net i) (get_or old node 0) → Shorter old fresh node i next b
    shorter old fresh node i next b h to small is told = record {
      reached = subst R (sym is) (shorten-reached old node i next h to small);
      still = λ e. (
        is ∙ ap (λ c. cond c (set old node (get_or old next 0 + km_at net i)) old) (sym told ∙ e),
        ltb-false _ _ (sym told ∙ e),
      );
      less = λ e. subst (λ (v : List ℕ). sum v < sum old)
          (sym (is ∙ ap (λ c. cond c (set old node (get_or old next 0 + km_at net i)) old) (sym told ∙ e)))
          (set_less old node i next h to small (ltb-true _ _ (sym told ∙ e)));
    }

    -- ---- one fibre, both ways

    pub both-ways : (i : ℕ) (old mid fresh : List ℕ) (there back : Bool) → i < length net.fibres →
        Shorter old mid (fibre_at net.fibres i).a i (fibre_at net.fibres i).b there →
        Shorter mid fresh (fibre_at net.fibres i).b i (fibre_at net.fibres i).a back →
        Rounds net banned closed t max_km (IsRelaxed net banned closed i) old fresh (there || back)
    both-ways i old mid fresh true true l p q = record {
      reached = q.reached;
      still = λ e. absurd (false≢true (sym e));
      less = λ e. let a = p.less refl in let b = q.less refl in omega (arith, a, b);
    }
    both-ways i old mid fresh true false l p q = record {
      reached = q.reached;
      still = λ e. absurd (false≢true (sym e));
      less = λ e. subst (λ (v : List ℕ). sum v < sum old) (sym (q.still refl).0) (p.less refl);
    }
    both-ways i old mid fresh false true l p q = record {
      reached = q.reached;
      still = λ e. absurd (false≢true (sym e));
      less = λ e. subst (λ (v : List ℕ). sum fresh < sum v) (p.still refl).0 (q.less refl);
    }
    both-ways i old mid fresh false false l p q =
        let same = (p.still refl).0 in
        let ab = (p.still refl).1 in
        let ba = subst (λ (v : List ℕ). get_or v (fibre_at net.fibres i).b 0
        ≤ get_or v (fibre_at net.fibres i).a 0 + km_at net i) same (q.still refl).1 in
        record {
          reached = q.reached;
          still = λ e. (
            (q.still refl).0 ∙ same,
            λ node next to. elim (leads-ends node i next l to) [
              | inl x ↦
                  let a = ap (λ n. get_or old n 0) x.0 in
                  let b = ap (λ n. get_or old n 0) x.1 in
                  omega (arith, ab, a, b)
              | inr x ↦
                  let a = ap (λ n. get_or old n 0) x.0 in
                  let b = ap (λ n. get_or old n 0) x.1 in
                  omega (arith, ba, a, b)
            ],
          );
          less = λ e. absurd (false≢true e);
        }

    -- from what the two tests told of the fibre
    pub over-both : (i : ℕ) (f : Fibre) → f ≡ fibre_at net.fibres i → i < length net.fibres →
        is_free net banned closed i ≡ true → f.a < 64 → f.b < 64 → (old mid fresh : List ℕ) (there back : Bool) →
        R old → mid ≡ shortened old f.a f.b f.km → there ≡ nat_lt (get_or old f.b 0 + f.km) (get_or old f.a 0) →
        fresh ≡ shortened mid f.b f.a f.km → back ≡ nat_lt (get_or mid f.a 0 + f.km) (get_or mid f.b 0) →
        Rounds net banned closed t max_km (IsRelaxed net banned closed i) old fresh (there || back)
    over-both i f e l free = subst
        (λ (f : Fibre). f.a < 64 → f.b < 64 → (old mid fresh : List ℕ) (there back : Bool) →
        R old → mid ≡ shortened old f.a f.b f.km → there ≡ nat_lt (get_or old f.b 0 + f.km) (get_or old f.a 0) →
        fresh ≡ shortened mid f.b f.a f.km → back ≡ nat_lt (get_or mid f.a 0 + f.km) (get_or mid f.b 0) →
        Rounds net banned closed t max_km (IsRelaxed net banned closed i) old fresh (there || back))
        (sym e)
        (λ a b old mid fresh there back h is told again said.
        let first = shorter old mid (fibre_at net.fibres i).a i (fibre_at net.fibres i).b there h
        (leads-there i l free) a is told in
        both-ways i old mid fresh there back l first
        (shorter mid fresh (fibre_at net.fibres i).b i (fibre_at net.fibres i).a back first.reached
        (leads-back i l free) b again said))

    -- a fibre that is not free
    pub not-free : (i : ℕ) (away : List ℕ) → R away → is_free net banned closed i ≡ false →
        Rounds net banned closed t max_km (IsRelaxed net banned closed i) away away false
    not-free i away h e = record {
      reached = h;
      still = λ x. (refl, λ node next to. absurd (false≢true (sym e ∙ to.free)));
      less = λ x. absurd (false≢true x);
    }

    -- ---- all fibres

    -- the first n fibres are relaxed
    abbrev pub Below : ℕ → List ℕ → Type 0
    Below n away = (i : ℕ) → i < n → IsRelaxed net banned closed i away

    pub none-yet : (away : List ℕ) → R away → Rounds net banned closed t max_km (Below 0) away away false
    none-yet away h = record {
      reached = h;
      still = λ x. (refl, λ i l. absurd (omega (arith, l)));
      less = λ x. absurd (false≢true x);
    }

    pub one-more : (n : ℕ) (old mid fresh : List ℕ) (b c : Bool) →
        Rounds net banned closed t max_km (Below n) old mid b →
        Rounds net banned closed t max_km (IsRelaxed net banned closed n) mid fresh c →
        Rounds net banned closed t max_km (Below (n + 1)) old fresh (c || b)
    one-more n old mid fresh b true p q = record {
      reached = q.reached;
      still = λ e. absurd (false≢true (sym e));
      less = λ e. le_first old mid fresh b p (q.less refl);
    }
      where
        le_first : (old mid fresh : List ℕ) (b : Bool) → Rounds net banned closed t max_km (Below n) old mid b →
            sum fresh < sum mid → sum fresh < sum old
        le_first old mid fresh true p l = let a = p.less refl in omega (arith, a, l)
        le_first old mid fresh false p l = subst (λ (v : List ℕ). sum fresh < sum v) (p.still refl).0 l
    one-more n old mid fresh true false p q = record {
      reached = q.reached;
      still = λ e. absurd (false≢true (sym e));
      less = λ e. subst (λ (v : List ℕ). sum v < sum old) (sym (q.still refl).0) (p.less refl);
    }
    one-more n old mid fresh false false p q = record {
      reached = q.reached;
      still = λ e. (
        (q.still refl).0 ∙ (p.still refl).0,
        λ i l. elim (cases_eq i n) [
          | inl same ↦ subst (λ (k : ℕ). IsRelaxed net banned closed k old) (sym same)
              (subst (λ (v : List ℕ). IsRelaxed net banned closed n v) (p.still refl).0 (q.still refl).1)
          | inr ne ↦ (p.still refl).1 i (omega (arith, l, ne))
        ],
      );
      less = λ e. absurd (false≢true e);
    }

    -- nothing was shorter: they are settled
    pub settled : (n : ℕ) (old fresh : List ℕ) → Rounds net banned closed t max_km (Below n) old fresh false →
        n ≡ length net.fibres → Settled net banned closed t max_km fresh
    settled n old fresh p e = record {
      reached = p.reached;
      apart = λ i l. subst (IsRelaxed net banned closed i) (sym (p.still refl).0)
          ((p.still refl).1 i (omega (arith, l, e)));
    }

    -- a round leaves less to do
    pub smaller : {Done : List ℕ → Type 0} (old fresh : List ℕ) (was now : Bool) →
        Rounds net banned closed t max_km Done old fresh now → was ≡ true →
        sum fresh + cond now 1 0 < sum old + cond was 1 0
    smaller old fresh was true p e =
        let l = p.less refl in
        let one = ap {B = ℕ} (λ b. cond b 1 0) e in
        omega (arith, l, one)
    smaller old fresh was false p e =
        let same = ap sum (p.still refl).0 in
        let one = ap {B = ℕ} (λ b. cond b 1 0) e in
        omega (arith, same, one)

    -- at the target alone
    pub at-first : t < 64 → R (set (replicate 64 (max_km + 1)) t 0)
    at-first l =
        let far = replicate 64 (max_km + 1) in
        let long = length-replicate 64 (max_km + 1) in
        let value = λ (n : ℕ) (k : n < 64). get_or-replicate 64 n (max_km + 1) 0 k in
        record {
          long = length-set far t 0 ∙ long;
          most = λ n. elim (cases_eq n t) [
            | inl e ↦
                let a = ap (λ k. get_or (set far t 0) k 0) e in
                let b = get_or-set_same far t 0 0 (omega (arith, long, l)) in
                omega (arith, a, b)
            | inr ne ↦
                let a = get_or-set_other far t n 0 0 ne in
                elim (cases_lt n 64) [
                  | inl small ↦ let b = value n small in omega (arith, a, b)
                  | inr past ↦ let b = get_or_past far n 0 (omega (arith, long, past)) in omega (arith, a, b)
                ]
          ];
          target = get_or-set_same far t 0 0 (omega (arith, long, l));
          on = λ n small ne most.
              let a = get_or-set_other far t n 0 0 ne in
              let b = value n small in
              absurd (omega (arith, a, b, most));
        }
