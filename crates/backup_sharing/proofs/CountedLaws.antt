-- Maps that count the backups of a list, and what comes of them where one is added or taken.
use Rattle.std.proofs.Common.{◌≡◌, refl, sym, ◌∙◌, ap, subst, ℕ, zero, suc, ◌+◌, ◌-◌, ◌<◌, ◌≤◌, arith, ℤ, ◌≤ℤ◌, Bool, true, false, cond, ◌&&◌, List, [], ◌∷◌, ◌++◌, length, nat_eq}
use Rattle.std.specs.Prelude.{nat_le, nat_lt}
use Rattle.std.specs.List.{AllByRecursion, list_all, range_with_len}
use Rattle.std.specs.Cmp.{nat_eq_equiv}
use Rattle.std.proofs.lemmas.Bool.{and_parts, and_from, lt-ltb, le-leb, leb-true}
use Rattle.std.proofs.lemmas.List.Sums.{count_by-le-length}
use Rattle.eon_model.specs.Grid.{Band, has_unit, lies_in, span_of, unit_count}
use Rattle.eon_model.specs.Lists.{IsAmong, has_number}
use Rattle.eon_model.specs.Names.{is_name, ascend}
use Rattle.eon_model.specs.Network.{Network, fibre_names, group_names}
use Rattle.eon_model.specs.NetworkText.{has_fibres, has_groups, is_fibre_among, is_group_among, is_in_few_groups}
use Rattle.eon_model.specs.Sets.{has_member}
use Rattle.eon_model.specs.Rows.{Taken, Reserved, Holders, takes, reserves_for, counts_among, at_each, units_in, with_held, without_held, with_reserved, without_reserved}
use Rattle.eon_model.specs.RowLaws.{HasUnit}
use Rattle.eon_model.proofs.OrderLaws.{IsIn}
use Rattle.eon_model.proofs.Members.{list_all-of, any-by}
use Rattle.eon_model.proofs.UnitLaws.{all-from, count_back}
use Rattle.eon_model.proofs.FreeLaws.{count-cons}
use Rattle.net_graph.specs.Graph.{is_graph}
use Rattle.spectrum_map.specs.Kept.{Kept, IsKeptThere, IsEmpty, holders_in}
use Rattle.spectrum_map.proofs.SpanLaws.{facts-unit}
use Rattle.backup_sharing.specs.Shared.{Sharers, IsThere, IsHeldBy, AreCounted, GoTo, map_at, without_one}
use Rattle.backup_sharing.proofs.SameLaws.{left_out, all_left, fewer_left}

-- a test that passes at each unit, on each fibre
pub each_of : (test : ℕ → ℤ → Bool) (t : Taken) → HasUnit t →
    ((fibre : ℕ) (u : ℤ) → IsIn fibre t.fibres → t.units.lo ≤ℤ u → u ≤ℤ t.units.hi → test fibre u ≡ true) →
    at_each test t ≡ true
each_of test t some h =
    list_all-of (λ fibre. list_all (test fibre) (units_in t.units)) t.fibres (λ fibre i.
    all-from (test fibre) t.units.lo (unit_count t.units)
    (λ u p q. h fibre u i p (count_back t.units.lo t.units.hi u some q)))

pub takes_at : (t : Taken) (fibre : ℕ) (u : ℤ) → IsIn fibre t.fibres → t.units.lo ≤ℤ u → u ≤ℤ t.units.hi →
    takes fibre u t ≡ true
takes_at t fibre u i p q =
    and_from (has_number t.fibres fibre) (has_unit t.units u)
    (any-by (λ k. nat_eq k fibre) t.fibres fibre i (nat_eq_equiv.refl fibre)) (facts-unit t.units u p q)

-- ---- what a backup more or fewer makes of the counts

pub added_counts : (r : Reserved) (rs : List Reserved) → counts_among (r ∷ rs) ≡ with_reserved r (counts_among rs)
added_counts r rs = λ i fibre g u. (count-cons (reserves_for fibre g u) r rs
    ∙ sym (more (reserves_for fibre g u r) (counts_among rs fibre g u))) i
  where
    more : (c : Bool) (n : ℕ) → cond c (n + 1) n ≡ cond c 1 0 + n
    more true n = omega arith
    more false n = omega arith

pub taken_counts : (r : Reserved) (rs : List Reserved) → IsAmong r rs →
    counts_among (without_one r rs) ≡ without_reserved r (counts_among rs)
taken_counts r rs among = λ i fibre g u. sym (less (reserves_for fibre g u r) (counts_among rs fibre g u)
    (counts_among (without_one r rs) fibre g u) (left_out r rs among (reserves_for fibre g u))) i
  where
    less : (c : Bool) (n k : ℕ) → n ≡ cond c 1 0 + k → cond c (n - 1) n ≡ k
    less true n k e = omega (arith, e)
    less false n k e = omega (arith, e)

-- the counts of one group
abbrev pub counted_for : List Reserved → ℕ → Holders
counted_for rs g fibre u = counts_among rs fibre g u

module _ (band : Band) (fibres : ℕ) (maps : List Kept) (rs : List Reserved) (counted : AreCounted band fibres maps rs)
    (r : Reserved) where
  -- what is asked of each map
  pub kept_there : (s : Sharers) → s.band ≡ band → s.fibres ≡ fibres → IsThere s r → (g : ℕ) → g < length maps →
      IsKeptThere (map_at maps g) r.taken
  kept_there s same_band same_fibres there g l = record {
    fibres = subst (λ (n : ℕ). AllByRecursion (λ f. f < n) r.taken.fibres)
        (same_fibres ∙ sym (counted.each g l).fibres_are) there.fibres;
    once = there.once;
    units = subst (λ (b : Band). lies_in (span_of b) r.taken.units ≡ true)
        (same_band ∙ sym (counted.each g l).band_is) there.units;
  }

  pub has_room : HasUnit r.taken → length rs < 8192 → (g : ℕ) → g < length maps →
      at_each (λ fibre u. nat_lt (holders_in (map_at maps g) fibre u) 8192) r.taken ≡ true
  has_room some few g l =
      each_of (λ fibre u. nat_lt (holders_in (map_at maps g) fibre u) 8192) r.taken some λ fibre u i p q.
      subst (λ (h : Holders). nat_lt (h fibre u) 8192 ≡ true) (sym (counted.each g l).holders_are)
      (let c = count_by-le-length (reserves_for fibre g u) rs in
      lt-ltb (counts_among rs fibre g u) 8192 (omega arith))

  pub has_some : HasUnit r.taken → IsAmong r rs → (g : ℕ) → g < length maps → has_member r.risk g ≡ true →
      at_each (λ fibre u. nat_le 1 (holders_in (map_at maps g) fibre u)) r.taken ≡ true
  has_some some among g l hit =
      each_of (λ fibre u. nat_le 1 (holders_in (map_at maps g) fibre u)) r.taken some λ fibre u i p q.
      subst (λ (h : Holders). nat_le 1 (h fibre u) ≡ true) (sym (counted.each g l).holders_are)
      (let one : reserves_for fibre g u r ≡ true = and_from _ _ hit (takes_at r.taken fibre u i p q) in
      let c : counts_among rs fibre g u ≡ 1 + counts_among (without_one r rs) fibre g u =
      left_out r rs among (reserves_for fibre g u)
      ∙ ap (λ b. cond b 1 0 + counts_among (without_one r rs) fibre g u) one in
      le-leb 1 (counts_among rs fibre g u) (omega arith))

  module _ (new : List Kept) (len : length new ≡ length maps) where
    pub counted-added : GoTo (length maps) r.risk (with_held r.taken) maps new → length rs < 8192 →
        HasUnit r.taken → AreCounted band fibres new (r ∷ rs)
    counted-added goes few some = record {
      few = omega (arith, few);
      few_groups = let n = counted.few_groups in omega (arith, len, n);
      some = (some, counted.some);
      each = λ g l. each g (omega (arith, len, l));
    }
      where
        by : (b : Bool) (g fibre : ℕ) (u : ℤ) →
            cond b (with_held r.taken (counted_for rs g)) (counted_for rs g) fibre u
            ≡ cond (b && takes fibre u r.taken) (counts_among rs fibre g u + 1) (counts_among rs fibre g u)
        by true g fibre u = refl
        by false g fibre u = refl

        each : (g : ℕ) → g < length maps → IsHeldBy band fibres (counted_for (r ∷ rs) g) (map_at new g)
        each g l =
            let was = counted.each g l in
            let go = goes g in
            record {
              band_is = go.band ∙ was.band_is;
              fibres_are = go.fibres ∙ was.fibres_are;
              holders_are = go.holders
                  ∙ (λ i. cond (lt-ltb g (length maps) l i && has_member r.risk g)
                  (with_held r.taken (was.holders_are i)) (was.holders_are i))
                  ∙ (λ i fibre u. (by (has_member r.risk g) g fibre u
                  ∙ (λ k. sym (added_counts r rs) k fibre g u)) i);
            }

    pub counted-taken : GoTo (length maps) r.risk (without_held r.taken) maps new → IsAmong r rs →
        AreCounted band fibres new (without_one r rs)
    counted-taken goes among = record {
      few = let n = counted.few in let l = fewer_left r rs in omega (arith, n, l);
      few_groups = let n = counted.few_groups in omega (arith, len, n);
      some = all_left (λ (s : Reserved). HasUnit s.taken) r rs counted.some;
      each = λ g l. each g (omega (arith, len, l));
    }
      where
        by : (b : Bool) (g fibre : ℕ) (u : ℤ) →
            cond b (without_held r.taken (counted_for rs g)) (counted_for rs g) fibre u
            ≡ cond (b && takes fibre u r.taken) (counts_among rs fibre g u - 1) (counts_among rs fibre g u)
        by true g fibre u = refl
        by false g fibre u = refl

        each : (g : ℕ) → g < length maps → IsHeldBy band fibres (counted_for (without_one r rs) g) (map_at new g)
        each g l =
            let was = counted.each g l in
            let go = goes g in
            record {
              band_is = go.band ∙ was.band_is;
              fibres_are = go.fibres ∙ was.fibres_are;
              holders_are = go.holders
                  ∙ (λ i. cond (lt-ltb g (length maps) l i && has_member r.risk g)
                  (without_held r.taken (was.holders_are i)) (was.holders_are i))
                  ∙ (λ i fibre u. (by (has_member r.risk g) g fibre u
                  ∙ (λ k. sym (taken_counts r rs among) k fibre g u)) i);
            }

-- each map has these fibres
pub fibres_there : (band : Band) (fibres : ℕ) (maps : List Kept) (rs : List Reserved) → AreCounted band fibres maps rs →
    (fs : List ℕ) → AllByRecursion (λ f. f < fibres) fs → (g : ℕ) → g < length maps →
    AllByRecursion (λ f. f < (map_at maps g).fibres) fs
fibres_there band fibres maps rs counted fs there g l =
    subst (λ (n : ℕ). AllByRecursion (λ f. f < n) fs) (sym (counted.each g l).fibres_are) there

-- ---- no backup

pub one_empty_more : (band : Band) (fibres : ℕ) (maps : List Kept) (m : Kept) → AllByRecursion (IsEmpty band fibres) maps →
    IsEmpty band fibres m → AllByRecursion (IsEmpty band fibres) (maps ++ m ∷ [])
one_empty_more band fibres [] m a e = (e, tt)
one_empty_more band fibres (n ∷ maps) m a e = (a.0, one_empty_more band fibres maps m a.1 e)

empty_at : (band : Band) (fibres : ℕ) (maps : List Kept) → AllByRecursion (IsEmpty band fibres) maps →
    (g : ℕ) → g < length maps → IsEmpty band fibres (map_at maps g)
empty_at band fibres [] a g l = absurd (omega (arith, l))
empty_at band fibres (m ∷ maps) a zero l = a.0
empty_at band fibres (m ∷ maps) a (suc g) l = empty_at band fibres maps a.1 g (omega (arith, l))

pub counted-none : (band : Band) (fibres : ℕ) (maps : List Kept) → AllByRecursion (IsEmpty band fibres) maps →
    length maps ≤ 256 → AreCounted band fibres maps []
counted-none band fibres maps a few = record {
  few = omega arith;
  few_groups = few;
  some = tt;
  each = λ g l.
      let e = empty_at band fibres maps a g l in
      record { band_is = e.band_is; fibres_are = e.fibres_are; holders_are = e.free };
}

-- a network has at most 128 fibres and 128 named groups
pub few_in : (net : Network) → is_graph net ≡ true → (length net.fibres ≤ 128) × (length net.groups ≤ 128)
few_in net h =
    let nodes = nat_le (length net.nodes) 64 && list_all is_name net.nodes && ascend net.nodes in
    let a = and_parts (nodes && has_fibres net) (has_groups net) h in
    let b = and_parts nodes (has_fibres net) a.0 in
    let c = and_parts (nat_le (length net.fibres) 128 && list_all (is_fibre_among net.nodes) net.fibres)
    (ascend (fibre_names net.fibres)) b.1 in
    let d = and_parts (nat_le (length net.fibres) 128) (list_all (is_fibre_among net.nodes) net.fibres) c.0 in
    let e = and_parts (nat_le (length net.groups) 128 && list_all (is_group_among net.fibres) net.groups
    && ascend (group_names net.groups)) (list_all (is_in_few_groups net.groups) (range_with_len 0 (length net.fibres))) a.1 in
    let f = and_parts (nat_le (length net.groups) 128 && list_all (is_group_among net.fibres) net.groups)
    (ascend (group_names net.groups)) e.0 in
    let g = and_parts (nat_le (length net.groups) 128) (list_all (is_group_among net.fibres) net.groups) f.0 in
    (leb-true (length net.fibres) 128 d.0, leb-true (length net.groups) 128 g.0)
