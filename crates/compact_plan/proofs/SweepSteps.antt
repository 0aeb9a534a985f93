-- A sweep, one block at a time.
use Rattle.std.proofs.Common.{◌≡◌, refl, sym, ◌∙◌, ap, subst, ℕ, zero, suc, ◌+◌, ◌<◌, ◌≤◌, ◌≢◌, ℤ, ◌⊎◌, inl, inr, true, nat_eq, List, [], ◌∷◌, map, length, get_or, replicate, Option, Some, arith}
use Rattle.std.specs.Prelude.{slice_get, set, is_some, IsTrue}
use Rattle.std.specs.List.{list_all}
use Rattle.std.specs.List.Sorted.{IsNonDecreasingBy}
use Rattle.std.specs.Cmp.{nat_eq_equiv}
use Rattle.std.proofs.lemmas.Bool.{both_ways, cases_Bool, eqb-true}
use Rattle.std.proofs.lemmas.Option.{slice_get_within, slice_get_read, get_or_from_slice_get}
use Rattle.std.proofs.lemmas.List.{get_or-set_same, get_or-set_other}
use Rattle.std.proofs.lemmas.List.{length-set}
use Rattle.std.proofs.lemmas.List.Elements.{All-contains}
use Rattle.eon_model.specs.Grid.{Band, is_band}
use Rattle.eon_model.specs.Lists.{has_number}
use Rattle.eon_model.specs.Services.{Path, Service, State}
use Rattle.eon_model.specs.Legal.{Setup, Legal}
use Rattle.eon_model.specs.Drift.{AreLowest}
use Rattle.eon_model.specs.Places.{AtRest, Places}
use Rattle.eon_model.specs.Plan.{Channel, channels_of, rest_of}
use Rattle.eon_model.proofs.OrderLaws.{IsIn}
use Rattle.eon_model.proofs.ListLaws.{slice_get_in}
use Rattle.eon_model.proofs.Members.{list_all-of}
use Rattle.eon_model.proofs.FoundLaws.{of-IsIn-map}
use Rattle.eon_model.proofs.TurnLaws.{channel_at, channels-map}
use Rattle.eon_model.proofs.RestLaws.{rest-named}
use Rattle.eon_model.proofs.LowestLaws.{AreLowest-swept}
use Rattle.eon_model.proofs.DescentLaws.{IsSwept}
use Rattle.eon_model.proofs.SweepExists.{target, IsSwept-target}
use Rattle.compact_plan.specs.declared.block.Block.{Block}
use Rattle.compact_plan.specs.Blocks.{path_height, channel_block, backup_block, IsBlockOf, AreBlocks}
use Rattle.compact_plan.specs.Tops.{end_height, Raises}
use Rattle.compact_plan.specs.Sweeps.{TakesBlock, centres, LeavesLowest}
use Rattle.compact_plan.proofs.SettleLaws.{low_of, IsDone, ChannelOn, BackupOn, SweptTo, placed_in, settles, target_grid, centre_back}

-- ---- lists

set_same : (xs : List ℕ) (i v : ℕ) → i < length xs → slice_get (set xs i v) i ≡ Some v
set_same xs i v within = slice_get_read (set xs i v) (length (set xs i v)) i v refl
    (subst (λ (n : ℕ). i < n) (sym (length-set xs i v)) within) (sym (get_or-set_same xs i v v within))

set_other : (xs : List ℕ) (i j v x : ℕ) → j ≢ i → slice_get xs j ≡ Some x → slice_get (set xs i v) j ≡ Some x
set_other xs i j v x apart e = slice_get_read (set xs i v) (length (set xs i v)) j x refl
    (subst (λ (n : ℕ). j < n) (sym (length-set xs i v)) (slice_get_within xs j x e))
    (sym (get_or-set_other xs i j v x apart ∙ get_or_from_slice_get xs j x x e))

same_or : (f g : ℕ) → (g ≡ f) ⊎ (g ≢ f)
same_or f g = elim (cases_Bool (nat_eq g f)) [
  | inl t ↦ inl (eqb-true g f t)
  | inr apart ↦ inr (λ e. both_ways _ apart (subst (λ (k : ℕ). nat_eq g k ≡ true) e (nat_eq_equiv.refl g)))
]

one_service : (state : State) (i j : ℕ) (s o : Service) → slice_get state i ≡ Some s → slice_get state j ≡ Some o →
    j ≡ i → o ≡ s
one_service state i j s o e f same = let g : slice_get state i ≡ Some o = ap (slice_get state) (sym same) ∙ f in cc

one_value : {X : Type 0} (o : Option X) (x y : X) → o ≡ Some x → o ≡ Some y → x ≡ y
one_value o x y e f = cc

-- ---- blocks

done_next : (blocks : List Block) (k : ℕ) (x y : Block) → IsDone blocks (k + 1) x → slice_get blocks k ≡ Some y →
    (IsDone blocks k x) ⊎ (x ≡ y)
done_next blocks k x y done at = elim (same_or k done.0) [
  | inl e ↦ let f : slice_get blocks k ≡ Some x = ap (slice_get blocks) (sym e) ∙ done.2 in inr (one_value (slice_get blocks k) x y f at)
  | inr apart ↦ inl (done.0, less done.0 k done.1 apart, done.2)
]
  where
    less : (j k : ℕ) → j < k + 1 → j ≢ k → j < k
    less j k l apart = omega arith

done_more : (blocks : List Block) (k : ℕ) (x : Block) → IsDone blocks k x → IsDone blocks (k + 1) x
done_more blocks k x done = let l = done.1 in (done.0, omega arith, done.2)

done_here : (blocks : List Block) (k : ℕ) (x : Block) → slice_get blocks k ≡ Some x → IsDone blocks (k + 1) x
done_here blocks k x e = (k, omega arith, e)

pub block_at : (state : State) (blocks : List Block) (k : ℕ) (b : Block) → AreBlocks state blocks →
    slice_get blocks k ≡ Some b → IsBlockOf state b
block_at state blocks k b are e = All-contains (IsBlockOf state) blocks b are.only
    (k, slice_get_within blocks k b e, get_or_from_slice_get blocks k b b e)

trans : (a b c : ℕ) → a ≤ b → b ≤ c → a ≤ c
trans a b c h l = omega arith

module _ (state : State) (p : Places) (blocks : List Block) (k : ℕ) where
  channel_on-more : (f h : ℕ) → ChannelOn state p blocks k f h → ChannelOn state p blocks (k + 1) f h
  channel_on-more f h c = record {
    number = c.number;
    service = c.service;
    there = c.there;
    done = done_more blocks k (channel_block c.number c.service) c.done;
    on = c.on;
    is = c.is;
  }

  backup_on-more : (f h : ℕ) → BackupOn state blocks k f h → BackupOn state blocks (k + 1) f h
  backup_on-more f h c = record {
    number = c.number;
    service = c.service;
    back = c.back;
    there = c.there;
    has = c.has;
    done = done_more blocks k (backup_block c.number c.back) c.done;
    on = c.on;
    is = c.is;
  }

  abbrev Comes : ℕ → ℕ → ℕ → Type 0
  Comes n f h = (h ≡ 0) ⊎ (ChannelOn state p blocks n f h ⊎ BackupOn state blocks n f h)

  comes-more : (f h : ℕ) → Comes k f h → Comes (k + 1) f h
  comes-more f h c = elim c [
    | inl none ↦ inl none
    | inr some ↦ elim some [
      | inl on ↦ inr (inl (channel_on-more f h on))
      | inr on ↦ inr (inr (backup_on-more f h on))
    ]
  ]

  module _ (tops raised lows settled : List ℕ) (inv : SweptTo state p blocks k tops lows) where
    -- a channel at its target
    channel_step : (i : ℕ) (s : Service) → slice_get state i ≡ Some s →
        slice_get blocks k ≡ Some (channel_block i s) →
        Raises tops raised s.leg.work.route.fibres (end_height (low_of p s) s.leg.work) →
        settled ≡ set lows i (low_of p s) → SweptTo state p blocks (k + 1) raised settled
    channel_step i s there at r told = record {
      long = r.long ∙ inv.long;
      wide = ap length told ∙ length-set lows i (low_of p s) ∙ inv.wide;
      channels = λ j o e done f on. elim (done_next blocks k (channel_block j o) (channel_block i s) done at) [
        | inl old ↦ trans _ (get_or tops f 0) (get_or raised f 0) (inv.channels j o e old f on) (r.grows f)
        | inr same ↦
            let is : o ≡ s = one_service state i j s o there e (ap (λ (b : Block). b.number) same) in
            subst (λ (x : Service). end_height (low_of p x) x.leg.work ≤ get_or raised f 0) (sym is)
            (r.over f (subst (λ (x : Service). has_number x.leg.work.route.fibres f ≡ true) is on))
      ];
      backups = λ j o b e is done f on. elim (done_next blocks k (backup_block j b) (channel_block i s) done at) [
        | inl old ↦ trans _ (get_or tops f 0) (get_or raised f 0) (inv.backups j o b e is old f on) (r.grows f)
        | inr same ↦ absurd (both_ways true (ap (λ (x : Block). x.is_backup) same) refl)
      ];
      from = λ f. elim (r.from f) [
        | inl old ↦ subst (λ (h : ℕ). Comes (k + 1) f h) (sym old) (comes-more f (get_or tops f 0) (inv.from f))
        | inr new ↦ inr (inl (record {
          number = i;
          service = s;
          there = there;
          done = done_here blocks k (channel_block i s) at;
          on = new.0;
          is = sym new.1;
        }))
      ];
      told = λ j o e done. subst (λ (ls : List ℕ). slice_get ls j ≡ Some (low_of p o)) (sym told)
          (elim (same_or i j) [
            | inl same ↦
                let is : o ≡ s = one_service state i j s o there e same in
                subst (λ (n : ℕ). slice_get (set lows i (low_of p s)) n ≡ Some (low_of p o)) (sym same)
                (subst (λ (x : Service). slice_get (set lows i (low_of p s)) i ≡ Some (low_of p x)) (sym is)
                (set_same lows i (low_of p s) (subst (λ (n : ℕ). i < n) (sym inv.wide) (slice_get_in state i s there).0)))
            | inr other ↦ set_other lows i j (low_of p s) (low_of p o) other
                (elim (done_next blocks k (channel_block j o) (channel_block i s) done at) [
                  | inl old ↦ inv.told j o e old
                  | inr same ↦ absurd (other (ap (λ (b : Block). b.number) same))
                ])
          ]);
    }

    -- a backup
    backup_step : (i : ℕ) (s : Service) (back : Path) → slice_get state i ≡ Some s → s.leg.back ≡ Some back →
        slice_get blocks k ≡ Some (backup_block i back) →
        Raises tops raised back.route.fibres (end_height (path_height back) back) →
        settled ≡ lows → SweptTo state p blocks (k + 1) raised settled
    backup_step i s back there has at r told = record {
      long = r.long ∙ inv.long;
      wide = ap length told ∙ inv.wide;
      channels = λ j o e done f on. elim (done_next blocks k (channel_block j o) (backup_block i back) done at) [
        | inl old ↦ trans _ (get_or tops f 0) (get_or raised f 0) (inv.channels j o e old f on) (r.grows f)
        | inr same ↦ absurd (both_ways true (sym (ap (λ (x : Block). x.is_backup) same)) refl)
      ];
      backups = λ j o b e is done f on. elim (done_next blocks k (backup_block j b) (backup_block i back) done at) [
        | inl old ↦ trans _ (get_or tops f 0) (get_or raised f 0) (inv.backups j o b e is old f on) (r.grows f)
        | inr same ↦
            let one : o ≡ s = one_service state i j s o there e (ap (λ (x : Block). x.number) same) in
            let path : b ≡ back = same_back o s b back one is has in
            subst (λ (x : Path). end_height (path_height x) x ≤ get_or raised f 0) (sym path)
            (r.over f (subst (λ (x : Path). has_number x.route.fibres f ≡ true) path on))
      ];
      from = λ f. elim (r.from f) [
        | inl old ↦ subst (λ (h : ℕ). Comes (k + 1) f h) (sym old) (comes-more f (get_or tops f 0) (inv.from f))
        | inr new ↦ inr (inr (record {
          number = i;
          service = s;
          back = back;
          there = there;
          has = has;
          done = done_here blocks k (backup_block i back) at;
          on = new.0;
          is = sym new.1;
        }))
      ];
      told = λ j o e done. subst (λ (ls : List ℕ). slice_get ls j ≡ Some (low_of p o)) (sym told)
          (elim (done_next blocks k (channel_block j o) (backup_block i back) done at) [
            | inl old ↦ inv.told j o e old
            | inr same ↦ absurd (both_ways true (sym (ap (λ (x : Block). x.is_backup) same)) refl)
          ]);
    }
      where
        same_back : (o s : Service) (a b : Path) → o ≡ s → o.leg.back ≡ Some a → s.leg.back ≡ Some b → a ≡ b
        same_back o s a b e f g = let h : o.leg.back ≡ Some b = ap (λ (x : Service). x.leg.back) e ∙ g in cc

-- ---- with the targets of a sweep

module _ (setup : Setup) (state : State) (rest : AtRest state) (legal : Legal setup state)
    (banded : is_band setup.band ≡ true) (p : Places) (swept : IsSwept setup state p)
    (blocks : List Block) (are : AreBlocks state blocks) (ordered : IsNonDecreasingBy (λ b. b.height) blocks) where
  step : (k : ℕ) (b : Block) (tops raised lows settled : List ℕ) → slice_get blocks k ≡ Some b →
      SweptTo state p blocks k tops lows → TakesBlock state setup.band b tops raised lows settled →
      SweptTo state p blocks (k + 1) raised settled
  step k b tops raised lows settled at inv takes =
      let block = block_at state blocks k b are at in
      let s = block.service in
      elim block.is [
        | inl channel ↦
            let here : slice_get blocks k ≡ Some (channel_block b.number s) = at ∙ ap Some channel in
            let t = takes.channel s block.there (ap (λ (x : Block). x.is_backup) channel) in
            let e = settles setup state rest legal banded p swept blocks are ordered k b.number s block.there here
            tops lows inv t.top t.over in
            channel_step state p blocks k tops raised lows settled inv b.number s block.there here
            (subst (λ (h : ℕ). Raises tops raised s.leg.work.route.fibres (end_height h s.leg.work)) e t.raises)
            (t.told ∙ ap (set lows b.number) e)
        | inr backup ↦
            let here : slice_get blocks k ≡ Some (backup_block b.number backup.0) = at ∙ ap Some backup.2 in
            let t = takes.backup s backup.0 block.there (ap (λ (x : Block). x.is_backup) backup.2) backup.1 in
            backup_step state p blocks k tops raised lows settled inv b.number s backup.0 block.there backup.1 here t.0 t.1
      ]

  none_before : (k : ℕ) → k < 0 → ⊥
  none_before k l = omega arith

  start : (tops lows : List ℕ) → length tops ≡ 256 → ((f : ℕ) → get_or tops f 0 ≡ 0) → length lows ≡ length state →
      SweptTo state p blocks 0 tops lows
  start tops lows long zeros wide = record {
    long = long;
    wide = wide;
    channels = λ i s e done. absurd (none_before done.0 done.1);
    backups = λ i s b e is done. absurd (none_before done.0 done.1);
    from = λ f. inl (zeros f);
    told = λ i s e done. absurd (none_before done.0 done.1);
  }

  lows_are : (part : State) (lows : List ℕ) → length lows ≡ length part →
      ((i : ℕ) (s : Service) → slice_get part i ≡ Some s → slice_get lows i ≡ Some (low_of p s)) →
      lows ≡ map (low_of p) part
  lows_are [] [] e h = refl
  lows_are [] (l ∷ lows) e h = absurd (omega arith)
  lows_are (s ∷ part) [] e h = absurd (omega arith)
  lows_are (s ∷ part) (l ∷ lows) e h =
      let first : Some l ≡ Some (low_of p s) = h 0 s refl in
      let same : l ≡ low_of p s = cc in
      λ i. same i ∷ lows_are part lows (omega arith) (λ j t f. h (suc j) t f) i

  centres_are : (part : State) → ((s : Service) → IsIn s part → IsIn s state) →
      centres part (map (low_of p) part) ≡ map p part
  centres_are [] sub = refl
  centres_are (s ∷ part) sub =
      λ i. centre_back (p s) s.leg.work.slot.m (target_grid setup state rest legal banded p swept s (sub s (inl refl))) i
      ∷ centres_are part (λ t j. sub t (inr j)) i

  abbrev Leaves : List ℤ → Type 0
  Leaves targets = AreLowest setup state targets
      × IsTrue (list_all (λ c. is_some (rest_of setup.band (channels_of state targets) c)) (channels_of state targets))

  abbrev cs : List Channel
  cs = map (channel_at p) state

  rested : (c : Channel) → IsIn c cs → is_some (rest_of setup.band cs c) ≡ true
  rested c i =
      let s = of-IsIn-map (channel_at p) state c i in
      subst (λ (d : Channel). is_some (rest_of setup.band cs d) ≡ true) (sym s.1.1)
      (ap is_some (rest-named setup state p rest legal swept.way s.0 s.1.0 (swept.rests s.0 s.1.0)).1)

  leaves_targets : Leaves (map p state)
  leaves_targets = (
    AreLowest-swept setup state p rest legal swept,
    subst (λ (ds : List Channel). list_all (λ c. is_some (rest_of setup.band ds c)) ds ≡ true) (sym (channels-map p state))
        (list_all-of (λ c. is_some (rest_of setup.band cs c)) cs rested),
  )

  finish : (tops lows : List ℕ) → SweptTo state p blocks (length blocks) tops lows → Leaves (centres state lows)
  finish tops lows inv =
      let all : lows ≡ map (low_of p) state =
      lows_are state lows inv.wide (λ i s e. inv.told i s e (placed_in blocks (channel_block i s) (are.channels i s e))) in
      subst Leaves (sym (ap (centres state) all ∙ centres_are state (λ s i. i))) leaves_targets

-- ---- whatever the network

-- the first k blocks are taken up, as in each sweep of the state
pub SweptFor : Band → State → List Block → ℕ → List ℕ → List ℕ → Type 0
SweptFor band state blocks k tops lows =
    (setup : Setup) → setup.band ≡ band → is_band band ≡ true → Legal setup state → AtRest state → (p : Places) →
    IsSwept setup state p → SweptTo state p blocks k tops lows

pub all_zero : (n f : ℕ) → get_or (replicate n zero) f zero ≡ zero
all_zero zero f = refl
all_zero (suc n) zero = refl
all_zero (suc n) (suc f) = all_zero n f

pub swept_none : (band : Band) (state : State) (blocks : List Block) → AreBlocks state blocks →
    IsNonDecreasingBy (λ b. b.height) blocks → (lows : List ℕ) → length lows ≡ length state →
    SweptFor band state blocks 0 (replicate 256 0) lows
unfolding SweptFor
swept_none band state blocks are ordered lows long setup of_band banded legal rest p swept =
    start setup state rest legal (subst (λ (b : Band). is_band b ≡ true) (sym of_band) banded) p swept blocks are ordered
    (replicate 256 0) lows refl (all_zero 256) long

pub swept_more : (band : Band) (state : State) (blocks : List Block) → AreBlocks state blocks →
    IsNonDecreasingBy (λ b. b.height) blocks → (k : ℕ) (b : Block) (tops raised lows settled : List ℕ) →
    slice_get blocks k ≡ Some b → TakesBlock state band b tops raised lows settled →
    SweptFor band state blocks k tops lows → SweptFor band state blocks (k + 1) raised settled
unfolding SweptFor
swept_more band state blocks are ordered k b tops raised lows settled at takes inv setup of_band banded legal rest p swept =
    step setup state rest legal (subst (λ (c : Band). is_band c ≡ true) (sym of_band) banded) p swept blocks are ordered
    k b tops raised lows settled at (inv setup of_band banded legal rest p swept)
    (subst (λ (c : Band). TakesBlock state c b tops raised lows settled) (sym of_band) takes)

pub number_in : (state : State) (blocks : List Block) (k : ℕ) (b : Block) → AreBlocks state blocks →
    slice_get blocks k ≡ Some b → b.number < length state
number_in state blocks k b are e =
    let block = block_at state blocks k b are e in slice_get_within state b.number block.service block.there

pub swept_all : (band : Band) (state : State) (blocks : List Block) → AreBlocks state blocks →
    IsNonDecreasingBy (λ b. b.height) blocks → (k : ℕ) (tops lows : List ℕ) → k ≡ length blocks →
    SweptFor band state blocks k tops lows → LeavesLowest band state lows
unfolding SweptFor
swept_all band state blocks are ordered k tops lows end inv setup of_band banded legal rest =
    let ok = subst (λ (c : Band). is_band c ≡ true) (sym of_band) banded in
    let swept = IsSwept-target setup state rest legal in
    let p = target setup state rest legal in
    let leaves = finish setup state rest legal ok p swept blocks are ordered tops lows
    (subst (λ (n : ℕ). SweptTo state p blocks n tops lows) end (inv setup of_band banded legal rest p swept)) in (
      leaves.0,
      subst (λ (c : Band). IsTrue (list_all (λ d. is_some (rest_of c (channels_of state (centres state lows)) d))
          (channels_of state (centres state lows)))) of_band leaves.1,
    )
