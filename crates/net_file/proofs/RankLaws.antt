-- How far a text has come where a word may stand.
use Rattle.std.proofs.Common.{◌≡◌, refl, ℕ, ◌≤◌, nat_le, Bool, true, false, ◌&&◌, ◌||◌, not, [], Option, Some, None, arith}
use Rattle.std.proofs.lemmas.Bool.{and_parts, leb-true}
use Rattle.eon_model.specs.Numerals.{is_within}
use Rattle.eon_model.specs.NetworkFault.{Word, Net, Band, Guard, K, Services, Journal, Node, End, may_stand_after, is_end}
use Rattle.eon_model.specs.NetworkFault as model
use Rattle.net_file.specs.Steps.{Sheet, has_end, has_its_parts, may_come}
use Rattle.net_file.specs.Drafts.{rank, Sound}

-- the least and the most that a word stands behind
abbrev pub least_rank : Word → ℕ
least_rank Net = 0
least_rank Band = 1
least_rank Guard = 2
least_rank K = 3
least_rank Services = 4
least_rank Journal = 5
least_rank model.Format = 6
least_rank Node = 7
least_rank model.Fibre = 8
least_rank model.Group = 9
least_rank End = 8

abbrev pub most_rank : Word → ℕ
most_rank Net = 0
most_rank Band = 2
most_rank Guard = 2
most_rank K = 3
most_rank Services = 4
most_rank Journal = 5
most_rank model.Format = 7
most_rank Node = 8
most_rank model.Fibre = 9
most_rank model.Group = 10
most_rank End = 10

abbrev in_place : Option Word → Word → Bool
in_place last w = not (may_stand_after last w) || is_within (least_rank w) (most_rank w) (rank last)

abbrev first_half : Option Word → Bool
first_half last =
    in_place last Net && in_place last Band && in_place last Guard && in_place last K && in_place last Services
    && in_place last Journal

abbrev second_half : Option Word → Bool
second_half last =
    in_place last model.Format && in_place last Node && in_place last model.Fibre && in_place last model.Group
    && in_place last End

firsts : (last : Option Word) → first_half last ≡ true
firsts None = refl
firsts (Some Net) = refl
firsts (Some Band) = refl
firsts (Some Guard) = refl
firsts (Some K) = refl
firsts (Some Services) = refl
firsts (Some Journal) = refl
firsts (Some model.Format) = refl
firsts (Some Node) = refl
firsts (Some model.Fibre) = refl
firsts (Some model.Group) = refl
firsts (Some End) = refl

seconds : (last : Option Word) → second_half last ≡ true
seconds None = refl
seconds (Some Net) = refl
seconds (Some Band) = refl
seconds (Some Guard) = refl
seconds (Some K) = refl
seconds (Some Services) = refl
seconds (Some Journal) = refl
seconds (Some model.Format) = refl
seconds (Some Node) = refl
seconds (Some model.Fibre) = refl
seconds (Some model.Group) = refl
seconds (Some End) = refl

both : (a b : Bool) → (a && b) ≡ true → (a ≡ true) × (b ≡ true)
both a b h = and_parts a b h

placed : (last : Option Word) (w : Word) → in_place last w ≡ true
placed last Net = let h = firsts last in (both _ _ (both _ _ (both _ _ (both _ _ (both _ _ h).0).0).0).0).0
placed last Band = let h = firsts last in (both _ _ (both _ _ (both _ _ (both _ _ (both _ _ h).0).0).0).0).1
placed last Guard = let h = firsts last in (both _ _ (both _ _ (both _ _ (both _ _ h).0).0).0).1
placed last K = let h = firsts last in (both _ _ (both _ _ (both _ _ h).0).0).1
placed last Services = let h = firsts last in (both _ _ (both _ _ h).0).1
placed last Journal = let h = firsts last in (both _ _ h).1
placed last model.Format = let h = seconds last in (both _ _ (both _ _ (both _ _ (both _ _ h).0).0).0).0
placed last Node = let h = seconds last in (both _ _ (both _ _ (both _ _ (both _ _ h).0).0).0).1
placed last model.Fibre = let h = seconds last in (both _ _ (both _ _ (both _ _ h).0).0).1
placed last model.Group = let h = seconds last in (both _ _ (both _ _ h).0).1
placed last End = let h = seconds last in (both _ _ h).1

within_where : (may within : Bool) → (not may || within) ≡ true → may ≡ true → within ≡ true
within_where true within h e = h
within_where false within h e = cc

pub record IsFar (last : Option Word) (w : Word) : Type 0 where
  pub least : least_rank w ≤ rank last
  pub most : rank last ≤ most_rank w

-- where a word may stand, the text has come as far as that
pub may-far : (last : Option Word) (w : Word) → may_stand_after last w ≡ true → IsFar last w
may-far last w h =
    let p = both (nat_le (least_rank w) (rank last)) (nat_le (rank last) (most_rank w))
    (within_where (may_stand_after last w) (is_within (least_rank w) (most_rank w) (rank last)) (placed last w) h) in
    record { least = leb-true (least_rank w) (rank last) p.0; most = leb-true (rank last) (most_rank w) p.1 }

pub come-far : (s : Sheet) (w : Word) → may_come s w ≡ true → IsFar s.last w
come-far s w h = may-far s.last w (both (may_stand_after s.last w) (has_its_parts s.setup w) h).0

-- no group is told where a fibre may come
pub fibre-groups : (s : Sheet) → Sound s → may_come s model.Fibre ≡ true → s.setup.network.groups ≡ []
fibre-groups s sound may = let far = come-far s model.Fibre may in sound.no_groups (omega arith)

-- a text that has ended has come farthest
pub ended-far : (last : Option Word) → has_end last ≡ true → rank last ≡ 11
ended-far None h = cc
ended-far (Some Net) h = cc
ended-far (Some Band) h = cc
ended-far (Some Guard) h = cc
ended-far (Some K) h = cc
ended-far (Some Services) h = cc
ended-far (Some Journal) h = cc
ended-far (Some model.Format) h = cc
ended-far (Some Node) h = cc
ended-far (Some model.Fibre) h = cc
ended-far (Some model.Group) h = cc
ended-far (Some End) h = refl
