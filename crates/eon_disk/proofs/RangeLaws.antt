-- Places in ranges that were written.
use Rattle.std.proofs.Common.{◌≡◌, refl, sym, ◌∙◌, ap, subst, ℕ, ◌+◌, ◌-◌, ◌≤◌, ◌<◌, inl, inr, Bool, true, false, ◌&&◌, ◌||◌, List, [], ◌∷◌, ◌++◌, map, length, set, slice_index, arith}
use Rattle.std.specs.Prelude.{nat_le, nat_lt, ◌⊎◌, if◌then◌else◌}
use Rattle.std.proofs.lemmas.List.{length-set, get_or-set_other}
use Rattle.std.proofs.lemmas.Grind.{get_or-set_at}
use Rattle.std.proofs.lemmas.Bool.{cases_lt, cases_eq, cases_Bool, leb-true, ltb-true}
use Rattle.eon_model.specs.Disk.{put}
use Rattle.eon_model.specs.DiskImages.{Unsynced, IsImage, Outside, after_write}
use Rattle.eon_model.proofs.DiskLaws.{writes-told}
use Rattle.eon_disk.specs.HeldBytes.{is_in, HasByteIn}
use Rattle.eon_disk.specs.Track.{Track, next_track}

has : ℕ → ℕ × ℕ → Bool
has i range = nat_le range.0 i && nat_lt (i - range.0) range.1

swap : (a b c : Bool) → (a || (b || c)) ≡ (b || (a || c))
swap true true c = refl
swap true false c = refl
swap false true c = refl
swap false false c = refl

-- a range more at the end is one more at the front
in-pushed : {A : Type 0} (f : A → ℕ × ℕ) (rs : List A) (r : A) (i : ℕ) →
    is_in (map f (rs ++ r ∷ [])) i ≡ is_in (f r ∷ map f rs) i
unfolding has
in-pushed f [] r i = refl
in-pushed f (first ∷ rs) r i =
    ap (λ (b : Bool). has i (f first) || b) (in-pushed f rs r i) ∙ swap (has i (f first)) (has i (f r)) (is_in (map f rs) i)

-- the ranges that are kept are those that are pending, after a write too
pub ranges-pushed : {A : Type 0} (f : A → ℕ × ℕ) (rs after : List A) (r : A) (track new : Track) →
    ((i : ℕ) → is_in track.pending.written i ≡ is_in (map f rs) i) → after ≡ rs ++ r ∷ [] →
    new ≡ next_track (after_write (f r).0 (f r).1 track.pending) track →
    (i : ℕ) → is_in new.pending.written i ≡ is_in (map f after) i
unfolding has
ranges-pushed {A = A} f rs after r track new same pushed goes i =
    ap (λ (t : Track). is_in t.pending.written i) goes
    ∙ ap (λ (b : Bool). has i (f r) || b) (same i)
    ∙ sym (in-pushed f rs r i)
    ∙ ap (λ (xs : List A). is_in (map f xs) i) (sym pushed)

-- and the bytes as read are an image then
pub image-written : (track new : Track) (bytes after piece : List ℕ) (at : ℕ) → IsImage track.pending bytes →
    at ≤ length bytes → new ≡ next_track (after_write at (length piece) track.pending) track →
    after ≡ put at piece bytes → IsImage new.pending after
image-written track new bytes after piece at image here goes is =
    subst (λ (t : Track). IsImage t.pending after) (sym goes)
    (subst (IsImage (after_write at (length piece) track.pending)) (sym is)
    (writes-told track.pending bytes piece at image here).reads)

-- ---- what is filled is an image

outside-not_in : (ranges : List (ℕ × ℕ)) (i : ℕ) → Outside ranges i → is_in ranges i ≡ false
outside-not_in [] i o = refl
outside-not_in (range ∷ ranges) i o =
    by (cases_Bool (nat_le range.0 i)) (cases_Bool (nat_lt (i - range.0) range.1)) (outside-not_in ranges i o.1)
  where
    by : (nat_le range.0 i ≡ true) ⊎ (nat_le range.0 i ≡ false) →
        (nat_lt (i - range.0) range.1 ≡ true) ⊎ (nat_lt (i - range.0) range.1 ≡ false) → is_in ranges i ≡ false →
        is_in (range ∷ ranges) i ≡ false
    by (inr below) b rest = (λ j. (below j && nat_lt (i - range.0) range.1) || is_in ranges i) ∙ rest
    by (inl above) (inr past) rest = (λ j. (above j && past j) || is_in ranges i) ∙ rest
    by (inl above) (inl inside) rest =
        let low = leb-true range.0 i above in
        let high = ltb-true (i - range.0) range.1 inside in
        absurd (elim o.0 [ inl under ↦ (let u = under in omega arith) | inr over ↦ (let v = over in omega arith) ])

pub filled-image : (byte : ℕ) (pending : Unsynced) (bytes filled : List ℕ) → IsImage pending bytes →
    HasByteIn byte pending.written bytes filled → IsImage pending filled
filled-image byte pending bytes filled image h = record {
  no_shorter = let s = h.same_length in let l = image.no_shorter in omega arith;
  no_longer = let s = h.same_length in let l = image.no_longer in omega arith;
  same = λ i here there outside.
      let s = h.same_length in
      let inside : i < length bytes = omega arith in
      h.places i inside
      ∙ ap (λ (b : Bool). if b then byte else slice_index bytes i) (outside-not_in pending.written i outside)
      ∙ image.same i inside there outside;
}

-- the places are told by any ranges that have the same
pub filled-same : (byte : ℕ) (some others : List (ℕ × ℕ)) (bytes filled : List ℕ) →
    ((i : ℕ) → is_in some i ≡ is_in others i) → HasByteIn byte others bytes filled → HasByteIn byte some bytes filled
filled-same byte some others bytes filled same h = record {
  same_length = h.same_length;
  places = λ i l. h.places i l ∙ ap (λ (b : Bool). if b then byte else slice_index bytes i) (sym (same i));
}

-- ---- place by place

-- the places below n are filled
pub record FilledTo (byte : ℕ) (ranges : List (ℕ × ℕ)) (bytes image : List ℕ) (n : ℕ) : Type 0 where
  pub same_length : length image ≡ length bytes
  pub below : (i : ℕ) → i < n → i < length bytes
      → slice_index image i ≡ (if is_in ranges i then byte else slice_index bytes i)
  pub above : (i : ℕ) → n ≤ i → slice_index image i ≡ slice_index bytes i

pub none-filled : (byte : ℕ) (ranges : List (ℕ × ℕ)) (bytes : List ℕ) → FilledTo byte ranges bytes bytes 0
none-filled byte ranges bytes =
    record { same_length = refl; below = λ i l k. absurd (omega arith); above = λ i l. refl }

pub one-filled : (byte : ℕ) (ranges : List (ℕ × ℕ)) (bytes image : List ℕ) (n value : ℕ) →
    FilledTo byte ranges bytes image n → n < length image →
    value ≡ (if is_in ranges n then byte else slice_index image n) →
    FilledTo byte ranges bytes (set image n value) (n + 1)
one-filled byte ranges bytes image n value f l is = record {
  same_length = length-set image n value ∙ f.same_length;
  below = λ i k here. elim (cases_eq i n) [
    | inl same ↦ get_or-set_at image n i value 0 same l ∙ is
        ∙ subst (λ (k : ℕ). (if is_in ranges n then byte else slice_index image n)
        ≡ (if is_in ranges k then byte else slice_index bytes k)) (sym same)
        (ap (λ (v : ℕ). if is_in ranges n then byte else v) (f.above n (omega arith)))
    | inr other ↦ get_or-set_other image n i value 0 other ∙ f.below i (under i n k other) here
  ];
  above = λ i k. get_or-set_other image n i value 0 (λ same. omega arith) ∙ f.above i (omega arith);
}
  where
    under : (i n : ℕ) → i < n + 1 → (i ≡ n → ⊥) → i < n
    under i n k other = elim (cases_lt i n) [ inl below ↦ below | inr above ↦ absurd (other (omega arith)) ]

pub all-filled : (byte : ℕ) (ranges : List (ℕ × ℕ)) (bytes image : List ℕ) (n : ℕ) → length bytes ≤ n →
    FilledTo byte ranges bytes image n → HasByteIn byte ranges bytes image
all-filled byte ranges bytes image n l f =
    record { same_length = f.same_length; places = λ i here. f.below i (omega arith) here }
