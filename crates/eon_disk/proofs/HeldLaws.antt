-- What a crash may leave of a disk in memory, call by call.
use Rattle.std.proofs.Common.{◌≡◌, refl, sym, ap, subst, ◌⊎◌, inl, inr, ℕ, zero, suc, ◌≤◌, List, [], ◌∷◌, ◌++◌, length, take, drop, arith}
use Rattle.std.proofs.lemmas.List.{length-append}
use Rattle.eon_model.specs.Disk.{Torn, Cut, Follows, Unchanged, Only, Elapses}
use Rattle.eon_model.specs.DiskImages.{Unsynced, IsImage, HadBeen}
use Rattle.eon_model.proofs.DiskLaws.{writes-told}
use Rattle.eon_model.proofs.DiskCuts.{cuts-told, syncs-told}
use Rattle.eon_disk.specs.HeldBytes.{HeldBytes, MayLeave, MayHaveLeft, later, with_piece, cut_to, synced}

-- the bytes as read are an image by the model too
abbrev pub IsSound : HeldBytes → Type 0
IsSound held = IsImage held.pending held.bytes

image-of : (held : HeldBytes) (c : List ℕ) → IsSound held → MayLeave held c → IsImage held.pending c
image-of held c sound may = elim may [
  | inl same ↦ subst (IsImage held.pending) (sym same) sound
  | inr image ↦ image
]

-- ---- nothing happens

pub unchanged : (held : HeldBytes) → Unchanged (MayLeave held) (MayLeave held)
unchanged held = record { none_new = λ c h. h; none_lost = λ c h. h }

pub no_time : (held : HeldBytes) →
    Elapses (length held.past) (length held.past) (MayHaveLeft held) (MayHaveLeft held) (MayLeave held)
no_time held = record { later = omega arith; nothing_else = λ t c l h. inl h; keeps = λ t c l h. h }

pub not_torn : (held : HeldBytes) (at n : ℕ) → Follows (Torn at n) (MayLeave held) (MayLeave held)
not_torn held at n c h =
    (c, h, record { before = refl; after = refl; no_shorter = omega arith; no_longer = omega arith })

pub take-all : (c : List ℕ) → take (length c) c ≡ c
take-all [] = refl
take-all (x ∷ c) = ap (λ (v : List ℕ). x ∷ v) (take-all c)

pub not_cut : (held : HeldBytes) (len : ℕ) → Follows (Cut len) (MayLeave held) (MayLeave held)
not_cut held len c h = (c, h, record { no_shorter = omega arith; front = take-all c })

-- ---- the moments

drop-one : (t : ℕ) (past : List Unsynced) (now : Unsynced) → t ≤ length past →
    drop t (past ++ now ∷ []) ≡ drop t past ++ now ∷ []
drop-one zero past now l = refl
drop-one (suc t) [] now l = absurd (omega arith)
drop-one (suc t) (u ∷ past) now l = drop-one t past now (omega arith)

had_been : (past : List Unsynced) (now : Unsynced) (c : List ℕ) → HadBeen (past ++ now ∷ []) c →
    HadBeen past c ⊎ IsImage now c
had_been [] now c h = elim h [ inl here ↦ inr here | inr none ↦ absurd none ]
had_been (u ∷ past) now c h = elim h [
  | inl here ↦ inl (inl here)
  | inr more ↦ elim (had_been past now c more) [ inl before ↦ inl (inr before) | inr last ↦ inr last ]
]

is_before : (past : List Unsynced) (now : Unsynced) (c : List ℕ) → HadBeen past c → HadBeen (past ++ now ∷ []) c
is_before [] now c h = absurd h
is_before (u ∷ past) now c h = elim h [ inl here ↦ inl here | inr more ↦ inr (is_before past now c more) ]

is_last : (past : List Unsynced) (now : Unsynced) (c : List ℕ) → IsImage now c → HadBeen (past ++ now ∷ []) c
is_last [] now c h = inl h
is_last (u ∷ past) now c h = inr (is_last past now c h)

-- one moment more
pub time_goes : (held : HeldBytes) (bytes : List ℕ) (pending : Unsynced) → IsSound held →
    Elapses (length held.past) (length (later bytes pending held).past) (MayHaveLeft held)
    (MayHaveLeft (later bytes pending held)) (MayLeave (later bytes pending held))
time_goes held bytes pending sound = record {
  later = let long = length-append held.past (held.pending ∷ []) in omega arith;
  nothing_else = λ t c l h. elim h [
    | inl now ↦ inr now
    | inr before ↦ elim (had_been (drop t held.past) held.pending c
        (subst (λ (us : List Unsynced). HadBeen us c) (drop-one t held.past held.pending l) before)) [
          | inl earlier ↦ inl (inr earlier)
          | inr last ↦ inl (inl (inr last))
        ]
  ];
  keeps = λ t c l h. inr (subst (λ (us : List Unsynced). HadBeen us c) (sym (drop-one t held.past held.pending l))
      (elim h [
        | inl now ↦ is_last (drop t held.past) held.pending c (image-of held c sound now)
        | inr before ↦ is_before (drop t held.past) held.pending c before
      ]));
}

-- ---- a piece is written

module _ (held : HeldBytes) (at : ℕ) (piece : List ℕ) (sound : IsSound held) (here : at ≤ length held.bytes) where
  pub piece-sound : IsSound (with_piece at piece held)
  piece-sound = (writes-told held.pending held.bytes piece at sound here).reads

  pub piece-kept : (c : List ℕ) → MayLeave held c → MayLeave (with_piece at piece held) c
  piece-kept c h = inr ((writes-told held.pending held.bytes piece at sound here).grows c (image-of held c sound h))

  pub piece-torn : Follows (Torn at (length piece)) (MayLeave held) (MayLeave (with_piece at piece held))
  piece-torn c h =
      let told = writes-told held.pending held.bytes piece at sound here in
      let from = told.torn.follows c (image-of (with_piece at piece held) c piece-sound h) in
      (from.0, inr from.1, from.2)

-- ---- the bytes are cut

module _ (held : HeldBytes) (len : ℕ) (sound : IsSound held) (here : len ≤ length held.bytes) where
  pub cut-sound : IsSound (cut_to len held)
  cut-sound = (cuts-told held.pending held.bytes len sound here).reads

  pub cut-kept : (c : List ℕ) → MayLeave held c → MayLeave (cut_to len held) c
  cut-kept c h = inr ((cuts-told held.pending held.bytes len sound here).grows c (image-of held c sound h))

  pub cut-follows : Follows (Cut len) (MayLeave held) (MayLeave (cut_to len held))
  cut-follows c h =
      let told = cuts-told held.pending held.bytes len sound here in
      let from = told.cut.follows c (image-of (cut_to len held) c cut-sound h) in
      (from.0, inr from.1, from.2)

-- ---- the bytes are synced

module _ (held : HeldBytes) (sound : IsSound held) where
  pub synced-sound : IsSound (synced held)
  synced-sound = (syncs-told held.pending held.bytes sound).reads

  pub synced-only : Only held.bytes (MayLeave (synced held))
  synced-only c h = elim h [
    | inl same ↦ same
    | inr image ↦ (syncs-told held.pending held.bytes sound).one c image
  ]

  pub synced-none_new : (c : List ℕ) → MayLeave (synced held) c → MayLeave held c
  synced-none_new c h = inl (synced-only c h)
