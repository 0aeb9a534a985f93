-- What is asked of a disk that tells nothing.
use Rattle.std.proofs.Common.{refl, inl, ℕ, List, Result, Ok, Err, OnErr, arith}
use Rattle.std.specs.Prelude.{⊤, OnOk}
use Rattle.eon_model.specs.Disk.{Torn, Cut, Follows, Unchanged, Elapses}
use Rattle.eon_disk.proofs.HeldLaws.{take-all}

abbrev pub Anything : List ℕ → Type 0
Anything c = ⊤

pub untold_unchanged : Unchanged Anything Anything
untold_unchanged = record { none_new = λ c h. tt; none_lost = λ c h. tt }

pub untold_time : Elapses 0 0 (λ t. Anything) (λ t. Anything) Anything
untold_time = record { later = omega arith; nothing_else = λ t c l h. inl tt; keeps = λ t c l h. tt }

pub untold_write : (at n : ℕ) → Follows (Torn at n) Anything Anything
untold_write at n c h =
    (c, tt, record { before = refl; after = refl; no_shorter = omega arith; no_longer = omega arith })

pub untold_cut : (len : ℕ) → Follows (Cut len) Anything Anything
untold_cut len c h = (c, tt, record { no_shorter = omega arith; front = take-all c })

pub at_ok : {T E : Type 0} (r : Result T E) (P : Type 0) → P → OnOk r P
at_ok (Ok x) P h = h
at_ok (Err x) P h = tt

pub at_err : {T E : Type 0} (r : Result T E) (P : Type 0) → P → OnErr r P
at_err (Ok x) P h = tt
at_err (Err x) P h = h
