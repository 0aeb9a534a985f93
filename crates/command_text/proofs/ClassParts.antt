-- Classes as parts of a line.
use Rattle.std.proofs.Common.{◌≡◌, refl, sym, ◌∙◌, ap, subst, ℕ, Bool, true, false, List, [], ◌∷◌, ◌++◌, Ok, inl, inr}
use Rattle.std.specs.Prelude.{nat_eq, codes}
use Rattle.eon_model.specs.declared.Class.{Class}
use Rattle.eon_model.specs.declared.Class.TheVariants.{Bare, Shared, Dual}
use Rattle.eon_model.specs.Listings.{class_word}
use Rattle.command_text.specs.Reading.{Read, ◌>>=◌, after}
use Rattle.command_text.specs.Parts.{class_at}
use Rattle.command_text.proofs.PartLaws.{Open, IsPart, part-by, done-part}
use Rattle.command_text.proofs.WordLaws.{After, after-part}
use Rattle.command_text.proofs.ChoiceLaws.{Heads, Either, choice_read, choice-part, part-read}
use Rattle.command_text.proofs.NameParts.{OneText}

abbrev pub SharedText : Class → List ℕ → Type 0
SharedText = After (codes "shared") (λ c t. (c ≡ Shared) × (t ≡ []))

abbrev pub DualText : Class → List ℕ → Type 0
DualText = After (codes "dual") (λ c t. (c ≡ Dual) × (t ≡ []))

abbrev pub BareText : Class → List ℕ → Type 0
BareText = After (codes "bare") (λ c t. (c ≡ Bare) × (t ≡ []))

is_s : ℕ → Bool
is_s b = nat_eq b 115

is_d : ℕ → Bool
is_d b = nat_eq b 100

shared_read : List ℕ → Read Class
shared_read bytes = after (codes "shared") bytes >>= λ rest. Ok (Shared, rest)

dual_read : List ℕ → Read Class
dual_read bytes = after (codes "dual") bytes >>= λ rest. Ok (Dual, rest)

bare_read : List ℕ → Read Class
bare_read bytes = after (codes "bare") bytes >>= λ rest. Ok (Bare, rest)

shared_part : IsPart Open SharedText shared_read
unfolding shared_read
shared_part = after-part (codes "shared") (done-part Open Shared)

dual_part : IsPart Open DualText dual_read
unfolding dual_read
dual_part = after-part (codes "dual") (done-part Open Dual)

bare_part : IsPart Open BareText bare_read
unfolding bare_read
bare_part = after-part (codes "bare") (done-part Open Bare)

shared_heads : (c : Class) (t : List ℕ) → SharedText c t → Heads is_s true t
unfolding is_s
shared_heads c t h = subst (Heads is_s true) (sym h.is) refl

dual_heads : (c : Class) (t : List ℕ) → DualText c t → Heads is_d true t
unfolding is_d
dual_heads c t h = subst (Heads is_d true) (sym h.is) refl

bare_heads : (c : Class) (t : List ℕ) → BareText c t → Heads is_d false t
unfolding is_d
bare_heads c t h = subst (Heads is_d false) (sym h.is) refl

other_heads : (c : Class) (t : List ℕ) → Either DualText BareText c t → Heads is_s false t
unfolding is_s
other_heads c t (inl h) = subst (Heads is_s false) (sym h.is) refl
other_heads c t (inr h) = subst (Heads is_s false) (sym h.is) refl

abbrev other_read : List ℕ → Read Class
other_read = choice_read is_d dual_read bare_read

class_same : (bytes : List ℕ) → choice_read is_s shared_read other_read bytes ≡ class_at bytes
unfolding class_at is_s is_d shared_read dual_read bare_read
class_same [] = refl
class_same (b ∷ bytes) = refl

abbrev pub any_class : Class → Bool
any_class c = true

class_to : (c : Class) (t : List ℕ) → Either SharedText (Either DualText BareText) c t → OneText any_class class_word c t
class_to c t (inl h) = (refl, h.is ∙ ap (λ v. codes "shared" ++ v) h.back_is.1 ∙ ap class_word (sym h.back_is.0))
class_to c t (inr (inl h)) = (refl, h.is ∙ ap (λ v. codes "dual" ++ v) h.back_is.1 ∙ ap class_word (sym h.back_is.0))
class_to c t (inr (inr h)) = (refl, h.is ∙ ap (λ v. codes "bare" ++ v) h.back_is.1 ∙ ap class_word (sym h.back_is.0))

class_from : (c : Class) (t : List ℕ) → OneText any_class class_word c t → Either SharedText (Either DualText BareText) c t
class_from Shared t h = inl (record { back = []; back_is = (refl, refl); is = h.1 })
class_from Dual t h = inr (inl (record { back = []; back_is = (refl, refl); is = h.1 }))
class_from Bare t h = inr (inr (record { back = []; back_is = (refl, refl); is = h.1 }))

pub class-part : IsPart Open (OneText any_class class_word) class_at
class-part = part-by (part-read (choice_read is_s shared_read other_read) class_at class_same
    (choice-part is_s shared_part (choice-part is_d dual_part bare_part dual_heads bare_heads) shared_heads other_heads))
    class_to class_from
