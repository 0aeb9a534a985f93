-- The lines of bytes that are told as lines and a rest.
use Rattle.std.proofs.Common.{◌≡◌, refl, sym, ◌∙◌, ap, ℕ, Bool, true, false, List, [], ◌∷◌, ◌++◌, append_assoc, not}
use Rattle.std.specs.Prelude.{IsTrue, ◌==◌, if◌then◌else◌}
use Rattle.std.specs.List.{list_all}
use Rattle.std.proofs.lemmas.Bool.{and_parts, and_from, not-true}
use Rattle.std.proofs.lemmas.Grind.{flat_map-append}
use Rattle.eon_model.specs.LineStream.{lines_of, byte_before}
use Rattle.line_session.specs.Lines.{whole_lines, before_some, has_no_end, ended, Splits}

else_of : {X : Type 0} (t : Bool) (x y : X) → t ≡ false → (if t then x else y) ≡ y
else_of true x y e = absurd (cc)
else_of false x y e = refl

-- a byte of a line is not its end
pub no_end_parts : (b : ℕ) (l : List ℕ) → IsTrue (has_no_end (b ∷ l)) → ((b == 10) ≡ false) × IsTrue (has_no_end l)
no_end_parts b l h =
    let parts = and_parts (not (b == 10)) (has_no_end l) h in
    (not-true (b == 10) parts.0, parts.1)

pub no_end-append : (a b : List ℕ) → IsTrue (has_no_end a) → IsTrue (has_no_end b) →
    IsTrue (has_no_end (a ++ b))
no_end-append [] b h k = k
no_end-append (x ∷ a) b h k =
    let parts = and_parts (not (x == 10)) (has_no_end a) h in
    and_from _ _ parts.0 (no_end-append a b parts.1 k)

-- ---- the lines

lines_of-line : (l rest : List ℕ) → IsTrue (has_no_end l) → lines_of (l ++ 10 ∷ rest) ≡ l ∷ lines_of rest
lines_of-line [] rest h = refl
lines_of-line (b ∷ l) rest h =
    let parts = no_end_parts b l h in
    else_of (b == 10) _ _ parts.0 ∙ ap (byte_before b) (lines_of-line l rest parts.1)

-- the end of a line, and what follows
pub next_line : (l es rest : List ℕ) → ((l ++ 10 ∷ []) ++ es) ++ rest ≡ l ++ 10 ∷ (es ++ rest)
next_line l es rest =
    ap (λ (v : List ℕ). v ++ rest) (append_assoc l (10 ∷ []) es) ∙ append_assoc l (10 ∷ es) rest

pub lines_of-ended : (lines : List (List ℕ)) (rest : List ℕ) → IsTrue (list_all has_no_end lines) →
    lines_of (ended lines ++ rest) ≡ lines ++ lines_of rest
lines_of-ended [] rest h = refl
lines_of-ended (l ∷ lines) rest h =
    let each = and_parts (has_no_end l) (list_all has_no_end lines) h in
    ap lines_of (next_line l (ended lines) rest) ∙ lines_of-line l (ended lines ++ rest) each.0
    ∙ ap (λ (v : List (List ℕ)). l ∷ v) (lines_of-ended lines rest each.1)

-- bytes without an end are one line, where there are any, as if an end followed them
pub lines_of-last : (b : ℕ) (rest : List ℕ) → IsTrue (has_no_end (b ∷ rest)) → lines_of (b ∷ rest) ≡ (b ∷ rest) ∷ []
lines_of-last b [] h = else_of (b == 10) _ _ (no_end_parts b [] h).0
lines_of-last b (c ∷ rest) h =
    let parts = no_end_parts b (c ∷ rest) h in
    else_of (b == 10) _ _ parts.0 ∙ ap (byte_before b) (lines_of-last c rest parts.1)

-- ---- the lines that ended

before_some-line : (b : ℕ) (l rest : List ℕ) → before_some b (l ++ 10 ∷ rest) ≡ b ∷ (l ++ 10 ∷ rest)
before_some-line b [] rest = refl
before_some-line b (c ∷ l) rest = refl

whole_lines-line : (l rest : List ℕ) → IsTrue (has_no_end l) →
    whole_lines (l ++ 10 ∷ rest) ≡ l ++ 10 ∷ whole_lines rest
whole_lines-line [] rest h = refl
whole_lines-line (b ∷ l) rest h =
    let parts = no_end_parts b l h in
    else_of (b == 10) _ _ parts.0 ∙ ap (before_some b) (whole_lines-line l rest parts.1)
    ∙ before_some-line b l (whole_lines rest)

whole_lines-none : (rest : List ℕ) → IsTrue (has_no_end rest) → whole_lines rest ≡ []
whole_lines-none [] h = refl
whole_lines-none (b ∷ rest) h =
    let parts = no_end_parts b rest h in
    else_of (b == 10) _ _ parts.0 ∙ ap (before_some b) (whole_lines-none rest parts.1)

pub whole_lines-ended : (lines : List (List ℕ)) (rest : List ℕ) → IsTrue (list_all has_no_end lines) →
    IsTrue (has_no_end rest) → whole_lines (ended lines ++ rest) ≡ ended lines
whole_lines-ended [] rest h k = whole_lines-none rest k
whole_lines-ended (l ∷ lines) rest h k =
    let each = and_parts (has_no_end l) (list_all has_no_end lines) h in
    ap whole_lines (next_line l (ended lines) rest) ∙ whole_lines-line l (ended lines ++ rest) each.0
    ∙ ap (λ (v : List ℕ). l ++ 10 ∷ v) (whole_lines-ended lines rest each.1 k)
    ∙ sym (append_assoc l (10 ∷ []) (ended lines))

pub no_text_more : (w : List ℕ) → w ++ [] ≡ w
no_text_more [] = refl
no_text_more (b ∷ w) = ap (λ (v : List ℕ). b ∷ v) (no_text_more w)

pub no_lines_more : (w : List (List ℕ)) → w ++ [] ≡ w
no_lines_more [] = refl
no_lines_more (b ∷ w) = ap (λ (v : List (List ℕ)). b ∷ v) (no_lines_more w)

-- the lines of the bytes up to the last end
pub lines_of-whole : (lines : List (List ℕ)) → IsTrue (list_all has_no_end lines) →
    lines_of (ended lines) ≡ lines
lines_of-whole lines h =
    ap lines_of (sym (no_text_more (ended lines))) ∙ lines_of-ended lines [] h ∙ no_lines_more lines

-- ---- more bytes

all_append : (xs ys : List (List ℕ)) → IsTrue (list_all has_no_end xs) → IsTrue (list_all has_no_end ys) →
    IsTrue (list_all has_no_end (xs ++ ys))
all_append [] ys h k = k
all_append (x ∷ xs) ys h k =
    let parts = and_parts (has_no_end x) (list_all has_no_end xs) h in
    and_from _ _ parts.0 (all_append xs ys parts.1 k)

-- nothing is split
pub splits_none : Splits [] [] []
splits_none = record { whole = refl; each = refl }

-- the rest goes on, and ends
pub splits_end : (bytes rest l more : List ℕ) (lines : List (List ℕ)) → Splits bytes lines rest →
    IsTrue (has_no_end rest) → IsTrue (has_no_end l) →
    Splits (bytes ++ (l ++ 10 ∷ more)) (lines ++ (rest ++ l) ∷ []) more
splits_end bytes rest l more lines h a b = record {
  whole = ap (λ (v : List ℕ). v ++ (l ++ 10 ∷ more)) h.whole ∙ append_assoc (ended lines) rest (l ++ 10 ∷ more)
      ∙ ap (λ (v : List ℕ). ended lines ++ v) (sym (append_assoc rest l (10 ∷ more)))
      ∙ ap (λ (v : List ℕ). ended lines ++ v) (sym (next_line (rest ++ l) [] more))
      ∙ sym (append_assoc (ended lines) (((rest ++ l) ++ 10 ∷ []) ++ []) more)
      ∙ ap (λ (v : List ℕ). v ++ more) (sym (flat_map-append (λ l. l ++ 10 ∷ []) lines ((rest ++ l) ∷ [])));
  each = all_append lines ((rest ++ l) ∷ []) h.each (and_from _ _ (no_end-append rest l a b) refl);
}

-- what follows is a part of the rest
pub splits_rest : (bytes rest more : List ℕ) (lines : List (List ℕ)) → Splits bytes lines rest →
    Splits (bytes ++ more) lines (rest ++ more)
splits_rest bytes rest more lines h = record {
  whole = ap (λ (v : List ℕ). v ++ more) h.whole ∙ append_assoc (ended lines) rest more;
  each = h.each;
}

-- the lines of split bytes, and of what follows
pub lines_of-split : (bytes rest more : List ℕ) (lines : List (List ℕ)) → Splits bytes lines rest →
    lines_of (bytes ++ more) ≡ lines ++ lines_of (rest ++ more)
lines_of-split bytes rest more lines h =
    ap (λ (v : List ℕ). lines_of (v ++ more)) h.whole
    ∙ ap lines_of (append_assoc (ended lines) rest more) ∙ lines_of-ended lines (rest ++ more) h.each

pub whole_lines-split : (bytes rest : List ℕ) (lines : List (List ℕ)) → Splits bytes lines rest →
    IsTrue (has_no_end rest) → lines_of (whole_lines bytes) ≡ lines
whole_lines-split bytes rest lines h k =
    ap (λ (v : List ℕ). lines_of (whole_lines v)) h.whole
    ∙ ap lines_of (whole_lines-ended lines rest h.each k) ∙ lines_of-whole lines h.each
