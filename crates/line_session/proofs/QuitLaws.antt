-- Whether a `quit` line ends in some bytes.
use Rattle.std.proofs.Common.{◌≡◌, refl, sym, ◌∙◌, ap, ℕ, ◌≤◌, ◌<◌, Bool, true, false, List, [], ◌∷◌, ◌++◌, append_assoc, length, take, arith}
use Rattle.std.specs.Prelude.{IsTrue, nat_lt, nat_le, codes, ◌&&◌, ◌||◌, not, if◌then◌else◌, ◌==◌}
use Rattle.std.specs.List.{list_all, list_any}
use Rattle.std.proofs.lemmas.Bool.{and_parts, and_from, not-true, ltb-true, lt-ltb, false_from_ne_true, leb-true, le-leb, both_ways}
use Rattle.std.proofs.lemmas.Slice.Eq.{bytes_eq-Decides}
use Rattle.std.proofs.lemmas.List.{take_all, length-take-le}
use Rattle.eon_model.specs.LineStream.{is_quit}
use Rattle.eon_model.specs.NetworkFault as network
use Rattle.eon_model.specs.Modes.{stream_limit, is_long_stream}
use Rattle.line_session.specs.Lines.{has_no_end, quits_within, most_kept, ended, Splits}
use Rattle.line_session.proofs.LineLaws.{next_line, no_end_parts, no_text_more, no_lines_more}

-- ---- one line

quit_size : (line : List ℕ) → is_quit line ≡ true → length line ≡ 4
quit_size line e = ap length ((bytes_eq-Decides line (codes "quit")).0 e)

long_no_quit : (line : List ℕ) → 4 < length line → is_quit line ≡ false
long_no_quit line long = false_from_ne_true (is_quit line) (λ e. let k = quit_size line e in absurd (omega arith))

-- a line of more bytes than a command has is not `quit`, and so is a front of it
pub is_quit-front : (line : List ℕ) → is_quit (take most_kept line) ≡ is_quit line
is_quit-front line =
    elim (nat_le (length line) most_kept) as (λ (b : Bool). nat_le (length line) most_kept ≡ b → is_quit (take most_kept line) ≡ is_quit line) [
      | true ↦ λ e. ap is_quit (take_all most_kept line (leb-true _ _ e))
      | false ↦ λ e. long (λ short. both_ways _ e (le-leb _ _ short))
    ] refl
  where
    long : (length line ≤ most_kept → ⊥) → is_quit (take most_kept line) ≡ is_quit line
    long more =
        let k = length-take-le most_kept line (omega arith) in
        long_no_quit (take most_kept line) (omega arith) ∙ sym (long_no_quit line (omega arith))

-- ---- the lines that end

-- what becomes of the lines and the rest behind a byte
behind_byte : ℕ → List (List ℕ) × List ℕ → List (List ℕ) × List ℕ
behind_byte b p = if b == 10 then ([] ∷ p.0, p.1) else network.with_byte b p.0 p.1

else_pair : (b : ℕ) (p : List (List ℕ) × List ℕ) → (b == 10) ≡ false →
    behind_byte b p ≡ network.with_byte b p.0 p.1
unfolding behind_byte
else_pair b p e = ap (λ (t : Bool). if t then ([] ∷ p.0, p.1) else network.with_byte b p.0 p.1) e

whole_byte : (b : ℕ) (bytes : List ℕ) → network.whole_lines (b ∷ bytes) ≡ behind_byte b (network.whole_lines bytes)
unfolding behind_byte
whole_byte b bytes = refl

whole_line : (l rest : List ℕ) → IsTrue (has_no_end l) →
    network.whole_lines (l ++ 10 ∷ rest) ≡ (l ∷ (network.whole_lines rest).0, (network.whole_lines rest).1)
whole_line [] rest h = refl
whole_line (b ∷ l) rest h =
    let parts = no_end_parts b l h in
    whole_byte b (l ++ 10 ∷ rest) ∙ ap (behind_byte b) (whole_line l rest parts.1)
    ∙ else_pair b (l ∷ (network.whole_lines rest).0, (network.whole_lines rest).1) parts.0

whole_ended : (lines : List (List ℕ)) (rest : List ℕ) → IsTrue (list_all has_no_end lines) →
    (network.whole_lines (ended lines ++ rest)).0 ≡ lines ++ (network.whole_lines rest).0
whole_ended [] rest h = refl
whole_ended (l ∷ lines) rest h =
    let each = and_parts (has_no_end l) (list_all has_no_end lines) h in
    ap (λ (v : List ℕ). (network.whole_lines v).0) (next_line l (ended lines) rest)
    ∙ ap (λ p. p.0) (whole_line l (ended lines ++ rest) each.0)
    ∙ ap (λ (v : List (List ℕ)). l ∷ v) (whole_ended lines rest each.1)

no_whole : (rest : List ℕ) → IsTrue (has_no_end rest) → (network.whole_lines rest).0 ≡ []
no_whole rest h = ap (λ p. p.0) (whole_none rest h)
  where
    whole_none : (rest : List ℕ) → IsTrue (has_no_end rest) → network.whole_lines rest ≡ ([], rest)
    whole_none [] h = refl
    whole_none (b ∷ rest) h =
        let parts = no_end_parts b rest h in
        whole_byte b rest ∙ ap (behind_byte b) (whole_none rest parts.1) ∙ else_pair b ([], rest) parts.0

-- the lines of split bytes, and those that end in what follows
pub whole_split : (bytes rest more : List ℕ) (lines : List (List ℕ)) → Splits bytes lines rest →
    (network.whole_lines (bytes ++ more)).0 ≡ lines ++ (network.whole_lines (rest ++ more)).0
whole_split bytes rest more lines h =
    ap (λ (v : List ℕ). (network.whole_lines (v ++ more)).0) h.whole
    ∙ ap (λ (v : List ℕ). (network.whole_lines v).0) (append_assoc (ended lines) rest more)
    ∙ whole_ended lines (rest ++ more) h.each

-- ---- whether one of them is `quit`

any_more : (xs ys : List (List ℕ)) → list_any is_quit xs ≡ true → list_any is_quit (xs ++ ys) ≡ true
any_more [] ys e = cc
any_more (x ∷ xs) ys e = by_first (is_quit x) (list_any is_quit xs) (list_any is_quit (xs ++ ys)) (any_more xs ys) e
  where
    by_first : (a b c : Bool) → (b ≡ true → c ≡ true) → (a || b) ≡ true → (a || c) ≡ true
    by_first true b c f e = refl
    by_first false b c f e = f e

pub any_last : (xs : List (List ℕ)) (line : List ℕ) → is_quit line ≡ true → list_any is_quit (xs ++ line ∷ []) ≡ true
any_last [] line e = ap (λ (b : Bool). b || false) e
any_last (x ∷ xs) line e = ap (λ (b : Bool). is_quit x || b) (any_last xs line e) ∙ or_true (is_quit x)
  where
    or_true : (b : Bool) → (b || true) ≡ true
    or_true true = refl
    or_true false = refl

-- a `quit` line among the lines that ended, whatever follows
pub quits_among : (bytes rest more : List ℕ) (lines : List (List ℕ)) → Splits bytes lines rest →
    list_any is_quit lines ≡ true → quits_within (bytes ++ more) ≡ true
quits_among bytes rest more lines splits quits =
    ap (list_any is_quit) (whole_split bytes rest more lines splits)
    ∙ any_more lines (network.whole_lines (rest ++ more)).0 quits

none_any : (lines : List (List ℕ)) → list_all (λ line. not (is_quit line)) lines ≡ true → list_any is_quit lines ≡ false
none_any [] h = refl
none_any (line ∷ lines) h =
    let parts = and_parts (not (is_quit line)) (list_all (λ line. not (is_quit line)) lines) h in
    ap (λ (b : Bool). b || list_any is_quit lines) (not-true (is_quit line) parts.0) ∙ none_any lines parts.1

pub none_last : (lines : List (List ℕ)) (line : List ℕ) → list_all (λ line. not (is_quit line)) lines ≡ true →
    is_quit line ≡ false → list_all (λ line. not (is_quit line)) (lines ++ line ∷ []) ≡ true
none_last [] line h e = ap (λ (b : Bool). not b && true) e
none_last (x ∷ lines) line h e =
    let parts = and_parts (not (is_quit x)) (list_all (λ line. not (is_quit line)) lines) h in
    and_from _ _ parts.0 (none_last lines line parts.1 e)

-- none among lines of which none is `quit`
pub no_quit_within : (bytes rest : List ℕ) (lines : List (List ℕ)) → Splits bytes lines rest →
    IsTrue (has_no_end rest) → list_all (λ line. not (is_quit line)) lines ≡ true → quits_within bytes ≡ false
no_quit_within bytes rest lines splits unended none =
    ap quits_within (sym (no_text_more bytes))
    ∙ ap (list_any is_quit) (whole_split bytes rest [] lines splits
    ∙ ap (λ (v : List ℕ). lines ++ (network.whole_lines v).0) (no_text_more rest)
    ∙ ap (λ (v : List (List ℕ)). lines ++ v) (no_whole rest unended) ∙ no_lines_more lines)
    ∙ none_any lines none

-- ---- the length of a stream

not_above : (m n : ℕ) → n ≤ m → nat_lt m n ≡ false
not_above m n low = false_from_ne_true (nat_lt m n) (λ e. let k = ltb-true m n e in absurd (omega arith))

-- a stream within the limit
pub short_stream : (bytes : List ℕ) → length bytes ≤ stream_limit → is_long_stream bytes ≡ false
short_stream bytes short =
    ap (λ (b : Bool). b && not (list_any is_quit (network.whole_lines (take stream_limit bytes)).0))
    (not_above stream_limit (length bytes) short)

and_none : (b : Bool) → (b && false) ≡ false
and_none true = refl
and_none false = refl

-- a `quit` line ends within the limit
pub quit_stream : (bytes : List ℕ) → quits_within (take stream_limit bytes) ≡ true → is_long_stream bytes ≡ false
quit_stream bytes quits =
    ap (λ (b : Bool). nat_lt stream_limit (length bytes) && not b) quits ∙ and_none (nat_lt stream_limit (length bytes))

-- no `quit` line ends within the limit, and the stream goes on behind it
pub long_stream : (bytes : List ℕ) → stream_limit < length bytes →
    quits_within (take stream_limit bytes) ≡ false → is_long_stream bytes ≡ true
long_stream bytes long quits =
    ap (λ (b : Bool). nat_lt stream_limit (length bytes) && not b) quits
    ∙ ap (λ (b : Bool). b && true) (lt-ltb stream_limit (length bytes) long)
