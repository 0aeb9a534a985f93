-- A line without a cause, as facts; lines without causes have no fault.
use Rattle.std.proofs.Common.{◌≡◌, refl, sym, ◌∙◌, ap, subst, ℕ, ◌+◌, true, false, cond, ◌&&◌, not, List, [], ◌∷◌, ◌++◌, map, Option, Some, None, append_assoc}
use Rattle.std.specs.Prelude.{⊤}
use Rattle.std.specs.Option.{option_map, option_map_or, option_or}
use Rattle.std.proofs.lemmas.List.{append-nil}
use Rattle.std.proofs.lemmas.Bool.{false≢true}
use Rattle.std.specs.List.{flat_map}
use Rattle.eon_model.specs.Spelling.{spaced, line}
use Rattle.eon_model.proofs.SplitLaws.{lacks-join}
use Rattle.eon_model.specs.NetworkFault.{Word, Net, Band, Guard, K, Services, Journal, Format, Node, Fibre, Group, End, Rest, Short, NoWord, Form, Range, Many, Order, Twice, Unknown, SelfEnd, Groups, Fields, word_spelled, field_at, may_follow, may_stand_after, has_its_parts, last_word, is_end, has_ended, has_form, has_ranges, is_many, is_out_of_order, is_twice, has_unknown, ends_where_it_starts, is_in_a_ninth, first_why, cause_with, cause_of, whole_lines, first_fault}
use Rattle.eon_model.proofs.OrderLaws.{AllOf}
use Rattle.eon_model.proofs.CleanLines.{CleanLine}
use Rattle.eon_model.proofs.NetworkUniqueLaws.{all_endless, append_cons, line_words}
use Rattle.eon_model.proofs.WholeLines.{line_first, lines-first, fields-split}

-- the line passes each test after these lines
pub record Passes (earlier : List Fields) (w : Word) (fields : Fields) : Type 0 where
  pub word : word_spelled (field_at fields 0) ≡ Some w
  pub stands : may_stand_after (last_word earlier) w ≡ true
  pub parts : has_its_parts earlier w ≡ true
  pub form : has_form w fields ≡ true
  pub ranges : has_ranges earlier w fields ≡ true
  pub few : is_many earlier w fields ≡ false
  pub ordered : is_out_of_order earlier w fields ≡ false
  pub once : is_twice earlier w fields ≡ false
  pub known : has_unknown earlier w fields ≡ false
  pub apart : ends_where_it_starts w fields ≡ false
  pub eighth : is_in_a_ninth earlier w fields ≡ false

-- a line that passes has no cause
pub no-cause : (earlier : List Fields) (w : Word) (fields : Fields) → Passes earlier w fields →
    cause_of earlier fields ≡ None
no-cause earlier w fields p =
    ap (λ o. cause_with earlier o fields) p.word
    ∙ (λ i. first_why ((not (p.stands i && p.parts i), NoWord) ∷ (not (p.form i), Form) ∷ (not (p.ranges i), Range)
    ∷ (p.few i, Many) ∷ (p.ordered i, Order) ∷ (p.once i, Twice) ∷ (p.known i, Unknown)
    ∷ (p.apart i, SelfEnd) ∷ (p.eighth i, Groups) ∷ []))

-- what may be followed does not end a text
not_last : (last w : Word) → may_follow last w ≡ true → is_end last ≡ false
not_last Net w h = refl
not_last Band w h = refl
not_last Guard w h = refl
not_last K w h = refl
not_last Services w h = refl
not_last Journal w h = refl
not_last Format w h = refl
not_last Node w h = refl
not_last Fibre w h = refl
not_last Group w h = refl
not_last End w h = absurd (false≢true h)

open_by : (o : Option Word) (w : Word) → may_stand_after o w ≡ true → option_map_or is_end o false ≡ false
open_by None w h = refl
open_by (Some last) w h = not_last last w h

-- a text in which a line may follow has not ended
pub not-ended : (earlier : List Fields) (w : Word) (fields : Fields) → Passes earlier w fields →
    has_ended earlier ≡ false
not-ended earlier w fields p = open_by (last_word earlier) w p.stands

-- each line passes after those before it
abbrev pub AllPass : List Fields → List Fields → Type 0
AllPass earlier [] = ⊤
AllPass earlier (line ∷ lines) = ((w : Word) × Passes earlier w line) × AllPass (earlier ++ line ∷ []) lines

one_more : (earlier : List Fields) (line : Fields) (lines : List Fields) →
    earlier ++ line ∷ lines ≡ (earlier ++ line ∷ []) ++ lines
one_more earlier line lines = sym (append_assoc earlier (line ∷ []) lines)

-- lines that pass, and more that pass after them
pub AllPass-append : (earlier xs ys : List Fields) → AllPass earlier xs → AllPass (earlier ++ xs) ys →
    AllPass earlier (xs ++ ys)
AllPass-append earlier [] ys p q = subst (λ (e : List Fields). AllPass e ys) (append-nil earlier) q
AllPass-append earlier (x ∷ xs) ys p q = (
  p.0,
  AllPass-append (earlier ++ x ∷ []) xs ys p.1
      (subst (λ (e : List Fields). AllPass e ys) (one_more earlier x xs) q),
)

-- lines of words are found in their text
pub lines-found : (all : List Fields) → AllOf CleanLine all → whole_lines (flat_map line all) ≡ (map spaced all, [])
lines-found [] a = refl
lines-found (ws ∷ all) a =
    ap whole_lines (append_cons (spaced ws) (flat_map line all))
    ∙ lines-first (spaced ws) (flat_map line all) (lacks-join 10 32 ws refl (all_endless ws a.0.1))
    ∙ ap (line_first (spaced ws)) (lines-found all a.1)

-- lines that pass, of which the last ends the text, have no fault
pub no-fault : (earlier lines : List Fields) (number : ℕ) → AllPass earlier lines → AllOf CleanLine lines →
    has_ended (earlier ++ lines) ≡ true → first_fault earlier number (map spaced lines) [] ≡ None
no-fault earlier [] number p c e =
    let ended : has_ended earlier ≡ true = ap has_ended (sym (append-nil earlier)) ∙ e in
    λ i. option_map (λ why. (number, why)) (cond (ended i) None (Some Short))
no-fault earlier (line ∷ lines) number p c e =
    let read = fields-split (spaced line) ∙ line_words line c.0 in
    let on = not-ended earlier p.0.0 line p.0.1 in
    (λ i. option_or (option_map (λ why. (number, why)) (cond (on i) (Some Rest) (cause_of earlier (read i))))
    (first_fault (earlier ++ read i ∷ []) (number + 1) (map spaced lines) []))
    ∙ (λ i. option_or (option_map (λ why. (number, why)) (no-cause earlier p.0.0 line p.0.1 i))
    (first_fault (earlier ++ line ∷ []) (number + 1) (map spaced lines) []))
    ∙ no-fault (earlier ++ line ∷ []) lines (number + 1) p.1 c.1 (ap has_ended (sym (one_more earlier line lines)) ∙ e)
