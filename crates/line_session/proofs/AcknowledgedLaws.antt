-- Which answers are acknowledged, after one answer more.
use Rattle.std.proofs.Common.{◌≡◌, refl, sym, ◌∙◌, ap, subst, ℕ, ◌+◌, ◌≤◌, Bool, true, false, cond, List, [], ◌∷◌, ◌++◌, append_assoc, Option, None, Some, arith}
use Rattle.std.specs.Prelude.{IsTrue, count_by}
use Rattle.std.specs.Io.KnownBytes.{Appends}
use Rattle.std.proofs.lemmas.List.{append-nil}
use Rattle.std.proofs.lemmas.List.Sums.{sum_by-append}
use Rattle.eon_model.specs.LineStream.{IsPrefix, after_each, each_text}
use Rattle.eon_model.proofs.StreamRuns.{each_text-append}
use Rattle.line_session.specs.Answering.{Answering, Took}
use Rattle.line_session.specs.Runs.{IsAcknowledged, TookBehind}
use Rattle.line_session.specs.Session.{Grows, AreGiven}
use Rattle.line_session.proofs.HeldLaws.{grows_none}

-- what was taken is still there
took_on : (text more bytes o n : List ℕ) → (p : IsPrefix (bytes ++ text) o) → n ≡ o ++ more → IsPrefix (bytes ++ text) n
took_on text more bytes o n p is =
    (p.0 ++ more, sym (append_assoc (bytes ++ text) p.0 more) ∙ ap (λ (v : List ℕ). v ++ more) p.1 ∙ sym is)

pub took_behind_on : (before o n : Option (List ℕ)) (text : List ℕ) → Grows before o → Grows o n → TookBehind before o text →
    TookBehind before n text
took_behind_on None o n text g k p = tt
took_behind_on (Some b) None n text g k p = absurd g.1
took_behind_on (Some b) (Some o) None text g k p = absurd k.1
took_behind_on (Some b) (Some o) (Some n) text g k p = took_on text k.0 b o n p k.1

-- all that was given was taken
pub took_all : (before p n : Option (List ℕ)) (text : List ℕ) → Appends before p text → Took p n → TookBehind before n text
took_all None p n text given took = tt
took_all (Some b) None n text given took = absurd given
took_all (Some b) (Some p) None text given took = tt
took_all (Some b) (Some p) (Some n) text given took = subst (λ (v : List ℕ). IsPrefix v n) given took

-- nothing was asked for yet
pub took_none : (before : Option (List ℕ)) → TookBehind before before []
took_none None = tt
took_none (Some b) = ([], append-nil (b ++ []) ∙ append-nil b)

module _ {S A : Type 0} (by : Answering S A) (start : S) where
  count_one : (a : A) (b : Bool) → by.is_change a ≡ b → count_by by.is_change (a ∷ []) ≡ cond b 1 0
  count_one a b e = ap (λ (v : Bool). 0 + cond v 1 0) e ∙ omega arith

  one_at_most : (a : A) (b : Bool) → by.is_change a ≡ b → count_by by.is_change (a ∷ []) ≤ 1
  one_at_most a true e = let k = count_one a true e in omega arith
  one_at_most a false e = let k = count_one a false e in omega arith

  module _ (answers : List A) (before o n : Option (List ℕ)) (h : IsAcknowledged by start answers before o)
      (grown : Grows before o) (grows : Grows o n) where
    -- no answer came
    pub acknowledged_on : IsAcknowledged by start answers before n
    acknowledged_on = record {
      front = h.front;
      last = h.last;
      are = h.are;
      few = h.few;
      took = took_behind_on before o n (each_text by.machine start h.front) grown grows h.took;
    }

    -- one that is no change
    acknowledged_same : (a : A) → by.is_change a ≡ false → IsAcknowledged by start (answers ++ a ∷ []) before n
    acknowledged_same a e = record {
      front = h.front;
      last = h.last ++ a ∷ [];
      are = sym (append_assoc h.front h.last (a ∷ [])) ∙ ap (λ (v : List A). v ++ a ∷ []) h.are;
      few =
          let all : count_by by.is_change (h.last ++ a ∷ []) ≡ count_by by.is_change h.last + count_by by.is_change (a ∷ []) =
          sum_by-append (λ x. cond (by.is_change x) 1 0) h.last (a ∷ []) in
          let one = count_one a false e in
          let few = h.few in omega arith;
      took = took_behind_on before o n (each_text by.machine start h.front) grown grows h.took;
    }

    -- one before which all was taken
    pub acknowledged_all : (a : A) (p : Option (List ℕ)) → Appends before p (each_text by.machine start answers) → Took p n →
        IsAcknowledged by start (answers ++ a ∷ []) before n
    acknowledged_all a p given took = record {
      front = answers;
      last = a ∷ [];
      are = refl;
      few = one_at_most a (by.is_change a) refl;
      took = took_all before p n (each_text by.machine start answers) given took;
    }

    pub acknowledged_more : (a : A) (p : Option (List ℕ)) → Appends before p (each_text by.machine start answers) →
        (IsTrue (by.is_change a) → Took p n) → IsAcknowledged by start (answers ++ a ∷ []) before n
    acknowledged_more a p given took = by_change (by.is_change a) refl
      where
        by_change : (b : Bool) → by.is_change a ≡ b → IsAcknowledged by start (answers ++ a ∷ []) before n
        by_change true e = acknowledged_all a p given (took e)
        by_change false e = acknowledged_same a e

  pub given_begin : (Went : List A → Option A → Type 0) (before total : Option (List ℕ)) → Went [] None → Appends before total [] →
      AreGiven by Went start [] before total before
  given_begin Went before total went given = record {
    went = went;
    given = given;
    grown = grows_none before;
    acknowledged = record { front = []; last = []; are = refl; few = omega arith; took = took_none before };
  }

  -- the text of one answer more
  pub text_more : (answers : List A) (here : S) (a : A) → here ≡ after_each by.machine start answers →
      each_text by.machine start (answers ++ a ∷ []) ≡ each_text by.machine start answers ++ by.machine.text here a
  text_more answers here a stands =
      each_text-append by.machine start answers (a ∷ [])
      ∙ ap (λ (v : List ℕ). each_text by.machine start answers ++ v)
      (append-nil (by.machine.text (after_each by.machine start answers) a)
      ∙ ap (λ (s : S). by.machine.text s a) (sym stands))
