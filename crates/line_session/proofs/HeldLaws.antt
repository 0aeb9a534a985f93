-- What was given in all, and what the sink below took of it.
use Rattle.std.proofs.Common.{◌≡◌, ◌≢◌, refl, sym, ◌∙◌, ap, subst, ℕ, Bool, true, false, List, [], ◌++◌, append_assoc, length, take, drop, Option, None, Some, Result, Ok, Err, arith}
use Rattle.std.specs.Prelude.{IfSome, bytes_eq, if◌then◌else◌}
use Rattle.std.specs.Io.KnownBytes.{Appends, Keeps, append_known}
use Rattle.std.proofs.lemmas.Slice.Eq.{bytes_eq-Decides}
use Rattle.std.proofs.lemmas.List.{take_all, take-append-drop, append-nil, append_cancel_left}
use Rattle.eon_outside.specs.Held.{given_since, Flushes}
use Rattle.eon_outside.proofs.KnownBytesLaws.{appends_more}
use Rattle.line_session.specs.Session.{Grows}

-- ---- where the sink below took more

pub grows_more : (a b c : Option (List ℕ)) → Grows a b → Grows b c → Grows a c
grows_more a b c p q = (p.0 ++ q.0, appends_more a b c p.0 q.0 p.1 q.1)

pub grows_none : (a : Option (List ℕ)) → Grows a a
grows_none None = ([], tt)
grows_none (Some a) = ([], sym (append-nil a))

-- ---- bytes that are held back for a sink that had these bytes

test : List ℕ → List ℕ → Bool
test start known = bytes_eq (take (length start) known) start

test-self : (start : List ℕ) → test start start ≡ true
unfolding test
test-self start = (bytes_eq-Decides (take (length start) start) start).1 (take_all (length start) start (omega arith))

begins : (start known : List ℕ) → test start known ≡ true → known ≡ start ++ drop (length start) known
unfolding test
begins start known e =
    sym (take-append-drop (length start) known)
    ∙ ap (λ (v : List ℕ). v ++ drop (length start) known) ((bytes_eq-Decides (take (length start) known) start).0 e)

total : List ℕ → List ℕ → Bool → Option (List ℕ)
total known held b = if b then Some (known ++ held) else None

total-is : (start known held : List ℕ) → given_since (Some start) (Some known) held ≡ total known held (test start known)
unfolding total test
total-is start known held = refl

pub since_self : (o : Option (List ℕ)) (held : List ℕ) → given_since o o held ≡ append_known o held
unfolding total
since_self None held = refl
since_self (Some a) held = total-is a a held ∙ ap (total a held) (test-self a)

since_told : (a b held left text : List ℕ) (t : Bool) → test a b ≡ t → Appends (Some (a ++ held)) (total b left t) text →
    Appends (Some (a ++ held)) (Some (b ++ left)) text × Grows (Some a) (Some b)
unfolding total
since_told a b held left text true e h = (h, (drop (length a) b, begins a b e))
since_told a b held left text false e h = absurd h

-- the sink below has more than it had, and all is told
pub since_more : (o n : Option (List ℕ)) (held left text : List ℕ) → Appends (given_since o o held) (given_since o n left) text →
    Appends (append_known o held) (append_known n left) text × Grows o n
since_more None n held left text h = (tt, ([], tt))
since_more (Some a) None held left text h =
    absurd (subst (λ (v : Option (List ℕ)). Appends v None text) (since_self (Some a) held) h)
since_more (Some a) (Some b) held left text h =
    since_told a b held left text (test a b) refl
    (subst (λ (v : Option (List ℕ)). Appends (Some (a ++ held)) v text) (total-is a b left)
    (subst (λ (v : Option (List ℕ)). Appends v (given_since (Some a) (Some b) left) text) (since_self (Some a) held) h))

-- ---- a flush

pub flush_grows : {T E : Type 0} (old new : Option (List ℕ)) (held left : List ℕ) (r : Result T E) →
    Flushes old new held left r → Grows old new
flush_grows old new held left (Ok x) h = (held, h.0)
flush_grows old new held left (Err e) h = (take h.0 held, h.2)

-- bytes that were held went to the sink below
moved : (a b x held left : List ℕ) → b ≡ a ++ x → x ++ left ≡ held → b ++ left ≡ a ++ held
moved a b x held left is cut =
    ap (λ (v : List ℕ). v ++ left) is ∙ append_assoc a x left ∙ ap (λ (v : List ℕ). a ++ v) cut

pub flush_keeps : {T E : Type 0} (old new : Option (List ℕ)) (held left : List ℕ) (r : Result T E) →
    Flushes old new held left r → Keeps (append_known old held) (append_known new left)
flush_keeps None new held left r h = tt
flush_keeps (Some a) None held left (Ok x) h = absurd h.0
flush_keeps (Some a) None held left (Err e) h = absurd h.2
flush_keeps (Some a) (Some b) held left (Ok x) h =
    moved a b held held left h.0 (ap (λ (v : List ℕ). held ++ v) h.1 ∙ append-nil held)
flush_keeps (Some a) (Some b) held left (Err e) h =
    moved a b (take h.0 held) held left h.2
    (ap (λ (v : List ℕ). take h.0 held ++ v) h.3 ∙ take-append-drop h.0 held)

pub appends_kept : (a b c : Option (List ℕ)) (x : List ℕ) → Appends a b x → Keeps b c → Appends a c x
appends_kept None b c x p q = tt
appends_kept (Some a) None c x p q = absurd p
appends_kept (Some a) (Some b) None x p q = absurd q
appends_kept (Some a) (Some b) (Some c) x p q = q ∙ p

-- ---- the sink below

-- The sink below took a front of a text; where it tells so, not all of it.
pub record Below (old new : Option (List ℕ)) (text : List ℕ) : Type 0 where
  pub front : List ℕ
  pub left : List ℕ
  pub is : front ++ left ≡ text
  pub given : Appends old new front
  pub some : IfSome old (λ _. left ≢ [])

below_told : (a b held front left text more : List ℕ) → b ≡ a ++ more → b ++ held ≡ a ++ front → front ++ left ≡ text →
    (held ++ left ≡ [] → ⊥) → Below (Some a) (Some b) text
below_told a b held front left text more grown given is some =
    let same : more ++ held ≡ front = append_cancel_left a (more ++ held) front
    (sym (append_assoc a more held) ∙ ap (λ (v : List ℕ). v ++ held) (sym grown) ∙ given) in record {
      front = more;
      left = held ++ left;
      is = sym (append_assoc more held left) ∙ ap (λ (v : List ℕ). v ++ left) same ∙ is;
      given = grown;
      some = some;
    }

pub part_below : (old new : Option (List ℕ)) (held front left text : List ℕ) → front ++ left ≡ text →
    (held ++ left ≡ [] → ⊥) → Grows old new → Appends old (append_known new held) front → Below old new text
part_below None new held front left text is some grown given =
    record { front = []; left = text; is = refl; given = tt; some = tt }
part_below (Some a) None held front left text is some grown given = absurd grown.1
part_below (Some a) (Some b) held front left text is some grown given =
    below_told a b held front left text grown.0 grown.1 given is some

-- where nothing is held, the sink below took all
pub given_all : (old new : Option (List ℕ)) (held text : List ℕ) → held ≡ [] → Appends old (append_known new held) text →
    Appends old new text
given_all None new held text none given = tt
given_all (Some a) None held text none given = absurd given
given_all (Some a) (Some b) held text none given =
    sym (append-nil b) ∙ ap (λ (v : List ℕ). b ++ v) (sym none) ∙ given

pub given_none : (old : Option (List ℕ)) (held : List ℕ) → held ≡ [] → Appends old (append_known old held) []
given_none None held none = tt
given_none (Some a) held none = ap (λ (v : List ℕ). a ++ v) none
