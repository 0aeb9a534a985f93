-- What a sink that holds bytes back was given, and what the one below it was.
use Rattle.std.proofs.Common.{◌≡◌, ◌≢◌, refl, sym, ◌∙◌, ap, subst, ℕ, Bool, true, false, List, [], ◌++◌, append_assoc, length, take, drop, Option, None, Some, Result, Ok, Err, arith}
use Rattle.std.specs.Prelude.{IfSome, bytes_eq, if◌then◌else◌}
use Rattle.std.specs.Io.KnownBytes.{Appends, Keeps}
use Rattle.std.proofs.lemmas.Slice.Eq.{bytes_eq-Decides}
use Rattle.std.proofs.lemmas.List.{take_all, take-append-drop, take-append-le, length-take, append-nil, append_cancel_left}
use Rattle.eon_outside.specs.Held.{given_since, Flushes}

-- ---- a flush

test : List ℕ → List ℕ → Bool
test start known = bytes_eq (take (length start) known) start

begins : (start known : List ℕ) → test start known ≡ true → known ≡ start ++ drop (length start) known
unfolding test
begins start known e =
    sym (take-append-drop (length start) known)
    ∙ ap (λ (v : List ℕ). v ++ drop (length start) known) ((bytes_eq-Decides (take (length start) known) start).0 e)

test-is : (start known : List ℕ) → take (length start) known ≡ start → test start known ≡ true
unfolding test
test-is start known e = (bytes_eq-Decides (take (length start) known) start).1 e

test-self : (start : List ℕ) → test start start ≡ true
test-self start = test-is start start (take_all (length start) start (omega arith))

test-more : (start known more : List ℕ) → test start known ≡ true → test start (known ++ more) ≡ true
unfolding test
test-more start known more e =
    let is = (bytes_eq-Decides (take (length start) known) start).0 e in
    let k : length (take (length start) known) ≡ length start = ap length is in
    let l = length-take (length start) known in
    test-is start (known ++ more) (take-append-le (length start) known more (omega arith) ∙ is)

total : List ℕ → List ℕ → Bool → Option (List ℕ)
total known held b = if b then Some (known ++ held) else None

total-is : (start known held : List ℕ) → given_since (Some start) (Some known) held ≡ total known held (test start known)
unfolding total test
total-is start known held = refl

both : (b c : Bool) → (b ≡ true → c ≡ true) → (known held next left : List ℕ) → next ++ left ≡ known ++ held →
    Keeps (total known held b) (total next left c)
unfolding total
both true true f known held next left is = is
both true false f known held next left is = absurd (let e = f refl in cc)
both false c f known held next left is = tt

-- bytes that were held went to the sink below
moved : (start known x held left : List ℕ) → (known ++ x) ++ left ≡ known ++ held →
    Keeps (given_since (Some start) (Some known) held) (given_since (Some start) (Some (known ++ x)) left)
moved start known x held left is =
    subst (λ (v : Option (List ℕ)). Keeps v (given_since (Some start) (Some (known ++ x)) left)) (sym (total-is start known held))
    (subst (λ (v : Option (List ℕ)). Keeps (total known held (test start known)) v) (sym (total-is start (known ++ x) left))
    (both (test start known) (test start (known ++ x)) (test-more start known x) known held (known ++ x) left is))

pub flush_keeps : {T E : Type 0} (start old new : Option (List ℕ)) (held left : List ℕ) (r : Result T E) →
    Flushes old new held left r → Keeps (given_since start old held) (given_since start new left)
flush_keeps None old new held left r h = tt
flush_keeps (Some start) None new held left r h = tt
flush_keeps (Some start) (Some known) None held left (Ok x) h = absurd h.0
flush_keeps (Some start) (Some known) None held left (Err e) h = absurd h.2
flush_keeps (Some start) (Some known) (Some next) held left (Ok x) h =
    subst (λ (v : List ℕ). Keeps (given_since (Some start) (Some known) held) (given_since (Some start) (Some v) left))
    (sym h.0) (moved start known held held left (ap (λ (v : List ℕ). (known ++ held) ++ v) h.1 ∙ append-nil (known ++ held)))
flush_keeps (Some start) (Some known) (Some next) held left (Err e) h =
    subst (λ (v : List ℕ). Keeps (given_since (Some start) (Some known) held) (given_since (Some start) (Some v) left))
    (sym h.2) (moved start known (take h.0 held) held left
    (append_assoc known (take h.0 held) left
    ∙ ap (λ (v : List ℕ). known ++ v) (ap (λ (v : List ℕ). take h.0 held ++ v) h.3 ∙ take-append-drop h.0 held)))

pub appends_kept : (a b c : Option (List ℕ)) (x : List ℕ) → Appends a b x → Keeps b c → Appends a c x
appends_kept None b c x p q = tt
appends_kept (Some a) None c x p q = absurd p
appends_kept (Some a) (Some b) None x p q = absurd q
appends_kept (Some a) (Some b) (Some c) x p q = q ∙ p

-- ---- the sink below

-- The sink below was given a front of a text; where it tells so, not all of it.
pub record Below (old new : Option (List ℕ)) (text : List ℕ) : Type 0 where
  pub front : List ℕ
  pub left : List ℕ
  pub is : front ++ left ≡ text
  pub given : Appends old new front
  pub some : IfSome old (λ _. left ≢ [])

front_of : (start next held front left text : List ℕ) → front ++ left ≡ text → (held ++ left ≡ [] → ⊥) →
    test start next ≡ true → next ++ held ≡ (start ++ []) ++ front → Below (Some start) (Some next) text
front_of start next held front left text is some e given =
    let z = drop (length start) next in
    let whole : next ≡ start ++ z = begins start next e in
    let same : z ++ held ≡ front = append_cancel_left start (z ++ held) front
    (sym (append_assoc start z held) ∙ ap (λ (v : List ℕ). v ++ held) (sym whole) ∙ given
    ∙ ap (λ (v : List ℕ). v ++ front) (append-nil start)) in record {
      front = z;
      left = held ++ left;
      is = sym (append_assoc z held left) ∙ ap (λ (v : List ℕ). v ++ left) same ∙ is;
      given = whole;
      some = some;
    }

below_told : (start next held front left text : List ℕ) → front ++ left ≡ text → (held ++ left ≡ [] → ⊥) →
    (b : Bool) → test start next ≡ b → Appends (Some (start ++ [])) (total next held b) front →
    Below (Some start) (Some next) text
unfolding total
below_told start next held front left text is some true e given =
    front_of start next held front left text is some e given
below_told start next held front left text is some false e given = absurd given

start_total : (start : List ℕ) → given_since (Some start) (Some start) [] ≡ Some (start ++ [])
unfolding total
start_total start = total-is start start [] ∙ ap (total start []) (test-self start)

below_at : (old new : Option (List ℕ)) (held front left text : List ℕ) → front ++ left ≡ text →
    (held ++ left ≡ [] → ⊥) → Appends (given_since old old []) (given_since old new held) front → Below old new text
below_at None new held front left text is some given =
    record { front = []; left = text; is = refl; given = tt; some = tt }
below_at (Some start) None held front left text is some given =
    absurd (subst (λ (v : Option (List ℕ)). Appends v None front) (start_total start) given)
below_at (Some start) (Some next) held front left text is some given =
    below_told start next held front left text is some (test start next) refl
    (subst (λ (v : Option (List ℕ)). Appends (Some (start ++ [])) v front) (total-is start next held)
    (subst (λ (v : Option (List ℕ)). Appends v (given_since (Some start) (Some next) held) front) (start_total start) given))

pub below : (start old new : Option (List ℕ)) (none held front left text : List ℕ) → start ≡ old → none ≡ [] →
    front ++ left ≡ text → (held ++ left ≡ [] → ⊥) →
    Appends (given_since start old none) (given_since start new held) front → Below old new text
below start old new none held front left text same empty is some given =
    below_at old new held front left text is some
    (subst (λ (v : Option (List ℕ)). Appends (given_since v old []) (given_since v new held) front) same
    (subst (λ (v : List ℕ). Appends (given_since start old v) (given_since start new held) front) empty given))

all_told : (start next text : List ℕ) (b : Bool) → Appends (Some (start ++ [])) (total next [] b) text →
    next ≡ start ++ text
unfolding total
all_told start next text true given =
    sym (append-nil next) ∙ given ∙ ap (λ (v : List ℕ). v ++ text) (append-nil start)
all_told start next text false given = absurd given

all_at : (old new : Option (List ℕ)) (text : List ℕ) → Appends (given_since old old []) (given_since old new []) text →
    Appends old new text
all_at None new text given = tt
all_at (Some start) None text given =
    absurd (subst (λ (v : Option (List ℕ)). Appends v None text) (start_total start) given)
all_at (Some start) (Some next) text given =
    all_told start next text (test start next)
    (subst (λ (v : Option (List ℕ)). Appends (Some (start ++ [])) v text) (total-is start next [])
    (subst (λ (v : Option (List ℕ)). Appends v (given_since (Some start) (Some next) []) text) (start_total start) given))

-- where nothing is held, the sink below was given all
pub given_all : (start old new : Option (List ℕ)) (none held text : List ℕ) → start ≡ old → none ≡ [] → held ≡ [] →
    Appends (given_since start old none) (given_since start new held) text → Appends old new text
given_all start old new none held text same empty left given =
    all_at old new text
    (subst (λ (v : Option (List ℕ)). Appends (given_since v old []) (given_since v new []) text) same
    (subst (λ (v : List ℕ). Appends (given_since start old []) (given_since start new v) text) left
    (subst (λ (v : List ℕ). Appends (given_since start old v) (given_since start new held) text) empty given)))
