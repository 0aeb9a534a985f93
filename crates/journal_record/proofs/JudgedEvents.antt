-- Events, as they are read: one in range, or the first fault.
use Rattle.std.proofs.Common.{◌≡◌, refl, sym, ◌∙◌, ap, subst, ℕ, zero, suc, ◌+◌, ◌<◌, ◌≤◌, ℤ, true, false, cond, ◌||◌, List, [], ◌∷◌, ◌++◌, length, Option, Some, None, nat_eq, arith}
use Rattle.std.specs.Prelude.{nat_lt, Result, Ok, Err}
use Rattle.std.specs.List.{list_all}
use Rattle.std.specs.Int.{w32, to_be_bytes}
use Rattle.std.proofs.lemmas.Bool.{and_parts, and_from, eqb-true, false_from_ne_true}
use Rattle.std.proofs.lemmas.List.{append_assoc, append-nil}
use Rattle.eon_model.specs.declared.Class.{Class}
use Rattle.eon_model.specs.Names.{Name, is_name}
use Rattle.eon_model.specs.CommandText.{is_centre}
use Rattle.eon_model.specs.Events.{LegText, EnterText, Event}
use Rattle.eon_model.specs.EventText.{name_text, signed_text, class_flag, leg_text, event_text, is_event}
use Rattle.eon_model.specs.EventFault.{Field, NameField, NodeField, RateField, CentreField, FlagField, DigestField, fields_of_kind, EventFault, fault_from, fault_of_kind, event_fault}
use Rattle.eon_model.proofs.EventFields.{AreBytes}
use Rattle.journal_record.specs.Reading.{Read, ◌>>=◌, field_at, one_byte, name_in, rate_in, centre_in, class_in, whole_in, leg_at, enter_at, service_at, make_at, named_at, moved_at, digest_at, fields_at, alone, event_read}
use Rattle.journal_record.proofs.JudgedParts.{Refuses, Judged, judged-then, judged-end}
use Rattle.journal_record.proofs.JudgedFields.{nothing_due, NameMade, judged-name, NodeMade, judged-node, RateMade, judged-rate, CentreMade, judged-centre, FlagMade, judged-class, paths_due, DigestMade, judged-digest}
use Rattle.journal_record.proofs.JudgedLegs.{LegMade, judged-leg}

-- an event of this kind, whose fields have these bytes
abbrev EventMade : ℕ → Event → List ℕ → Type 0
EventMade kind e v = (is_event e ≡ true) × (kind ∷ v ≡ event_text e)

abbrev JudgedAt : ℕ → List Field → Read Event → List ℕ → Type 0
JudgedAt kind fields r bytes = Judged fields nothing_due (EventMade kind) 1 bytes r

-- ---- a name, and a name with a centre

judged-named : (kind : ℕ) (make : Name → Event) (bytes : List ℕ) → AreBytes bytes →
    ((name : Name) → is_name name ≡ true → EventMade kind (make name) (name_text name)) →
    JudgedAt kind (NameField ∷ []) (named_at make 1 bytes) bytes
unfolding named_at
judged-named kind make bytes small made =
    judged-then (NameField ∷ []) [] nothing_due nothing_due NameMade (EventMade kind) 1 bytes
    (field_at NameField name_in 1 bytes) (λ name. Ok (make name.0, name.1)) (judged-name 1 bytes small)
    (λ name a made_a small_a.
    judged-end (λ w v. EventMade kind w (a ++ v)) name.1.0 name.1.1 (make name.0) small_a
    (let m = made name.0 made_a.0 in
    (m.0, ap (λ (v : List ℕ). kind ∷ v) (append-nil a ∙ made_a.1) ∙ m.1)))

judged-moved : (kind : ℕ) (make : Name → ℤ → Event) (bytes : List ℕ) → AreBytes bytes →
    ((name : Name) (n : ℤ) → is_name name ≡ true → is_centre n ≡ true →
    EventMade kind (make name n) (name_text name ++ signed_text n)) →
    JudgedAt kind (NameField ∷ CentreField ∷ []) (moved_at make 1 bytes) bytes
unfolding moved_at
judged-moved kind make bytes small made =
    judged-then (NameField ∷ []) (CentreField ∷ []) nothing_due nothing_due NameMade (EventMade kind) 1 bytes
    (field_at NameField name_in 1 bytes)
    (λ name. field_at CentreField centre_in name.1.0 name.1.1 >>= (λ n. Ok (make name.0 n.0, n.1)))
    (judged-name 1 bytes small)
    (λ name a made_a small_a.
    judged-then (CentreField ∷ []) [] nothing_due nothing_due CentreMade (λ w v. EventMade kind w (a ++ v))
    name.1.0 name.1.1 (field_at CentreField centre_in name.1.0 name.1.1) (λ n. Ok (make name.0 n.0, n.1))
    (judged-centre name.1.0 name.1.1 small_a)
    (λ n b made_b small_b.
    judged-end (λ w v. EventMade kind w (a ++ (b ++ v))) n.1.0 n.1.1 (make name.0 n.0) small_b
    (let m = made name.0 n.0 made_a.0 made_b.0 in (
      m.0,
      (λ i. kind ∷ made_a.1 i ++ append-nil b i) ∙ (λ i. kind ∷ name_text name.0 ++ made_b.1 i) ∙ m.1,
    ))))

-- ---- a digest

judged-bind : (bytes : List ℕ) → AreBytes bytes → JudgedAt 8 (DigestField ∷ []) (digest_at 1 bytes) bytes
unfolding digest_at
judged-bind bytes small =
    judged-then (DigestField ∷ []) [] nothing_due nothing_due DigestMade (EventMade 8) 1 bytes
    (field_at DigestField whole_in 1 bytes) (λ d. Ok (Event.Bind d.0, d.1)) (judged-digest 1 bytes small)
    (λ d a made_a small_a.
    judged-end (λ w v. EventMade 8 w (a ++ v)) d.1.0 d.1.1 (Event.Bind d.0) small_a
    (made_a.0, ap (λ (v : List ℕ). 8 ∷ v) (append-nil a ∙ made_a.1)))

-- ---- a leg behind a name

judged-make : (bytes : List ℕ) → AreBytes bytes → JudgedAt 6 (NameField ∷ FlagField ∷ []) (make_at 1 bytes) bytes
unfolding make_at
judged-make bytes small =
    judged-then (NameField ∷ []) (FlagField ∷ []) nothing_due nothing_due NameMade (EventMade 6) 1 bytes
    (field_at NameField name_in 1 bytes)
    (λ name. field_at FlagField class_in name.1.0 name.1.1 >>= (λ class.
    leg_at class.0 class.1.0 class.1.1 >>= (λ leg. Ok (Event.Make name.0 class.0 leg.0, leg.1))))
    (judged-name 1 bytes small)
    (λ name a made_a small_a.
    judged-then (FlagField ∷ []) [] paths_due nothing_due FlagMade (λ w v. EventMade 6 w (a ++ v))
    name.1.0 name.1.1 (field_at FlagField class_in name.1.0 name.1.1)
    (λ class. leg_at class.0 class.1.0 class.1.1 >>= (λ leg. Ok (Event.Make name.0 class.0 leg.0, leg.1)))
    (judged-class name.1.0 name.1.1 small_a)
    (λ class b made_b small_b.
    judged-then (paths_due class.0) [] nothing_due nothing_due (LegMade class.0)
    (λ w v. EventMade 6 w (a ++ (b ++ v))) class.1.0 class.1.1 (leg_at class.0 class.1.0 class.1.1)
    (λ leg. Ok (Event.Make name.0 class.0 leg.0, leg.1)) (judged-leg class.0 class.1.0 class.1.1 small_b)
    (λ leg c made_c small_c.
    judged-end (λ w v. EventMade 6 w (a ++ (b ++ (c ++ v)))) leg.1.0 leg.1.1
    (Event.Make name.0 class.0 leg.0) small_c (
      and_from _ _ (and_from _ _ made_a.0 made_c.0) made_c.1.0,
      (λ i. 6 ∷ made_a.1 i ++ (made_b i ++ append-nil c i))
          ∙ (λ i. 6 ∷ name_text name.0 ++ class_flag class.0 ∷ made_c.1.1 i),
    ))))

-- ---- a service

enter_made : (s : EnterText) (a b c d f g : List ℕ) → NameMade s.name a → NodeMade s.src b → NodeMade s.dst c →
    RateMade s.rate d → FlagMade s.class f → LegMade s.class s.leg g →
    EventMade 1 (Event.Enter s) (a ++ (b ++ (c ++ (d ++ (f ++ (g ++ []))))))
enter_made s a b c d f g na nb nc nd nf ng = (
  and_from _ _ (and_from _ _ (and_from _ _ (and_from _ _ (and_from _ _ na.0 nb.0) nc.0) nd.0) ng.0) ng.1.0,
  (λ i. 1 ∷ na.1 i ++ (nb.1 i ++ (nc.1 i ++ (nd.1 i ++ (nf i ++ append-nil g i)))))
      ∙ (λ i. 1 ∷ name_text s.name ++ (s.src ∷ s.dst ∷ to_be_bytes w32 s.rate ++ (class_flag s.class ∷ ng.1.1 i)))
      ∙ ap (λ (v : List ℕ). 1 ∷ v)
      (sym (append_assoc (name_text s.name) (s.src ∷ s.dst ∷ to_be_bytes w32 s.rate) (leg_text s.class s.leg))),
)

abbrev EnterMade : EnterText → List ℕ → Type 0
EnterMade s v = EventMade 1 (Event.Enter s) v

judged-enter : (at : ℕ) (bytes : List ℕ) → AreBytes bytes →
    Judged (NameField ∷ NodeField ∷ NodeField ∷ RateField ∷ FlagField ∷ []) nothing_due EnterMade at bytes (enter_at at bytes)
unfolding enter_at
judged-enter at bytes small =
    judged-then (NameField ∷ []) (NodeField ∷ NodeField ∷ RateField ∷ FlagField ∷ []) nothing_due nothing_due NameMade EnterMade at bytes
    (field_at NameField name_in at bytes) (λ name. field_at NodeField one_byte name.1.0 name.1.1 >>= (λ src. field_at NodeField one_byte src.1.0 src.1.1 >>= (λ dst. field_at RateField rate_in dst.1.0 dst.1.1 >>= (λ rate. field_at FlagField class_in rate.1.0 rate.1.1 >>= (λ class. leg_at class.0 class.1.0 class.1.1 >>= (λ leg. Ok (record { name = name.0; src = src.0; dst = dst.0; rate = rate.0; class = class.0; leg = leg.0 }, leg.1))))))) (judged-name at bytes small)
    (λ name a made_a small_a.
    judged-then (NodeField ∷ []) (NodeField ∷ RateField ∷ FlagField ∷ []) nothing_due nothing_due NodeMade (λ w v. EnterMade w (a ++ v)) name.1.0 name.1.1
    (field_at NodeField one_byte name.1.0 name.1.1) (λ src. field_at NodeField one_byte src.1.0 src.1.1 >>= (λ dst. field_at RateField rate_in dst.1.0 dst.1.1 >>= (λ rate. field_at FlagField class_in rate.1.0 rate.1.1 >>= (λ class. leg_at class.0 class.1.0 class.1.1 >>= (λ leg. Ok (record { name = name.0; src = src.0; dst = dst.0; rate = rate.0; class = class.0; leg = leg.0 }, leg.1)))))) (judged-node name.1.0 name.1.1 small_a)
    (λ src b made_b small_b.
    judged-then (NodeField ∷ []) (RateField ∷ FlagField ∷ []) nothing_due nothing_due NodeMade (λ w v. EnterMade w (a ++ (b ++ v))) src.1.0 src.1.1
    (field_at NodeField one_byte src.1.0 src.1.1) (λ dst. field_at RateField rate_in dst.1.0 dst.1.1 >>= (λ rate. field_at FlagField class_in rate.1.0 rate.1.1 >>= (λ class. leg_at class.0 class.1.0 class.1.1 >>= (λ leg. Ok (record { name = name.0; src = src.0; dst = dst.0; rate = rate.0; class = class.0; leg = leg.0 }, leg.1))))) (judged-node src.1.0 src.1.1 small_b)
    (λ dst c made_c small_c.
    judged-then (RateField ∷ []) (FlagField ∷ []) nothing_due nothing_due RateMade (λ w v. EnterMade w (a ++ (b ++ (c ++ v)))) dst.1.0 dst.1.1
    (field_at RateField rate_in dst.1.0 dst.1.1) (λ rate. field_at FlagField class_in rate.1.0 rate.1.1 >>= (λ class. leg_at class.0 class.1.0 class.1.1 >>= (λ leg. Ok (record { name = name.0; src = src.0; dst = dst.0; rate = rate.0; class = class.0; leg = leg.0 }, leg.1)))) (judged-rate dst.1.0 dst.1.1 small_c)
    (λ rate d made_d small_d.
    judged-then (FlagField ∷ []) ([]) paths_due nothing_due FlagMade (λ w v. EnterMade w (a ++ (b ++ (c ++ (d ++ v))))) rate.1.0 rate.1.1
    (field_at FlagField class_in rate.1.0 rate.1.1) (λ class. leg_at class.0 class.1.0 class.1.1 >>= (λ leg. Ok (record { name = name.0; src = src.0; dst = dst.0; rate = rate.0; class = class.0; leg = leg.0 }, leg.1))) (judged-class rate.1.0 rate.1.1 small_d)
    (λ class f made_f small_f.
    judged-then (paths_due class.0) [] nothing_due nothing_due (LegMade class.0) (λ w v. EnterMade w (a ++ (b ++ (c ++ (d ++ (f ++ v)))))) class.1.0 class.1.1
    (leg_at class.0 class.1.0 class.1.1) (λ leg. Ok (record { name = name.0; src = src.0; dst = dst.0; rate = rate.0; class = class.0; leg = leg.0 }, leg.1)) (judged-leg class.0 class.1.0 class.1.1 small_f)
    (λ leg g made_g small_g.
    judged-end (λ w v. EnterMade w (a ++ (b ++ (c ++ (d ++ (f ++ (g ++ v))))))) leg.1.0 leg.1.1 (record { name = name.0; src = src.0; dst = dst.0; rate = rate.0; class = class.0; leg = leg.0 }) small_g
    (enter_made (record { name = name.0; src = src.0; dst = dst.0; rate = rate.0; class = class.0; leg = leg.0 }) a b c d f g made_a made_b made_c made_d made_f made_g)))))))

judged-service : (bytes : List ℕ) → AreBytes bytes →
    JudgedAt 1 (NameField ∷ NodeField ∷ NodeField ∷ RateField ∷ FlagField ∷ []) (service_at 1 bytes) bytes
unfolding service_at
judged-service bytes small =
    judged-then (NameField ∷ NodeField ∷ NodeField ∷ RateField ∷ FlagField ∷ []) [] nothing_due nothing_due EnterMade
    (EventMade 1) 1 bytes (enter_at 1 bytes) (λ s. Ok (Event.Enter s.0, s.1)) (judged-enter 1 bytes small)
    (λ s a made_a small_a.
    judged-end (λ w v. EventMade 1 w (a ++ v)) s.1.0 s.1.1 (Event.Enter s.0) small_a
    (made_a.0, ap (λ (v : List ℕ). 1 ∷ v) (append-nil a) ∙ made_a.1))

-- ---- by kind

-- what reading answers, beside the first fault
abbrev pub Decided : List ℕ → Result Event EventFault → Type 0
Decided bytes (Ok e) = (is_event e ≡ true) × (event_text e ≡ bytes)
Decided bytes (Err x) = event_fault bytes ≡ Some x

decided : (kind : ℕ) (bytes : List ℕ) (fields : List Field) (r : Read Event) → fields_of_kind kind ≡ Some fields →
    JudgedAt kind fields r bytes → Decided (kind ∷ bytes) (r >>= alone)
decided kind bytes fields (Err x) k j =
    ap (λ (o : Option (List Field)). fault_of_kind o bytes) k
    ∙ subst (λ (fs : List Field). fault_from (length bytes + 1) 1 fs bytes ≡ Some x) (append-nil fields)
    (j [] (length bytes + 1) (omega arith))
decided kind bytes fields (Ok (e, (at, []))) k j =
    (j.made.0, sym j.made.1 ∙ ap (λ (v : List ℕ). kind ∷ v) (sym (append-nil j.front) ∙ sym j.whole))
decided kind bytes fields (Ok (e, (at, b ∷ rest))) k j =
    ap (λ (o : Option (List Field)). fault_of_kind o bytes) k
    ∙ subst (λ (fs : List Field). fault_from (length bytes + 1) 1 fs bytes ≡ Some EventFault.Rest) (append-nil fields)
    (j.more [] EventFault.Rest over (length bytes + 1) (omega arith))
  where
    over : Refuses [] at (b ∷ rest) EventFault.Rest
    over zero h = refl
    over (suc turns) h = refl

differs : (k n : ℕ) → n < k → nat_eq k n ≡ false
differs k n h = false_from_ne_true (nat_eq k n) (λ t. let e = eqb-true k n t in absurd (omega arith))

no_kind : (k : ℕ) (bytes : List ℕ) → 9 ≤ k → Decided (k ∷ bytes) (fields_at k 1 bytes >>= alone)
unfolding fields_at
no_kind k bytes h =
    subst (λ (r : Read Event). Decided (k ∷ bytes) (r >>= alone)) (sym unread)
    (ap (λ (o : Option (List Field)). fault_of_kind o bytes) untold)
  where
    untold : fields_of_kind k ≡ None
    untold = λ i.
        cond (differs k 1 (omega arith) i) (Some (NameField ∷ NodeField ∷ NodeField ∷ RateField ∷ FlagField ∷ []))
        (cond (differs k 2 (omega arith) i || differs k 4 (omega arith) i || differs k 5 (omega arith) i)
        (Some (NameField ∷ []))
        (cond (differs k 3 (omega arith) i || differs k 7 (omega arith) i) (Some (NameField ∷ CentreField ∷ []))
        (cond (differs k 6 (omega arith) i) (Some (NameField ∷ FlagField ∷ []))
        (cond (differs k 8 (omega arith) i) (Some (DigestField ∷ [])) None))))

    unread : fields_at k 1 bytes ≡ Err EventFault.Kind
    unread = λ i.
        cond (differs k 1 (omega arith) i) (service_at 1 bytes)
        (cond (differs k 2 (omega arith) i) (named_at Event.Leave 1 bytes)
        (cond (differs k 3 (omega arith) i) (moved_at Event.Push 1 bytes)
        (cond (differs k 4 (omega arith) i) (named_at Event.Finish 1 bytes)
        (cond (differs k 5 (omega arith) i) (named_at Event.Back 1 bytes)
        (cond (differs k 6 (omega arith) i) (make_at 1 bytes)
        (cond (differs k 7 (omega arith) i) (moved_at Event.Refit 1 bytes)
        (cond (differs k 8 (omega arith) i) (digest_at 1 bytes) (Err EventFault.Kind))))))))

by_kind : (k : ℕ) (bytes : List ℕ) → AreBytes bytes → Decided (k ∷ bytes) (fields_at k 1 bytes >>= alone)
unfolding fields_at
by_kind zero bytes h = refl
by_kind (suc zero) bytes h = decided 1 bytes _ (service_at 1 bytes) refl (judged-service bytes h)
by_kind (suc (suc zero)) bytes h =
    decided 2 bytes _ (named_at Event.Leave 1 bytes) refl (judged-named 2 Event.Leave bytes h (λ name n. (n, refl)))
by_kind (suc (suc (suc zero))) bytes h =
    decided 3 bytes _ (moved_at Event.Push 1 bytes) refl
    (judged-moved 3 Event.Push bytes h (λ name z n c. (and_from _ _ n c, refl)))
by_kind (suc (suc (suc (suc zero)))) bytes h =
    decided 4 bytes _ (named_at Event.Finish 1 bytes) refl (judged-named 4 Event.Finish bytes h (λ name n. (n, refl)))
by_kind (suc (suc (suc (suc (suc zero))))) bytes h =
    decided 5 bytes _ (named_at Event.Back 1 bytes) refl (judged-named 5 Event.Back bytes h (λ name n. (n, refl)))
by_kind (suc (suc (suc (suc (suc (suc zero)))))) bytes h = decided 6 bytes _ (make_at 1 bytes) refl (judged-make bytes h)
by_kind (suc (suc (suc (suc (suc (suc (suc zero))))))) bytes h =
    decided 7 bytes _ (moved_at Event.Refit 1 bytes) refl
    (judged-moved 7 Event.Refit bytes h (λ name z n c. (and_from _ _ n c, refl)))
by_kind (suc (suc (suc (suc (suc (suc (suc (suc zero)))))))) bytes h =
    decided 8 bytes _ (digest_at 1 bytes) refl (judged-bind bytes h)
by_kind (suc (suc (suc (suc (suc (suc (suc (suc (suc k))))))))) bytes h =
    no_kind (suc (suc (suc (suc (suc (suc (suc (suc (suc k))))))))) bytes (omega arith)

-- what is read is the event in range that has these bytes, or their first fault
pub event-decided : (bytes : List ℕ) → AreBytes bytes → Decided bytes (event_read bytes)
unfolding event_read
event-decided [] h = refl
event-decided (k ∷ bytes) h = by_kind k bytes (and_parts (nat_lt k 256) (list_all (λ b. nat_lt b 256) bytes) h).1
