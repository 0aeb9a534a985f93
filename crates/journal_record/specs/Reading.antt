-- What is read of an event's bytes, field after field: a value, the offset behind it and the bytes from there on; or
-- the first fault.
use Rattle.std.specs.Prelude.{ℕ, ◌+◌, ◌==◌, nat_lt, not, ℤ, List, [], ◌∷◌, length, take, drop, slice_index, position, Option, Some, None, Result, Ok, Err, if◌then◌else◌}
use Rattle.std.specs.Int.{w16, w32, from_be_bytes, cast_signed}
use Rattle.eon_model.specs.declared.Class.{Class}
use Rattle.eon_model.specs.declared.Class.TheVariants.{Bare, Shared, Dual}
use Rattle.eon_model.specs.Grid.{Slot}
use Rattle.eon_model.specs.Names.{Name}
use Rattle.eon_model.specs.Events.{PathText, LegText, EnterText, Event}
use Rattle.eon_model.specs.EventFault.{Field, NameField, NodeField, RateField, CentreField, FlagField, CountField, SlotField, DigestField, field_size, field_holds, EventFault, FieldAt}

abbrev pub Read : Type 0 → Type 0
Read A = Result (A × (ℕ × List ℕ)) EventFault

infixl 10 ◌>>=◌
abbrev pub ◌>>=◌ : {A B : Type 0} → Result A EventFault → (A → Result B EventFault) → Result B EventFault
(Ok x) >>= f = f x
(Err fault) >>= f = Err fault

-- ---- a field

unfoldable pub field_at : {A : Type 0} → Field → (List ℕ → A) → ℕ → List ℕ → Read A
field_at f value at bytes =
    if nat_lt (length bytes) (field_size f bytes) then Err EventFault.Short
    else (if field_holds f (take (field_size f bytes) bytes)
    then Ok (value (take (field_size f bytes) bytes), (at + field_size f bytes, drop (field_size f bytes) bytes))
    else Err (FieldAt at))

abbrev pub one_byte : List ℕ → ℕ
one_byte bytes = slice_index bytes 0

abbrev pub name_in : List ℕ → Name
name_in bytes = drop 1 bytes

abbrev pub rate_in : List ℕ → ℕ
rate_in bytes = from_be_bytes w32 bytes

abbrev pub centre_in : List ℕ → ℤ
centre_in bytes = cast_signed w16 (from_be_bytes w16 bytes)

abbrev pub class_of_flag : ℕ → Class
class_of_flag flag = if flag == 0 then Bare else (if flag == 1 then Shared else Dual)

abbrev pub class_in : List ℕ → Class
class_in bytes = class_of_flag (slice_index bytes 0)

abbrev pub slot_in : List ℕ → Slot
slot_in bytes = record {
  n = cast_signed w16 (from_be_bytes w16 (take 2 bytes));
  m = from_be_bytes w16 (drop 2 bytes);
}

abbrev pub whole_in : List ℕ → List ℕ
whole_in bytes = bytes

-- so many fibres, where this is the first that is out of range
abbrev pub fibres_but : Option ℕ → ℕ → ℕ → List ℕ → Read (List ℕ)
fibres_but (Some i) count at bytes = Err (FieldAt (at + i))
fibres_but None count at bytes =
    if nat_lt (length bytes) count then Err EventFault.Short else Ok (take count bytes, (at + count, drop count bytes))

unfoldable pub fibres_at : ℕ → ℕ → List ℕ → Read (List ℕ)
fibres_at count at bytes = fibres_but (position (λ b. not (nat_lt b 128)) (take count bytes)) count at bytes

-- ---- paths and legs

unfoldable pub path_at : ℕ → List ℕ → Read PathText
path_at at bytes = do
  count ← field_at CountField one_byte at bytes
  fibres ← fibres_at count.0 count.1.0 count.1.1
  slot ← field_at SlotField slot_in fibres.1.0 fibres.1.1
  Ok (record { fibres = fibres.0; slot = slot.0 }, slot.1)

abbrev pub some_path_at : ℕ → List ℕ → Read (Option PathText)
some_path_at at bytes = do
  path ← path_at at bytes
  Ok (Some path.0, path.1)

-- a backup path, exactly where the class is protected
unfoldable pub back_at : Class → ℕ → List ℕ → Read (Option PathText)
back_at Bare at bytes = Ok (None, (at, bytes))
back_at Shared at bytes = some_path_at at bytes
back_at Dual at bytes = some_path_at at bytes

unfoldable pub leg_at : Class → ℕ → List ℕ → Read LegText
leg_at class at bytes = do
  work ← path_at at bytes
  back ← back_at class work.1.0 work.1.1
  Ok (record { work = work.0; back = back.0 }, back.1)

-- ---- events

unfoldable pub enter_at : ℕ → List ℕ → Read EnterText
enter_at at bytes = do
  name ← field_at NameField name_in at bytes
  src ← field_at NodeField one_byte name.1.0 name.1.1
  dst ← field_at NodeField one_byte src.1.0 src.1.1
  rate ← field_at RateField rate_in dst.1.0 dst.1.1
  class ← field_at FlagField class_in rate.1.0 rate.1.1
  leg ← leg_at class.0 class.1.0 class.1.1
  Ok (record { name = name.0; src = src.0; dst = dst.0; rate = rate.0; class = class.0; leg = leg.0 }, leg.1)

unfoldable pub service_at : ℕ → List ℕ → Read Event
service_at at bytes = do
  service ← enter_at at bytes
  Ok (Event.Enter service.0, service.1)

unfoldable pub make_at : ℕ → List ℕ → Read Event
make_at at bytes = do
  name ← field_at NameField name_in at bytes
  class ← field_at FlagField class_in name.1.0 name.1.1
  leg ← leg_at class.0 class.1.0 class.1.1
  Ok (Event.Make name.0 class.0 leg.0, leg.1)

unfoldable pub named_at : (Name → Event) → ℕ → List ℕ → Read Event
named_at make at bytes = do
  name ← field_at NameField name_in at bytes
  Ok (make name.0, name.1)

unfoldable pub moved_at : (Name → ℤ → Event) → ℕ → List ℕ → Read Event
moved_at make at bytes = do
  name ← field_at NameField name_in at bytes
  n ← field_at CentreField centre_in name.1.0 name.1.1
  Ok (make name.0 n.0, n.1)

unfoldable pub digest_at : ℕ → List ℕ → Read Event
digest_at at bytes = do
  digest ← field_at DigestField whole_in at bytes
  Ok (Event.Bind digest.0, digest.1)

-- the event of this kind, whose fields begin here
unfoldable pub fields_at : ℕ → ℕ → List ℕ → Read Event
fields_at kind at bytes =
    if kind == 1 then service_at at bytes
    else (if kind == 2 then named_at Event.Leave at bytes
    else (if kind == 3 then moved_at Event.Push at bytes
    else (if kind == 4 then named_at Event.Finish at bytes
    else (if kind == 5 then named_at Event.Back at bytes
    else (if kind == 6 then make_at at bytes
    else (if kind == 7 then moved_at Event.Refit at bytes
    else (if kind == 8 then digest_at at bytes else Err EventFault.Kind)))))))

-- the event, where no byte is left
abbrev pub alone : Event × (ℕ × List ℕ) → Result Event EventFault
alone (e, (at, [])) = Ok e
alone (e, (at, b ∷ bytes)) = Err EventFault.Rest

-- the event that the bytes are
unfoldable pub event_read : List ℕ → Result Event EventFault
event_read [] = Err EventFault.Short
event_read (kind ∷ bytes) = fields_at kind 1 bytes >>= alone
