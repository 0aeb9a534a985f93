-- How a reply reads.
use Rattle.std.proofs.Common.{◌≡◌, refl, sym, ◌∙◌, ap, subst, ℕ, ◌+◌, ◌<◌, List, [], ◌∷◌, ◌++◌, length, map, take, get_or, Option, Result}
use Rattle.std.specs.Prelude.{OnOk, OnErr}
use Rattle.std.specs.Io.KnownBytes.{Appends}
use Rattle.std.specs.List.{flat_map}
use Rattle.std.proofs.lemmas.Grind.{flat_map-append}
use Rattle.std.proofs.lemmas.List.{append-nil, map-append, take_more}
use Rattle.eon_model.specs.Legal.{Setup}
use Rattle.eon_model.specs.RoomReplies.{room_reply_text, shift_line}
use Rattle.eon_model.specs.Services.{State}
use Rattle.eon_outside.specs.Writing.{AppendsPart}
use Rattle.line_writer.specs.Sent.{Sent, Takes}
use Rattle.line_writer.proofs.TakesLaws.{takes-both, takes-same}
use Rattle.make_room.specs.declared.shifts.Shift.{Shift}
use Rattle.make_room.specs.Shifts.{shift_told}
use Rattle.room_lines.specs.declared.reply.RoomReply.{RoomReply}
use Rattle.room_lines.specs.declared.reply.RoomReply.TheVariants as reply
use Rattle.room_lines.specs.Replied.{reply_told, text_of}

-- whatever the services are
text-is : (setup : Setup) (state : State) (r : RoomReply) → text_of r ≡ room_reply_text setup state (reply_told r)
text-is setup state (reply.Line at) = refl
text-is setup state (reply.Unknown name) = refl
text-is setup state reply.Path = refl
text-is setup state reply.Reach = refl
text-is setup state reply.Band = refl
text-is setup state (reply.Busy name) = refl
text-is setup state (reply.Over name) = refl
text-is setup state (reply.At name) = refl
text-is setup state (reply.Moves shifts) = refl
text-is setup state reply.Memory = refl
text-is setup state reply.Bye = refl

pub told_whole : {T E : Type 0} (result : Result T E) (before now : Option (List ℕ)) (r : RoomReply) →
    OnOk result (Appends before now (text_of r)) → (setup : Setup) (state : State) →
    OnOk result (Appends before now (room_reply_text setup state (reply_told r)))
told_whole result before now r h setup state = subst (λ (v : List ℕ). OnOk result (Appends before now v)) (text-is setup state r) h

pub told_part : {T E : Type 0} (result : Result T E) (before now : Option (List ℕ)) (r : RoomReply) →
    OnErr result (AppendsPart before now (text_of r)) → (setup : Setup) (state : State) →
    OnErr result (AppendsPart before now (room_reply_text setup state (reply_told r)))
told_part result before now r h setup state = subst (λ (v : List ℕ). OnErr result (AppendsPart before now v)) (text-is setup state r) h

-- the line of one move more
pub next_shift : (ms : List Shift) (i : ℕ) (x : Shift) (a b c : Sent) → i < length ms → x ≡ get_or ms i x →
    Takes a b (flat_map shift_line (map shift_told (take i ms))) → Takes b c (shift_line (shift_told x)) →
    Takes a c (flat_map shift_line (map shift_told (take (i + 1) ms)))
next_shift ms i x a b c l e p q =
    takes-same a c _ _
    (sym (ap (λ v. flat_map shift_line (map shift_told v)) (take_more ms i x l)
    ∙ ap (λ v. flat_map shift_line (map shift_told (take i ms ++ v ∷ []))) (sym e)
    ∙ ap (flat_map shift_line) (map-append shift_told (take i ms) (x ∷ []))
    ∙ flat_map-append shift_line (map shift_told (take i ms)) (shift_told x ∷ [])
    ∙ ap (λ v. flat_map shift_line (map shift_told (take i ms)) ++ v) (append-nil (shift_line (shift_told x)))))
    (takes-both a b c _ _ p q)
