-- Counts of replies by their kind.
use Rattle.std.specs.Prelude.{◌≡◌, ℕ, ◌+◌, ◌-◌, ◌<◌, ◌^◌, List, length}
use Rattle.eon_model.specs.Replies.{Reply}
use Rattle.eon_model.specs.Answers.{Answer}
use Rattle.eon_model.specs.DriveSummary.{is_ok_reply, is_blocked_reply, is_noroute_reply, is_memory_reply, replies_that}
use Rattle.load_summary.specs.declared.kind.Kind.{Kind}
use Rattle.load_summary.specs.declared.kind.Kind.TheVariants as kind
use Rattle.load_summary.specs.declared.tally.Tally.{Tally}

-- the kind of a reply
abbrev pub kind_of : Reply → Kind
kind_of (Reply.Placed name) = kind.Done
kind_of (Reply.Admitted name) = kind.Done
kind_of (Reply.Made name) = kind.Done
kind_of (Reply.Released name) = kind.Done
kind_of (Reply.Pushed name from to) = kind.Done
kind_of (Reply.Finished name) = kind.Done
kind_of (Reply.Backed name) = kind.Done
kind_of (Reply.Refitted name from to) = kind.Done
kind_of (Reply.Blocked pairs) = kind.Blocked
kind_of Reply.NoRoute = kind.NoRoute
kind_of Reply.Memory = kind.Memory
kind_of _ = kind.Other

-- one more of a kind
abbrev pub with_one : Kind → Tally → Tally
with_one kind.Done t = record { ok = t.ok + 1; blocked = t.blocked; noroute = t.noroute; memory = t.memory; other = t.other }
with_one kind.Blocked t = record { ok = t.ok; blocked = t.blocked + 1; noroute = t.noroute; memory = t.memory; other = t.other }
with_one kind.NoRoute t = record { ok = t.ok; blocked = t.blocked; noroute = t.noroute + 1; memory = t.memory; other = t.other }
with_one kind.Memory t = record { ok = t.ok; blocked = t.blocked; noroute = t.noroute; memory = t.memory + 1; other = t.other }
with_one kind.Other t = record { ok = t.ok; blocked = t.blocked; noroute = t.noroute; memory = t.memory; other = t.other + 1 }

-- how many replies there were in all
abbrev pub replies_in : Tally → ℕ
replies_in t = t.ok + t.blocked + t.noroute + t.memory + t.other

-- one more can be counted
abbrev pub IsSmall : Tally → Type 0
IsSmall t = replies_in t < 2 ^ 32 - 1

-- The counts are those of these answers.
pub record IsTally (t : Tally) (answers : List Answer) : Type 0 where
  pub ok_are : t.ok ≡ replies_that is_ok_reply answers
  pub blocked_are : t.blocked ≡ replies_that is_blocked_reply answers
  pub noroute_are : t.noroute ≡ replies_that is_noroute_reply answers
  pub memory_are : t.memory ≡ replies_that is_memory_reply answers
  pub all_are : replies_in t ≡ length answers
