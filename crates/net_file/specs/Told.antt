-- The model's words for what the reader tells.
use Rattle.std.specs.Prelude.{◌≡◌, ⊤, ℕ, List, Some}
use Rattle.eon_model.specs.NetworkFault as model
use Rattle.eon_model.specs.NetworkFault.{network_fault}
use Rattle.net_file.specs.declared.fault.Why.{Why}
use Rattle.net_file.specs.declared.fault.Why.TheVariants as why
use Rattle.net_file.specs.declared.fault.NetFault.{NetFault}
use Rattle.net_file.specs.declared.fault.NetRefusal.{NetRefusal}
use Rattle.net_file.specs.declared.fault.NetRefusal.TheVariants as refusal
use Rattle.net_file.specs.declared.fault.LineFault.{LineFault}
use Rattle.net_file.specs.declared.fault.LineFault.TheVariants as fault
use Rattle.net_file.specs.declared.word.Word.{Word}
use Rattle.net_file.specs.declared.word.Word.TheVariants as word

abbrev pub why_told : Why → model.Why
why_told why.Rest = model.Rest
why_told why.Short = model.Short
why_told why.Word = model.NoWord
why_told why.Form = model.Form
why_told why.Range = model.Range
why_told why.Many = model.Many
why_told why.Order = model.Order
why_told why.Twice = model.Twice
why_told why.Unknown = model.Unknown
why_told why.SelfEnd = model.SelfEnd
why_told why.Groups = model.Groups

-- a line and why it is wrong
abbrev pub fault_told : NetFault → ℕ × model.Why
fault_told f = (f.line, why_told f.why)

-- want of memory, or the first fault of the text
abbrev pub IsRefusalOf : List ℕ → NetRefusal → Type 0
IsRefusalOf bytes refusal.Memory = ⊤
IsRefusalOf bytes (refusal.Fault f) = network_fault bytes ≡ Some (fault_told f)

-- what is told of a line that was not taken
abbrev pub refusal_at : ℕ → LineFault → NetRefusal
refusal_at line fault.Memory = refusal.Memory
refusal_at line (fault.Cause why) = refusal.Fault (record { line = line; why = why })

abbrev pub word_told : Word → model.Word
word_told word.Net = model.Net
word_told word.Band = model.Band
word_told word.Guard = model.Guard
word_told word.K = model.K
word_told word.Services = model.Services
word_told word.Journal = model.Journal
word_told word.Format = model.Format
word_told word.Node = model.Node
word_told word.Fibre = model.Fibre
word_told word.Group = model.Group
word_told word.End = model.End
