use Rattle.std.proofs.Common.{◌≡◌, ℕ, ◌+◌, ◌<◌, sym, ap, subst, ◌∙◌, refl, map, List, [], ◌++◌, length, take, drop, String, Vec, Global, string_bytes}
use Rattle.eon_outside.specs.Memory.{bytes_at}
use Rattle.eon_outside.proofs.FindLaws.{bytes_at_entry}
use Rattle.eon_outside.proofs.ReadLaws.{read_on}
use Rattle.eon_outside.proofs.files_in_memory.MemShelfShelf.read.Goals as goal

abbrev named : String Global × Vec ℕ Global → List ℕ × List ℕ
named file = (string_bytes file.0, file.1.items)

pub returns-in-Some-clause-bytes : goal.returns-in-Some-clause-bytes
returns-in-Some-clause-bytes c =
    let file = c.in-Some.file in
    let inside = c.self.inside in
    let entries = map named inside.files.items in
    let place = rw c.in-Some.is at c.self.invariant.1 in
    let all : c.as_slice-bytes.result.now ≡ bytes_at entries file.entry =
    c.as_slice-bytes.ensures.value ∙ sym (bytes_at_entry named [] inside.files.items file.entry c.index.result.now place.0 c.index.ensures) in
    let left : c.args.self.now.left ≡ drop file.at (bytes_at entries file.entry) = rw (← c.self.view_is, c.in-Some.is) refl in
    let count = c.copy_front-count.result in
    let buf = c.copy_front-count.new.buf in
    let P : List ℕ → Type 0 = λ v. (c.args.self.now.left ≡ take count buf ++ drop (file.at + count) v) × (count ≡ 0 → 0 < length buf → drop (file.at + count) v ≡ []) in
    subst P all (read_on _ c.as_slice-bytes.result.now c.args.buf.now buf file.at count inside.most (left ∙ ap (drop file.at) (sym all))
    (rw all place.1) c.self.invariant.0 c.copy_front-count.auto.buf c.copy_front-count.ensures.count c.copy_front-count.ensures.bytes)
