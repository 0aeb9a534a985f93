use Rattle.std.proofs.Common.{◌≡◌, ℕ, Bool, true, false, ◌&&◌, sym, ap, subst, ◌∙◌, refl, map, List, Option, Some, None, String, Vec, Global, string_bytes}
use Rattle.std.specs.Prelude.{IsTrue, IsSome}
use Rattle.std.specs.Ordering.{nat_cmp}
use Rattle.std.specs.Cmp.Lexicographic.{slice_cmp}
use Rattle.std.specs.FinMap.{find, get}
use Rattle.eon_outside.specs.Memory.{bytes_at, is_due, is_calm}
use Rattle.eon_outside.proofs.FindLaws.{got}
use Rattle.eon_outside.proofs.files_in_memory.MemShelfShelf.open.Goals as goal

abbrev named : String Global × Vec ℕ Global → List ℕ × List ℕ
named file = (string_bytes file.0, file.1.items)

nothing_and : (b : Bool) → false ≡ (b && false)
nothing_and true = refl
nothing_and false = refl

not_some : (found : Option (List ℕ)) → found ≡ None → IsSome found → ⊥
not_some None e some = cc
not_some (Some bytes) e some = cc

calm_none : (old new : List ℕ) (found : Option (List ℕ)) → new ≡ old → found ≡ None → IsTrue (is_calm old)
    → IsTrue (is_calm new) × (IsSome found → IsTrue false)
calm_none old new found e none h = (let P : List ℕ → Type 0 = λ v. IsTrue (is_calm v) in subst P (sym e) h, λ some. absurd (not_some found none some))

pub returns-in-None-clause-when : goal.returns-in-None-clause-when
returns-in-None-clause-when c =
    let name = c.args.name.now in
    let none : get c.args.self.now.files name ≡ None =
    ap (λ s. get s.files name) (sym c.self.view_is)
    ∙ got (map named c.self.inside.files.items) name None (ap (λ v. find (slice_cmp nat_cmp) name (map named v)) (sym c.deref.ensures.value) ∙ c.in-None.ensures.first) in
    rw none (nothing_and _)

found_one : goal.returns-in-Some-clause-bytes
found_one c =
    let name = c.args.name.now in
    let entries = map named c.self.inside.files.items in
    let P : List (String Global × Vec ℕ Global) → Type 0 = λ v. find (slice_cmp nat_cmp) name (map named v) ≡ Some (bytes_at (map named v) c.in-Some.entry) in (
      refl,
      sym (
          ap (λ s. get s.files name) (sym c.self.view_is)
          ∙ got entries name (Some (bytes_at entries c.in-Some.entry)) (subst P c.deref.ensures.value c.in-Some.ensures.first)),
    )

pub returns-in-Some-clause-bytes : goal.returns-in-Some-clause-bytes
returns-in-Some-clause-bytes c = found_one c

pub returns-in-Some-clause-when : goal.returns-in-Some-clause-when
returns-in-Some-clause-when c =
    let passes : false ≡ is_due c.args.self.now.plan = c.if-next_fails.ensures.due ∙ ap (λ s. is_due s.plan) c.self.view_is in
    rw (← (found_one c).1, ← passes) refl

pub returns-in-None-clause-calm : goal.returns-in-None-clause-calm
returns-in-None-clause-calm c =
    let name = c.args.name.now in
    let none : get c.args.self.now.files name ≡ None =
    ap (λ s. get s.files name) (sym c.self.view_is)
    ∙ got (map named c.self.inside.files.items) name None (ap (λ v. find (slice_cmp nat_cmp) name (map named v)) (sym c.deref.ensures.value) ∙ c.in-None.ensures.first) in
    calm_none c.args.self.now.plan.fails c.count_fault-in-None.new.self.fails (get c.args.self.now.files name)
    (ap (λ p. p.fails) c.count_fault-in-None.ensures.counts ∙ ap (λ p. p.fails) c.next_fails.ensures.counts ∙ ap (λ s. s.plan.fails) c.self.view_is) none
