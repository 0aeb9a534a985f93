use Rattle.std.proofs.Common.{◌≡◌, ◌∙◌, sym, ap, subst, ℕ, ◌*◌, ℤ, pos, ◌+ℤ◌, ◌||◌, Option, Some, arith, to_z, of_z, w16}
use Rattle.std.specs.Prelude.{int_le}
use Rattle.std.specs.Option.{option_map}
use Rattle.std.proofs.lemmas.Int.{ints}
use Rattle.eon_model.specs.Grid.{span_of}
use Rattle.spectrum_map.specs.Bits.{bit_of, is_between}
use Rattle.spectrum_map.specs.Kept.{place_of}
use Rattle.block_fit.specs.Runs.{IsLowestRun, IsLowestBlock}
use Rattle.block_fit.proofs.RunLaws.{run_low}
use Rattle.block_fit.proofs.LeastLaws.{found_is, none_of_width}
use Rattle.block_fit.proofs.centres.lowest_unmarked.Goals as goal
use Rattle.block_fit.proofs.centres.lowest_unmarked.Goals.{then-m-eq0-via-then-m-eq0, then-m-eq0-via-else-m-eq0+then-m-gt-MAX_WIDTH}

pub returns-then-m-eq0 : goal.returns-then-m-eq0
returns-then-m-eq0 c =
    sym (none_of_width (λ u. bit_of c.args.row.now.words (place_of c.args.band.now u)) c.args.m c.args.band.now
    c.args.from c.parts.ensures.valid
    (λ some few. elim c.then-m-eq0.branch [
      | then-m-eq0-via-then-m-eq0 w ↦ omega (arith, some, few)
      | then-m-eq0-via-else-m-eq0+then-m-gt-MAX_WIDTH w ↦ omega (arith, some, few)
    ]))

pub centre_at-requires-clause-place : goal.centre_at-requires-clause-place
centre_at-requires-clause-place c =
    let len = c.lowest_run.ensures.words in
    let width = c.from.ensures in
    let some = c.if-m-eq0.false in
    let found : IsLowestBlock c.mark.new.self.words (2 * c.from.result) c.in_ok-place.place = c.in_ok-place.ensures.run in
    let low = run_low c.mark.new.self.words c.in_ok-place.place (2 * c.from.result) (omega arith) found.unmarked in
    omega (arith, low, len)

pub returns-in_err-place : goal.returns-in_err-place
returns-in_err-place c =
    let len = c.lowest_run.ensures.words in
    let some = c.if-m-eq0.false in
    let same : to_z w16 (of_z w16 c.args.from) ≡ c.args.from = omega (arith, ints) in
    let is = found_is c.args.band.now c.parts.ensures.valid c.args.row.now.words c.mark.new.self.words c.args.m
    c.first_place.result c.args.from (omega arith) len
    (λ i. c.mark.ensures i
    ∙ ap (λ b. b || is_between 0 c.first_place.result i)
    (c.join.ensures i ∙ ap (λ b. b || bit_of c.args.row.now.words i) (c.outside-marked.ensures i)))
    (λ p l. c.first_place.ensures.place p l
    ∙ ap (λ (z : ℤ). int_le z (((span_of c.args.band.now).lo +ℤ pos p) +ℤ pos c.args.m)) same) c.lowest_run.result
    (subst (λ (n : ℕ). IsLowestRun c.mark.new.self.words (2 * n) c.lowest_run.result) c.from.ensures c.lowest_run.ensures.run)
    in
    c.from_residual.ensures
    ∙ ap (λ (o : Option ℕ). option_map (λ p. ((span_of c.args.band.now).lo +ℤ pos p) +ℤ pos c.args.m) o)
    (sym c.in_err-place.was)
    ∙ is

pub returns : goal.returns
returns c =
    let len = c.lowest_run.ensures.words in
    let some = c.if-m-eq0.false in
    let same : to_z w16 (of_z w16 c.args.from) ≡ c.args.from = omega (arith, ints) in
    let is = found_is c.args.band.now c.parts.ensures.valid c.args.row.now.words c.mark.new.self.words c.args.m
    c.first_place.result c.args.from (omega arith) len
    (λ i. c.mark.ensures i
    ∙ ap (λ b. b || is_between 0 c.first_place.result i)
    (c.join.ensures i ∙ ap (λ b. b || bit_of c.args.row.now.words i) (c.outside-marked.ensures i)))
    (λ p l. c.first_place.ensures.place p l
    ∙ ap (λ (z : ℤ). int_le z (((span_of c.args.band.now).lo +ℤ pos p) +ℤ pos c.args.m)) same) c.lowest_run.result
    (subst (λ (n : ℕ). IsLowestRun c.mark.new.self.words (2 * n) c.lowest_run.result) c.from.ensures c.lowest_run.ensures.run)
    in
    let told : to_z w16 (of_z w16 c.centre_at.result) ≡ c.centre_at.result = omega (arith, ints) in
    ap (λ (n : ℤ). Some n) (told ∙ c.centre_at.ensures)
    ∙ ap (λ (o : Option ℕ). option_map (λ p. ((span_of c.args.band.now).lo +ℤ pos p) +ℤ pos c.args.m) o)
    (sym c.in_ok-place.was)
    ∙ is
