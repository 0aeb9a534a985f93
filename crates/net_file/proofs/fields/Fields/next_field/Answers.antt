use Rattle.std.proofs.Common.{◌≡◌, sym, ◌∙◌, ap, List, ℕ, [], drop}
use Rattle.std.specs.Prelude.{slice_get}
use Rattle.std.specs.Option.{option_map_or}
use Rattle.eon_model.specs.Spelling.{fields_of}
use Rattle.net_file.proofs.CutLaws.{fields-more, fields-last}
use Rattle.net_file.proofs.fields.Fields.next_field.Goals as goal

pub returns-in-Some-clause-value : goal.returns-in-Some-clause-value
returns-in-Some-clause-value c =
    let now = c.args.self.now in
    let xs = c.in_ok-rest.rest.now in
    let n : now ≡ fields_of xs =
    sym c.self.view_is ∙ ap (λ o. option_map_or (λ r. fields_of r.now) o []) c.in_ok-rest.was in
    sym (ap (λ (fields : List (List ℕ)). slice_get fields 0)
    (fields-more now xs c.in-Some.field.now c.in-Some.behind.now n c.in-Some.ensures))

pub returns-in-Some-clause-after : goal.returns-in-Some-clause-after
returns-in-Some-clause-after c =
    let now = c.args.self.now in
    let xs = c.in_ok-rest.rest.now in
    let n : now ≡ fields_of xs =
    sym c.self.view_is ∙ ap (λ o. option_map_or (λ r. fields_of r.now) o []) c.in_ok-rest.was in
    sym (ap (λ (fields : List (List ℕ)). drop 1 fields)
    (fields-more now xs c.in-Some.field.now c.in-Some.behind.now n c.in-Some.ensures))

pub returns-in-None-clause-value : goal.returns-in-None-clause-value
returns-in-None-clause-value c =
    let now = c.args.self.now in
    let xs = c.in_ok-rest.rest.now in
    let n : now ≡ fields_of xs =
    sym c.self.view_is ∙ ap (λ o. option_map_or (λ r. fields_of r.now) o []) c.in_ok-rest.was in
    sym (ap (λ (fields : List (List ℕ)). slice_get fields 0) (fields-last now xs n c.in-None.ensures))

pub returns-in-None-clause-after : goal.returns-in-None-clause-after
returns-in-None-clause-after c =
    let now = c.args.self.now in
    let xs = c.in_ok-rest.rest.now in
    let n : now ≡ fields_of xs =
    sym c.self.view_is ∙ ap (λ o. option_map_or (λ r. fields_of r.now) o []) c.in_ok-rest.was in
    sym (ap (λ (fields : List (List ℕ)). drop 1 fields) (fields-last now xs n c.in-None.ensures))
