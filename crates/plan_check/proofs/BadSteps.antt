-- The causes of a bad move, one after the other.
use Rattle.std.proofs.Common.{◌≡◌, ◌≢◌, refl, sym, ◌∙◌, ap, subst, Bool, true, false, not, List, [], ◌∷◌, ◌||◌, Option, Some, Result, Err}
use Rattle.std.specs.Prelude.{IsErrOf}
use Rattle.std.specs.Bool.{then_some}
use Rattle.std.specs.Option.{option_or}
use Rattle.std.specs.List.{list_any}
use Rattle.std.specs.Ordering.{int_eq}
use Rattle.std.proofs.lemmas.Bool.{both_ways}
use Rattle.eon_model.specs.Names.{Name, same_name}
use Rattle.eon_model.specs.Services.{Service, State, service_of}
use Rattle.eon_model.specs.Legal.{Setup}
use Rattle.eon_model.specs.Plan as model
use Rattle.eon_model.specs.Step.{push}
use Rattle.eon_model.specs.PlanCheck.{Bad, Twice, From, Same}
use Rattle.plan_core.specs.declared.follow.CannotFollow.{CannotFollow}
use Rattle.plan_core.specs.declared.follow.CannotFollow.TheVariants as cannot
use Rattle.plan_texts.specs.declared.moves.Move.{Move}
use Rattle.plan_texts.specs.Told.{moves_told}
use Rattle.plan_check.specs.Judged.{refusal_of, bad_seen, bad_now}
use Rattle.plan_check.proofs.MovedStates.{is_named}

pub any-told : (xs : List Move) (name : Name) → is_named (moves_told xs) name ≡ list_any (λ o. same_name o.name name) xs
any-told [] name = refl
any-told (o ∷ xs) name = ap (λ b. same_name o.name name || b) (any-told xs name)

abbrev causes : Bool → Bool → Bool → Option Bad → Option Bad
causes twice from same last =
    option_or (then_some twice Twice) (option_or (then_some (not from) From) (option_or (then_some same Same) last))

module _ (setup : Setup) (now : State) (earlier : List model.Move) (m : model.Move) (s : Service)
    (there : service_of now m.name ≡ Some s) where
  seen : bad_now setup now earlier m ≡ causes (is_named earlier m.name) (int_eq m.from s.leg.work.slot.n) (int_eq m.to m.from)
      (refusal_of (push setup now m.name m.to))
  seen = ap (bad_seen setup now earlier m) there

  abbrev last : Option Bad
  last = refusal_of (push setup now m.name m.to)

  pub seen-twice : is_named earlier m.name ≡ true → Some Twice ≡ bad_now setup now earlier m
  seen-twice a = sym (seen ∙ ap (λ b. causes b (int_eq m.from s.leg.work.slot.n) (int_eq m.to m.from) last) a)

  pub seen-from : is_named earlier m.name ≡ false → int_eq m.from s.leg.work.slot.n ≡ false → Some From ≡ bad_now setup now earlier m
  seen-from a b = sym (seen ∙ (λ i. causes (a i) (b i) (int_eq m.to m.from) last))

  pub seen-same : is_named earlier m.name ≡ false → int_eq m.from s.leg.work.slot.n ≡ true → int_eq m.to m.from ≡ true →
      Some Same ≡ bad_now setup now earlier m
  seen-same a b c = sym (seen ∙ (λ i. causes (a i) (b i) (c i) last))

  pub seen-push : is_named earlier m.name ≡ false → int_eq m.from s.leg.work.slot.n ≡ true → int_eq m.to m.from ≡ false →
      last ≡ bad_now setup now earlier m
  seen-push a b c = sym (seen ∙ (λ i. causes (a i) (b i) (c i) last))

-- a change that can follow, and needs no memory, is followed
pub never-refused : {T : Type 0} (r : Result T CannotFollow) (e : CannotFollow) (can : Bool) → r ≡ Err e →
    (IsErrOf r cannot.NotNow → can ≡ false) → can ≡ true → (r ≢ Err cannot.Memory) → ⊥
never-refused {T = T} r cannot.NotNow can h refused yes_it_can memory =
    both_ways can (refused (subst (λ (v : Result T CannotFollow). IsErrOf v cannot.NotNow) (sym h) refl)) yes_it_can
never-refused r cannot.Memory can h refused yes_it_can memory = memory h
