-- One reply more in a tally.
use Rattle.std.proofs.Common.{◌≡◌, refl, sym, ◌∙◌, ap, subst, ℕ, ◌+◌, Bool, true, false, List, [], ◌∷◌, ◌++◌, length, length-append, arith, cond}
use Rattle.std.specs.Prelude.{count_by}
use Rattle.std.specs.List.{fold}
use Rattle.eon_model.specs.Replies.{Reply}
use Rattle.eon_model.specs.Answers.{Answer}
use Rattle.eon_model.specs.DriveSummary.{is_ok_reply, is_blocked_reply, is_noroute_reply, is_memory_reply, replies_that}
use Rattle.load_summary.specs.declared.kind.Kind.TheVariants as kind
use Rattle.load_summary.specs.declared.tally.Tally.{Tally}
use Rattle.load_summary.specs.Kinds.{IsTally, kind_of, replies_in, with_one}

-- one element more
fold-push : {X : Type 0} (p : X → Bool) (n : ℕ) (xs : List X) (x : X) →
    fold (λ k y. k + cond (p y) 1 0) n (xs ++ x ∷ []) ≡ fold (λ k y. k + cond (p y) 1 0) n xs + cond (p x) 1 0
fold-push p n [] x = refl
fold-push p n (y ∷ ys) x = fold-push p (n + cond (p y) 1 0) ys x

count_by-push : {X : Type 0} (p : X → Bool) (xs : List X) (x : X) →
    count_by p (xs ++ x ∷ []) ≡ count_by p xs + cond (p x) 1 0
count_by-push p xs x = fold-push p 0 xs x

module _ (t : Tally) (answers : List Answer) (a : Answer) (h : IsTally t answers) where
  abbrev More : Tally → Type 0
  More u = IsTally u (answers ++ a ∷ [])

  -- whether the last one counts
  counts : (test : Reply → Bool) (b : Bool) → test a.reply ≡ b →
      replies_that test (answers ++ a ∷ []) ≡ replies_that test answers + cond b 1 0
  counts test b e =
      count_by-push (λ (v : Answer). test v.reply) answers a
      ∙ ap (λ (v : Bool). replies_that test answers + cond v 1 0) e

  all : (n : ℕ) → n ≡ replies_in t + 1 → n ≡ length (answers ++ a ∷ [])
  all n is = let k = length-append answers (a ∷ []) in let l = h.all_are in omega (arith, is, k, l)

  -- the kinds of which the last one is
  record Kinds (ok blocked noroute memory : ℕ) : Type 0 where
    is_ok : replies_that is_ok_reply (answers ++ a ∷ []) ≡ replies_that is_ok_reply answers + ok
    is_blocked : replies_that is_blocked_reply (answers ++ a ∷ []) ≡ replies_that is_blocked_reply answers + blocked
    is_noroute : replies_that is_noroute_reply (answers ++ a ∷ []) ≡ replies_that is_noroute_reply answers + noroute
    is_memory : replies_that is_memory_reply (answers ++ a ∷ []) ≡ replies_that is_memory_reply answers + memory

  kinds_at : (r : Reply) → a.reply ≡ r →
      Kinds (cond (is_ok_reply r) 1 0) (cond (is_blocked_reply r) 1 0) (cond (is_noroute_reply r) 1 0) (cond (is_memory_reply r) 1 0)
  kinds_at r e = record {
    is_ok = counts is_ok_reply (is_ok_reply r) (ap is_ok_reply e);
    is_blocked = counts is_blocked_reply (is_blocked_reply r) (ap is_blocked_reply e);
    is_noroute = counts is_noroute_reply (is_noroute_reply r) (ap is_noroute_reply e);
    is_memory = counts is_memory_reply (is_memory_reply r) (ap is_memory_reply e);
  }

  told : (n m k l o i j x y : ℕ) → Kinds i j x y → n ≡ t.ok + i → m ≡ t.blocked + j → k ≡ t.noroute + x →
      l ≡ t.memory + y → n + m + k + l + o ≡ replies_in t + 1 →
      More (record { ok = n; blocked = m; noroute = k; memory = l; other = o })
  told n m k l o i j x y c en em ek el sum = record {
    ok_are = let u = c.is_ok in let v = h.ok_are in omega (arith, u, v, en);
    blocked_are = let u = c.is_blocked in let v = h.blocked_are in omega (arith, u, v, em);
    noroute_are = let u = c.is_noroute in let v = h.noroute_are in omega (arith, u, v, ek);
    memory_are = let u = c.is_memory in let v = h.memory_are in omega (arith, u, v, el);
    all_are = all (n + m + k + l + o) sum;
  }

  done : Kinds 1 0 0 0 → More (with_one kind.Done t)
  done c = told (t.ok + 1) t.blocked t.noroute t.memory t.other 1 0 0 0 c refl (omega arith) (omega arith) (omega arith) (omega arith)

  other : Kinds 0 0 0 0 → More (with_one kind.Other t)
  other c = told t.ok t.blocked t.noroute t.memory (t.other + 1) 0 0 0 0 c (omega arith) (omega arith) (omega arith) (omega arith) (omega arith)

  by : (r : Reply) → a.reply ≡ r → More (with_one (kind_of r) t)
  by (Reply.Placed name) e = done (kinds_at (Reply.Placed name) e)
  by (Reply.Admitted name) e = done (kinds_at (Reply.Admitted name) e)
  by (Reply.Made name) e = done (kinds_at (Reply.Made name) e)
  by (Reply.Released name) e = done (kinds_at (Reply.Released name) e)
  by (Reply.Pushed name from to) e = done (kinds_at (Reply.Pushed name from to) e)
  by (Reply.Finished name) e = done (kinds_at (Reply.Finished name) e)
  by (Reply.Backed name) e = done (kinds_at (Reply.Backed name) e)
  by (Reply.Refitted name from to) e = done (kinds_at (Reply.Refitted name from to) e)
  by (Reply.Blocked pairs) e =
      told t.ok (t.blocked + 1) t.noroute t.memory t.other 0 1 0 0 (kinds_at (Reply.Blocked pairs) e) (omega arith) refl (omega arith) (omega arith) (omega arith)
  by Reply.NoRoute e =
      told t.ok t.blocked (t.noroute + 1) t.memory t.other 0 0 1 0 (kinds_at Reply.NoRoute e) (omega arith) (omega arith) refl (omega arith) (omega arith)
  by Reply.Memory e =
      told t.ok t.blocked t.noroute (t.memory + 1) t.other 0 0 0 1 (kinds_at Reply.Memory e) (omega arith) (omega arith) (omega arith) refl (omega arith)
  by r e = other (kinds_at r e)

  pub tally_more : (r : Reply) (u : Tally) → a.reply ≡ r → u ≡ with_one (kind_of r) t → IsTally u (answers ++ a ∷ [])
  tally_more r u e is = subst (λ (v : Tally). IsTally v (answers ++ a ∷ [])) (sym is) (by r e)
