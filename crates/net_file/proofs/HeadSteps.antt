-- The lines of the head: each is taken in its turn.
use Rattle.std.proofs.Common.{◌≡◌, refl, sym, ◌∙◌, ap, subst, ℕ, zero, suc, ◌-◌, ◌<◌, ◌≤◌, Bool, true, false, cond, ◌||◌, not, List, [], ◌∷◌, ◌++◌, length, map, take, nat_le, nat_eq, Option, Some, None, Ok, append_assoc, arith}
use Rattle.std.specs.Prelude.{codes}
use Rattle.std.proofs.lemmas.Bool.{and_parts, leb-true}
use Rattle.eon_model.specs.Grid as grid
use Rattle.eon_model.specs.Grid.{Units, is_units, is_band, span_of}
use Rattle.eon_model.specs.Numerals.{is_within}
use Rattle.eon_model.specs.NetworkFault as model
use Rattle.eon_model.specs.NetworkFault.{Word, Fields, Net, Band, Guard, K, Services, Journal, last_fields, band_lines, greatest_unit, is_too_low}
use Rattle.net_file.specs.LineWords.{one_number, number_in}
use Rattle.net_file.specs.Steps.{SoFar, Sheet, on_ok, told_by, parts_of, has_its_parts, may_come, setup_step}
use Rattle.net_file.specs.Drafts.{number_words, part_line_words, limit_words, head_at, rank, lines_of, BandSoFar, Sound}
use Rattle.net_file.proofs.NumberParts.{one, number_reads}
use Rattle.net_file.proofs.BandLines.{band-on, band-later}
use Rattle.net_file.proofs.LineLists.{none_yet}
use Rattle.net_file.proofs.RankLaws.{come-far}
use Rattle.net_file.proofs.StepParts.{Takes, Follows, line-takes, head-follows, free-many}

-- ---- the version

no_band : (far : ℕ) (version more : ℕ) (band : Option grid.Band) → far < 1 → BandSoFar far version band →
    BandSoFar 1 more band
no_band far version more None l h = omega arith
no_band far version more (Some band) l h = let r = h.reached in absurd (omega arith)

first_head : (far : ℕ) (s t : SoFar) (version : ℕ) → far < 1 → t.version ≡ version → t.band ≡ s.band →
    BandSoFar far s.version s.band → head_at 1 t ≡ head_at far s ++ (number_words (codes "net") version) ∷ []
first_head zero s t version l v b h =
    (λ i. (number_words (codes "net") (v i) ∷ map part_line_words (parts_of (b i))) ++ [])
    ∙ by_band s.band h
  where
    by_band : (band : Option grid.Band) → BandSoFar zero s.version band →
        (number_words (codes "net") version ∷ map part_line_words (parts_of band)) ++ []
        ≡ (map part_line_words (parts_of band) ++ []) ++ (number_words (codes "net") version) ∷ []
    by_band None k = refl
    by_band (Some band) k = let r = k.reached in absurd (omega arith)
first_head (suc far) s t version l v b h = absurd (omega arith)

none_at : (far : ℕ) (s : SoFar) → far < 1 → take far (number_words (codes "net") s.version ∷ []) ≡ []
none_at zero s l = refl
none_at (suc far) s l = absurd (omega arith)

limits_none : (far : ℕ) (s : SoFar) → far < 3 → take (far - 2) (limit_words s) ≡ []
limits_none zero s l = refl
limits_none (suc zero) s l = refl
limits_none (suc (suc zero)) s l = refl
limits_none (suc (suc (suc far))) s l = absurd (omega arith)

abbrev with_version : Sheet → ℕ → SoFar
with_version s n = record {
  version = n;
  band = s.setup.band;
  guard = s.setup.guard;
  k = s.setup.k;
  services = s.setup.services;
  journal = s.setup.journal;
  formats = s.setup.formats;
  network = s.setup.network;
}

pub net-takes : (s : Sheet) → Sound s → may_come s Net ≡ true → (rest : Fields) →
    Takes s (codes "net" ∷ rest) (on_ok (λ setup. Ok (told_by Net setup)) (setup_step Net s.setup rest))
unfolding setup_step number_in
net-takes s sound may rest =
    let far = come-far s Net may in
    let r = sound.ranges in
    let none : model.lines_with (lines_of s) (codes "net") ≡ [] = none_yet (codes "net") (rank s.last) s.setup
    (ap (λ (v : List Fields). model.lines_with v (codes "net")) (none_at (rank s.last) s.setup (omega arith))) (λ x. refl)
    (ap (λ (v : List Fields). model.lines_with v (codes "net")) (limits_none (rank s.last) s.setup (omega arith)))
    (λ x. refl) (λ x. refl) (λ n x. refl) (λ n x. refl) refl in
    line-takes s Net (codes "net") rest (one_number rest) (is_within 1 2) one (λ n. Ok (with_version s n)) sound refl may
    (number_reads Net 1 2 (λ n. refl) (λ e f. refl) (omega arith) (lines_of s) (codes "net") rest)
    (λ n e t is.
    subst (λ (v : Fields). Follows s Net (codes "net" ∷ v) (Ok (with_version s n))) (sym is)
    (head-follows s Net (codes "net" ∷ one n) (with_version s n) sound (omega arith) (omega arith) (omega arith) refl
    (λ i. cond (free-many s Net (codes "net" ∷ one n) none refl i) (Some model.Many) None)
    (first_head (rank s.last) s.setup (with_version s n) n (omega arith) refl refl sound.band) (record {
      version = t;
      guard = r.guard;
      k = r.k;
      services = r.services;
      journal = r.journal;
      rows = r.rows;
      graph = r.graph;
    }) (no_band (rank s.last) s.setup.version n s.setup.band (omega arith) sound.band) (sound.no_formats (omega arith)) refl))

-- ---- the numbers behind the band

-- the lines of the version and the band
abbrev front_at : SoFar → List Fields
front_at s = number_words (codes "net") s.version ∷ map part_line_words (parts_of s.band)

two_parts : (two many : Bool) (n : ℕ) → nat_le 2 n ≡ many → (not two || many) ≡ true → two ≡ true → 2 ≤ n
two_parts true true n m h e = leb-true 2 n m
two_parts true false n m h e = cc
two_parts false many n m h e = cc

abbrev with_guard : Sheet → ℕ → SoFar
with_guard s n = record {
  version = s.setup.version;
  band = s.setup.band;
  guard = n;
  k = s.setup.k;
  services = s.setup.services;
  journal = s.setup.journal;
  formats = [];
  network = s.setup.network;
}

pub guard-takes : (s : Sheet) → Sound s → may_come s Guard ≡ true → (rest : Fields) →
    Takes s (codes "guard" ∷ rest) (on_ok (λ setup. Ok (told_by Guard setup)) (setup_step Guard s.setup rest))
unfolding setup_step number_in
guard-takes s sound may rest =
    let far = come-far s Guard may in
    let here : rank s.last ≡ 2 = omega arith in
    let r = sound.ranges in
    let its = (and_parts (model.may_stand_after s.last Guard) (has_its_parts s.setup Guard) may).1 in
    let none : model.lines_with (lines_of s) (codes "guard") ≡ [] = none_yet (codes "guard") (rank s.last) s.setup
    (ap (λ (v : ℕ). model.lines_with (take v (number_words (codes "net") s.setup.version ∷ [])) (codes "guard")) here) (λ x. refl)
    (ap (λ (v : ℕ). model.lines_with (take (v - 2) (limit_words s.setup)) (codes "guard")) here)
    (λ x. refl) (λ x. refl) (λ n x. refl) (λ n x. refl) refl in
    line-takes s Guard (codes "guard") rest (one_number rest) (is_within 0 64) one (λ n. Ok (with_guard s n)) sound refl may
    (number_reads Guard 0 64 (λ n. refl) (λ e f. refl) (omega arith) (lines_of s) (codes "guard") rest)
    (λ n e t is.
    subst (λ (v : Fields). Follows s Guard (codes "guard" ∷ v) (Ok (with_guard s n))) (sym is)
    (head-follows s Guard (codes "guard" ∷ one n) (with_guard s n) sound (omega arith) (omega arith) (omega arith) refl
    (λ i. cond (free-many s Guard (codes "guard" ∷ one n) none refl i) (Some model.Many) None)
    (sym (append_assoc (front_at s.setup) ([]) (number_words (codes "guard") n ∷ []))
    ∙ ap (λ (v : ℕ). head_at v s.setup ++ number_words (codes "guard") n ∷ []) (sym here))
    (record {
      version = r.version;
      guard = leb-true n 64 (and_parts (nat_le 0 n) (nat_le n 64) t).1;
      k = r.k;
      services = r.services;
      journal = r.journal;
      rows = refl;
      graph = r.graph;
    })
    (band-on (rank s.last) 3 s.setup.version s.setup.band (omega arith) (omega arith)
    (two_parts (nat_eq s.setup.version 2) (nat_le 2 (length (parts_of s.setup.band))) (length (parts_of s.setup.band)) refl its)
    sound.band)
    refl refl))

abbrev with_k : Sheet → ℕ → SoFar
with_k s n = record {
  version = s.setup.version;
  band = s.setup.band;
  guard = s.setup.guard;
  k = n;
  services = s.setup.services;
  journal = s.setup.journal;
  formats = s.setup.formats;
  network = s.setup.network;
}

pub k-takes : (s : Sheet) → Sound s → may_come s K ≡ true → (rest : Fields) →
    Takes s (codes "k" ∷ rest) (on_ok (λ setup. Ok (told_by K setup)) (setup_step K s.setup rest))
unfolding setup_step number_in
k-takes s sound may rest =
    let far = come-far s K may in
    let here : rank s.last ≡ 3 = omega arith in
    let r = sound.ranges in
    let none : model.lines_with (lines_of s) (codes "k") ≡ [] = none_yet (codes "k") (rank s.last) s.setup
    (ap (λ (v : ℕ). model.lines_with (take v (number_words (codes "net") s.setup.version ∷ [])) (codes "k")) here) (λ x. refl)
    (ap (λ (v : ℕ). model.lines_with (take (v - 2) (limit_words s.setup)) (codes "k")) here)
    (λ x. refl) (λ x. refl) (λ n x. refl) (λ n x. refl) refl in
    line-takes s K (codes "k") rest (one_number rest) (is_within 1 16) one (λ n. Ok (with_k s n)) sound refl may
    (number_reads K 1 16 (λ n. refl) (λ e f. refl) (omega arith) (lines_of s) (codes "k") rest)
    (λ n e t is.
    subst (λ (v : Fields). Follows s K (codes "k" ∷ v) (Ok (with_k s n))) (sym is)
    (head-follows s K (codes "k" ∷ one n) (with_k s n) sound (omega arith) (omega arith) (omega arith) refl
    (λ i. cond (free-many s K (codes "k" ∷ one n) none refl i) (Some model.Many) None)
    (sym (append_assoc (front_at s.setup) (number_words (codes "guard") s.setup.guard ∷ []) (number_words (codes "k") n ∷ []))
    ∙ ap (λ (v : ℕ). head_at v s.setup ++ number_words (codes "k") n ∷ []) (sym here))
    (record {
      version = r.version;
      guard = r.guard;
      k = t;
      services = r.services;
      journal = r.journal;
      rows = r.rows;
      graph = r.graph;
    })
    (band-later (rank s.last) 4 s.setup.version s.setup.band (omega arith) (omega arith) sound.band)
    (sound.no_formats (omega arith)) refl))

abbrev with_services : Sheet → ℕ → SoFar
with_services s n = record {
  version = s.setup.version;
  band = s.setup.band;
  guard = s.setup.guard;
  k = s.setup.k;
  services = n;
  journal = s.setup.journal;
  formats = s.setup.formats;
  network = s.setup.network;
}

pub services-takes : (s : Sheet) → Sound s → may_come s Services ≡ true → (rest : Fields) →
    Takes s (codes "services" ∷ rest) (on_ok (λ setup. Ok (told_by Services setup)) (setup_step Services s.setup rest))
unfolding setup_step number_in
services-takes s sound may rest =
    let far = come-far s Services may in
    let here : rank s.last ≡ 4 = omega arith in
    let r = sound.ranges in
    let none : model.lines_with (lines_of s) (codes "services") ≡ [] = none_yet (codes "services") (rank s.last) s.setup
    (ap (λ (v : ℕ). model.lines_with (take v (number_words (codes "net") s.setup.version ∷ [])) (codes "services")) here) (λ x. refl)
    (ap (λ (v : ℕ). model.lines_with (take (v - 2) (limit_words s.setup)) (codes "services")) here)
    (λ x. refl) (λ x. refl) (λ n x. refl) (λ n x. refl) refl in
    line-takes s Services (codes "services") rest (one_number rest) (is_within 1 4096) one (λ n. Ok (with_services s n)) sound refl may
    (number_reads Services 1 4096 (λ n. refl) (λ e f. refl) (omega arith) (lines_of s) (codes "services") rest)
    (λ n e t is.
    subst (λ (v : Fields). Follows s Services (codes "services" ∷ v) (Ok (with_services s n))) (sym is)
    (head-follows s Services (codes "services" ∷ one n) (with_services s n) sound (omega arith) (omega arith) (omega arith) refl
    (λ i. cond (free-many s Services (codes "services" ∷ one n) none refl i) (Some model.Many) None)
    (sym (append_assoc (front_at s.setup) (number_words (codes "guard") s.setup.guard ∷ number_words (codes "k") s.setup.k ∷ []) (number_words (codes "services") n ∷ []))
    ∙ ap (λ (v : ℕ). head_at v s.setup ++ number_words (codes "services") n ∷ []) (sym here))
    (record {
      version = r.version;
      guard = r.guard;
      k = r.k;
      services = t;
      journal = r.journal;
      rows = r.rows;
      graph = r.graph;
    })
    (band-later (rank s.last) 5 s.setup.version s.setup.band (omega arith) (omega arith) sound.band)
    (sound.no_formats (omega arith)) refl))

abbrev with_journal : Sheet → ℕ → SoFar
with_journal s n = record {
  version = s.setup.version;
  band = s.setup.band;
  guard = s.setup.guard;
  k = s.setup.k;
  services = s.setup.services;
  journal = n;
  formats = s.setup.formats;
  network = s.setup.network;
}

pub journal-takes : (s : Sheet) → Sound s → may_come s Journal ≡ true → (rest : Fields) →
    Takes s (codes "journal" ∷ rest) (on_ok (λ setup. Ok (told_by Journal setup)) (setup_step Journal s.setup rest))
unfolding setup_step number_in
journal-takes s sound may rest =
    let far = come-far s Journal may in
    let here : rank s.last ≡ 5 = omega arith in
    let r = sound.ranges in
    let none : model.lines_with (lines_of s) (codes "journal") ≡ [] = none_yet (codes "journal") (rank s.last) s.setup
    (ap (λ (v : ℕ). model.lines_with (take v (number_words (codes "net") s.setup.version ∷ [])) (codes "journal")) here) (λ x. refl)
    (ap (λ (v : ℕ). model.lines_with (take (v - 2) (limit_words s.setup)) (codes "journal")) here)
    (λ x. refl) (λ x. refl) (λ n x. refl) (λ n x. refl) refl in
    line-takes s Journal (codes "journal") rest (one_number rest) (is_within 4096 67108864) one (λ n. Ok (with_journal s n)) sound refl may
    (number_reads Journal 4096 67108864 (λ n. refl) (λ e f. refl) (omega arith) (lines_of s) (codes "journal") rest)
    (λ n e t is.
    subst (λ (v : Fields). Follows s Journal (codes "journal" ∷ v) (Ok (with_journal s n))) (sym is)
    (head-follows s Journal (codes "journal" ∷ one n) (with_journal s n) sound (omega arith) (omega arith) (omega arith) refl
    (λ i. cond (free-many s Journal (codes "journal" ∷ one n) none refl i) (Some model.Many) None)
    (sym (append_assoc (front_at s.setup) (number_words (codes "guard") s.setup.guard ∷ number_words (codes "k") s.setup.k ∷ number_words (codes "services") s.setup.services ∷ []) (number_words (codes "journal") n ∷ []))
    ∙ ap (λ (v : ℕ). head_at v s.setup ++ number_words (codes "journal") n ∷ []) (sym here))
    (record {
      version = r.version;
      guard = r.guard;
      k = r.k;
      services = r.services;
      journal = t;
      rows = r.rows;
      graph = r.graph;
    })
    (band-later (rank s.last) 6 s.setup.version s.setup.band (omega arith) (omega arith) sound.band)
    (sound.no_formats (omega arith)) refl))
