-- Each line is taken with no cause, and is then one line more; or its first cause is told.
use Rattle.std.proofs.Common.{◌≡◌, refl, sym, ◌∙◌, ap, subst, ℕ, Bool, true, false, cond, not, List, [], ◌∷◌, length, drop, nat_le, Option, Some, None, Ok, Err, arith}
use Rattle.std.specs.Prelude.{codes}
use Rattle.eon_model.specs.NetworkFault.{Word, Fields, Net, Band, Guard, K, Services, Journal, Node, End, field_at, word_spelled, last_word, lines_with, has_form, has_ranges, cause_of}
use Rattle.eon_model.specs.NetworkFault as model
use Rattle.net_file.specs.declared.fault.Why.TheVariants as why
use Rattle.net_file.specs.Steps.{Sheet, on_ok, told_by, may_come, has_end, word_step, line_step, setup_step}
use Rattle.net_file.specs.Drafts.{rank, lines_of, Sound}
use Rattle.net_file.proofs.CauseParts.{front, behind, spelling, word-spelling, cause-parts, cause-no_place, cause-no_word}
use Rattle.net_file.proofs.FrontParts.{form_of, ranges_of}
use Rattle.net_file.proofs.LineLists.{ends_with}
use Rattle.net_file.proofs.LineGrowth.{last-word, end-grows}
use Rattle.net_file.proofs.RankLaws.{come-far}
use Rattle.net_file.proofs.BandLines.{comes-same, band-later}
use Rattle.net_file.proofs.StepParts.{Takes, Grows}
use Rattle.net_file.proofs.BandSteps.{band-takes}
use Rattle.net_file.proofs.HeadSteps.{net-takes, guard-takes, k-takes, services-takes, journal-takes}
use Rattle.net_file.proofs.TableSteps.{format-takes, node-takes}
use Rattle.net_file.proofs.NetSteps.{fibre-takes}
use Rattle.net_file.proofs.GroupSteps.{group-takes}

-- ---- the end

end_grown : (s : Sheet) → Sound s → may_come s End ≡ true →
    Grows s (codes "end" ∷ []) (told_by End s.setup)
end_grown s sound may =
    let far = come-far s End may in
    let lines = end-grows (rank s.last) s.setup (omega arith) (omega arith) in
    record {
      sound = record {
        ranges = sound.ranges;
        band = band-later (rank s.last) 11 s.setup.version s.setup.band (omega arith) (omega arith) sound.band;
        no_version = λ l. absurd (omega arith);
        last = ap last_word lines ∙ last-word (lines_of s) (codes "end" ∷ []) End refl;
        no_formats = λ l. absurd (omega arith);
        no_nodes = λ l. absurd (omega arith);
        no_fibres = λ l. absurd (omega arith);
        no_groups = λ l. absurd (omega arith);
        some_formats = λ l. sound.some_formats (omega arith);
        some_nodes = λ l. sound.some_nodes (omega arith);
      };
      lines = lines;
    }

end_cause : (s : Sheet) → Sound s → may_come s End ≡ true → (rest : Fields) →
    cause_of (lines_of s) (codes "end" ∷ rest)
    ≡ front (lines_of s) End (codes "end" ∷ rest) (behind (lines_of s) End (codes "end" ∷ rest))
end_cause s sound may rest =
    cause-parts (lines_of s) End (codes "end" ∷ rest) refl
    (comes-same s sound End ∙ may)

end-takes : (s : Sheet) → Sound s → may_come s End ≡ true → (rest : Fields) →
    Takes s (codes "end" ∷ rest) (on_ok (λ setup. Ok (told_by End setup)) (setup_step End s.setup rest))
unfolding setup_step
end-takes s sound may [] =
    let far = come-far s End may in
    let form = form_of End [] (codes "end") [] refl in
    let ranges = ranges_of (lines_of s) End [] (codes "end") [] refl in
    let none = ends_with (rank s.last) s.setup (omega arith) in (
      end_cause s sound may []
          ∙ (λ i. cond (not (form i)) (Some model.Form) (cond (not (ranges i)) (Some model.Range)
          (cond (nat_le 1 (length (none i))) (Some model.Many) None))),
      end_grown s sound may,
    )
end-takes s sound may (x ∷ rest) =
    let form = form_of End [] (codes "end") (x ∷ rest) refl in
    let fields = codes "end" ∷ x ∷ rest in
    end_cause s sound may (x ∷ rest)
    ∙ (λ i. cond (not (form i)) (Some model.Form) (cond (not (has_ranges (lines_of s) End fields)) (Some model.Range)
    (behind (lines_of s) End fields)))

-- ---- all kinds

word-takes : (w : Word) (s : Sheet) → Sound s → may_come s w ≡ true → (rest : Fields) →
    Takes s (spelling w ∷ rest) (on_ok (λ setup. Ok (told_by w setup)) (setup_step w s.setup rest))
word-takes Net = net-takes
word-takes Band = band-takes
word-takes Guard = guard-takes
word-takes K = k-takes
word-takes Services = services-takes
word-takes Journal = journal-takes
word-takes model.Format = format-takes
word-takes Node = node-takes
word-takes model.Fibre = fibre-takes
word-takes model.Group = group-takes
word-takes End = end-takes

placed : (w : Word) (s : Sheet) (word : List ℕ) (rest : Fields) (b : Bool) → Sound s → word_spelled word ≡ Some w →
    may_come s w ≡ b →
    Takes s (word ∷ rest) (cond b (on_ok (λ setup. Ok (told_by w setup)) (setup_step w s.setup rest)) (Err why.Word))
placed w s word rest true sound e may =
    subst (λ (v : List ℕ). Takes s (v ∷ rest) (on_ok (λ setup. Ok (told_by w setup)) (setup_step w s.setup rest)))
    (sym (word-spelling word w e)) (word-takes w s sound may rest)
placed w s word rest false sound e may =
    cause-no_place (lines_of s) w (word ∷ rest) e (comes-same s sound w ∙ may)

worded : (o : Option Word) (s : Sheet) (fields : Fields) → Sound s → word_spelled (field_at fields 0) ≡ o →
    Takes s fields (word_step s o (drop 1 fields))
worded None s fields sound e = cause-no_word (lines_of s) fields e
worded (Some w) s [] sound e = absurd (let k : None ≡ Some w = e in cc)
worded (Some w) s (word ∷ rest) sound e = placed w s word rest (may_come s w) sound e refl

-- a line of a text that has not ended
pub line-law : (s : Sheet) (fields : Fields) → Sound s → has_end s.last ≡ false → Takes s fields (line_step s fields)
unfolding line_step
line-law s fields sound e =
    let o = word_spelled (field_at fields 0) in
    subst (λ (b : Bool). Takes s fields (cond b (Err why.Rest) (word_step s o (drop 1 fields)))) (sym e)
    (worded o s fields sound refl)
