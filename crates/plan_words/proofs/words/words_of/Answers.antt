use Rattle.std.proofs.Common.{map, refl}
use Rattle.std.specs.Prelude.{string_bytes}
use Rattle.clap.specs.Walk.{rows_of}
use Rattle.clap.specs.Matches.{found_of}
use Rattle.plan_words.proofs.AskLemmas.{result_asks, result_refuses, untaken_refuses}
use Rattle.plan_words.proofs.AnswerLemmas.{answer_is_their_task, none_asked, refused_have_none, strings_are_texts}
use Rattle.plan_words.proofs.words.words_of.Goals as goal

pub returns-in-Err-clause-refused : goal.returns-in-Err-clause-refused
returns-in-Err-clause-refused c = λ refused task asks.
    untaken_refuses (map string_bytes c.args.words.now) c.in-Err.error c.fault_from.result c.in-Err.ensures.fails
    c.fault_from.ensures refused task asks

pub returns-in-Err-clause-no_task : goal.returns-in-Err-clause-no_task
returns-in-Err-clause-no_task c = λ refused. none_asked (map string_bytes c.args.words.now) (λ task asks.
    untaken_refuses (map string_bytes c.args.words.now) c.in-Err.error c.fault_from.result c.in-Err.ensures.fails
    c.fault_from.ensures refused task asks)

pub returns-in-Ok : goal.returns-in-Ok
returns-in-Ok c =
    let texts = map string_bytes c.args.words.now in
    let rows = rows_of (found_of c.in-Ok.matches) in
    let same = (c.in-Ok.ensures.matches refl).0 in
    let asks = result_asks texts rows c.words_found.result c.ok_or.result c.ok_or.ensures.value c.in-Ok.ensures.fails
    same c.words_found.ensures in
    let refuses = result_refuses texts rows c.words_found.result c.ok_or.result c.ok_or.ensures.value same
    c.words_found.ensures in
    record {
      ok = asks;
      task = answer_is_their_task texts c.ok_or.result (strings_are_texts c.args.words.now) asks;
      refused = refuses;
      no_task = refused_have_none texts c.ok_or.result refuses;
    }
